-- That a request for options succeeds where it comes in time, between two hosts that wish the same (Core 5.1, Volume 3 Part A, 4.4, 4.5, 5.1 and 5.4).
use Rattle.std.specs.Prelude.{ℕ, ◌≡◌, ◌==◌, true, List, [], ◌∷◌, drop, Some, Ok}
use Rattle.channel_laws.specs.acl_fragments.specs.Pieces.{channel_of}
use Rattle.channel_laws.specs.l2cap_signal.specs.Commands.{configuration_request, configuration_response}
use Rattle.channel_laws.specs.l2cap_signal.specs.Reading.{answers}
use Rattle.channel_laws.specs.channel_model.specs.Answers.{answer_to}
use Rattle.channel_laws.specs.channel_model.specs.Policies.{Policy}
use Rattle.channel_laws.specs.Belonging.{AreRead, said_at}
use Rattle.channel_laws.specs.Ends.{end_at}
use Rattle.channel_laws.specs.Modes.{policy_of}
use Rattle.channel_laws.specs.OwnTalk.{command_with}
use Rattle.channel_laws.specs.Pairs.{Side, turned, Turn, pair_of}
use Rattle.channel_laws.specs.Signals.{StandsIn}
use Rattle.accepting_laws.specs.Accepted.{AwaitsOptions, CanBeAccepted}
use Rattle.accepting_laws.specs.First.{SuggestsNone}

-- both hosts wish the same of each PSM, and it can be accepted
abbrev pub WishTheSame : (near far : Policy) → Type 0
WishTheSame near far = (psm : ℕ) → (near.wish psm ≡ far.wish psm) × CanBeAccepted (near.wish psm)

-- Whatever the link loses, repeats and damages: while nothing else is suggested to a host, each copy of a request for options that is under way from it would be answered with success at each moment
-- at which its peer's channel awaits options.
abbrev pub OptionsInTimeSucceed : Type 0
OptionsInTimeSucceed = (near far : Policy) (turns : List Turn) → AreRead near far turns → WishTheSame near far → (side : Side) → SuggestsNone (said_at side (pair_of near far turns)) → (pdu : List ℕ) (identifier own flags : ℕ) (options : List ℕ)
    → StandsIn pdu (end_at side (turned (pair_of near far turns))).coming → (channel_of pdu == 0x0001) ≡ true → answers (drop 4 pdu) ≡ Ok (command_with identifier (configuration_request own flags options)) ∷ [] → (peer psm : ℕ) → AwaitsOptions own peer psm (end_at side (turned (pair_of near far turns))).run.value
    → (given : List ℕ) × (answer_to (policy_of side far near) (configuration_request own flags options) (end_at side (turned (pair_of near far turns))).run.value ≡ Some (configuration_response peer 0 0 given))
