-- That one of two hosts asks for the end of no channel while few turns upset (Core 5.1, Volume 3 Part A, 4.6, 6.2.1 and 8.6.5; which turns upset is this project's
-- own).
use Rattle.std.specs.Prelude.{ℕ, ◌≡◌, ◌<◌, List, [], Some}
use Rattle.channel_laws.specs.capture.specs.Histories.{EachAfter}
use Rattle.channel_laws.specs.ertm_model.specs.Value.{Ertm}
use Rattle.channel_laws.specs.l2cap_signal.specs.Commands.{configuration_response}
use Rattle.channel_laws.specs.link_talk.specs.declared.channel.Channel.{Channel}
use Rattle.channel_laws.specs.link_talk.specs.Sayings.{Saying}
use Rattle.channel_laws.specs.channel_model.specs.declared.errand.Errand.TheVariants.{Configuration}
use Rattle.channel_laws.specs.channel_model.specs.Policies.{Policy}
use Rattle.channel_laws.specs.channel_model.specs.Changing.{held_at, setup_of}
use Rattle.channel_laws.specs.channel_model.specs.Value.{Request, Retransmitting, Setup, Held, Channels}
use Rattle.channel_laws.specs.Belonging.{AreRead}
use Rattle.channel_laws.specs.Ends.{AreFair}
use Rattle.channel_laws.specs.OwnTalk.{spoken, command_with}
use Rattle.channel_laws.specs.Pairs.{Happening, Acts, Side, Far, Turn, new_pair, pair_of}
use Rattle.channel_laws.specs.Pipes.{AreCarried, HaveChannel, CanStateBoth}
use Rattle.channel_laws.specs.Runs.{Occurrence, Disconnects, Fires}
use Rattle.channel_laws.specs.Signals.{StandsIn}
use Rattle.channel_laws.specs.Tries.{request_of}
use Rattle.recovered_laws.specs.Calm.{all_upsets}
use Rattle.recovered_laws.specs.Paid.{IsThere}
use Rattle.lasting_laws.specs.Lasting.{AsksForNoEnd, Lasts}

-- ---- what is asked of the far host

-- its profile does not ask for an end
abbrev pub IsNoLeave : Occurrence → Type 0
IsNoLeave (Disconnects own) = ⊥
IsNoLeave other = Unit {0}

abbrev pub LeavesNone : Side → Happening → Type 0
LeavesNone Far (Acts occurrence) = IsNoLeave occurrence
LeavesNone side happening = Unit {0}

-- each of its requests for options that waits was given less often than it tries
abbrev pub OptionsUnspent : (near far : Policy) → List Turn → Type 0
OptionsUnspent near far past = (own : ℕ) (request : Request) → request_of (Configuration own) (pair_of near far past).far.run.value ≡ Some request → request.given < far.tries

-- its timer fires
abbrev pub IsFarFiring : Side → Happening → Type 0
IsFarFiring side happening = (side ≡ Far) × (happening ≡ Acts Fires)

-- ---- what is asked of the near host

-- a host has a channel of its endpoint there, of which it accepted enhanced mode
abbrev pub IsEnhancedAt : (own : ℕ) → Channels → Type 0
IsEnhancedAt own v = (held : Held) × (setup : Setup) × (m : Ertm) × (held_at own v ≡ Some held) × (setup_of held.stage ≡ Some setup) × (setup.carrier ≡ Some (Retransmitting m))

-- a channel that both have, and that is there so at the far host, is there at the near one: it was not closed there, and has not ended
abbrev pub PeerStays : (near far : Policy) → List Turn → Type 0
PeerStays near far past = (channel : Channel) → HaveChannel near far past channel → IsEnhancedAt channel.peer (pair_of near far past).far.run.value → IsThere channel.own (pair_of near far past).near.run.value

-- ---- what is asked of both

-- each response to a request for options that a host says is success
abbrev pub AnswersSuccess : List Saying → Type 0
AnswersSuccess said = (identifier peer flags result : ℕ) (options : List ℕ) → StandsIn (spoken (command_with identifier (configuration_response peer flags result options))) said → result ≡ 0

-- ---- the law

-- At each moment up to which the far host asked for no end its requests for options are unspent when its timer fires, and its peer's channels are there. And both hosts answer requests for
-- options with success.
pub record StaysSo (near far : Policy) (turns : List Turn) : Type 0 where
  pub options : EachAfter (λ past turn. AsksForNoEnd (pair_of near far past).far.run.said → IsFarFiring turn.side turn.happening → OptionsUnspent near far past) [] turns
  pub peer : EachAfter (λ past turn. AsksForNoEnd (pair_of near far past).far.run.said → PeerStays near far past) [] turns
  pub near_answers : AnswersSuccess (pair_of near far turns).near.run.said
  pub far_answers : AnswersSuccess (pair_of near far turns).far.run.said

-- Whatever the link loses, repeats and damages: where so it is, the far host's profile asks for no end, and fewer turns upset than its machines try, that host asks
-- for the end of no channel, and closes none.
abbrev pub FewUpsetsEndNone : Type 0
FewUpsetsEndNone = (near far : Policy) (turns : List Turn) → AreFair near far turns → AreRead near far turns → AreCarried near far turns → ((psm : ℕ) → CanStateBoth near far psm) → ((psm : ℕ) → all_upsets (new_pair near far) turns < (far.wish psm).tries)
    → EachAfter (λ past turn. LeavesNone turn.side turn.happening) [] turns → StaysSo near far turns → Lasts (pair_of near far turns).far.run
