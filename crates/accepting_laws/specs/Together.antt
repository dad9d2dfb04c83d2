-- That two hosts that wish the same answer all requests for options with success where each comes in time (Core 5.1, Volume 3 Part A, 4, 4.4 and 4.5).
use Rattle.std.specs.Prelude.{ℕ, ◌≡◌, ◌==◌, true, List, [], ◌∷◌, drop, None, Some, Ok, ◌⊎◌}
use Rattle.channel_laws.specs.acl_fragments.specs.Pieces.{channel_of}
use Rattle.channel_laws.specs.capture.specs.Histories.{EachAfter}
use Rattle.channel_laws.specs.l2cap_signal.specs.Commands.{configuration_request}
use Rattle.channel_laws.specs.l2cap_signal.specs.Reading.{answers}
use Rattle.channel_laws.specs.channel_model.specs.Changing.{held_at}
use Rattle.channel_laws.specs.channel_model.specs.Policies.{Policy}
use Rattle.channel_laws.specs.channel_model.specs.Value.{Held, Remembered, Channels}
use Rattle.channel_laws.specs.Belonging.{AreRead}
use Rattle.channel_laws.specs.Ends.{end_at}
use Rattle.channel_laws.specs.OwnTalk.{command_with}
use Rattle.channel_laws.specs.Pairs.{End, Happening, Acts, Puts, Takes, Repeats, Loses, Damages, Turn, pair_of}
use Rattle.channel_laws.specs.Views.{peer_of}
use Rattle.lasting_laws.specs.Ends.{AnswersSuccess}
use Rattle.accepting_laws.specs.Accepted.{AwaitsOptions}
use Rattle.accepting_laws.specs.InTime.{WishTheSame}

-- a host has no channel of this endpoint for which its peer has an endpoint: none at all, or one that it only asks for, so it rejects a request for the options (4.1)
abbrev pub HasNoChannel : (own : ℕ) → Channels → Type 0
HasNoChannel own v = (held : Held) → held_at own v ≡ Some held → peer_of held.stage ≡ None

-- where what comes first to a host is a request for options, and not the last one again, its channel awaits options, or it has none
abbrev pub ComesInTime : List (List ℕ) → Channels → Type 0
ComesInTime [] v = Unit {0}
ComesInTime (pdu ∷ coming) v = (identifier own flags : ℕ) (options : List ℕ) → (channel_of pdu == 0x0001) ≡ true → answers (drop 4 pdu) ≡ Ok (command_with identifier (configuration_request own flags options)) ∷ []
    → ((last : Remembered) → v.memory.configuration ≡ Some last → last.identifier ≡ identifier → ⊥) → HasNoChannel own v ⊎ ((peer : ℕ) × (psm : ℕ) × AwaitsOptions own peer psm v)

abbrev pub IsInTime : Happening → End → Type 0
IsInTime (Acts occurrence) end' = Unit {0}
IsInTime (Puts pdu) end' = Unit {0}
IsInTime Takes end' = ComesInTime end'.coming end'.run.value
IsInTime Repeats end' = ComesInTime end'.coming end'.run.value
IsInTime Loses end' = Unit {0}
IsInTime (Damages pdu) end' = Unit {0}

-- Whatever the link loses, repeats and damages: each response to a request for options that one of the two says is success.
abbrev pub AllInTimeSucceed : Type 0
AllInTimeSucceed = (near far : Policy) (turns : List Turn) → AreRead near far turns → WishTheSame near far → EachAfter (λ past turn. IsInTime turn.happening (end_at turn.side (pair_of near far past))) [] turns
    → AnswersSuccess (pair_of near far turns).near.run.said × AnswersSuccess (pair_of near far turns).far.run.said
