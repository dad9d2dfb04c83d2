-- That a request of a host is responded to, and that the response ends its wait (Core 5.1, Volume 3 Part A, 4.1 to 4.11).
use Rattle.std.specs.Prelude.{ℕ, ◌≡◌, ◌==◌, false, true, List, [], ◌∷◌, drop, Option, Some, None, Ok}
use Rattle.own_channel_laws.specs.talk_laws.specs.acl_fragments.specs.Pieces.{channel_of}
use Rattle.own_channel_laws.specs.talk_laws.specs.capture.specs.Histories.{EachAfter}
use Rattle.own_channel_laws.specs.talk_laws.specs.l2cap_signal.specs.Commands.{Command}
use Rattle.own_channel_laws.specs.talk_laws.specs.l2cap_signal.specs.Reading.{answers}
use Rattle.own_channel_laws.specs.channel_model.specs.declared.errand.Errand.{Errand}
use Rattle.own_channel_laws.specs.channel_model.specs.Value.{Request, Channels}
use Rattle.own_channel_laws.specs.channel_model.specs.Policies.{Policy}
use Rattle.own_channel_laws.specs.channel_model.specs.Changing.{has_room}
use Rattle.own_channel_laws.specs.channel_model.specs.Hearing.{hears_command}
use Rattle.channel_laws.specs.Adverse.{asks_for, responds_to, seen_from, AreHeeded}
use Rattle.channel_laws.specs.Belonging.{AreRead}
use Rattle.own_channel_laws.specs.OwnTalk.{reply_to}
use Rattle.channel_laws.specs.Pairs.{Pair, Happening, Acts, Puts, Takes, Repeats, Loses, Damages, Side, Near, Far, Turn, pair_of}
use Rattle.own_channel_laws.specs.Tries.{request_of}

-- ---- one command that comes in

-- what is replied is a response to the request, and there is room for it
abbrev pub IsResponse : Errand → (identifier : ℕ) → Option Command → Channels → Type 0
IsResponse errand identifier None v = ⊥
IsResponse errand identifier (Some answer) v = (responds_to errand identifier answer ≡ true) × (has_room v ≡ true)

-- no request with the identifier waits
abbrev pub WaitsNoMore : Errand → (identifier : ℕ) → Channels → Type 0
WaitsNoMore errand identifier v = (request : Request) → request_of errand v ≡ Some request → (request.identifier == identifier) ≡ false

-- a copy of a request that waits at the near end comes to the far end on the signalling channel, and it responds to it
abbrev pub RespondsTo : Errand → List (List ℕ) → Pair → Type 0
RespondsTo errand [] pair = Unit {0}
RespondsTo errand (pdu ∷ coming) pair =
    (command : Command) (request : Request) → (channel_of pdu == 0x0001) ≡ true → answers (drop 4 pdu) ≡ Ok command ∷ [] → request_of errand pair.near.run.value ≡ Some request → asks_for errand request.identifier command ≡ true
    → IsResponse errand request.identifier (reply_to pair.far.policy (Ok command) pair.far.run.value) pair.far.run.value

-- a response to it comes to the near end so, and ends its wait
abbrev pub EndsWait : Errand → List (List ℕ) → Pair → Type 0
EndsWait errand [] pair = Unit {0}
EndsWait errand (pdu ∷ coming) pair =
    (command : Command) (request : Request) → (channel_of pdu == 0x0001) ≡ true → answers (drop 4 pdu) ≡ Ok command ∷ [] → request_of errand pair.near.run.value ≡ Some request → responds_to errand request.identifier command ≡ true
    → WaitsNoMore errand request.identifier (hears_command pair.near.policy (Ok command) pair.near.run.value)

-- ---- of both ends

-- what comes first to one of them, by the end that has the request and the one to which it comes
abbrev pub IsMet : Errand → (owner at : Side) → Pair → Type 0
IsMet errand Near Near pair = EndsWait errand pair.near.coming pair
IsMet errand Near Far pair = RespondsTo errand pair.far.coming pair
IsMet errand Far Near pair = RespondsTo errand (seen_from Far pair).far.coming (seen_from Far pair)
IsMet errand Far Far pair = EndsWait errand (seen_from Far pair).near.coming (seen_from Far pair)

abbrev pub IsMetBy : Errand → (owner at : Side) → Happening → Pair → Type 0
IsMetBy errand owner at (Acts occurrence) pair = Unit {0}
IsMetBy errand owner at (Puts pdu) pair = Unit {0}
IsMetBy errand owner at Takes pair = IsMet errand owner at pair
IsMetBy errand owner at Repeats pair = Unit {0}
IsMetBy errand owner at Loses pair = Unit {0}
IsMetBy errand owner at (Damages pdu) pair = Unit {0}

-- each time
abbrev pub AreMet : Errand → (owner : Side) → (near far : Policy) → List Turn → Type 0
AreMet errand owner near far turns = EachAfter (λ past turn. IsMetBy errand owner turn.side turn.happening (pair_of near far past)) [] turns

-- Where each copy that comes in is responded to, and each response ends the wait, nothing comes in in vain for the request.
abbrev pub MetIsHeeded : Type 0
MetIsHeeded = (near far : Policy) (turns : List Turn) → AreRead near far turns → (side : Side) (errand : Errand) → AreMet errand side near far turns → AreHeeded errand side near far turns
