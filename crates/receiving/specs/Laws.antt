-- What holds of a host that is fed a stream, whatever host it is and whatever it is fed (this project's own).
use Rattle.std.specs.Prelude.{ℕ, ◌≡◌, ◌≤◌, false, List, ◌++◌, length, Option, Some, Result, Ok, Err}
use Rattle.h4_framing.specs.Packets.{Packet}
use Rattle.h4_framing.specs.Stream.{Whole, Reads}
use Rattle.bt_host.specs.host_model.specs.Circumstances.{Circumstance}
use Rattle.bt_host.specs.host_model.specs.Profiles.{Profile}
use Rattle.bt_host.specs.Refusals.{acl_limit}
use Rattle.receiving.specs.declared.fault.StreamRefusal.TheVariants as refusals
use Rattle.receiving.specs.declared.fault.ListenFault.{ListenFault}
use Rattle.receiving.specs.declared.fault.ListenFault.TheVariants.{Refused, ReadFault, WriteFault, NoMemory}
use Rattle.receiving.specs.Turns.{Stand, Posture, Begun, Turn, Moves, HasRest, HasTurns, emptied, is_full, packets_in}
use Rattle.receiving.specs.Exactness.{prompts_of, AreExact}
use Rattle.receiving.specs.Coming.{input_limit, Beside, Comes}

-- A host that has done all that it can, and had room for all that it said, does nothing by itself once that was taken.
abbrev pub NothingIsHeldBack : Type 0 → Type 0
NothingIsHeldBack S =
    (A : Profile S) (now after : Stand S) → HasRest A now → ((rest : List Circumstance) → is_full (now rest).line.out ≡ false) → (moves : Moves A (λ rest. emptied (now rest)) after)
    → (rest : List Circumstance) → after rest ≡ emptied (now (moves.used ++ rest))

-- all packets were heard; or a packet says that the controller is at fault; or a port failed, or memory was wanting
abbrev pub IsHeard : (packets heard : List Packet) → Result (Unit {0}) ListenFault → Type 0
IsHeard packets heard (Ok done) = heard ≡ packets
IsHeard packets heard (Err (Refused refusals.CommandFailed place)) = Unit {0}
IsHeard packets heard (Err (Refused refusals.BadBuffers place)) = Unit {0}
IsHeard packets heard (Err (Refused refusal place)) = ⊥
IsHeard packets heard (Err ReadFault) = Unit {0}
IsHeard packets heard (Err WriteFault) = Unit {0}
IsHeard packets heard (Err NoMemory) = Unit {0}

-- A stream of whole packets within the greatest length is refused for what a packet of it says alone.
abbrev pub StreamsAreHeard : Type 0 → Type 0
StreamsAreHeard S =
    (A : Profile S) (first : Begun S) (all : List ℕ) (packets : List Packet) (left : Option (List ℕ)) (before after : Beside) (stands : Stand S) (result : Result (Unit {0}) ListenFault) → Reads acl_limit all packets Whole → length all ≤ input_limit
    → (comes : Comes A first (Some all) left stands before after result) → IsHeard packets (packets_in comes.halts.turns) result

-- Turn for turn a host puts out what its packets and the answers of its port lead to, and nothing else.
abbrev pub TurnsAreExact : Type 0 → Type 0
TurnsAreExact S = (A : Profile S) (turns : List Turn) (old new : Posture S) (has : HasTurns A turns old new) → AreExact A turns (prompts_of A turns old new has) old.stands new.stands
