-- What a host hears and says that is fed octets, one turn after the other (this project's own).
use Rattle.std.specs.Prelude.{ℕ, ◌≡◌, ◌&&◌, Bool, true, false, not, nat_lt, List, [], ◌∷◌, ◌++◌, length, is_some, Option, Some, None, option_to_list}
use Rattle.std.specs.List.{flat_map}
use Rattle.h4_framing.specs.Packets.{Packet}
use Rattle.bt_host.specs.host_link.specs.Hearing.{fault_of}
use Rattle.bt_host.specs.host_model.specs.Circumstances.{Circumstance}
use Rattle.bt_host.specs.host_model.specs.Profiles.{Profile}
use Rattle.bt_host.specs.Stacks.{Standing, Deed, DoesAll, goes_out, Rests, after_packet}

-- a host, for all that its port may answer from now on
abbrev pub Stand : Type 0 → Type 0
Stand S = List Circumstance → Standing S

-- It goes on by itself. Its port gave the answers `used`; whatever it answers later, the host is where these and those lead, by these deeds and in
-- their one order.
pub record Moves {S : Type 0} (A : Profile S) (before after : Stand S) : Type 0 where
  pub used : List Circumstance
  pub deeds : List Deed
  pub does : (rest : List Circumstance) → DoesAll A deeds (before (used ++ rest)) (after rest)
  pub exactly : (rest : List Circumstance) → goes_out A (before (used ++ rest)) ≡ after rest

-- A packet at which no command failed is heard, and it goes on by itself.
pub record HearsOne {S : Type 0} (A : Profile S) (packet : Packet) (before after : Stand S) : Type 0 where
  pub fault : (rest : List Circumstance) → fault_of packet (before rest).line ≡ None
  pub moves : Moves A (λ rest. after_packet A packet rest (before rest)) after

-- it has done all that it can
abbrev pub HasRest : {S : Type 0} → Profile S → Stand S → Type 0
HasRest A now = (rest : List Circumstance) → Rests A (now rest)

-- all that it put out was taken
abbrev pub emptied : {S : Type 0} → Standing S → Standing S
emptied now = record now { line = record now.line { out = [] } }

-- A host between two turns, where all that it put out was taken; whether it may hold something back, since what it put out last left
-- it no room for more; and whether it heard a packet last.
pub record Posture (S : Type 0) : Type 0 where
  pub stands : Stand S
  pub full : Bool
  pub heard : Bool

-- where it begins, and what it put out until then
pub record Begun (S : Type 0) : Type 0 where
  pub posture : Posture S
  pub said : List ℕ

-- what stands in `out` was said
abbrev pub begun : {S : Type 0} → Stand S → Begun S
begun stands = record { posture = record { stands = λ rest. emptied (stands rest); full = false; heard = false }; said = (stands []).line.out }

-- so many octets leave no room for a packet more
abbrev pub is_full : List ℕ → Bool
is_full said = not (nat_lt (length said) 65536)

-- the packet that it hears, if it does, and the octets that it puts out then
pub record Turn : Type 0 where
  pub packet : Option Packet
  pub said : List ℕ

-- It hears a packet, goes on by itself, and does all that it can; where it holds nothing back it had done so before. A turn without a packet
-- comes only where it may hold something back.
abbrev pub HearsIn : {S : Type 0} → Profile S → Option Packet → Bool → Stand S → Stand S → Type 0
HearsIn A None full before after = (full ≡ true) × (after ≡ before)
HearsIn A (Some packet) full before after = HearsOne A packet before after × HasRest A after × (full ≡ false → HasRest A before)

-- One turn: what it held back goes out, which is nothing where there was room for all; it hears; and all that it put out is taken. A packet
-- has more octets than one, so behind one that left no room a turn without a packet comes before the next is whole.
pub record HasTurn {S : Type 0} (A : Profile S) (turn : Turn) (old new : Posture S) : Type 0 where
  pub between : Stand S
  pub back : Moves A old.stands between
  pub none_back : old.full ≡ false → between ≡ old.stands
  pub after : Stand S
  pub hears : HearsIn A turn.packet old.full between after
  pub says : (rest : List Circumstance) → (after rest).line.out ≡ turn.said
  pub stands : new.stands ≡ (λ rest. emptied (after rest))
  pub full : new.full ≡ is_full turn.said
  pub heard : new.heard ≡ is_some turn.packet
  pub pauses : (old.full && old.heard) ≡ true → turn.packet ≡ None

-- one after the other
abbrev pub HasTurns : {S : Type 0} → Profile S → List Turn → Posture S → Posture S → Type 0
HasTurns A [] old new = new ≡ old
HasTurns {S} A (turn ∷ turns) old new = (mid : Posture S) × HasTurn A turn old mid × HasTurns A turns mid new

-- ---- what its port answered in turns

abbrev pub answers_heard : {S : Type 0} → (A : Profile S) (packet : Option Packet) (full : Bool) (before after : Stand S) → HearsIn A packet full before after → List Circumstance
answers_heard A None full before after hears = []
answers_heard A (Some packet) full before after hears = hears.0.moves.used

-- also as what was held back went out
abbrev pub answers_of : {S : Type 0} → (A : Profile S) (turn : Turn) (old new : Posture S) → HasTurn A turn old new → List Circumstance
answers_of A turn old new one = one.back.used ++ answers_heard A turn.packet old.full one.between one.after one.hears

abbrev pub answers_along : {S : Type 0} → (A : Profile S) (turns : List Turn) (old new : Posture S) → HasTurns A turns old new → List Circumstance
answers_along A [] old new runs = []
answers_along A (turn ∷ turns) old new (mid, one, more) = answers_of A turn old mid one ++ answers_along A turns mid new more

-- ---- what moved

-- the packets that were heard, and the octets that were put out
abbrev pub packets_in : List Turn → List Packet
packets_in turns = flat_map (λ turn. option_to_list turn.packet) turns

abbrev pub said_in : List Turn → List ℕ
said_in turns = flat_map (λ turn. turn.said) turns
