-- What a framer's value says of all that it was fed and all that it gave.
use Rattle.std.specs.Prelude.{ℕ, ◌≡◌, List, [], ◌∷◌, ◌++◌, length, take, MatchOption}
use Rattle.std.specs.List.{AllByRecursion, flat_map}
use Rattle.h4_framing.specs.declared.framer.Taken.{Taken}
use Rattle.h4_framing.specs.declared.framer.Taken.TheVariants.{Whole, More, Refused}
use Rattle.h4_framing.specs.Packets.{Packet, packet, spellings, IsPacket}
use Rattle.h4_framing.specs.Stream.{IsUnfinished, Fault, Reads}
use Rattle.h4_framing.specs.Framing.{Framing, counted}
use Rattle.h4_framing.specs.Taking.{Takes}

-- the packet that a piece gave
abbrev pub given : Taken → List Packet
given (Whole unit n) = packet unit ∷ []
given More = []
given (Refused refusal place) = []

-- the octets of the piece that were used
abbrev pub used : List ℕ → Taken → List ℕ
used piece (Whole unit n) = take n piece
used piece More = piece
used piece (Refused refusal place) = piece

-- A framer that was fed these octets, in whatever pieces, gave these packets. They are the first packets of the
-- octets, and it holds what stands behind them, which is no whole packet; or it was refused where and why the
-- octets are faulty.
pub record Accounts (fed : List ℕ) (packets : List Packet) (framing : Framing) : Type 0 where
  pub each : AllByRecursion (IsPacket framing.limit) packets
  pub kept : MatchOption framing.fault
      ((fed ≡ spellings packets ++ framing.held) × IsUnfinished framing.limit framing.held × (framing.before ≡ counted 0 (length (spellings packets))))
      (λ fault. (place : ℕ) × Reads framing.limit fed packets (Fault fault.0 place) × (fault.1 ≡ counted 0 place))

-- The framer `old` takes one piece after the other, each with what it answers, and is `new`. What it leaves of a
-- piece may be the next piece.
abbrev pub TakesAll : Framing → List (List ℕ × Taken) → Framing → Type 0
TakesAll old [] new = new ≡ old
TakesAll old (call ∷ calls) new = (between : Framing) × Takes old call.0 call.1 between × TakesAll between calls new

-- the octets that were used of all the pieces
abbrev pub all_used : List (List ℕ × Taken) → List ℕ
all_used calls = flat_map (λ call. used call.0 call.1) calls

-- the packets that all the pieces gave
abbrev pub all_given : List (List ℕ × Taken) → List Packet
all_given calls = flat_map (λ call. given call.1) calls
