-- How an SDU is cut into segments, and submitted (Core 5.1, Volume 3 Part A, 7.3).
use Rattle.std.specs.Prelude.{ℕ, zero, suc, ◌-◌, Bool, true, false, List, [], ◌∷◌, length, take, drop, nat_le, if◌then◌else◌}
use Rattle.ertm_frames.specs.Segments.{Segment, whole, start, end, continuation}
use Rattle.ertm_model.specs.Value.{Ertm}

-- at most `count` continuations of `mps` octets each, and an end with the rest
abbrev pub later_within : (count mps : ℕ) → List ℕ → List Segment
later_within zero mps octets = end octets ∷ []
later_within (suc count) mps octets =
    if nat_le (length octets) mps then end octets ∷ [] else continuation (take mps octets) ∷ later_within count mps (drop mps octets)

-- the segments behind a start: continuations as full as they may be, and an end with the rest
abbrev pub later_segments : (mps : ℕ) → List ℕ → List Segment
later_segments mps octets = later_within (length octets) mps octets

-- An SDU of at most `mps` octets is whole. A longer one has a start, with two octets fewer for the length that it
-- states, continuations and an end (3.3.4).
abbrev pub cut : (mps : ℕ) → List ℕ → List Segment
cut mps sdu =
    if nat_le (length sdu) mps then whole sdu ∷ []
    else start (length sdu) (take (mps - 2) sdu) ∷ later_segments mps (drop (mps - 2) sdu)

-- a segment of the SDU before was not given yet
abbrev pub is_some_fresh : List Segment → Bool
is_some_fresh [] = false
is_some_fresh (segment ∷ segments) = true

abbrev pub is_busy : Ertm → Bool
is_busy m = is_some_fresh m.sender.fresh

abbrev pub taking : List ℕ → Ertm → Ertm
taking sdu m = record m { sender = record m.sender { fresh = cut m.agreed.send_mps sdu } }

-- an SDU is taken where none of the one before waits; else nothing changes
abbrev pub submitted : List ℕ → Ertm → Ertm
submitted sdu m = if is_busy m then m else taking sdu m
