-- How segments join to SDUs, one after the other (Core 5.1, Volume 3 Part A, 3.3.2 and 7.3).
use Rattle.std.specs.Prelude.{ℕ, ◌≡◌, ◌≢◌, ◌<◌, ◌≤◌, ◌==◌, nat_lt, List, [], ◌∷◌, ◌++◌, length, Option, Some, None, if◌then◌else◌}
use Rattle.std.specs.List.{AllByRecursion}
use Rattle.ertm_frames.specs.Segments.{Segment, SpellSdus}

-- an SDU of which the start has come: the length that the start states, and the octets so far
pub record Begun : Type 0 where
  pub total : ℕ
  pub octets : List ℕ

-- what SAR says of a segment (3.3.2)
pub data Sar : Type 0 where
  Whole : Sar
  Start : Sar
  End : Sar
  Continuation : Sar

abbrev pub sar_of : ℕ → Sar
sar_of sar = if sar == 0 then Whole else (if sar == 1 then Start else (if sar == 2 then End else Continuation))

-- what a segment makes of the SDU that has begun, or of none: it has no place there, begins an SDU or continues it,
-- or ends one
pub data Joint : Type 0 where
  Misplaced : Joint
  Begins : (begun : Begun) → Joint
  Ends : (sdu : List ℕ) → Joint

-- no octets come past the stated length
abbrev pub begins : Begun → Joint
begins begun = if nat_lt begun.total (length begun.octets) then Misplaced else Begins begun

-- and at the end none are wanting
abbrev pub ends : Begun → Joint
ends begun = if length begun.octets == begun.total then Ends begun.octets else Misplaced

abbrev pub with_octets : Begun → List ℕ → Begun
with_octets begun octets = record begun { octets = begun.octets ++ octets }

-- a start and a whole one come between SDUs, a continuation and an end within one
abbrev pub joint_by : Sar → Option Begun → ℕ → List ℕ → Joint
joint_by Whole None total octets = Ends octets
joint_by Start None total octets = begins (record { total = total; octets = octets })
joint_by End None total octets = Misplaced
joint_by Continuation None total octets = Misplaced
joint_by Whole (Some begun) total octets = Misplaced
joint_by Start (Some begun) total octets = Misplaced
joint_by End (Some begun) total octets = ends (with_octets begun octets)
joint_by Continuation (Some begun) total octets = begins (with_octets begun octets)

abbrev pub joint : Option Begun → Segment → Joint
joint begun segment = joint_by (sar_of segment.sar) begun segment.total segment.octets

-- ---- a list of segments

-- where a list of segments has come to: an SDU has begun, or none; or a segment had no place, and no more counts
pub data Joining : Type 0 where
  At : (begun : Option Begun) → Joining
  Stopped : Joining

abbrev pub joined_by : Joint → Joining
joined_by Misplaced = Stopped
joined_by (Begins begun) = At (Some begun)
joined_by (Ends sdu) = At None

abbrev pub ended_by : Joint → List (List ℕ)
ended_by Misplaced = []
ended_by (Begins begun) = []
ended_by (Ends sdu) = sdu ∷ []

abbrev pub joined : Joining → List Segment → Joining
joined joining [] = joining
joined (At begun) (segment ∷ segments) = joined (joined_by (joint begun segment)) segments
joined Stopped (segment ∷ segments) = Stopped

-- the SDUs that end within a list of segments, up to the first that has no place
abbrev pub ended : Joining → List Segment → List (List ℕ)
ended joining [] = []
ended (At begun) (segment ∷ segments) = ended_by (joint begun segment) ++ ended (joined_by (joint begun segment)) segments
ended Stopped (segment ∷ segments) = []

-- the SDUs of a list of segments
abbrev pub sdus_of : List Segment → List (List ℕ)
sdus_of segments = ended (At None) segments

-- ---- what these are

-- a segment that a frame can carry: SAR has two bits, and only a start states a length
pub record IsSegment (segment : Segment) : Type 0 where
  pub sar_fits : segment.sar < 4
  pub stated : segment.sar ≢ 1 → segment.total ≡ 0

-- the SDUs that the longest front of the segments spells which spells SDUs
pub record LongestSpells (segments : List Segment) (sdus : List (List ℕ)) : Type 0 where
  pub front : List Segment
  pub behind : List Segment
  pub parts : segments ≡ front ++ behind
  pub spells : SpellSdus front sdus
  pub longest : (other rest : List Segment) (others : List (List ℕ)) → segments ≡ other ++ rest → SpellSdus other others → length other ≤ length front

-- what is joined are these SDUs, and there are no others
abbrev pub JoinedIsRight : Type 0
JoinedIsRight = (segments : List Segment) → AllByRecursion IsSegment segments → LongestSpells segments (sdus_of segments)

abbrev pub LongestIsOne : Type 0
LongestIsOne = (segments : List Segment) (sdus sdus' : List (List ℕ)) → LongestSpells segments sdus → LongestSpells segments sdus' → sdus ≡ sdus'
