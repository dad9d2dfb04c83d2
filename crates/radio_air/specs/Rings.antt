-- Frames in a ring of octets, with their lengths beside them (this project's own).
use Rattle.std.specs.Prelude.{ℕ, ◌+◌, ◌≡◌, ◌≤◌, List, [], ◌∷◌, length, take, drop}
use Rattle.acl_fragments.specs.Pieces.{joined}

-- numbers added up
abbrev pub total : List ℕ → ℕ
total [] = 0
total (n ∷ ns) = n + total ns

-- octets cut into frames of these lengths, the first one first
abbrev pub split : (lengths octets : List ℕ) → List (List ℕ)
split [] octets = []
split (n ∷ lengths) octets = take n octets ∷ split lengths (drop n octets)

-- the frames that are whole, and the octets of the one that was begun
pub record Kept : Type 0 where
  pub frames : List (List ℕ)
  pub begun : List ℕ

abbrev pub kept_of : (whole : ℕ) → (lengths octets : List ℕ) → Kept
kept_of whole lengths octets = record { frames = split lengths octets; begun = drop whole octets }

-- the first frame replaced, where there is one
abbrev pub with_first : List ℕ → List (List ℕ) → List (List ℕ)
with_first first [] = []
with_first first (frame ∷ frames) = first ∷ frames

-- how many octets there are
abbrev pub octets_in : Kept → ℕ
octets_in kept = length (joined kept.frames) + length kept.begun

-- For how many octets and frames memory is reserved: 1,048,576 octets and 256 frames that wait, and the octets of one
-- that was begun, at most 65,539.
abbrev pub octets_reserved : ℕ
octets_reserved = 1114115

abbrev pub frames_reserved : ℕ
frames_reserved = 256

-- the lengths are those of the whole frames, which stand in front of what was begun
pub record IsRing (whole : ℕ) (lengths octets : List ℕ) (lengths_room octets_room : ℕ) : Type 0 where
  pub whole_is : whole ≡ total lengths
  pub within : whole ≤ length octets
  pub lengths_reserved : frames_reserved ≤ lengths_room
  pub octets_reserved : octets_reserved ≤ octets_room
