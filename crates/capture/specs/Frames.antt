-- The air between two hosts: in each direction of a link the frames that were put into it, in order, and how far they
-- have left it. A frame is a whole L2CAP PDU (this project's own; a link keeps each direction in its order).
use Rattle.std.specs.Prelude.{ℕ, ◌+◌, List, [], ◌∷◌, ◌++◌, length, drop, Option, Some, None}
use Rattle.hci_packets.specs.declared.acl.Boundary.TheVariants.{FirstFromController}
use Rattle.acl_fragments.specs.Pieces.{Piece}
use Rattle.acl_fragments.specs.Cuts.{cut}
use Rattle.push_terms.specs.declared.word.Way.{Way}
use Rattle.push_terms.specs.declared.word.Way.TheVariants.{Ab, Ba}

-- one direction of a link: the frames that were put into it, numbered from 0, and the number of the first that waits
pub record Direction : Type 0 where
  pub frames : List (List ℕ)
  pub position : ℕ

abbrev pub empty : Direction
empty = record { frames = []; position = 0 }

-- the frames that wait
abbrev pub waiting : Direction → List (List ℕ)
waiting direction = drop direction.position direction.frames

-- frames more
abbrev pub with_frames : List (List ℕ) → Direction → Direction
with_frames more direction = record { frames = direction.frames ++ more; position = direction.position }

-- the first frame that waits leaves
abbrev pub left : Direction → Direction
left direction = record direction { position = direction.position + 1 }

-- all frames leave
abbrev pub emptied : Direction → Direction
emptied direction = record direction { position = length direction.frames }

-- the pieces in which a controller hands a frame over, of at most `size` octets each
abbrev pub frame_pieces : ℕ → List ℕ → List Piece
frame_pieces size frame = cut size FirstFromController frame

-- ---- which direction is served

-- other than the last one that was served, and from a to b at first
abbrev pub other_way : Option Way → Way
other_way (Some Ab) = Ba
other_way _ = Ab

-- where frames wait in both directions it is the other one's turn; where they wait in one, it is that one
abbrev pub way_served : Option Way → List (List ℕ) → List (List ℕ) → Option Way
way_served last [] [] = None
way_served last (frame ∷ frames) [] = Some Ab
way_served last [] (frame ∷ frames) = Some Ba
way_served last (frame ∷ frames) (other ∷ others) = Some (other_way last)
