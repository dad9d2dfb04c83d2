-- What becomes of a frame in the air. A frame is a whole L2CAP PDU; a link keeps each direction in its order (this
-- project's own).
use Rattle.std.specs.Prelude.{ℕ, ◌+◌, ◌/◌, ◌%◌, Bool, true, false, nat_lt, List, [], ◌∷◌, length, take, slice_index, slice_set, bit_xor, if◌then◌else◌}
use Rattle.acl_fragments.specs.Pieces.{Piece}
use Rattle.capture.specs.Frames.{frame_pieces}
use Rattle.radio_model.specs.declared.fate.Fate.{Fate}
use Rattle.radio_model.specs.declared.fate.Fate.TheVariants.{Delivered, Lost, Repeated, CutOff, Changed}

-- the octets at a place and behind it, combined by exclusive or with the high and the low octet of a mask
abbrev pub changed : (at mask : ℕ) → List ℕ → List ℕ
changed at mask frame =
    slice_set (slice_set frame at (bit_xor (slice_index frame at) (mask / 256))) (at + 1) (bit_xor (slice_index frame (at + 1)) (mask % 256))

-- what is handed over of a frame, in pieces, and what stays in the air
pub record Meeting : Type 0 where
  pub pieces : List Piece
  pub stays : List (List ℕ)

-- a frame meets its fate: its receiver's controller cuts it into pieces of at most `size` octets, and `checked` says
-- whether the receiver has a check word for its channel
abbrev pub meets : (size : ℕ) → Fate → (checked : Bool) → List ℕ → Meeting
meets size Delivered checked frame = record { pieces = frame_pieces size frame; stays = [] }
meets size Lost checked frame = record { pieces = []; stays = [] }
meets size Repeated checked frame = record { pieces = frame_pieces size frame; stays = frame ∷ [] }
meets size (CutOff count) checked frame = record { pieces = take count (frame_pieces size frame); stays = [] }
meets size (Changed at mask) true frame = record { pieces = frame_pieces size (changed at mask frame); stays = [] }
meets size (Changed at mask) false frame = record { pieces = []; stays = [] }

-- the whole frames that come of it at its receiver: none where it is lost, or where its last pieces are missing
abbrev pub comes_of : (size : ℕ) → Fate → (checked : Bool) → List ℕ → List (List ℕ)
comes_of size Delivered checked frame = frame ∷ []
comes_of size Lost checked frame = []
comes_of size Repeated checked frame = frame ∷ []
comes_of size (CutOff count) checked frame = if nat_lt count (length (frame_pieces size frame)) then [] else frame ∷ []
comes_of size (Changed at mask) true frame = changed at mask frame ∷ []
comes_of size (Changed at mask) false frame = []

-- A repeat is nothing while 128 frames or more wait the other way, and a change is nothing where the frame has no octet
-- behind the place.
abbrev pub can_meet : Fate → (frame : List ℕ) → (others : ℕ) → Bool
can_meet Delivered frame others = true
can_meet Lost frame others = true
can_meet Repeated frame others = nat_lt others 128
can_meet (CutOff count) frame others = true
can_meet (Changed at mask) frame others = nat_lt (at + 1) (length frame)

-- the first frame of those that wait can meet a fate, if there is one
abbrev pub first_can_meet : Fate → (frames : List (List ℕ)) → (others : ℕ) → Bool
first_can_meet fate [] others = false
first_can_meet fate (frame ∷ frames) others = can_meet fate frame others
