-- Laws of the air, for every frame and every fate (this project's own).
use Rattle.std.specs.Prelude.{ℕ, ◌+◌, ◌≡◌, ◌≤◌, List, [], ◌∷◌, ◌++◌, length, slice_get, map}
use Rattle.capture.specs.declared.flow.Flow.TheVariants.{Into}
use Rattle.capture.specs.Pdus.{whole_of}
use Rattle.acl_fragments.specs.Pieces.{Piece, starts, pdu_length}
use Rattle.acl_fragments.specs.Answers.{answer, held_after}
use Rattle.radio_model.specs.Fates.{meets, comes_of}
use Rattle.radio_model.specs.Flights.{Met, position, step, of_frame, heard, handed, FindsFrames}

-- ---- one direction of a link, over its whole life

-- a fate more is met at the position that those before it led to
abbrev pub OneFateMore : Type 0
OneFateMore = (size : ℕ) (frames : List (List ℕ)) (fates : List Met) (met : Met) →
    (heard size frames (fates ++ met ∷ []) ≡ heard size frames fates ++ of_frame (comes_of size met.fate met.checked) (slice_get frames (position fates)))
    × (handed size frames (fates ++ met ∷ []) ≡ handed size frames fates ++ of_frame (λ frame. (meets size met.fate met.checked frame).pieces) (slice_get frames (position fates)))
    × (position (fates ++ met ∷ []) ≡ position fates + step met.fate)

-- frames that are said later change nothing of what was heard
abbrev pub OneFrameMore : Type 0
OneFrameMore = (size : ℕ) (frames : List (List ℕ)) (fates : List Met) (frame : List ℕ) → FindsFrames frames fates →
    (heard size (frames ++ frame ∷ []) fates ≡ heard size frames fates)
    × (handed size (frames ++ frame ∷ []) fates ≡ handed size frames fates)
    × FindsFrames (frames ++ frame ∷ []) fates

-- ---- the pieces of a frame, and what they give

-- the frames that pieces complete one after the other, while these octets are held
abbrev pub given_from : (limit : ℕ) → (held : List ℕ) → List Piece → List (List ℕ)
given_from limit held [] = []
given_from limit held (piece ∷ pieces) =
    map (λ pdu. pdu.octets) (whole_of Into (answer limit held (starts piece.boundary) piece.octets))
    ++ given_from limit (held_after limit held (starts piece.boundary) piece.octets) pieces

-- a whole PDU that a receiver with this limit takes
pub record IsFrame (limit : ℕ) (frame : List ℕ) : Type 0 where
  pub header : 4 ≤ length frame
  pub whole : pdu_length frame ≡ length frame
  pub within : length frame ≤ limit
