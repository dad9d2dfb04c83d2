-- What a host hears on one direction of a link: all frames that were put into it, numbered from 0, and a position, the
-- number of the first that waits (this project's own).
use Rattle.std.specs.Prelude.{ℕ, ◌+◌, ◌<◌, Bool, List, [], ◌∷◌, length, slice_get, Option, Some, None}
use Rattle.acl_fragments.specs.Pieces.{Piece}
use Rattle.capture.specs.Histories.{given_by, EachAfter}
use Rattle.radio_model.specs.declared.fate.Fate.{Fate}
use Rattle.radio_model.specs.declared.fate.Fate.TheVariants.{Repeated}
use Rattle.radio_model.specs.Fates.{meets, comes_of}

-- a fate that a frame met, and whether its receiver had a check word for its channel
pub record Met : Type 0 where
  pub fate : Fate
  pub checked : Bool

-- each fate takes its frame away, but a repeat
abbrev pub step : Fate → ℕ
step Repeated = 0
step fate = 1

-- the position after some fates, met in this order
abbrev pub position : List Met → ℕ
position [] = 0
position (met ∷ rest) = step met.fate + position rest

-- what a frame that there is gives
abbrev pub of_frame : {X : Type 0} → (List ℕ → List X) → Option (List ℕ) → List X
of_frame given None = []
of_frame given (Some frame) = given frame

-- each fate meets the frame at the position that those before it led to; the frames that come of them are heard, in
-- that order
abbrev pub heard : (size : ℕ) → (frames : List (List ℕ)) → List Met → List (List ℕ)
heard size frames fates = given_by (λ past met. of_frame (comes_of size met.fate met.checked) (slice_get frames (position past))) fates

-- and the pieces are those that are handed over
abbrev pub handed : (size : ℕ) → (frames : List (List ℕ)) → List Met → List Piece
handed size frames fates = given_by (λ past met. of_frame (λ frame. (meets size met.fate met.checked frame).pieces) (slice_get frames (position past))) fates

-- each fate found a frame
abbrev pub FindsFrames : (frames : List (List ℕ)) → List Met → Type 0
FindsFrames frames fates = EachAfter (λ past met. position past < length frames) [] fates
