-- A direction of a link as the capture has it, and the frames that wait in it.
use Rattle.std.proofs.Common.{◌≡◌, ℕ, zero, suc, ◌+◌, ◌≤◌, Bool, true, false, List, [], ◌∷◌, ◌++◌, length, drop, refl, ap, ◌∙◌, arith, length-append}
use Rattle.std.proofs.lemmas.List.{drop-append-le}
use Rattle.turn_laws.specs.capture.specs.Frames.{Direction, empty, waiting, with_frames, left, emptied}
use Rattle.turn_laws.specs.radio_model.specs.declared.fate.Fate.{Fate}
use Rattle.turn_laws.specs.radio_model.specs.declared.fate.Fate.TheVariants.{Delivered, Lost, Repeated, CutOff, Changed}
use Rattle.turn_laws.specs.radio_model.specs.Fates.{meets}
use Rattle.turn_laws.specs.radio_model.specs.Air.{moved_on}

pub record Waits (way : Direction) (queue : List (List ℕ)) : Type 0 where
  pub within : way.position ≤ length way.frames
  pub are : waiting way ≡ queue

pub waits_as : (way : Direction) (one two : List (List ℕ)) → one ≡ two → Waits way one → Waits way two
waits_as way one two same waits = record { within = waits.within; are = waits.are ∙ same }

pub waits_none : Waits empty []
waits_none = record { within = omega arith; are = refl }

pub waits_more : (way : Direction) (queue more : List (List ℕ)) → Waits way queue → Waits (with_frames more way) (queue ++ more)
waits_more way queue more waits =
    let long = length-append way.frames more in
    let within = waits.within in
    record {
      within = omega arith;
      are = drop-append-le way.position way.frames more waits.within ∙ ap (λ (l : List (List ℕ)). l ++ more) waits.are;
    }

drop_all : (frames : List (List ℕ)) → drop (length frames) frames ≡ []
drop_all [] = refl
drop_all (frame ∷ frames) = drop_all frames

pub waits_emptied : (way : Direction) → Waits (emptied way) []
waits_emptied way = record { within = omega arith; are = drop_all way.frames }

drop_next : (n : ℕ) (frames : List (List ℕ)) (frame : List ℕ) (rest : List (List ℕ)) → drop n frames ≡ frame ∷ rest → (drop (suc n) frames ≡ rest) × (n + 1 ≤ length frames)
drop_next zero [] frame rest is = absurd cc
drop_next zero (first ∷ frames) frame rest is = (cc, omega arith)
drop_next (suc n) [] frame rest is = absurd cc
drop_next (suc n) (first ∷ frames) frame rest is = let next = drop_next n frames frame rest is in (next.0, (let low = next.1 in omega arith))

pub waits_left : (way : Direction) (frame : List ℕ) (rest : List (List ℕ)) → Waits way (frame ∷ rest) → Waits (left way) rest
waits_left way frame rest waits =
    let next = drop_next way.position way.frames frame rest waits.are in
    let one : way.position + 1 ≡ suc way.position = omega arith in
    record { within = next.1; are = ap (λ (n : ℕ). drop n way.frames) one ∙ next.0 }

-- the first frame that waits meets its fate
pub waits_met : (size : ℕ) (fate : Fate) (checked : Bool) (way : Direction) (frame : List ℕ) (rest : List (List ℕ)) → Waits way (frame ∷ rest)
    → Waits (moved_on (meets size fate checked frame).stays way) ((meets size fate checked frame).stays ++ rest)
waits_met size Delivered checked way frame rest waits = waits_left way frame rest waits
waits_met size Lost checked way frame rest waits = waits_left way frame rest waits
waits_met size Repeated checked way frame rest waits = waits
waits_met size (CutOff count) checked way frame rest waits = waits_left way frame rest waits
waits_met size (Changed at mask) true way frame rest waits = waits_left way frame rest waits
waits_met size (Changed at mask) false way frame rest waits = waits_left way frame rest waits
