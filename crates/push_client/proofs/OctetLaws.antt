-- Octets that wait between two places of a room.
use Rattle.std.proofs.Common.{◌≡◌, ◌≤◌, ◌-◌, ◌==◌, ℕ, List, [], ◌∷◌, length, take, drop, refl, ap, ◌∙◌, arith, length-take-le}
use Rattle.std.proofs.lemmas.List.{length-drop}
use Rattle.push_model.specs.rfcomm_frames.specs.FrameReading.{is_empty}

empty_by_length : (xs : List ℕ) → (length xs == 0) ≡ is_empty xs
empty_by_length [] = refl
empty_by_length (x ∷ xs) = grind arith

same_place : (start end count : ℕ) → start ≤ end → count ≡ end - start → (start == end) ≡ (count == 0)
same_place start end count within is = grind (arith, within, is)

pub none_between : (start end : ℕ) (room : List ℕ) → start ≤ end → end ≤ length room → (start == end) ≡ is_empty (drop start (take end room))
none_between start end room within fits =
    same_place start end _ within (length-drop start (take end room) ∙ ap (λ (n : ℕ). n - start) (length-take-le end room fits)) ∙ empty_by_length (drop start (take end room))
