-- What one frame more brings to the reading of a side.
use Rattle.std.proofs.Common.{◌≡◌, ℕ, Bool, true, false, ◌||◌, cond, List, [], ◌∷◌, ◌++◌, Option, Some, None, refl, sym, ap, ◌∙◌, append-nil}
use Rattle.std.specs.List.{cons_option}
use Rattle.rfcomm_frames.specs.declared.connection.Role.{Role}
use Rattle.rfcomm_frames.specs.Multiplexing.{Framed}
use Rattle.rfcomm_frames.specs.Ending.{Course, course_after, is_last, has_last, to_closing}

-- a frame counts where none before it closed the multiplexer
abbrev pub counting : Bool → Option Framed → Option Framed
counting closed None = None
counting true (Some f) = None
counting false (Some f) = Some f

one_more : (last closed : Bool) (fs : List Framed) (f : Framed)
    → cond last [] (fs ++ cons_option (counting closed (Some f)) []) ≡ cond last [] fs ++ cons_option (counting (last || closed) (Some f)) []
one_more true closed fs f = refl
one_more false closed fs f = refl

frame_more : (dlci : ℕ) (side : Role) (c : Course) (fs : List Framed) (f : Framed)
    → to_closing dlci side c (fs ++ f ∷ []) ≡ to_closing dlci side c fs ++ cons_option (counting (has_last dlci side c fs) (Some f)) []
frame_more dlci side c [] f = alone (is_last dlci side c f)
  where
    alone : (last : Bool) → f ∷ cond last [] (let none : List Framed = [] in none) ≡ f ∷ []
    alone true = refl
    alone false = refl
frame_more dlci side c (g ∷ fs) f =
    let last = is_last dlci side c g in
    ap (λ rest. g ∷ cond last [] rest) (frame_more dlci side (course_after dlci side c g) fs f)
    ∙ ap (λ rest. g ∷ rest) (one_more last (has_last dlci side (course_after dlci side c g) fs) (to_closing dlci side (course_after dlci side c g) fs) f)

pub to_closing-more : (dlci : ℕ) (side : Role) (c : Course) (fs : List Framed) (frame : Option Framed)
    → to_closing dlci side c (fs ++ cons_option frame []) ≡ to_closing dlci side c fs ++ cons_option (counting (has_last dlci side c fs) frame) []
to_closing-more dlci side c fs None = ap (to_closing dlci side c) (append-nil fs) ∙ sym (append-nil (to_closing dlci side c fs))
to_closing-more dlci side c fs (Some f) = frame_more dlci side c fs f
