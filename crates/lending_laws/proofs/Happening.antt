-- All that happens to a host from its first moment on, part by part: with each call what comes to it then, and which units move.
use Rattle.std.proofs.Common.{◌≡◌, ℕ, List, [], ◌∷◌, ◌++◌, refl, sym, ap, ap₂, ◌∙◌, append_assoc}
use Rattle.std.proofs.lemmas.List.{append-nil}
use Rattle.call_laws.specs.bt_host.specs.host_model.specs.Circumstances.{Circumstance}
use Rattle.call_laws.specs.unit_laws.specs.Units.{Occasion, units}
use Rattle.receive_laws.specs.Moving.{opening, MovesWith}
use Rattle.lending_laws.specs.Comings.{comings_in, comings_with, comings_along}
use Rattle.lending_laws.specs.Steps.{Step}
use Rattle.lending_laws.proofs.Coming.{One, comings_both}

-- with a call
pub record HappensWith (step : Step) (list : List (Occasion Circumstance)) : Type 0 where
  pub comings_are : comings_in list ≡ comings_with step.call step.turn.packet
  pub move : MovesWith step.turn (units list)

abbrev pub HappenInSteps : List Step → List (Occasion Circumstance) → Type 0
HappenInSteps [] list = list ≡ []
HappenInSteps (step ∷ steps) list = (first rest : List (Occasion Circumstance)) × HappensWith step first × HappenInSteps steps rest × (list ≡ first ++ rest)

-- before any call
pub record HappensFirst (said : List ℕ) (list : List (Occasion Circumstance)) : Type 0 where
  pub none_come : comings_in list ≡ []
  pub move : MovesWith (opening said) (units list)

abbrev pub HappenFromStart : (said : List ℕ) → List Step → List (Occasion Circumstance) → Type 0
HappenFromStart said steps list = (first rest : List (Occasion Circumstance)) × HappensFirst said first × HappenInSteps steps rest × (list ≡ first ++ rest)

-- ---- one call more

more_happen : (ahead : List Step) (step : Step) (xs ys : List One) → HappenInSteps ahead xs → HappensWith step ys → HappenInSteps (ahead ++ step ∷ []) (xs ++ ys)
more_happen [] step xs ys none one = (ys, [], one, refl, ap (λ (l : List One). l ++ ys) none ∙ sym (append-nil ys))
more_happen (other ∷ ahead) step xs ys (first, rest, is, more, all) one = (first, rest ++ ys, is, more_happen ahead step rest ys more one, ap (λ (l : List One). l ++ ys) all ∙ append_assoc first rest ys)

pub happen_behind : (said : List ℕ) (ahead : List Step) (step : Step) (xs ys : List One) → HappenFromStart said ahead xs → HappensWith step ys → HappenFromStart said (ahead ++ step ∷ []) (xs ++ ys)
happen_behind said ahead step xs ys (first, rest, begins, more, all) one = (first, rest ++ ys, begins, more_happen ahead step rest ys more one, ap (λ (l : List One). l ++ ys) all ∙ append_assoc first rest ys)

-- ---- what comes with the calls

pub comings_in_steps : (steps : List Step) (list : List One) → HappenInSteps steps list → comings_in list ≡ comings_along steps
comings_in_steps [] list none = ap (λ (l : List One). comings_in l) none
comings_in_steps (step ∷ steps) list (first, rest, one, more, all) =
    ap (λ (l : List One). comings_in l) all
    ∙ (comings_both first rest ∙ ap₂ (λ (x y : List One). x ++ y) one.comings_are (comings_in_steps steps rest more))

pub comings_are_along : (said : List ℕ) (steps : List Step) (list : List One) → HappenFromStart said steps list → comings_in list ≡ comings_along steps
comings_are_along said steps list (first, rest, begins, more, all) =
    ap (λ (l : List One). comings_in l) all
    ∙ (comings_both first rest ∙ ap₂ (λ (x y : List One). x ++ y) begins.none_come (comings_in_steps steps rest more))
