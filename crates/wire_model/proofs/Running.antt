-- Runs one after the other.
use Rattle.std.proofs.Common.{◌≡◌, List, [], ◌∷◌, ◌++◌, refl, sym, ap, subst, ◌∙◌}
use Rattle.std.proofs.lemmas.List.{append-nil, append_assoc}
use Rattle.wire_model.specs.Pair.{Pair, Event, Runs}
use Rattle.wire_model.specs.Rounds.{IsRound, Rounds, joined}

pub runs_then : (p q r : Pair) (a b : List Event) → Runs p a q → Runs q b r → Runs p (a ++ b) r
runs_then p q r [] b x y = subst (λ (s : Pair). Runs s b r) x y
runs_then p q r (event ∷ a) b x y = (x.0, x.1, runs_then x.0 q r a b x.2 y)

pub rounds_then : (p q r : Pair) (a : List (List Event)) (b : List Event) → Rounds p a q → IsRound q b r → Rounds p (a ++ b ∷ []) r
rounds_then p q r [] b x y = (r, subst (λ (s : Pair). IsRound s b r) x y, refl)
rounds_then p q r (round ∷ a) b x y = (x.0, x.1, rounds_then x.0 q r a b x.2 y)

pub joined_then : (a : List (List Event)) (b : List Event) → joined (a ++ b ∷ []) ≡ joined a ++ b
joined_then [] b = append-nil b
joined_then (round ∷ a) b = ap (λ es. round ++ es) (joined_then a b) ∙ sym (append_assoc round (joined a) b)
