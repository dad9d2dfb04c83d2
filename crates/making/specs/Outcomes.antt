-- How many pushes are done (this project's own).
use Rattle.std.specs.Prelude.{ℕ, ◌+◌, cond, List, [], ◌∷◌}
use Rattle.object_push.specs.push_terms.specs.declared.outcome.Outcome.{Outcome}
use Rattle.object_push.specs.Running.{is_done}

-- how many of the objects of these names are done, of which each has its outcome
abbrev pub done_count : List Outcome → List (List ℕ) → ℕ
done_count [] names = 0
done_count (outcome ∷ outcomes) [] = 0
done_count (outcome ∷ outcomes) (name ∷ names) = cond (is_done outcome) 1 0 + done_count outcomes names
