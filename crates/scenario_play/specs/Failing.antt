-- How many pushes ended since the shelf failed (this project's own).
use Rattle.std.specs.Prelude.{ℕ, ◌+◌, List, [], ◌∷◌, if◌then◌else◌}
use Rattle.push_terms.specs.declared.outcome.Outcome.{Outcome}
use Rattle.bt_host.specs.Shelving.{is_shelf_fault}

abbrev pub shelf_faults : List Outcome → ℕ
shelf_faults [] = 0
shelf_faults (outcome ∷ outcomes) = if is_shelf_fault outcome then shelf_faults outcomes + 1 else shelf_faults outcomes
