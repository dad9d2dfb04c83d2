-- What stands behind a member of a list.
use Rattle.std.specs.Prelude.{Bool, List, [], ◌∷◌, if◌then◌else◌}
use Rattle.std.specs.List.{list_any}

-- what stands behind the last member that passes, all of it where none does
abbrev pub behind_last : {X : Type 0} → (X → Bool) → List X → List X
behind_last passes [] = []
behind_last passes (x ∷ xs) = if list_any passes (x ∷ xs) then behind_last passes xs else x ∷ xs
