-- What a list has more than its front.
use Rattle.std.specs.Prelude.{List, [], ◌∷◌, ◌++◌, length, drop}

-- what stands behind as many members as another list has
abbrev pub beyond : {X : Type 0} → List X → List X → List X
beyond old new = drop (length old) new

-- what one member more brings to a list that is read off others
abbrev pub gained : {X Y : Type 0} → (List X → List Y) → List X → X → List Y
gained read past more = beyond (read past) (read (past ++ more ∷ []))
