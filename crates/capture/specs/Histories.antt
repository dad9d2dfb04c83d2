-- Histories: lists of what happened, the first first (this project's own).
use Rattle.std.specs.Prelude.{ℕ, List, [], ◌∷◌, ◌++◌, take, Option, Some, None}
use Rattle.std.specs.Option.{option_or}

-- what each member of a history gives after those before it, one after the other
abbrev pub each_after : {X Y : Type 0} → (List X → X → List Y) → List X → List X → List Y
each_after given past [] = []
each_after given past (x ∷ rest) = given past x ++ each_after given (past ++ x ∷ []) rest

-- what a whole history gives
abbrev pub given_by : {X Y : Type 0} → (List X → X → List Y) → List X → List Y
given_by given history = each_after given [] history

-- what a history leads to, where each member leads on from what those before it led to
abbrev pub led_by : {S X : Type 0} → (List X → S → X → S) → List X → S → List X → S
led_by step past state [] = state
led_by step past state (x ∷ rest) = led_by step (past ++ x ∷ []) (step past state x) rest

-- something holds of each member after those before it
abbrev pub EachAfter : {X : Type 0} → (List X → X → Type 0) → List X → List X → Type 0
EachAfter P past [] = Unit {0}
EachAfter P past (x ∷ rest) = P past x × EachAfter P (past ++ x ∷ []) rest

-- something holds at each moment of a history: of each of its fronts
abbrev pub AtEach : {X : Type 0} → (List X → Type 0) → List X → Type 0
AtEach P history = (n : ℕ) → P (take n history)

-- the last of a list
abbrev pub last_of : {X : Type 0} → List X → Option X
last_of [] = None
last_of (x ∷ xs) = option_or (last_of xs) (Some x)
