-- One step of reading after the other, where each may find nothing.
use Rattle.std.specs.Prelude.{◌≡◌, ℕ, List, Option, Some, None}

infixl 10 ◌>>=◌
abbrev pub ◌>>=◌ : {A B : Type 0} → Option A → (A → Option B) → Option B
(Some x) >>= f = f x
None >>= f = None

-- what a function of the code found is what reading finds at the front of octets: it stands for the same value, with the same octets behind it
abbrev pub GivesAs : {X Y : Type 0} → (X → Y → Type 0) → (X → List ℕ) → Option X → Option (Y × List ℕ) → Type 0
GivesAs {X} {Y} StandsFor rest (Some x) read = (y : Y) × (read ≡ Some (y, rest x)) × StandsFor x y
GivesAs StandsFor rest None read = read ≡ None
