-- What the lines of a scenario state (this project's own).
use Rattle.std.specs.Prelude.{ℕ, ◌≡◌, ◌≤◌, Bool, false, List, [], length, Option}
use Rattle.std.specs.List.{AllByRecursion}
use Rattle.bt_base.specs.declared.settings.Transport.{Transport}
use Rattle.bt_base.specs.declared.settings.Serves.{Serves}
use Rattle.push_terms.specs.declared.word.Word.{Word}
use Rattle.push_script.specs.Names.{IsName}
use Rattle.push_script.specs.Runs.{IsRun, IsBorne}

-- from the lowest number to the highest, both included
abbrev pub IsBetween : ℕ → ℕ → ℕ → Type 0
IsBetween low high n = (low ≤ n) × (n ≤ high)

-- the value that each key but `object` was stated to have, if it was
pub record Stated : Type 0 where
  pub transport : Option Transport
  pub serves : Option Serves
  pub acl : Option (ℕ × ℕ)
  pub chunk : Option ℕ
  pub mtu : Option ℕ
  pub mps : Option ℕ
  pub window : Option ℕ
  pub tries : Option ℕ
  pub credits : Option ℕ
  pub obex : Option ℕ
  pub srm : Option Bool

-- what was read of a scenario so far
pub record Known : Type 0 where
  pub keys : Stated
  pub names : List (List ℕ)
  -- the line `radio` was read
  pub radio : Bool
  pub runs : List (ℕ × Word)

-- The words come behind the line `radio`, each as the transport bears it; the rest is within its bounds.
pub record IsKnown (known : Known) : Type 0 where
  pub early : known.radio ≡ false → known.runs ≡ []
  pub borne : AllByRecursion (IsBorne known.keys.transport) known.runs
  pub runs : AllByRecursion IsRun known.runs
  pub names : AllByRecursion IsName known.names
  pub few : length known.names ≤ 64
