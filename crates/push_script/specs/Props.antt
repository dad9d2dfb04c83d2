-- Each of these facts has one proof at most, as a field of a struct needs (this project's own).
use Rattle.std.specs.Prelude.{ℕ, List, Option, Some, None}
use Rattle.std.specs.List.{AllByRecursion, AllByRecursion-prop}
use mathlib.Core.Bool.{Bool-set}
use mathlib.Core.HLevel.{×_prop, Unit-prop}
use native.Mathlib.Bridge.{le_prop}
use Rattle.bt_base.specs.declared.settings.Transport.{Transport}
use Rattle.bt_base.specs.declared.settings.Transport.TheVariants as transports
use Rattle.push_terms.specs.declared.word.Word.{Word}
use Rattle.push_terms.specs.declared.word.Word.TheVariants.{Pass, Lose, Repeat, Damage, Cut, Timer, Drop, Cancel}
use Rattle.push_script.specs.Names.{IsName}
use Rattle.push_terms.specs.Words.{IsWord}
use Rattle.push_script.specs.Runs.{IsRun, IsBorne}

IsName-prop : (name : List ℕ) → IsProp (IsName name)
IsName-prop name a b = λ i. record { text = Bool-set _ _ a.text b.text i; some = le_prop a.some b.some i; few = le_prop a.few b.few i; line = Bool-set _ _ a.line b.line i }

IsWord-prop : (word : Word) → IsProp (IsWord word)
IsWord-prop (Damage way at mask) = λ a b. λ i. (le_prop a.0 b.0 i, le_prop a.1 b.1 i, le_prop a.2 b.2 i, le_prop a.3 b.3 i)
IsWord-prop (Cut way packets) = ×_prop le_prop le_prop
IsWord-prop Pass = Unit-prop
IsWord-prop (Lose way) = Unit-prop
IsWord-prop (Repeat way) = Unit-prop
IsWord-prop (Timer side) = Unit-prop
IsWord-prop Drop = Unit-prop
IsWord-prop Cancel = Unit-prop

IsRun-prop : (run : ℕ × Word) → IsProp (IsRun run)
IsRun-prop (count, word) = λ a b. λ i. (le_prop a.0 b.0 i, le_prop a.1 b.1 i, IsWord-prop word a.2 b.2 i)

IsBorne-prop : (transport : Option Transport) (run : ℕ × Word) → IsProp (IsBorne transport run)
IsBorne-prop (Some transports.Rfcomm) run = Bool-set _ _
IsBorne-prop (Some transports.L2cap) run = Unit-prop
IsBorne-prop None run = Unit-prop

pub names_once : (names : List (List ℕ)) → IsProp (AllByRecursion IsName names)
names_once = AllByRecursion-prop IsName IsName-prop

pub runs_once : (runs : List (ℕ × Word)) → IsProp (AllByRecursion IsRun runs)
runs_once = AllByRecursion-prop IsRun IsRun-prop

pub borne_once : (transport : Option Transport) (runs : List (ℕ × Word)) → IsProp (AllByRecursion (IsBorne transport) runs)
borne_once transport = AllByRecursion-prop (IsBorne transport) (IsBorne-prop transport)
