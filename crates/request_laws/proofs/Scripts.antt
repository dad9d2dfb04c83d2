-- The words of a script over RFCOMM lose, cut, repeat and damage nothing.
use Rattle.std.proofs.Common.{◌≡◌, ℕ, zero, suc, false, List, [], ◌∷◌, Some, subst}
use Rattle.std.specs.Prelude.{replicate}
use Rattle.std.specs.List.{AllByRecursion}
use Rattle.pair_laws.specs.bt_base.specs.declared.settings.Transport.{Transport}
use Rattle.pair_laws.specs.bt_base.specs.declared.settings.Transport.TheVariants.{Rfcomm}
use Rattle.pair_laws.specs.push_script.specs.Runs.{IsBorne, is_lossy}
use Rattle.pair_laws.specs.push_terms.specs.declared.word.Word.{Word}
use Rattle.pair_laws.specs.capture.specs.Air.{words_of}
use Rattle.request_laws.specs.Scripts.{ScriptsLoseNothing}
use Rattle.request_laws.proofs.Feeding.{all_both, all_ahead}

abbrev LosesNone : Word → Type 0
LosesNone word = is_lossy word ≡ false

repeats : (count : ℕ) (word : Word) → LosesNone word → AllByRecursion LosesNone (replicate count word)
repeats zero word is = tt
repeats (suc count) word is = (is, repeats count word is)

all_gentle : (runs : List (ℕ × Word)) → AllByRecursion (IsBorne (Some Rfcomm)) runs → AllByRecursion LosesNone (words_of runs)
all_gentle [] borne = tt
all_gentle (run ∷ runs) borne = all_both LosesNone (replicate run.0 run.1) (words_of runs) (repeats run.0 run.1 borne.0) (all_gentle runs borne.1)

pub scripts_lose_nothing : ScriptsLoseNothing
scripts_lose_nothing scenario turned later muxed is =
    (all_ahead LosesNone turned later
    (subst (AllByRecursion LosesNone) is (all_gentle scenario.script (subst (λ (t : Transport). AllByRecursion (IsBorne (Some t)) scenario.script) muxed scenario.borne)))).0
