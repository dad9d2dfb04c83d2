-- The words of a script over RFCOMM lose, cut, repeat and damage nothing (this project's own).
use Rattle.std.specs.Prelude.{◌≡◌, List, ◌++◌}
use Rattle.pair_laws.specs.bt_base.specs.declared.settings.Transport.TheVariants.{Rfcomm}
use Rattle.pair_laws.specs.push_script.specs.declared.scenario.Scenario.{Scenario}
use Rattle.pair_laws.specs.push_terms.specs.declared.word.Word.{Word}
use Rattle.pair_laws.specs.capture.specs.Air.{words_of}
use Rattle.pair_laws.specs.Keeping.{LosesNothing}

-- So do those that were turned by some moment: a script with another word over RFCOMM is no scenario's.
abbrev pub ScriptsLoseNothing : Type 0
ScriptsLoseNothing = (scenario : Scenario) (turned later : List Word) → scenario.settings.transport ≡ Rfcomm → words_of scenario.script ≡ turned ++ later → LosesNothing turned
