-- Laws of the text of scenarios (this project's own).
use Rattle.std.specs.Prelude.{ℕ, ◌≡◌, ◌<◌, ◌≤◌, ◌^◌, List, length, Ok}
use Rattle.push_script.specs.declared.scenario.Scenario.{Scenario}
use Rattle.push_script.specs.Scenarios.{scenario_text}
use Rattle.push_script.specs.Turns.{word_count}
use Rattle.push_script.specs.Reading.{Script, script_of, reading, text_limit}

-- the text is read as that scenario, if its length is allowed
abbrev pub IsReadAs : Scenario → List ℕ → Type 0
IsReadAs scenario text = length text ≤ text_limit → reading text ≡ Ok (script_of scenario)

-- what was written is read again
abbrev pub TextsAgain : Type 0
TextsAgain = (scenario : Scenario) → IsReadAs scenario (scenario_text scenario)

-- a scenario that is read has no more runs of words than its text has octets
abbrev pub RunsAreFew : Type 0
RunsAreFew = (text : List ℕ) (script : Script) → reading text ≡ Ok script → (length script.runs ≤ length text) × (length text ≤ text_limit)

-- and so its words can be counted
abbrev pub WordsAreFew : Type 0
WordsAreFew = (text : List ℕ) (script : Script) → reading text ≡ Ok script → word_count script.runs < 2 ^ 52
