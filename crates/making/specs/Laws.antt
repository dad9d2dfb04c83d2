-- Laws of the scenarios of numbers (this project's own).
use Rattle.std.specs.Prelude.{ℕ, ◌≡◌, List, length, Ok}
use Rattle.bt_base.specs.Objects.{Object}
use Rattle.bt_base.specs.Streams.{gained}
use Rattle.push_script.specs.declared.scenario.Scenario.{Scenario}
use Rattle.push_script.specs.Made.{made_script}
use Rattle.push_script.specs.Reading.{reading, script_of}
use Rattle.push_script.specs.Scenarios.{scenario_text}
use Rattle.btpush_forms.specs.declared.status.Status.TheVariants as status
use Rattle.btpush_forms.specs.Ports.{Written}
use Rattle.making.specs.Counting.{octets_counted}
use Rattle.making.specs.Making.{Makes}
use Rattle.making.specs.Summary.{summary_text}

-- the text of the scenario of a number is read as that scenario
abbrev pub MadeTextsAgain : Type 0
MadeTextsAgain = (number : ℕ) (scenario : Scenario) → script_of scenario ≡ made_script number → reading (scenario_text scenario) ≡ Ok (made_script number)

-- where it ends well, the summary says that eight of eight pushes are done
abbrev pub GoodEndsAreWhole : Type 0
GoodEndsAreWhole = (number : ℕ) (sink sink' trace trace' : Written) → Makes number sink sink' trace trace' status.Ok → (stored : List Object) × (sink'.content ≡ gained sink.content (summary_text 8 (length stored) (octets_counted stored)))
