-- That each push has its end, and that there are no more pushes than objects, over the capture alone (this project's own).
use Rattle.std.specs.Prelude.{ℕ, ◌≡◌, ◌≤◌, List, length, Option}
use Rattle.radio_world.specs.bt_base.specs.Objects.{Contents}
use Rattle.radio_world.specs.push_script.specs.declared.scenario.Scenario.{Scenario}
use Rattle.radio_world.specs.push_terms.specs.declared.outcome.Outcome.{Outcome}
use Rattle.radio_world.specs.capture.specs.Entries.{Entry}
use Rattle.radio_world.specs.radio_model.specs.Course.{pushes_begun}
use Rattle.radio_world.specs.Standing.{last_entries}
use Rattle.scenario_laws.specs.Captures.{Ran}
use Rattle.scenario_laws.specs.Outcomes.{outcomes_in, outcomes_of}

abbrev pub pushes_ended : List Entry → ℕ
pushes_ended capture = length (outcomes_in capture)

-- as many pushes ended as began: where they are in turn, each that began has its end
abbrev pub AllHaveEnded : List Entry → Type 0
AllHaveEnded capture = pushes_ended capture ≡ pushes_begun capture

-- So it is where the push that goes on ends behind all that happened, as it does where a scenario is played to its end.
abbrev pub PushesEnd : Type 0
PushesEnd = (scenario : Scenario) (content : Option Contents) (capture : List Entry) (ran : Ran scenario content capture) (came : Option Outcome) → ran.ends ≡ last_entries came ran.world.pushes → AllHaveEnded capture

-- Wherever a run broke off, no more pushes began than the scenario has objects; and there is one outcome for each object.
pub record ArePushesOf (scenario : Scenario) (capture : List Entry) : Type 0 where
  pub few : pushes_begun capture ≤ length scenario.names
  pub outcomes_are_all : length (outcomes_of scenario capture) ≡ length scenario.names

abbrev pub PushesAreOfScenarios : Type 0
PushesAreOfScenarios = (scenario : Scenario) (content : Option Contents) (capture : List Entry) → Ran scenario content capture → ArePushesOf scenario capture
