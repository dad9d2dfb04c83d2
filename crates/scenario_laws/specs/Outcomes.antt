-- What the capture says of how pushes ended (this project's own).
use Rattle.std.specs.Prelude.{◌≡◌, ◌≤◌, ◌-◌, List, [], ◌∷◌, ◌++◌, length, replicate, Option}
use Rattle.std.specs.List.{flat_map}
use Rattle.radio_world.specs.bt_base.specs.Objects.{Contents}
use Rattle.radio_world.specs.push_script.specs.declared.scenario.Scenario.{Scenario}
use Rattle.radio_world.specs.push_terms.specs.declared.outcome.Outcome.{Outcome}
use Rattle.radio_world.specs.push_terms.specs.declared.outcome.Outcome.TheVariants.{ScriptEnded}
use Rattle.radio_world.specs.capture.specs.Entries.{Entry, Ended}
use Rattle.radio_world.specs.radio_model.specs.Course.{pushes_begun}
use Rattle.host_laws.specs.world_model.specs.Worlds.{all_entries}
use Rattle.radio_world.specs.Standing.{last_ended, last_entries, all_outcomes}
use Rattle.scenario_laws.specs.Captures.{Ran}

-- the outcome with which a push ended
abbrev pub outcome_of : Entry → List Outcome
outcome_of (Ended push outcome) = outcome ∷ []
outcome_of entry = []

-- those of all pushes that ended, in their order
abbrev pub outcomes_in : List Entry → List Outcome
outcomes_in capture = flat_map outcome_of capture

-- What came of the objects of a scenario, one after the other: the outcomes that its capture states, and of those that were not begun, that
-- the script ended.
abbrev pub outcomes_of : Scenario → List Entry → List Outcome
outcomes_of scenario capture = outcomes_in capture ++ replicate (length scenario.names - length (outcomes_in capture)) ScriptEnded

-- a world at a moment of a run says of its pushes what the capture by then does
pub record SaysPushes (scenario : Scenario) (content : Option Contents) (capture : List Entry) (ran : Ran scenario content capture) : Type 0 where
  pub begun_is : pushes_begun (all_entries ran.happenings) ≡ ran.world.pushes.begun
  pub outcomes_are : outcomes_in (all_entries ran.happenings) ≡ ran.world.pushes.outcomes
  pub names_are : ran.world.pushes.names ≡ scenario.names
  pub few : ran.world.pushes.begun ≤ length scenario.names
  -- and where its end is written, all outcomes are those of the capture
  pub all : (came : Option Outcome) → all_outcomes (last_ended came ran.world.pushes) ≡ outcomes_of scenario (all_entries ran.happenings ++ last_entries came ran.world.pushes)

abbrev pub OutcomesAreStated : Type 0
OutcomesAreStated = (scenario : Scenario) (content : Option Contents) (capture : List Entry) (ran : Ran scenario content capture) → SaysPushes scenario content capture ran
