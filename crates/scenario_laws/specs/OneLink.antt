-- That a push has one link at most, over the capture alone (this project's own).
use Rattle.std.specs.Prelude.{ℕ, ◌+◌, ◌≤◌, List, [], length, Option}
use Rattle.radio_world.specs.bt_base.specs.Objects.{Contents}
use Rattle.radio_world.specs.push_script.specs.declared.scenario.Scenario.{Scenario}
use Rattle.radio_world.specs.push_terms.specs.declared.word.Side.{Side}
use Rattle.radio_world.specs.capture.specs.Entries.{Entry, Begun}
use Rattle.radio_world.specs.capture.specs.Histories.{led_by, AtEach}
use Rattle.radio_world.specs.capture.specs.Links.{links}
use Rattle.scenario_laws.specs.Captures.{Ran}

-- how many links a host was told of so far, and how many of them as the push began that began last; none before the first
abbrev pub links_told : Side → List Entry → ℕ
links_told side past = length (links side past)

abbrev pub begun_with : Side → (past : List Entry) → ℕ → Entry → ℕ
begun_with side past count (Begun push) = links_told side past
begun_with side past count entry = count

abbrev pub links_at_begin : Side → List Entry → ℕ
links_at_begin side capture = led_by (begun_with side) [] 0 capture

-- since then it was told of one link at most
abbrev pub HasOneLink : Side → List Entry → Type 0
HasOneLink side past = links_told side past ≤ links_at_begin side past + 1

-- So it is of either host at each moment of each run, wherever it broke off and whatever its script says: a push goes over one link, and is not begun on
-- a second one where that is lost.
abbrev pub PushesHaveOneLink : Type 0
PushesHaveOneLink = (scenario : Scenario) (content : Option Contents) (capture : List Entry) (side : Side) → Ran scenario content capture → AtEach (HasOneLink side) capture
