-- The windows of both hosts of a run over its capture, at each moment, in numbers that never wrap (Core 5.1, Volume 3 Part A, 5.4, 8.3 and 8.6).
use Rattle.std.specs.Prelude.{List, Option}
use Rattle.std.specs.List.{AllByRecursion}
use Rattle.pair_laws.specs.bt_base.specs.declared.settings.Settings.{Settings}
use Rattle.pair_laws.specs.bt_base.specs.Objects.{Contents}
use Rattle.pair_laws.specs.push_script.specs.declared.scenario.Scenario.{Scenario}
use Rattle.pair_laws.specs.push_terms.specs.declared.word.Side.{Side}
use Rattle.pair_laws.specs.capture.specs.Entries.{Entry}
use Rattle.pair_laws.specs.capture.specs.Histories.{AtEach}
use Rattle.pair_laws.specs.capture.specs.Links.{Link, links}
use Rattle.pair_laws.specs.link_talk.specs.Captures.{talk_now}
use Rattle.pair_laws.specs.link_talk.specs.Sayings.{talk}
use Rattle.pair_laws.specs.scenario_laws.specs.Captures.{Ran}
use Rattle.pair_laws.specs.scenario_laws.specs.Parties.{party_of}
use Rattle.window_laws.specs.Windows.{HoldsAbsolutely, HoldsOnEach}

-- ---- a capture

-- at each moment, on the link that is up then, by the window that both hosts state
abbrev pub HoldsAbsolutelyThroughout : Settings → Side → List Entry → Type 0
HoldsAbsolutelyThroughout settings side capture = AtEach (λ past. HoldsOnEach (HoldsAbsolutely settings.window) (party_of settings side) (talk_now side past)) capture

-- on each of its links, to its end
abbrev pub HoldsAbsolutelyOnLinks : Settings → Side → List Entry → Type 0
HoldsAbsolutelyOnLinks settings side capture = AllByRecursion (λ (link : Link). HoldsOnEach (HoldsAbsolutely settings.window) (party_of settings side) (talk link)) (links side capture)

-- So both hosts do in each run, wherever it broke off and whatever its ports answered.
pub record RunsHoldAbsolutely : Type 0 where
  pub throughout : (scenario : Scenario) (content : Option Contents) (capture : List Entry) (side : Side) → Ran scenario content capture → HoldsAbsolutelyThroughout scenario.settings side capture
  pub on_links : (scenario : Scenario) (content : Option Contents) (capture : List Entry) (side : Side) → Ran scenario content capture → HoldsAbsolutelyOnLinks scenario.settings side capture
