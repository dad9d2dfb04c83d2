-- That both hosts hold credits at each moment of a run (RFCOMM 1.2, 6.5).
use Rattle.std.specs.Prelude.{List, Option}
use Rattle.inbox_laws.specs.bt_base.specs.Objects.{Object, Contents}
use Rattle.inbox_laws.specs.push_script.specs.declared.scenario.Scenario.{Scenario}
use Rattle.inbox_laws.specs.push_terms.specs.declared.word.Side.{Side}
use Rattle.inbox_laws.specs.capture.specs.Entries.{Entry}
use Rattle.inbox_laws.specs.scenario_laws.specs.Captures.{Ran}
use Rattle.inbox_laws.specs.pair_laws.specs.Enough.{HappenedEnough}
use Rattle.credit_laws.specs.Fronts.{IsGentle}
use Rattle.credit_laws.specs.Kept.{StaysSolvent}

-- So it is of either side at each moment of the capture of each run, wherever it broke off and whatever was given up, whatever its shelf holds and its inbox,
-- and whichever calls of that fail, but not for want of memory: over RFCOMM where its words lose, cut, repeat and damage nothing, and over L2CAP anyhow.
-- Nothing is asked of both hosts.
abbrev pub RunsStaySolvent : Type 0
RunsStaySolvent = (scenario : Scenario) (shelf : Option (List Object)) (content : Option Contents) (capture : List Entry) (side : Side) (ran : Ran scenario content capture)
    → HappenedEnough scenario shelf content ran.happenings ran.world → IsGentle scenario ran.happenings → StaysSolvent scenario.settings side capture
