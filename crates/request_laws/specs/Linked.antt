-- Links of both hosts of a run go side by side (Core 5.1, Volume 2 Part E, 7.7.3 and 7.7.5).
use Rattle.std.specs.Prelude.{List}
use Rattle.pair_laws.specs.bt_base.specs.Objects.{Object}
use Rattle.pair_laws.specs.push_script.specs.declared.scenario.Scenario.{Scenario}
use Rattle.pair_laws.specs.capture.specs.Entries.{Entry}
use Rattle.pair_laws.specs.host_laws.specs.Calls.{HostsAsk}
use Rattle.pair_laws.specs.scenario_laws.specs.Captures.{Ran}
use Rattle.pair_laws.specs.scenario_laws.specs.Gains.{holding}
use Rattle.pair_laws.specs.InTurn.{PairsInTurn}
use Rattle.request_laws.specs.BothFed.{over_stored}
use Rattle.request_laws.specs.ObjectPipes.{OpensOn, LinkedWith}

-- The n-th link of host a is the n-th of host b: each comes up where the client wants it, and no push begins on it; host b is never two turns
-- of its link ahead, and on a link of which host a has not heard nothing came to it.
abbrev pub RunsAreLinked : Type 0
RunsAreLinked = (asks : HostsAsk) (scenario : Scenario) (before : List Object) (capture : List Entry) (ran : Ran scenario (holding before) capture) (turns : PairsInTurn asks scenario (holding before) capture ran)
    → LinkedWith asks scenario before capture ran turns.pairs (OpensOn (over_stored asks scenario.settings before))
