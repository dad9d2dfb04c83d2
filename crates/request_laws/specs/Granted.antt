-- What host b serves in a run in which its inbox grants all (Object Push Profile 1.2, 4.3).
use Rattle.std.specs.Prelude.{◌≡◌, List}
use Rattle.std.specs.List.{AllByRecursion}
use Rattle.pair_laws.specs.bt_base.specs.declared.settings.Transport.TheVariants.{L2cap}
use Rattle.pair_laws.specs.bt_base.specs.Objects.{Object}
use Rattle.pair_laws.specs.push_script.specs.declared.scenario.Scenario.{Scenario}
use Rattle.pair_laws.specs.capture.specs.Entries.{Entry}
use Rattle.pair_laws.specs.host_laws.specs.Calls.{HostsAsk}
use Rattle.pair_laws.specs.scenario_laws.specs.Captures.{Ran}
use Rattle.pair_laws.specs.scenario_laws.specs.Gains.{holding}
use Rattle.pair_laws.specs.Granted.{HappenedGranted}
use Rattle.request_laws.specs.BothFed.{GrantsAll}
use Rattle.request_laws.specs.Together.{ServesTogether}

-- as in any run; and that the inbox granted all calls is asked no more
pub record ServesGranted (asks : HostsAsk) (scenario : Scenario) (before : List Object) (capture : List Entry) (ran : Ran scenario (holding before) capture) : Type 0 where
  pub together : ServesTogether asks scenario before capture ran
  pub granted : AllByRecursion GrantsAll together.turns.pairs.b.fed.so.lives.feeds

-- So it is at each moment of each such run over L2CAP, wherever it broke off.
pub record RunsServeGranted : Type 0 where
  pub asks : HostsAsk
  pub runs : (scenario : Scenario) (before : List Object) (capture : List Entry) (ran : Ran scenario (holding before) capture) → scenario.settings.transport ≡ L2cap
      → HappenedGranted scenario (holding before) ran.happenings ran.world → ServesGranted asks scenario before capture ran
