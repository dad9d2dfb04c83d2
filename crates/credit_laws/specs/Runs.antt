-- The credits of host b in a run of a scenario over RFCOMM, over its capture (Core 5.1, Volume 3 Part A, 3.1; RFCOMM 1.2, 6.5).
use Rattle.std.specs.Prelude.{◌≡◌, List, [], Option}
use Rattle.inbox_laws.specs.bt_base.specs.declared.settings.Transport.TheVariants.{Rfcomm}
use Rattle.inbox_laws.specs.bt_base.specs.Objects.{Object, Contents}
use Rattle.inbox_laws.specs.push_script.specs.declared.scenario.Scenario.{Scenario}
use Rattle.inbox_laws.specs.push_terms.specs.declared.word.Side.TheVariants as sides
use Rattle.inbox_laws.specs.capture.specs.Entries.{Entry}
use Rattle.inbox_laws.specs.push_laws.specs.Laws.{new_over}
use Rattle.inbox_laws.specs.push_laws.specs.Occurrences.{begun}
use Rattle.inbox_laws.specs.push_laws.specs.Premises.{AllMayMiss}
use Rattle.inbox_laws.specs.host_model.specs.Servers.{server_profile}
use Rattle.inbox_laws.specs.host_laws.specs.Calls.{HostsAsk}
use Rattle.inbox_laws.specs.host_laws.specs.Serving.{served_from}
use Rattle.inbox_laws.specs.scenario_laws.specs.Captures.{Ran}
use Rattle.inbox_laws.specs.scenario_laws.specs.Gains.{holding, serving}
use Rattle.inbox_laws.specs.pair_laws.specs.Keeping.{PairsKeepOrder}
use Rattle.inbox_laws.specs.pair_laws.specs.OnLinks.{ArePairs}
use Rattle.request_laws.specs.GainsCarried.{AllAreHeard}
use Rattle.credit_laws.specs.Kept.{IsSolvent}
use Rattle.credit_laws.specs.Serving.{AllGoQuietly}

-- what goes is what its server lends, its inbox did not lack memory, and no frame of its multiplexer waits where an SDU comes to that
abbrev pub ServesQuietly : (asks : HostsAsk) (scenario : Scenario) (content : Option Contents) (capture : List Entry) (ran : Ran scenario content capture) → ArePairs asks scenario content capture ran → Type 0
ServesQuietly asks scenario content capture ran pairs = AllGoQuietly (begun scenario.settings content) (served_from scenario.settings content (server_profile scenario.settings content).first pairs.b.fed.so.lives.feeds)

-- Then the credits that host b holds by the capture over RFCOMM are not below nothing, wherever it broke off and whatever it gave up: what is asked is asked of
-- what happened by then.
pub record RunsHoldCredits : Type 0 where
  pub asks : HostsAsk
  pub servers : (scenario : Scenario) (content : Option Contents) (capture : List Entry) (ran : Ran scenario content capture) (pairs : ArePairs asks scenario content capture ran) → scenario.settings.transport ≡ Rfcomm → ServesQuietly asks scenario content capture ran pairs
      → IsSolvent scenario.settings sides.B capture

-- all that happened to the server of host b may come, where requests may be missed and calls of its inbox fail, but not for want of memory
abbrev pub AllAreMissed : (asks : HostsAsk) (scenario : Scenario) (before : List Object) (capture : List Entry) (ran : Ran scenario (holding before) capture) → PairsKeepOrder asks scenario (holding before) capture ran → Type 0
AllAreMissed asks scenario before capture ran order = AllMayMiss scenario.settings [] (new_over scenario.settings before) (served_from scenario.settings (holding before) (serving scenario.settings before).first order.turns.pairs.b.fed.so.lives.feeds)

-- So it is as well where each request is heard, or where they may be missed: frames may wait then while some others come.
pub record HeardRunsHoldCredits : Type 0 where
  pub asks : HostsAsk
  pub heard : (scenario : Scenario) (before : List Object) (capture : List Entry) (ran : Ran scenario (holding before) capture) (order : PairsKeepOrder asks scenario (holding before) capture ran) → scenario.settings.transport ≡ Rfcomm
      → AllAreHeard asks scenario before capture ran order → IsSolvent scenario.settings sides.B capture
  pub missed : (scenario : Scenario) (before : List Object) (capture : List Entry) (ran : Ran scenario (holding before) capture) (order : PairsKeepOrder asks scenario (holding before) capture ran) → scenario.settings.transport ≡ Rfcomm
      → AllAreMissed asks scenario before capture ran order → IsSolvent scenario.settings sides.B capture
