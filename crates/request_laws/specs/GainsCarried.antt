-- What the inbox of host b gains in each run of a scenario over RFCOMM, where each request is heard (IrOBEX 1.5, 3.4.3; Object Push Profile 1.2,
-- 4.3; RFCOMM 1.2, 2.1 and 5.1).
use Rattle.std.specs.Prelude.{◌≡◌, List, [], ◌++◌, Some}
use Rattle.pair_laws.specs.bt_base.specs.declared.settings.Transport.TheVariants.{Rfcomm}
use Rattle.pair_laws.specs.bt_base.specs.Objects.{Object}
use Rattle.pair_laws.specs.push_script.specs.declared.scenario.Scenario.{Scenario}
use Rattle.pair_laws.specs.push_terms.specs.declared.word.Side.TheVariants as sides
use Rattle.pair_laws.specs.capture.specs.Entries.{Entry}
use Rattle.pair_laws.specs.link_talk.specs.Captures.{objects_heard}
use Rattle.pair_laws.specs.push_laws.specs.Laws.{new_over, stored_in}
use Rattle.pair_laws.specs.push_laws.specs.Premises.{AllMayCome}
use Rattle.pair_laws.specs.host_laws.specs.Calls.{HostsAsk}
use Rattle.pair_laws.specs.host_laws.specs.Serving.{served_from}
use Rattle.pair_laws.specs.scenario_laws.specs.Captures.{Ran}
use Rattle.pair_laws.specs.scenario_laws.specs.Gains.{holding, serving}
use Rattle.pair_laws.specs.scenario_laws.specs.Parties.{party_of}
use Rattle.pair_laws.specs.Keeping.{PairsKeepOrder}

-- no request is ignored, and all else holds that the laws of a server ask of what may come
abbrev pub AllAreHeard : (asks : HostsAsk) (scenario : Scenario) (before : List Object) (capture : List Entry) (ran : Ran scenario (holding before) capture) → PairsKeepOrder asks scenario (holding before) capture ran → Type 0
AllAreHeard asks scenario before capture ran order = AllMayCome scenario.settings [] (new_over scenario.settings before) (served_from scenario.settings (holding before) (serving scenario.settings before).first order.turns.pairs.b.fed.so.lives.feeds)

-- At each moment of each run over RFCOMM, wherever it broke off, whose both hosts' channels are pairs that keep their order: where each request is
-- heard, the inbox gained what the capture spells.
pub record GainsCarried : Type 0 where
  pub asks : HostsAsk
  pub gains : (scenario : Scenario) (before : List Object) (capture : List Entry) (ran : Ran scenario (holding before) capture) → scenario.settings.transport ≡ Rfcomm → (order : PairsKeepOrder asks scenario (holding before) capture ran)
      → AllAreHeard asks scenario before capture ran order
      → stored_in ran.world.b.upper.profile.inbox.content ≡ Some (before ++ objects_heard (party_of scenario.settings sides.B) sides.B capture)
