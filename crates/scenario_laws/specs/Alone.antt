-- On each link of a run one channel alone carries packets at host b (Object Push Profile 1.2, 4.3; RFCOMM 1.2, 2.1).
use Rattle.std.specs.Prelude.{true, List, Option}
use Rattle.std.specs.List.{AllByRecursion, flat_map}
use Rattle.radio_world.specs.bt_base.specs.Objects.{Contents}
use Rattle.radio_world.specs.push_terms.specs.declared.word.Side.TheVariants as sides
use Rattle.radio_world.specs.push_script.specs.declared.scenario.Scenario.{Scenario}
use Rattle.radio_world.specs.capture.specs.Entries.{Entry}
use Rattle.host_laws.specs.channel_model.specs.Policies.{policy}
use Rattle.host_laws.specs.host_model.specs.Servers.{server_profile}
use Rattle.host_laws.specs.Calls.{Asks}
use Rattle.host_laws.specs.InOrder.{AsksNoChannels}
use Rattle.host_laws.specs.Lives.{on_links}
use Rattle.host_laws.specs.OneOnLinks.{packets_psm, CarriesOneOn}
use Rattle.host_laws.specs.OverLinks.{talk_marks, TalksOverLinks}
use Rattle.scenario_laws.specs.Captures.{Ran}
use Rattle.scenario_laws.specs.Coming.{CameOver}

-- At each moment of each run, wherever it broke off, and however host b came to what the capture has of its links and lived through it: on each of
-- them one channel alone carries packets, over L2CAP that of objects, over RFCOMM that of the multiplexer. Its profile asks for no channel.
abbrev pub RunsCarryAlone : Type 0
RunsCarryAlone = (scenario : Scenario) (content : Option Contents) (capture : List Entry) (ran : Ran scenario content capture) (asks : Asks (server_profile scenario.settings content)) (came : CameOver (server_profile scenario.settings content) sides.B capture ran.world.b.upper)
    (so : TalksOverLinks (server_profile scenario.settings content) asks came.talk ran.world.b.upper) → AsksNoChannels (server_profile scenario.settings content) asks
    → AllByRecursion (CarriesOneOn (packets_psm scenario.settings.transport) (policy scenario.settings true)) (on_links (server_profile scenario.settings content) asks (flat_map talk_marks came.talk) ran.world.b.upper so.lives)
