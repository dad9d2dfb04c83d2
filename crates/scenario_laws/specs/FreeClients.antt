-- The client of a run is free too, however it came to its links, and lives through its talk, with no premise (this project's own).
use Rattle.std.specs.Prelude.{false, List, Option}
use Rattle.radio_world.specs.bt_base.specs.Objects.{Contents}
use Rattle.radio_world.specs.push_script.specs.declared.scenario.Scenario.{Scenario}
use Rattle.radio_world.specs.push_terms.specs.declared.word.Side.TheVariants as sides
use Rattle.radio_world.specs.capture.specs.Entries.{Entry}
use Rattle.host_laws.specs.host_model.specs.Clients.{client_profile}
use Rattle.host_laws.specs.host_model.specs.Hosts.{first_host}
use Rattle.host_laws.specs.Calls.{HostsAsk}
use Rattle.host_laws.specs.OverLinks.{TalksOverLinks}
use Rattle.scenario_laws.specs.Captures.{Ran}
use Rattle.scenario_laws.specs.Coming.{CameOver}
use Rattle.scenario_laws.specs.Gentle.{AreFreeUp}

-- Where host a hears a PDU or its timer fires, nothing is held back, and a firing says what waits to be given behind it.
abbrev pub ClientsAreFree : Type 0
ClientsAreFree = (scenario : Scenario) (content : Option Contents) (capture : List Entry) (ran : Ran scenario content capture) (came : CameOver (client_profile scenario.settings) sides.A capture ran.world.a.upper)
    → AreFreeUp (client_profile scenario.settings) false came.over.acts (first_host (client_profile scenario.settings))

-- So it lives so that on each of its links its own talk is what moved there, but for what it gave up.
abbrev pub ClientsLiveOverLinks : Type 0
ClientsLiveOverLinks = (asks : HostsAsk) (scenario : Scenario) (content : Option Contents) (capture : List Entry) (ran : Ran scenario content capture) (came : CameOver (client_profile scenario.settings) sides.A capture ran.world.a.upper)
    → TalksOverLinks (client_profile scenario.settings) (asks.clients scenario.settings) came.talk ran.world.a.upper
