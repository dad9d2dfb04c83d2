-- The server of a run is free, however it came to its links, and lives through its talk, with no premise (this project's own).
use Rattle.std.specs.Prelude.{false, List, Option}
use Rattle.radio_world.specs.bt_base.specs.Objects.{Contents}
use Rattle.radio_world.specs.push_script.specs.declared.scenario.Scenario.{Scenario}
use Rattle.radio_world.specs.push_terms.specs.declared.word.Side.TheVariants as sides
use Rattle.radio_world.specs.capture.specs.Entries.{Entry}
use Rattle.radio_world.specs.capture.specs.Links.{link_up}
use Rattle.host_laws.specs.world_model.specs.Worlds.{Happening, IsAtRest, all_entries}
use Rattle.host_laws.specs.host_model.specs.Hosts.{Host, first_host}
use Rattle.host_laws.specs.host_model.specs.Servers.{server_profile}
use Rattle.host_laws.specs.Calls.{HostsAsk}
use Rattle.host_laws.specs.OverLinks.{TalksOverLinks}
use Rattle.scenario_laws.specs.Captures.{client_of, server_of, BothHosts, Happened, Ran}
use Rattle.scenario_laws.specs.Coming.{CameOver}
use Rattle.scenario_laws.specs.Gentle.{AreFreeUp, CameSoAt}

-- Where host b hears a PDU or its timer fires, nothing is held back, and a firing says what waits to be given behind it.
abbrev pub ServersAreFree : Type 0
ServersAreFree = (scenario : Scenario) (content : Option Contents) (capture : List Entry) (ran : Ran scenario content capture) (came : CameOver (server_profile scenario.settings content) sides.B capture ran.world.b.upper)
    → AreFreeUp (server_profile scenario.settings content) false came.over.acts (first_host (server_profile scenario.settings content))

-- So it lives so that on each of its links its own talk is what moved there, but for what it gave up.
abbrev pub ServersLiveOverLinks : Type 0
ServersLiveOverLinks = (asks : HostsAsk) (scenario : Scenario) (content : Option Contents) (capture : List Entry) (ran : Ran scenario content capture) (came : CameOver (server_profile scenario.settings content) sides.B capture ran.world.b.upper)
    → TalksOverLinks (server_profile scenario.settings content) (asks.servers scenario.settings content) came.talk ran.world.b.upper

-- And wherever a run is at rest, host b came by a talk to what moved on the link that is up, and lives so that what its channels said and
-- heard is that.
abbrev pub ServersRestSo : Type 0
ServersRestSo = (asks : HostsAsk) (scenario : Scenario) (content : Option Contents) (happenings : List Happening) (world : BothHosts) → Happened scenario content happenings world → IsAtRest (client_of scenario) (server_of scenario content) world
    → CameSoAt (server_profile scenario.settings content) (asks.servers scenario.settings content) (link_up sides.B (all_entries happenings)) world.b.upper
