-- How the client of a run came to what moved on its link, with what its search went through there (Core 5.1, Volume 3 Part B, 4.2 and 4.7).
use Rattle.std.specs.Prelude.{List, Option, Some, None}
use Rattle.radio_world.specs.bt_base.specs.Objects.{Contents}
use Rattle.radio_world.specs.bt_base.specs.declared.settings.Settings.{Settings}
use Rattle.radio_world.specs.push_script.specs.declared.scenario.Scenario.{Scenario}
use Rattle.radio_world.specs.push_terms.specs.declared.word.Side.TheVariants as sides
use Rattle.radio_world.specs.capture.specs.Links.{Link, link_up}
use Rattle.radio_world.specs.capture.specs.Pdus.{Pdu, pdus}
use Rattle.host_laws.specs.world_model.specs.Worlds.{Happening, IsAtRest, all_entries}
use Rattle.host_laws.specs.host_model.specs.Hosts.{Host}
use Rattle.host_laws.specs.host_model.specs.Clients.{ClientProfile, client_profile}
use Rattle.host_laws.specs.Calls.{Asks, HostsAsk}
use Rattle.host_laws.specs.Calm.{TalksSo}
use Rattle.host_laws.specs.Searching.{AsksAsItSteps, SearchesOn}
use Rattle.host_laws.specs.SearchOrder.{SearchesWell}
use Rattle.scenario_laws.specs.Captures.{client_of, server_of, BothHosts, Happened}
use Rattle.scenario_laws.specs.Coming.{CameUp}

-- It came by a talk to what moved on its link and lived so through it that what happened there is the search of a push, for which the link came
-- up; and it searches in order, with memory.
pub record CameSearching (settings : Settings) (asks : Asks (client_profile settings)) (moved : List Pdu) (now : Host ClientProfile) : Type 0 where
  pub came : CameUp (client_profile settings) moved now
  pub so : TalksSo (client_profile settings) asks came.talk now came.on
  pub first : ClientProfile
  pub searches : SearchesOn settings asks so.lives.now first now.profile
  pub well : SearchesWell now

-- on the link that is up, if there is one
abbrev pub CameSearchingAt : (settings : Settings) → Asks (client_profile settings) → Option Link → Host ClientProfile → Type 0
CameSearchingAt settings asks None now = Unit {0}
CameSearchingAt settings asks (Some link) now = CameSearching settings asks (pdus link) now

-- So does host a, wherever a run is at rest, whatever its ports answer and whatever the script says.
abbrev pub RunsSearch : Type 0
RunsSearch = (asks : HostsAsk) (scenario : Scenario) (content : Option Contents) (happenings : List Happening) (world : BothHosts) → AsksAsItSteps scenario.settings (asks.clients scenario.settings)
    → Happened scenario content happenings world → IsAtRest (client_of scenario) (server_of scenario content) world
    → CameSearchingAt scenario.settings (asks.clients scenario.settings) (link_up sides.A (all_entries happenings)) world.a.upper
