-- Both hosts of a run give up no request while their link goes on, and the server waits for no services (Core 5.1, Volume 3 Part A, 4.6 and 6.2;
-- Part B, 4.2).
use Rattle.std.specs.Prelude.{◌≡◌, false, List, Option, Some}
use Rattle.radio_world.specs.bt_base.specs.Objects.{Contents}
use Rattle.radio_world.specs.push_script.specs.declared.scenario.Scenario.{Scenario}
use Rattle.radio_world.specs.push_terms.specs.declared.word.Side.TheVariants as sides
use Rattle.radio_world.specs.capture.specs.Links.{Link, link_up}
use Rattle.host_laws.specs.turn_laws.specs.Laws.{IsFront}
use Rattle.host_laws.specs.world_model.specs.Worlds.{Happening, IsAtRest, all_entries}
use Rattle.host_laws.specs.host_model.specs.Clients.{client_profile}
use Rattle.host_laws.specs.Calls.{HostsAsk}
use Rattle.host_laws.specs.Keeping.{SendsAsItLends}
use Rattle.host_laws.specs.Leaving.{is_off}
use Rattle.scenario_laws.specs.Captures.{client_of, server_of, BothHosts, Happened}
use Rattle.scenario_laws.specs.Parties.{party_of}
use Rattle.scenario_laws.specs.Plain.{KeepsOn, RestsKeepOn}

-- what is asked of both hosts at rest, of the client alone
abbrev pub ClientsKeepOn : HostsAsk → (scenario : Scenario) → Option Contents → List Happening → Type 0
ClientsKeepOn asks scenario content happenings =
    (front : List Happening) (world : BothHosts) → IsFront front happenings → Happened scenario content front world → IsAtRest (client_of scenario) (server_of scenario content) world
    → KeepsOn (client_profile scenario.settings) (asks.clients scenario.settings) (party_of scenario.settings sides.A) (link_up sides.A (all_entries front)) world.a.upper

-- The server gives up no request while its link goes on, and waits for no services: so what is asked of both hosts is asked of the client
-- alone.
abbrev pub FreeServersKeepOn : Type 0
FreeServersKeepOn = (asks : HostsAsk) (scenario : Scenario) (content : Option Contents) (happenings : List Happening) → SendsAsItLends scenario.settings content (asks.servers scenario.settings content)
    → ClientsKeepOn asks scenario content happenings → RestsKeepOn asks scenario content happenings

-- ---- the client

-- Wherever the run is at rest with a link up, a push of host a goes on over it: it uses a channel, or asks for one or for features.
abbrev pub PushesGoOn : Scenario → Option Contents → List Happening → Type 0
PushesGoOn scenario content happenings =
    (front : List Happening) (world : BothHosts) (link : Link) → IsFront front happenings → Happened scenario content front world → IsAtRest (client_of scenario) (server_of scenario content) world → link_up sides.A (all_entries front) ≡ Some link
    → is_off world.a.upper.profile.client.stage ≡ false
