-- A run of the world of both hosts of a scenario, and its capture (this project's own).
use Rattle.std.specs.Prelude.{◌≡◌, List, ◌++◌, Option}
use Rattle.radio_world.specs.bt_base.specs.Objects.{Contents}
use Rattle.radio_world.specs.push_script.specs.declared.scenario.Scenario.{Scenario}
use Rattle.radio_world.specs.capture.specs.Air.{words_of}
use Rattle.radio_world.specs.capture.specs.Entries.{Entry}
use Rattle.host_laws.specs.world_model.specs.Machines.{Upper}
use Rattle.host_laws.specs.world_model.specs.Worlds.{World, Happening, IsAtRest, Runs, all_entries, all_words, first_world}
use Rattle.host_laws.specs.turn_laws.specs.Laws.{IsFront}
use Rattle.host_laws.specs.air_laws.specs.AirLaws.{IsLastEnd}
use Rattle.host_laws.specs.host_model.specs.Circumstances.{Circumstance}
use Rattle.host_laws.specs.host_model.specs.Hosts.{Host}
use Rattle.host_laws.specs.host_model.specs.Clients.{ClientProfile}
use Rattle.host_laws.specs.host_model.specs.Servers.{ServerProfile}
use Rattle.host_laws.specs.host_model.specs.Machines.{client_host, server_host}

-- both hosts as a scenario sets them; the inbox holds that at first, where it tells what it holds
abbrev pub client_of : Scenario → Upper (Host ClientProfile) Circumstance
client_of scenario = client_host scenario.settings

abbrev pub server_of : Scenario → Option Contents → Upper (Host ServerProfile) Circumstance
server_of scenario content = server_host scenario.settings content

abbrev pub BothHosts : Type 0
BothHosts = World (Host ClientProfile) (Host ServerProfile)

abbrev pub beginning : Scenario → Option Contents → BothHosts
beginning scenario content = first_world (client_of scenario) (server_of scenario content) scenario.acl_length scenario.acl_count scenario.names

-- all that happened from the first moment on, whatever shelf and inbox answered
abbrev pub Happened : Scenario → Option Contents → List Happening → BothHosts → Type 0
Happened scenario content happenings world = Runs (client_of scenario) (server_of scenario content) happenings (beginning scenario content) world

-- The scenario ran, wherever the run broke off, and this is its capture: what moved, what the words did and the pushes. The end of the
-- push that goes on may stand behind all that happened.
pub record Ran (scenario : Scenario) (content : Option Contents) (capture : List Entry) : Type 0 where
  pub happenings : List Happening
  pub world : BothHosts
  pub happened : Happened scenario content happenings world
  pub ends : List Entry
  pub last : IsLastEnd world.pushes ends
  pub capture_is : capture ≡ all_entries happenings ++ ends

-- It ran to its end: all words of its script were turned, and all is at rest.
pub record Finished (scenario : Scenario) (content : Option Contents) (capture : List Entry) : Type 0 where
  pub ran : Ran scenario content capture
  pub words_are : all_words ran.happenings ≡ words_of scenario.script
  pub rests : IsAtRest (client_of scenario) (server_of scenario content) ran.world

-- Each front of a capture is the capture of a run: so what is so of captures of runs is so at each moment of them.
abbrev pub FrontsRan : Type 0
FrontsRan = (scenario : Scenario) (content : Option Contents) (capture front : List Entry) → Ran scenario content capture → IsFront front capture → Ran scenario content front
