-- A host lives through what its units say: so all that is told of how hosts live holds of it, over its own units (this project's own).
use Rattle.std.specs.Prelude.{List, Option}
use Rattle.std.specs.List.{AllByRecursion}
use Rattle.scenario_laws.specs.bt_base.specs.declared.settings.Settings.{Settings}
use Rattle.scenario_laws.specs.bt_base.specs.Objects.{Contents}
use Rattle.scenario_laws.specs.bt_base.specs.Octets.{IsOctets}
use Rattle.scenario_laws.specs.push_terms.specs.declared.word.Side.{Side}
use Rattle.scenario_laws.specs.push_terms.specs.declared.word.Side.TheVariants as sides
use Rattle.scenario_laws.specs.capture.specs.Entries.{Entry}
use Rattle.scenario_laws.specs.capture.specs.Links.{Link, links}
use Rattle.scenario_laws.specs.capture.specs.Pdus.{Pdu, pdus}
use Rattle.scenario_laws.specs.host_link.specs.declared.role.Role.{Role}
use Rattle.scenario_laws.specs.host_link.specs.declared.role.Role.TheVariants.{Client, Server}
use Rattle.scenario_laws.specs.host_model.specs.Circumstances.{Circumstance}
use Rattle.scenario_laws.specs.host_model.specs.Hosts.{Host}
use Rattle.scenario_laws.specs.host_model.specs.Profiles.{Profile}
use Rattle.scenario_laws.specs.host_model.specs.Clients.{ClientProfile, client_profile}
use Rattle.scenario_laws.specs.host_model.specs.Servers.{ServerProfile, server_profile}
use Rattle.scenario_laws.specs.host_model.specs.Machines.{upper}
use Rattle.scenario_laws.specs.host_laws.specs.Calls.{Asks, HostsAsk}
use Rattle.scenario_laws.specs.host_laws.specs.OverLinks.{TalksOverLinks}
use Rattle.scenario_laws.specs.Coming.{CameOver}
use Rattle.scenario_laws.specs.Gentle.{HasOneCommand}
use Rattle.unit_laws.specs.Units.{Lined, starting, Occasion, units, lone_capture, Runs, ComesInTurn}

-- ---- what a host did

-- A host of a profile did this from its first moment on, and heard one thing at a time.
abbrev pub Did : {P : Type 0} → Profile P → Role → List (Occasion Circumstance) → Lined (Host P) → Type 0
Did A role occasions now = Runs (upper A) (ComesInTurn (upper A)) occasions (starting (upper A) role) now

-- each PDU is octets, and on the signalling channel one command (Core 5.1, Volume 3 Part A, 4)
abbrev pub HasCommand : Pdu → Type 0
HasCommand pdu = IsOctets pdu.octets × HasOneCommand pdu

abbrev pub HaveCommands : Side → List Entry → Type 0
HaveCommands side capture = AllByRecursion (λ (link : Link). AllByRecursion HasCommand (pdus link)) (links side capture)

-- ---- how it lives

-- It came by a talk to what a capture has of its links, and lives so through it that its own talk on each is what moved there, but for what it gave up,
-- and behind it what it let wait.
pub record LivesBy {P : Type 0} (A : Profile P) (asks : Asks A) (side : Side) (capture : List Entry) (now : Host P) : Type 0 where
  pub came : CameOver A side capture now
  pub so : TalksOverLinks A asks came.talk now

-- Both hosts live so by their own units.
pub record HostsLiveByUnits : Type 0 where
  pub clients : (asks : HostsAsk) (settings : Settings) (occasions : List (Occasion Circumstance)) (now : Lined (Host ClientProfile)) → Did (client_profile settings) Client occasions now
      → HaveCommands sides.A (lone_capture sides.A (units occasions)) → LivesBy (client_profile settings) (asks.clients settings) sides.A (lone_capture sides.A (units occasions)) now.upper
  pub servers : (asks : HostsAsk) (settings : Settings) (content : Option Contents) (occasions : List (Occasion Circumstance)) (now : Lined (Host ServerProfile)) → Did (server_profile settings content) Server occasions now
      → HaveCommands sides.B (lone_capture sides.B (units occasions)) → LivesBy (server_profile settings content) (asks.servers settings content) sides.B (lone_capture sides.B (units occasions)) now.upper
