-- A host holds back nothing that its channels have to give, whatever its ports answer (this project's own).
use Rattle.std.specs.Prelude.{◌≡◌, true, false, List, [], Option}
use Rattle.std.specs.List.{AllByRecursion}
use Rattle.shelf_model.specs.bt_base.specs.Objects.{Contents}
use Rattle.shelf_model.specs.bt_base.specs.declared.settings.Settings.{Settings}
use Rattle.channel_laws.specs.channel_model.specs.Policies.{policy}
use Rattle.shelf_model.specs.host_model.specs.Circumstances.{Circumstance}
use Rattle.shelf_model.specs.host_model.specs.Clients.{ClientProfile, client_profile}
use Rattle.shelf_model.specs.host_model.specs.Hosts.{Host, first_host}
use Rattle.shelf_model.specs.host_model.specs.Machines.{upper}
use Rattle.shelf_model.specs.host_model.specs.Profiles.{Profile}
use Rattle.shelf_model.specs.host_model.specs.Servers.{ServerProfile, server_profile}
use Rattle.host_laws.specs.Acts.{Act, Acting}
use Rattle.host_laws.specs.Calm.{HoldsNothingBack}
use Rattle.host_laws.specs.Read.{IsActSo}
use Rattle.host_laws.specs.Seen.{IsOneCommand, FiresPlainly}
use Rattle.host_laws.specs.Steady.{IsSteady}

-- From its first moment on, where each PDU that comes in on the signalling channel has one command at most, in octets: where the host says
-- nothing next, its channels have nothing to give. So neither the bound on what it says nor an octet that is none ever holds a PDU back.
abbrev pub HoldsBackNothing : {P : Type 0} → Profile P → Type 0
HoldsBackNothing {P} A = (acts : List (Act Circumstance)) (now : Host P) → AllByRecursion (IsActSo IsOneCommand) acts → Acting (upper A) acts (first_host A) now → HoldsNothingBack A now

-- So it is of both hosts.
pub record HostsHoldBackNothing : Type 0 where
  pub clients : (settings : Settings) → HoldsBackNothing (client_profile settings)
  pub servers : (settings : Settings) (content : Option Contents) → HoldsBackNothing (server_profile settings content)

-- Whatever a server hears of octets, no channel of it is on its way out because it asked for that: so each of its firings says what waits
-- behind it.
abbrev pub ServersFirePlainly : Type 0
ServersFirePlainly = (settings : Settings) (content : Option Contents) (acts : List (Act Circumstance)) (now : Host ServerProfile) → AllByRecursion (IsActSo IsOneCommand) acts
    → Acting (upper (server_profile settings content)) acts (first_host (server_profile settings content)) now → FiresPlainly (policy settings true) now.channels

-- Whatever a client hears, it asks for the options of a channel that it leaves as often as for its end: so where no command waits, each channel whose
-- end was asked for as often as may be asks for its options no more often, and each of its firings too says what waits behind it.
pub record ClientsFirePlainly : Type 0 where
  pub steady : (settings : Settings) (acts : List (Act Circumstance)) (now : Host ClientProfile) → Acting (upper (client_profile settings)) acts (first_host (client_profile settings)) now → now.channels.queue ≡ [] → IsSteady settings.tries now.channels
  pub fires : (settings : Settings) (acts : List (Act Circumstance)) (now : Host ClientProfile) → Acting (upper (client_profile settings)) acts (first_host (client_profile settings)) now → FiresPlainly (policy settings false) now.channels
