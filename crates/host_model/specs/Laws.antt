-- What both hosts promise a world that they are put into, whatever their settings and whatever the inbox holds.
use Rattle.std.specs.Prelude.{ℕ, ◌≡◌, List, Option, Some}
use Rattle.rest_laws.specs.bt_base.specs.Octets.{IsOctets}
use Rattle.rest_laws.specs.bt_base.specs.declared.settings.Settings.{Settings}
use Rattle.rest_laws.specs.bt_base.specs.Objects.{Contents}
use Rattle.rest_laws.specs.Premises.{AreOrderly}
use Rattle.run_laws.specs.Embedding.{Embeds}
use Rattle.host_model.specs.Profiles.{Profile}
use Rattle.host_model.specs.Machines.{upper, client_host, server_host}
use Rattle.host_model.specs.Settings.{SetHost, set_to, with_settings, client_machine, server_machine}

-- They say PDUs alone that hosts take. A client is idle until it is to push, asks for its link as a push begins, and for one.
abbrev pub HostsAreOrderly : Type 0
HostsAreOrderly = (a b : Settings) (content : Option Contents) → AreOrderly (client_host a) (server_host b content)

-- so do they where they keep their settings
abbrev pub SetHostsAreOrderly : Type 0
SetHostsAreOrderly = AreOrderly client_machine server_machine

-- a host of any profile says octets
abbrev pub HostsSayOctets : Type 0 → Type 0
HostsSayOctets P = (profile : Settings → Profile P) (s : SetHost P) (pdu : List ℕ) (after : SetHost P) → (with_settings profile).next s ≡ Some (pdu, after) → IsOctets pdu

-- a host that keeps its settings does and tells what the machine of these settings does and tells
abbrev pub SettingsStay : Type 0 → Type 0
SettingsStay P = (profile : Settings → Profile P) (settings : Settings) → Embeds (set_to settings) (upper (profile settings)) (with_settings profile)
