-- Hosts that keep their settings: one machine for a host of any settings (this project's own).
use Rattle.std.specs.Prelude.{ℕ, ◌≡◌, ◌<◌, false, List, Option, Some, None, option_map}
use Rattle.std.proofs.Common.{arith, subst}
use Rattle.rest_laws.specs.bt_base.specs.declared.settings.Settings.{Settings}
use Rattle.rest_laws.specs.bt_base.specs.declared.settings.Transport.TheVariants as transports
use Rattle.rest_laws.specs.bt_base.specs.declared.settings.Serves.TheVariants as services
use Rattle.rest_laws.specs.world_model.specs.Machines.{Upper}
use Rattle.host_model.specs.Circumstances.{Circumstance}
use Rattle.host_model.specs.Profiles.{Profile}
use Rattle.host_model.specs.Hosts.{Host, next}
use Rattle.host_model.specs.Clients.{ClientProfile, client_profile}
use Rattle.host_model.specs.Servers.{ServerProfile, server_profile}
use Rattle.host_model.specs.Saying.{Fewer, says_fewer}
use Rattle.host_model.specs.Machines.{upper}

-- a host, and what it is set to
pub record SetHost (P : Type 0) : Type 0 where
  pub settings : Settings
  pub host : Host P

abbrev pub set_to : {P : Type 0} → Settings → Host P → SetHost P
set_to settings host = record { settings = settings; host = host }

-- what a host of those settings says next, and what it is then
abbrev pub said_with : {P : Type 0} → Settings → Option (List ℕ × Host P) → Option (List ℕ × SetHost P)
said_with settings said = option_map (λ one. (one.0, set_to settings one.1)) said

-- the settings where nothing else is said
abbrev pub plain_settings : Settings
plain_settings = record {
  transport = transports.L2cap;
  serves = services.Both;
  mtu = 1024;
  mps = 1010;
  window = 10;
  tries = 4;
  credits = 7;
  obex = 1024;
  srm = false;
  mtu_low = omega arith;
  mtu_high = omega arith;
  mps_low = omega arith;
  mps_high = omega arith;
  window_low = omega arith;
  window_high = omega arith;
  tries_low = omega arith;
  tries_high = omega arith;
  credits_low = omega arith;
  credits_high = omega arith;
  obex_low = omega arith;
  obex_high = omega arith;
}

abbrev FewerWith : {P : Type 0} → ℕ → Option (List ℕ × SetHost P) → Type 0
FewerWith count None = Unit {0}
FewerWith count (Some one) = one.1.host.may_say < count

fewer_with : {P : Type 0} (settings : Settings) (count : ℕ) (said : Option (List ℕ × Host P)) → Fewer count said → FewerWith count (said_with settings said)
fewer_with settings count None fewer = tt
fewer_with settings count (Some one) fewer = fewer

pub falls_with : {P : Type 0} (A : Profile P) (settings : Settings) (host : Host P) (pdu : List ℕ) (after : SetHost P) → said_with settings (next A host) ≡ Some (pdu, after) → after.host.may_say < host.may_say
falls_with A settings host pdu after is = subst (FewerWith host.may_say) is (fewer_with settings host.may_say (next A host) (says_fewer A host))

-- at each moment it is the machine of its settings, which stay
abbrev pub with_settings : {P : Type 0} → (Settings → Profile P) → Upper (SetHost P) Circumstance
with_settings profile = record {
  first = set_to plain_settings (upper (profile plain_settings)).first;
  hear = λ answers news s. set_to s.settings ((upper (profile s.settings)).hear answers news s.host);
  next = λ s. said_with s.settings ((upper (profile s.settings)).next s.host);
  left = λ s. (upper (profile s.settings)).left s.host;
  falls = λ s pdu after is. falls_with (profile s.settings) s.settings s.host pdu after is;
  wants_link = λ s. (upper (profile s.settings)).wants_link s.host;
  leaves_link = λ s. (upper (profile s.settings)).leaves_link s.host;
  is_idle = λ s. (upper (profile s.settings)).is_idle s.host;
  outcome = λ s. (upper (profile s.settings)).outcome s.host;
  armed = λ s. (upper (profile s.settings)).armed s.host;
  may_cancel = λ s. (upper (profile s.settings)).may_cancel s.host;
  has_check = λ s own. (upper (profile s.settings)).has_check s.host own;
}

-- a client, and a server, whose state at first says what its inbox holds
abbrev pub client_machine : Upper (SetHost ClientProfile) Circumstance
client_machine = with_settings client_profile

abbrev pub server_machine : Upper (SetHost ServerProfile) Circumstance
server_machine = with_settings (λ settings. server_profile settings None)
