-- Hosts that keep their settings.
use Rattle.std.proofs.Common.{◌≡◌, ℕ, false, true, List, Option, Some, None, refl, sym, ap, subst, ◌∙◌}
use Rattle.rest_laws.specs.bt_base.specs.Octets.{IsOctets}
use Rattle.rest_laws.specs.bt_base.specs.declared.settings.Settings.{Settings}
use Rattle.rest_laws.specs.turn_laws.specs.Premises.{IsFrame, SaysFrames, Idles}
use Rattle.rest_laws.specs.Premises.{AsksOnce}
use Rattle.host_model.specs.Profiles.{Profile}
use Rattle.host_model.specs.Hosts.{Host, next}
use Rattle.host_model.specs.Clients.{client_profile}
use Rattle.host_model.specs.Servers.{server_profile}
use Rattle.host_model.specs.Settings.{SetHost, set_to, said_with, plain_settings, with_settings, client_machine}
use Rattle.host_model.specs.Laws.{SetHostsAreOrderly, HostsSayOctets, SettingsStay}
use Rattle.host_model.proofs.Orderly.{says_frames, says_octets, idles, asks_once}

-- what a host with settings says is what the host says
abbrev SaidBy : {P : Type 0} → Settings → Option (List ℕ × Host P) → List ℕ → SetHost P → Type 0
SaidBy {P} settings said pdu after = (host : Host P) × (said ≡ Some (pdu, host)) × (after ≡ set_to settings host)

first_of : {T : Type 0} → List ℕ → Option (List ℕ × T) → List ℕ
first_of other None = other
first_of other (Some one) = one.0

second_of : {T : Type 0} → T → Option (List ℕ × T) → T
second_of other None = other
second_of other (Some one) = one.1

pub said_by : {P : Type 0} (settings : Settings) (said : Option (List ℕ × Host P)) (pdu : List ℕ) (after : SetHost P) → said_with settings said ≡ Some (pdu, after) → SaidBy settings said pdu after
unfolding first_of second_of
said_by settings None pdu after is = cc
said_by settings (Some one) pdu after is = (one.1, ap (λ (x : List ℕ). Some (x, one.1)) (ap (first_of pdu) is), sym (ap (second_of after) is))

module _ {P : Type 0} (profile : Settings → Profile P) where
  frames : SaysFrames (with_settings profile)
  frames s pdu after is = let said = said_by s.settings (next (profile s.settings) s.host) pdu after is in says_frames (profile s.settings) s.host pdu said.0 said.1

  octets : (s : SetHost P) (pdu : List ℕ) (after : SetHost P) → (with_settings profile).next s ≡ Some (pdu, after) → IsOctets pdu
  octets s pdu after is = let said = said_by s.settings (next (profile s.settings) s.host) pdu after is in says_octets (profile s.settings) s.host pdu said.0 said.1

client_idles : Idles client_machine
client_idles = record {
  first = (idles plain_settings).first;
  wants_none = λ s is. (idles s.settings).wants_none s.host is;
  hears = λ answers news s aside is. (idles s.settings).hears answers news s.host aside is;
  says = λ s pdu after same is.
      let said = said_by s.settings (next (client_profile s.settings) s.host) pdu after same in
      ap (λ t. client_machine.is_idle t) said.2 ∙ (idles s.settings).says s.host pdu said.0 said.1 is;
}

client_asks_once : AsksOnce client_machine
client_asks_once = record {
  comes = λ answers s. (asks_once s.settings).comes answers s.host;
  hears = λ answers news s aside is. (asks_once s.settings).hears answers news s.host aside is;
  says = λ s pdu after same is.
      let said = said_by s.settings (next (client_profile s.settings) s.host) pdu after same in
      ap (λ t. client_machine.wants_link t) said.2 ∙ (asks_once s.settings).says s.host pdu said.0 said.1 is;
}

pub set_hosts_are_orderly : SetHostsAreOrderly
set_hosts_are_orderly = record { frames_a = frames client_profile; frames_b = frames (λ settings. server_profile settings None); idles = client_idles; once = client_asks_once }

pub hosts_say_octets : {P : Type 0} → HostsSayOctets P
hosts_say_octets profile = octets profile

pub settings_stay : {P : Type 0} → SettingsStay P
settings_stay profile settings = record {
  hear = λ answers news s. refl;
  next = λ s. refl;
  wants_link = λ s. refl;
  leaves_link = λ s. refl;
  is_idle = λ s. refl;
  outcome = λ s. refl;
  armed = λ s. refl;
  may_cancel = λ s. refl;
  has_check = λ s own. refl;
}
