-- Both hosts as upper machines of a world of turns (this project's own).
use Rattle.std.specs.Prelude.{Option, ◌||◌, ◌&&◌, not}
use Rattle.rest_laws.specs.bt_base.specs.declared.settings.Settings.{Settings}
use Rattle.rest_laws.specs.bt_base.specs.Objects.{Contents}
use Rattle.channel_model.specs.Calls as channels
use Rattle.rest_laws.specs.world_model.specs.Machines.{Upper}
use Rattle.host_model.specs.Circumstances.{Circumstance}
use Rattle.host_model.specs.Profiles.{Profile}
use Rattle.host_model.specs.Hosts.{Host, first_host, hear, next, has_more}
use Rattle.host_model.specs.Clients.{ClientProfile, client_profile}
use Rattle.host_model.specs.Servers.{ServerProfile, server_profile}
use Rattle.host_model.specs.Saying.{says_less}

-- it ends a link once it has said all
abbrev pub upper : {P : Type 0} → Profile P → Upper (Host P) Circumstance
upper A = record {
  first = first_host A;
  hear = hear A;
  next = next A;
  left = λ host. host.may_say;
  falls = says_less A;
  wants_link = λ host. A.wants_link host.profile;
  leaves_link = λ host. not (has_more host) && A.leaves_link host.profile;
  is_idle = λ host. A.is_idle host.profile;
  outcome = λ host. A.outcome host.profile;
  armed = λ host. channels.armed host.channels || A.armed host.profile;
  may_cancel = λ host. A.may_cancel host.profile;
  has_check = λ host own. channels.has_fcs own host.channels;
}

abbrev pub client_host : Settings → Upper (Host ClientProfile) Circumstance
client_host settings = upper (client_profile settings)

abbrev pub server_host : Settings → Option Contents → Upper (Host ServerProfile) Circumstance
server_host settings content = upper (server_profile settings content)
