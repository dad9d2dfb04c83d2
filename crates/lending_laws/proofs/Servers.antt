-- A server in code goes as the server that is given what its inbox answers with each thing that it hears.
use Rattle.std.proofs.Common.{Option, inl, refl}
use Rattle.call_laws.specs.bt_host.specs.bt_base.specs.Objects.{Contents}
use Rattle.call_laws.specs.bt_host.specs.bt_base.specs.declared.settings.Settings.{Settings}
use Rattle.call_laws.specs.bt_host.specs.host_model.specs.Machines.{upper}
use Rattle.call_laws.specs.bt_host.specs.host_model.specs.Servers.{server_profile}
use Rattle.call_laws.specs.bt_host.specs.host_model.proofs.Orderly.{says_octets}
use Rattle.call_laws.specs.bt_host.specs.NotedHosts.{noted_server}
use Rattle.noting_laws.specs.Noting.{plain_host}
use Rattle.receive_laws.proofs.Alike.{IsAlike, left, hears_alike, says_alike, silent_alike}
use Rattle.lending_laws.proofs.Following.{Follows}

pub servers_follow : (settings : Settings) (content : Option Contents) → Follows (noted_server settings) (upper (server_profile settings content)) (IsAlike settings content)
servers_follow settings content = record {
  octets = λ host pdu after is. says_octets (server_profile settings content) host pdu after is;
  hears = λ answers news host there alike. (left settings content host, inl (hears_alike settings content answers news host there alike));
  says = λ host there pdu after alike is. (plain_host after, says_alike settings content host there pdu after alike is, inl refl);
  silent = λ host there alike off. silent_alike settings content host there alike off;
}
