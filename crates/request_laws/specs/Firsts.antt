-- Both hosts to which nothing happened yet.
use Rattle.std.specs.Prelude.{List, []}
use Rattle.pair_laws.specs.bt_base.specs.declared.settings.Settings.{Settings}
use Rattle.pair_laws.specs.bt_base.specs.Objects.{Object}
use Rattle.pair_laws.specs.host_model.specs.Clients.{client_profile}
use Rattle.pair_laws.specs.host_model.specs.Hosts.{first_host}
use Rattle.pair_laws.specs.host_model.specs.Servers.{server_profile}
use Rattle.pair_laws.specs.host_laws.specs.Calls.{HostsAsk}
use Rattle.pair_laws.specs.host_laws.specs.Fed.{TalksFed}
use Rattle.request_laws.specs.BothFed.{over_stored, BothAreHeard}
use Rattle.request_laws.specs.Twists.{Set}

-- They are as the law on requests over links asks.
abbrev pub FirstHostsAreHeard : Type 0
FirstHostsAreHeard = (asks : HostsAsk) (settings : Settings) (before : List Object) →
    let set : Set = over_stored asks settings before in
    (near : TalksFed (client_profile settings) (asks.clients settings) [] (first_host (client_profile settings)))
    × (far : TalksFed (server_profile settings set.content) (asks.servers settings set.content) [] (first_host (server_profile settings set.content)))
    × BothAreHeard set [] [] (first_host (client_profile settings)) (first_host (server_profile settings set.content)) near far
