-- Both hosts to which nothing happened yet.
use Rattle.std.proofs.Common.{[], refl}
use Rattle.pair_laws.specs.host_model.specs.Clients.{client_profile}
use Rattle.pair_laws.specs.host_model.specs.Hosts.{first_host}
use Rattle.pair_laws.specs.host_model.specs.Profiles.{Profile}
use Rattle.pair_laws.specs.host_model.specs.Servers.{server_profile}
use Rattle.pair_laws.specs.host_laws.specs.Calls.{Asks}
use Rattle.pair_laws.specs.host_laws.specs.Fed.{TalksFed}
use Rattle.request_laws.specs.BothFed.{over_stored}
use Rattle.request_laws.specs.Firsts.{FirstHostsAreHeard}

abbrev first_fed : {P : Type 0} (A : Profile P) (asks : Asks A) → TalksFed A asks [] (first_host A)
first_fed A asks = record {
  so = record {
    lives = record { spans = []; now = []; feeds = []; channels_run = refl; all_told = refl; spans_told = tt; profile_is = refl; tidings_are = refl; asked_are = refl; marks_are = refl };
    timely = tt;
    talks_are = (record { outer_is = refl; waits = []; talk_is = refl; go_out = tt }, tt);
  };
  fed = record { woven = record { weave = []; list_is = refl; last_is = refl; on_link = tt }; feeds_are = refl };
}

pub first_hosts_are_heard : FirstHostsAreHeard
first_hosts_are_heard asks settings before =
    let set = over_stored asks settings before in
    (first_fed (client_profile settings) (asks.clients settings), first_fed (server_profile settings set.content) (asks.servers settings set.content), record { twined = tt; small = tt; granted = tt })
