-- Host b of a run serves in order.
use Rattle.std.specs.Prelude.{◌≡◌, true, List}
use Rattle.std.specs.List.{AllByRecursion, flat_map}
use Rattle.pair_laws.specs.bt_base.specs.declared.settings.Transport.TheVariants.{L2cap}
use Rattle.pair_laws.specs.bt_base.specs.Objects.{Object}
use Rattle.pair_laws.specs.push_script.specs.declared.scenario.Scenario.{Scenario}
use Rattle.pair_laws.specs.capture.specs.Entries.{Entry}
use Rattle.pair_laws.specs.channel_model.specs.Policies.{policy}
use Rattle.pair_laws.specs.push_terms.specs.declared.word.Side.TheVariants as sides
use Rattle.std.proofs.Common.{subst}
use Rattle.pair_laws.specs.host_model.specs.Clients.{client_profile}
use Rattle.pair_laws.specs.host_model.specs.Servers.{server_profile}
use Rattle.pair_laws.specs.host_laws.specs.Calls.{HostsAsk}
use Rattle.pair_laws.specs.host_laws.specs.InOrder.{AsksForOneObject, AsksNoChannels, IsWhole, IsServedInOrder}
use Rattle.pair_laws.specs.host_laws.specs.Lives.{on_links}
use Rattle.pair_laws.specs.host_laws.specs.OverLinks.{parts, moved_in, talk_marks, TalksOverLinks}
use Rattle.pair_laws.specs.host_laws.proofs.InOrder.{servers-are_served_in_order}
use Rattle.pair_laws.specs.host_laws.proofs.OverLinks.{hosts_talk_fed}
use Rattle.pair_laws.specs.scenario_laws.specs.Captures.{Ran}
use Rattle.pair_laws.specs.scenario_laws.specs.Coming.{CameOver}
use Rattle.pair_laws.specs.scenario_laws.specs.Gains.{holding, serving, asked_by}
use Rattle.pair_laws.specs.scenario_laws.proofs.Free.{free_runs_are_gentle}
use Rattle.pair_laws.specs.scenario_laws.proofs.Orderly.{parts-are_asked}
use Rattle.request_laws.specs.Runs.{RunsAreFed, ServersServeInOrder}
use Rattle.request_laws.proofs.Heard.{requests_of_links_are_heard}

pub runs_are_fed : RunsAreFed
runs_are_fed asks scenario content capture ran =
    let gentle = free_runs_are_gentle scenario content capture ran in
    record {
      a = record { came = gentle.a.came; fed = hosts_talk_fed (client_profile scenario.settings) (asks.clients scenario.settings) gentle.a.came.talk ran.world.a.upper gentle.a.came.over gentle.a.gently };
      b = record { came = gentle.b.came; fed = hosts_talk_fed (server_profile scenario.settings content) (asks.servers scenario.settings content) gentle.b.came.talk ran.world.b.upper gentle.b.came.over gentle.b.gently };
    }

-- host b of a run is served in order
pub is_in_order : (asks : HostsAsk) (scenario : Scenario) (before : List Object) (capture : List Entry) (ran : Ran scenario (holding before) capture) → scenario.settings.transport ≡ L2cap
    → AsksNoChannels (serving scenario.settings before) (asked_by asks scenario.settings before) → (came : CameOver (serving scenario.settings before) sides.B capture ran.world.b.upper) (so : TalksOverLinks (serving scenario.settings before) (asked_by asks scenario.settings before) came.talk ran.world.b.upper)
    → AllByRecursion (IsWhole (policy scenario.settings true)) (on_links (serving scenario.settings before) (asked_by asks scenario.settings before) (flat_map talk_marks came.talk) ran.world.b.upper so.lives)
    → IsServedInOrder scenario.settings (holding before) (asked_by asks scenario.settings before) came.talk ran.world.b.upper so
is_in_order asks scenario before capture ran direct nothing came so whole =
    let sought = subst (λ T. AllByRecursion (λ part. AsksForOneObject T (moved_in part)) (parts came.talk)) direct (parts-are_asked scenario (holding before) capture ran (parts came.talk) came.fall) in
    servers-are_served_in_order scenario.settings (holding before) (asked_by asks scenario.settings before) came.talk ran.world.b.upper so nothing sought whole

pub servers_serve_in_order : ServersServeInOrder
servers_serve_in_order asks scenario before capture ran direct both serves nothing =
    let came = both.b.came in
    let order = is_in_order asks scenario before capture ran direct nothing came both.b.fed.so serves.whole in
    record {
      came = came;
      so = both.b.fed.so;
      comes = requests_of_links_are_heard asks scenario.settings before direct both.a.came.talk came.talk ran.world.a.upper ran.world.b.upper both.a.fed both.b.fed serves.heard order.direct;
      direct = order.direct;
      carried = order.carried;
      carries = order.carries;
      granted = order.granted;
    }
