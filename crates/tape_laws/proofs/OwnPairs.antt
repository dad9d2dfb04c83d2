-- A server that keeps what its inbox is to answer is one end of pairs, as the one with the tape of that.
use Rattle.std.proofs.Common.{◌≡◌, Bool, List, Option, inl, inr, refl, sym, ap, subst}
use Rattle.inbox_laws.specs.bt_base.specs.Objects.{Object, Contents}
use Rattle.inbox_laws.specs.obex_session.specs.InboxCalls.{Answer}
use Rattle.inbox_laws.specs.push_script.specs.declared.scenario.Scenario.{Scenario}
use Rattle.inbox_laws.specs.capture.specs.Entries.{Entry}
use Rattle.inbox_laws.specs.world_model.specs.Pushes.{Pushes}
use Rattle.inbox_laws.specs.world_model.specs.Worlds.{all_words}
use Rattle.inbox_laws.specs.air_laws.specs.AirLaws.{IsLastEnd}
use Rattle.inbox_laws.specs.alike_laws.specs.Twins.{IsOther, WorldsAlike, world_with}
use Rattle.inbox_laws.specs.host_model.specs.Clients.{ClientProfile}
use Rattle.inbox_laws.specs.host_model.specs.Hosts.{Host, first_host}
use Rattle.inbox_laws.specs.host_model.specs.Servers.{ServerProfile, server_profile}
use Rattle.inbox_laws.specs.host_laws.specs.Calls.{HostsAsk}
use Rattle.inbox_laws.specs.host_laws.specs.Feeds.{Feed}
use Rattle.inbox_laws.specs.scenario_laws.specs.Captures.{client_of, Happened, Ran}
use Rattle.inbox_laws.specs.shelf_model.specs.Held.{held_by}
use Rattle.inbox_laws.specs.pair_laws.specs.Keeping.{LosesNothing}
use Rattle.inbox_laws.specs.pair_laws.specs.Served.{holding_on}
use Rattle.inbox_laws.specs.pair_laws.proofs.Answered.{runs-so}
use Rattle.inbox_laws.specs.pair_laws.proofs.Carrying.{as_it_is}
use Rattle.tape_laws.specs.Once.{once, SpendsOnce}
use Rattle.tape_laws.specs.Own.{own_server, AreOneServer}
use Rattle.tape_laws.specs.OwnPairs.{own_beginning, RanOwn, IsThereToo, OwnInOrder, OwnServersKeepOrder}
use Rattle.tape_laws.specs.Pairs.{TapedHosts, taped_of, taped_beginning, HappenedTapedHeld}
use Rattle.tape_laws.specs.Runs.{untaped_world}
use Rattle.tape_laws.specs.Taped.{Taped, untaped_host}
use Rattle.tape_laws.proofs.Hearing.{taped_runs_are_runs}
use Rattle.tape_laws.proofs.Once.{servers_hear_news_alone, servers_spend_once}
use Rattle.tape_laws.proofs.Order.{taped_keep_order}
use Rattle.tape_laws.proofs.Own.{own_servers_are_taped}

module _ (asks : HostsAsk) (scenario : Scenario) (shelf : Option (List Object)) (content : Option Contents) (answers : List Answer) (capture : List Entry) (own : RanOwn scenario shelf content answers capture) where
  abbrev On : Type 0
  On = Host (Taped ServerProfile Bool)

  abbrev Alike : TapedHosts Bool → Type 0
  Alike there = WorldsAlike (λ (s t : Host ClientProfile). t ≡ s) (AreOneServer scenario.settings content answers) own.world there

  other_so : (plain : Host ServerProfile) (host : On) → AreOneServer scenario.settings content answers plain host → IsOther (first_host (own_server scenario.settings content answers)) (first_host (server_profile scenario.settings content)) plain (untaped_host host)
  other_so plain host (inl (is, run)) = inl (sym is)
  other_so plain host (inr (is, first)) = inr (is, ap untaped_host first)

  pub there_so : (there : TapedHosts Bool) → Alike there → IsThereToo scenario content answers own.world (untaped_world there)
  there_so there alike = record {
    a = alike.a;
    b = other_so own.world.b.upper there.b.upper alike.b;
    same = ap (λ (w : TapedHosts Bool). world_with there.a.upper (untaped_host there.b.upper) w) alike.same;
  }

  pub bare_so : (there : TapedHosts Bool) → HappenedTapedHeld scenario shelf content (once answers) own.happenings there → Happened scenario content own.happenings (untaped_world there)
  bare_so there happened =
      let begins = taped_beginning scenario content (once answers) in
      taped_runs_are_runs (client_of scenario) (server_profile scenario.settings content) (once answers) (servers_hear_news_alone scenario.settings content) own.happenings begins there
      (runs-so (client_of scenario) (taped_of scenario content (once answers)) (held_by shelf) as_it_is own.happenings begins there happened)

  of_tape : (there : TapedHosts Bool) → Alike there → HappenedTapedHeld scenario shelf content (once answers) own.happenings there → LosesNothing (all_words own.happenings) → OwnInOrder asks scenario shelf content answers capture own
  of_tape there alike happened gentle =
      let last : IsLastEnd there.pushes own.ends = subst (λ (pushes : Pushes). IsLastEnd pushes own.ends) (sym (ap (λ (w : TapedHosts Bool). w.pushes) alike.same)) own.last in
      let ran : Ran scenario content capture = record { happenings = own.happenings; world = untaped_world there; happened = bare_so there happened; ends = own.ends; last = last; capture_is = own.capture_is } in
      let so = taped_keep_order scenario content (once answers) asks shelf capture ran there happened refl gentle in
      record {
        ran = ran;
        happenings_are = refl;
        there = there_so there alike;
        order = so.order;
        told = so.told;
        spends = subst (λ (feeds : List Feed). SpendsOnce scenario.settings content answers feeds) (sym so.given.2) (servers_spend_once scenario.settings content answers so.given.0 so.given.1);
      }

pub own_servers_keep_order : OwnServersKeepOrder
own_servers_keep_order asks scenario shelf content answers capture own gentle =
    let (there, alike, happened) = own_servers_are_taped (holding_on shelf (client_of scenario)) scenario.settings content answers own.happenings (own_beginning scenario content answers) own.world refl own.happened in
    of_tape asks scenario shelf content answers capture own there alike happened gentle
