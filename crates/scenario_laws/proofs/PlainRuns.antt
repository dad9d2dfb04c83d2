-- Both hosts of every run are plain wherever it is at rest.
use Rattle.std.proofs.Common.{◌≡◌, List, [], Option, Some, None, refl, sym, ap, subst, ◌∙◌, append-nil}
use Rattle.radio_world.specs.bt_base.specs.Objects.{Contents}
use Rattle.radio_world.specs.push_script.specs.declared.scenario.Scenario.{Scenario}
use Rattle.radio_world.specs.push_terms.specs.declared.word.Side.TheVariants as sides
use Rattle.radio_world.specs.capture.specs.Links.{Link, link_up}
use Rattle.radio_world.specs.capture.specs.Pdus.{pdus}
use Rattle.host_laws.specs.channel_model.specs.Calls.{armed}
use Rattle.host_laws.specs.channel_model.specs.Value.{Channels}
use Rattle.host_laws.specs.channel_laws.specs.Runs.{run_of}
use Rattle.host_laws.specs.push_model.specs.declared.course.Stage.{Stage}
use Rattle.host_laws.specs.world_model.specs.Worlds.{Happening, IsAtRest, all_entries}
use Rattle.host_laws.specs.host_model.specs.Profiles.{Profile}
use Rattle.host_laws.specs.host_model.specs.Clients.{ClientProfile, client_profile}
use Rattle.host_laws.specs.host_model.specs.Servers.{server_profile}
use Rattle.host_laws.specs.Calls.{Asks, HostsAsk}
use Rattle.host_laws.specs.Searching.{AsksAsItSteps}
use Rattle.host_laws.specs.SearchOrder.{AsksInOrder}
use Rattle.host_laws.proofs.KeepingClients.{clients_keep_on}
use Rattle.host_laws.proofs.SearchingWeave.{clients_await_services}
use Rattle.host_laws.proofs.Stepping.{hosts_ask_as_they_step}
use Rattle.scenario_laws.specs.Captures.{client_of, server_of, BothHosts, Happened}
use Rattle.scenario_laws.specs.Parties.{party_of}
use Rattle.scenario_laws.specs.Plain.{IsPlain, IsPlainAt, ArePlain}
use Rattle.scenario_laws.specs.PlainRuns.{RunsArePlain}
use Rattle.scenario_laws.specs.Searched.{CameSearching, CameSearchingAt}
use Rattle.scenario_laws.proofs.Free.{free_rests_are_lived, plain_at}
use Rattle.scenario_laws.proofs.Freeing.{runs_are_free}
use Rattle.scenario_laws.proofs.Keeping.{server_keeps}
use Rattle.scenario_laws.proofs.Onward.{pushes_go_onward}
use Rattle.scenario_laws.proofs.Searched.{runs_search}

as_quiet : (v w : Channels) → v ≡ w → v.events ≡ [] → w.events ≡ []
as_quiet v w same none = ap (λ (x : Channels). x.events) (sym same) ∙ none

-- the client of a link that is up
module _ (asks : HostsAsk) (scenario : Scenario) (content : Option Contents) (steps : AsksAsItSteps scenario.settings (asks.clients scenario.settings)) where
  abbrev A : Profile ClientProfile
  A = client_profile scenario.settings

  abbrev mine : Asks A
  mine = asks.clients scenario.settings

  client_linked : (front : List Happening) (world : BothHosts) (link : Link) → Happened scenario content front world → IsAtRest (client_of scenario) (server_of scenario content) world → link_up sides.A (all_entries front) ≡ Some link
      → CameSearching scenario.settings mine (pdus link) world.a.upper → IsPlain A mine (party_of scenario.settings sides.A) (pdus link) world.a.upper
  client_linked front world link there rest up found =
      let now = world.a.upper in
      let lives = found.so.lives in
      let none = as_quiet now.channels (run_of A.policy lives.now).value lives.channels_run lives.all_told in
      let goes = pushes_go_onward scenario content front front world link ([], sym (append-nil front)) there rest up in
      record {
        came = found.came;
        so = found.so;
        keeps_on = clients_keep_on scenario.settings mine lives.now found.first now.profile found.searches.woven none goes;
        awaits = λ quiet.
            clients_await_services scenario.settings mine (party_of scenario.settings sides.A) lives.now found.first now.profile steps found.searches none goes
            (λ ends. subst (λ (stage : Stage). AsksInOrder stage now.profile.client.query) ends found.well.0) (ap armed (sym lives.channels_run) ∙ quiet);
      }

  client_plain : (front : List Happening) (world : BothHosts) → Happened scenario content front world → IsAtRest (client_of scenario) (server_of scenario content) world → IsPlainAt A mine (party_of scenario.settings sides.A) (link_up sides.A (all_entries front)) world.a.upper
  client_plain front world there rest = by (link_up sides.A (all_entries front)) refl (runs_search asks scenario content front world steps there rest)
    where
      by : (found : Option Link) → link_up sides.A (all_entries front) ≡ found → CameSearchingAt scenario.settings mine found world.a.upper → IsPlainAt A mine (party_of scenario.settings sides.A) found world.a.upper
      by None up came = tt
      by (Some link) up came = client_linked front world link there rest up came

pub runs_are_plain : RunsArePlain
runs_are_plain asks scenario content happenings steps sends = record {
  a = λ front world is there rest. client_plain asks scenario content steps front world there rest;
  b = λ front world is there rest.
      let came = free_rests_are_lived asks scenario content front world there rest in
      plain_at (server_profile scenario.settings content) (asks.servers scenario.settings content) (party_of scenario.settings sides.B) (link_up sides.B (all_entries front)) world.b.upper came.b
      (server_keeps asks scenario content front world there rest sends ((runs_are_free scenario content happenings).b front world is there rest));
}

-- whatever they ask of their channels, these do so
abbrev pub stepping_asks : HostsAsk
stepping_asks = hosts_ask_as_they_step.asks

pub plain_runs : (scenario : Scenario) (content : Option Contents) (happenings : List Happening) → ArePlain stepping_asks scenario content happenings
plain_runs scenario content happenings = runs_are_plain stepping_asks scenario content happenings (hosts_ask_as_they_step.steps scenario.settings) (hosts_ask_as_they_step.sends scenario.settings content)
