-- A server in code, beside its settings, is one that has all answers of its inbox from its first moment on.
use Rattle.std.proofs.Common.{◌≡◌, ℕ, false, List, [], ◌∷◌, ◌++◌, Option, Some, refl, sym, ap, ◌∙◌}
use Rattle.bt_base.specs.declared.settings.Settings.{Settings}
use Rattle.bt_base.specs.Objects.{Object, Contents}
use Rattle.bt_host.specs.channel_model.specs.Giving.{next_given}
use Rattle.noting_laws.specs.obex_session.specs.Counting.{Counts}
use Rattle.noting_laws.specs.obex_session.specs.InboxCalls.{Answer}
use Rattle.push_script.specs.declared.scenario.Scenario.{Scenario}
use Rattle.push_terms.specs.declared.outcome.Outcome.{Outcome}
use Rattle.push_terms.specs.declared.outcome.Outcome.TheVariants.{ScriptEnded}
use Rattle.capture.specs.Entries.{Entry, Ended}
use Rattle.radio_world.specs.radio_model.specs.Radio.{Radio}
use Rattle.noting_laws.specs.world_model.specs.Worlds.{Happening, all_entries}
use Rattle.noting_laws.specs.air_laws.specs.AirLaws.{IsLastEnd}
use Rattle.radio_world.specs.run_laws.specs.Embedding.{Embeds, said_as}
use Rattle.radio_world.specs.Scenes.{world_at, Plays}
use Rattle.radio_world.specs.Standing.{starting, first_moment}
use Rattle.radio_world.proofs.Standing.{runs_of}
use Rattle.bt_host.specs.host_model.specs.Circumstances.{Circumstance, answers_in}
use Rattle.bt_host.specs.host_model.specs.Clients.{ClientProfile}
use Rattle.bt_host.specs.host_model.specs.Machines.{upper}
use Rattle.bt_host.specs.host_model.specs.Servers.{ServerProfile}
use Rattle.bt_host.specs.host_model.specs.Settings.{SetHost, set_to, client_machine}
use Rattle.bt_host.specs.NotedHosts.{noted_client_machine, noted_server_machine}
use Rattle.noting_laws.specs.scenario_laws.specs.Captures.{client_of}
use Rattle.noting_laws.specs.scenario_laws.proofs.SetHosts.{set_hosts_are_hosts, hear_same, says_same}
use Rattle.noting_laws.specs.inbox_laws.specs.Owned.{own_profile, own_machine}
use Rattle.done_laws.specs.tape_laws.specs.Own.{own_server}
use Rattle.scenario_play.specs.Peaks.{NotedMoment}
use Rattle.scenario_play.specs.Playing.{LackedNever, RanAnswered}
use Rattle.scenario_play.specs.Shelving.{plain_client}
use Rattle.scenario_play.proofs.Able.{able_along}
use Rattle.scenario_play.proofs.Alikeness.{told_same, IsLikeOwn, like_own, own_ran}
use Rattle.scenario_play.proofs.Counting.{Says}
use Rattle.scenario_play.proofs.Newness.{new_client, new_server, holding_twins}
use Rattle.scenario_play.proofs.Plainness.{PlainWorld, plain_world, own_runs}
use Rattle.scenario_play.proofs.Shelves.{parts_found}

own_stays : (settings : Settings) (content : Option Contents) (answers : List Answer) → Embeds (set_to settings) (upper (own_server settings content answers)) own_machine
own_stays settings content answers =
    let A = own_server settings content answers in
    let first = (own_profile settings).first in
    record {
      hear = λ gifts news host. ap (set_to settings) (hear_same A first A.given gifts news host);
      next = λ host. ap (said_as (set_to settings)) (says_same A first A.given (next_given host.channels) host.may_say host);
      wants_link = λ host. refl;
      leaves_link = λ host. refl;
      is_idle = λ host. refl;
      outcome = λ host. refl;
      armed = λ host. refl;
      may_cancel = λ host. refl;
      has_check = λ host own. refl;
    }

-- nothing is owed to either host, and the client came to that outcome
pub record EndsAtRest (outcome : Outcome) (at : PlainWorld) : Type 0 where
  pub none_a : at.radio.a.owed ≡ []
  pub none_b : at.radio.b.owed ≡ []
  pub came : client_machine.outcome at.a.upper ≡ Some outcome

module _ {P Q : Type 0} (holds : P → Option (List Object)) (content : Q → Option Contents) (scenario : Scenario) (shelf : P) (inbox : Q) (for_a for_b : List Circumstance) where
  abbrev Happened : List Happening → NotedMoment → Type 0
  Happened happenings at =
      Plays noted_client_machine noted_server_machine happenings (first_moment (starting (new_client holds shelf scenario.settings for_a) noted_client_machine) (starting (new_server content inbox scenario.settings for_b) noted_server_machine) scenario.acl_length scenario.acl_count scenario.names) at

  own_like : (happenings : List Happening) (at : NotedMoment) → Happened happenings at → IsLikeOwn scenario (holds shelf) (content inbox) (answers_in for_b) (set_to scenario.settings) (set_to scenario.settings) (plain_client (new_client holds shelf scenario.settings for_a)) happenings (plain_world (world_at at)) (client_machine.outcome (plain_world (world_at at)).a.upper)
  own_like happenings at plays =
      let settings = scenario.settings in
      let new_a = new_client holds shelf settings for_a in
      let begun = first_moment (starting new_a noted_client_machine) (starting (new_server content inbox settings for_b) noted_server_machine) scenario.acl_length scenario.acl_count scenario.names in
      like_own client_machine own_machine scenario (holds shelf) (content inbox) (answers_in for_b) (set_to settings) (set_to settings) (set_hosts_are_hosts scenario (content inbox)).a (own_stays settings (content inbox) (answers_in for_b)) (plain_client new_a)
      (holding_twins (holds shelf) holds shelf settings for_a) happenings (plain_world (world_at at)) (own_runs (holds shelf) happenings (world_at begun) (world_at at) refl (runs_of noted_client_machine noted_server_machine happenings begun at plays))

  -- host a lacks no memory in it
  pub able_in : (happenings : List Happening) (at : NotedMoment) → Happened happenings at → (plain_world (world_at at)).a.upper.host.profile.client.failed ≡ false
  able_in happenings at plays =
      let begun = first_moment (starting (new_client holds shelf scenario.settings for_a) noted_client_machine) (starting (new_server content inbox scenario.settings for_b) noted_server_machine) scenario.acl_length scenario.acl_count scenario.names in
      able_along happenings (world_at begun) (world_at at) (record { works = refl; found = parts_found (holds shelf) for_a }) (runs_of noted_client_machine noted_server_machine happenings begun at plays)

  -- so a world in code went, with the end of the push that goes on behind it
  pub ran_answered : (happenings : List Happening) (at : NotedMoment) → Happened happenings at → (ends capture : List Entry) → IsLastEnd (world_at at).pushes ends → capture ≡ all_entries happenings ++ ends → ((push : ℕ) (outcome : Outcome) → (outcome ≡ ScriptEnded → ⊥) → ends ≡ Ended push outcome ∷ [] → EndsAtRest outcome (plain_world (world_at at)))
      → (after : Option Contents) → after ≡ at.b.upper.host.profile.end.inbox.content → (counts counts' : Counts) → Says (answers_in for_b) counts counts' → LackedNever counts counts' → RanAnswered scenario (holds shelf) (content inbox) after counts counts' happenings capture
  ran_answered happenings at plays ends capture last is rests after stored counts counts' says none =
      let settings = scenario.settings in
      let like = own_like happenings at plays in
      record {
        answers = answers_in for_b;
        enough = says.enough;
        counted = says.counted none;
        own = own_ran client_machine own_machine scenario (holds shelf) (content inbox) (answers_in for_b) (set_to settings) (set_to settings) (set_hosts_are_hosts scenario (content inbox)).a (own_stays settings (content inbox) (answers_in for_b))
            (plain_client (new_client holds shelf settings for_a)) (holding_twins (holds shelf) holds shelf settings for_a) happenings (plain_world (world_at at)) like ends capture last is;
        happenings_are = refl;
        stored = stored ∙ sym (ap (λ (s : SetHost ServerProfile). s.host.profile.inbox.content) like.server_is);
        able = told_same (λ (x : SetHost ClientProfile). x.host.profile.client.failed) (plain_client (new_client holds shelf settings for_a)) (set_to settings (client_of scenario).first) (plain_world (world_at at)).a.upper (set_to settings like.world.a.upper) refl like.client_is
            ∙ able_in happenings at plays;
        at_end = λ push outcome decided ends_are.
            let rest = rests push outcome decided ends_are in
            record {
              none_a = ap (λ (r : Radio). r.a.owed) like.radio_is ∙ rest.none_a;
              none_b = ap (λ (r : Radio). r.b.owed) like.radio_is ∙ rest.none_b;
              cause = like.outcome_is ∙ rest.came;
            };
      }
