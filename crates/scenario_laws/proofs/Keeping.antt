-- Where all is at rest a server with a link up does not end it, so it gave up no request.
use Rattle.std.proofs.Common.{◌≡◌, Bool, true, false, List, [], Option, Some, None, refl, sym, ap, subst, ◌∙◌, not, ◌&&◌}
use Rattle.std.specs.Prelude.{is_some, nat_lt}
use Rattle.std.specs.Option.{option_map}
use Rattle.radio_world.specs.bt_base.specs.Objects.{Contents}
use Rattle.radio_world.specs.bt_base.specs.declared.settings.Settings.{Settings}
use Rattle.radio_world.specs.push_script.specs.declared.scenario.Scenario.{Scenario}
use Rattle.radio_world.specs.push_terms.specs.declared.word.Side.TheVariants as sides
use Rattle.radio_world.specs.capture.specs.Entries.{Entry}
use Rattle.radio_world.specs.capture.specs.Links.{Link, link_up}
use Rattle.radio_world.specs.capture.specs.Pdus.{pdus}
use Rattle.host_laws.specs.channel_model.specs.Giving.{next_given}
use Rattle.host_laws.specs.channel_model.proofs.Lookups.{and_off}
use Rattle.host_laws.specs.world_model.specs.Talks.{Talk}
use Rattle.host_laws.specs.world_model.specs.PerLink.{Linkage, linkage, captured}
use Rattle.host_laws.specs.world_model.specs.Worlds.{Happening, IsAtRest, all_entries}
use Rattle.host_laws.specs.turn_laws.proofs.Standing.{idle_linked}
use Rattle.host_laws.specs.host_model.specs.Hosts.{Host, next}
use Rattle.host_laws.specs.host_model.specs.Machines.{upper, server_host}
use Rattle.host_laws.specs.host_model.specs.Servers.{ServerProfile, server_profile}
use Rattle.host_laws.specs.Calls.{Asks, HostsAsk}
use Rattle.host_laws.specs.Keeping.{SendsAsItLends}
use Rattle.host_laws.proofs.Keeping.{servers_keep_on}
use Rattle.host_laws.proofs.Unasking.{servers_await_nothing}
use Rattle.scenario_laws.specs.Captures.{client_of, server_of, BothHosts, Happened}
use Rattle.scenario_laws.specs.Gentle.{IsFreeAt}
use Rattle.scenario_laws.specs.Keeping.{FreeServersKeepOn}
use Rattle.scenario_laws.specs.Parties.{party_of}
use Rattle.scenario_laws.specs.Plain.{KeepsOn}
use Rattle.scenario_laws.proofs.Acting.{Anyhow, Acted}
use Rattle.scenario_laws.proofs.Both.{idle_acted, both_acted}
use Rattle.scenario_laws.proofs.Carrying.{carried}
use Rattle.scenario_laws.proofs.Freeing.{runs_are_free}
use Rattle.scenario_laws.proofs.Fronts.{fits}
use Rattle.scenario_laws.proofs.Wishes.{states_frame}

module _ (settings : Settings) (content : Option Contents) where
  -- it has said all, and does not end its link
  stays_on : (now : Host ServerProfile) → next_given now.channels ≡ None → (server_host settings content).leaves_link now ≡ false → now.profile.breaks ≡ false
  stays_on now none stays = sym (ap (λ b. not b && now.profile.breaks) (ap (λ g. nat_lt 0 now.may_say && is_some g) none ∙ and_off (nat_lt 0 now.may_say))) ∙ stays

  -- where a link is up at rest it does not break it
  side_stays : (past : List Entry) (linked : Bool) (now : Host ServerProfile) (talk : List Talk) → Acted (server_host settings content) linked now [] talk → linkage talk ≡ captured sides.B past → IsFreeAt (server_profile settings content) (link_up sides.B past) now
      → (linked ≡ true → next (server_profile settings content) now ≡ None) → (linked ≡ true → (server_host settings content).leaves_link now ≡ false) → (link : Link) → link_up sides.B past ≡ Some link → now.profile.breaks ≡ false
  side_stays past true now talk acted known free said stays link up = stays_on now ((subst (λ (l : Option Link). IsFreeAt (server_profile settings content) l now) up free).back (said refl)) (stays refl)
  side_stays past false now talk acted known free said stays link up =
      let never : None ≡ Some (pdus link) = sym (ap (λ (l : Linkage). l.up) (sym known) ∙ (acted.parted.down refl).1) ∙ ap (option_map pdus) up in
      absurd cc

  side_keeps : (asks : Asks (server_profile settings content)) → SendsAsItLends settings content asks → (past : List Entry) (now : Host ServerProfile) → ((link : Link) → link_up sides.B past ≡ Some link → now.profile.breaks ≡ false) → KeepsOn (server_profile settings content) asks (party_of settings sides.B) (link_up sides.B past) now
  side_keeps asks sends past now stays = by (link_up sides.B past) refl
    where
      by : (link : Option Link) → link_up sides.B past ≡ link → KeepsOn (server_profile settings content) asks (party_of settings sides.B) link now
      by None up = tt
      by (Some link) up = λ came. (
        servers_keep_on settings content asks _ now came.so.lives sends (stays link up),
        servers_await_nothing settings content (party_of settings sides.B) asks _ now came.so.lives (states_frame settings true sides.B) came.so.uttered sends,
      )

pub server_stays : (scenario : Scenario) (content : Option Contents) (front : List Happening) (world : BothHosts) → Happened scenario content front world → IsAtRest (client_of scenario) (server_of scenario content) world
    → IsFreeAt (server_profile scenario.settings content) (link_up sides.B (all_entries front)) world.b.upper → (link : Link) → link_up sides.B (all_entries front) ≡ Some link → world.b.upper.profile.breaks ≡ false
server_stays scenario content front world there rest free =
    let U = client_of scenario in
    let V = server_of scenario content in
    let all = carried U V scenario.acl_length scenario.acl_count scenario.names front world (fits scenario content) there in
    let both = both_acted U V Anyhow Anyhow scenario.acl_length scenario.names all.doings _ all.so in
    let idle = all.rests rest in
    side_stays scenario.settings content (all_entries front) world.radio.b.up world.b.upper all.talk_b (idle_acted V Anyhow _ idle.idle_b both.0.b) all.links_b free
    (λ on. (idle.idle_b.said_all on).none_next) (λ on. idle.calm.no_fall_b (sym (idle_linked V _ _ idle.idle_b both.1.b) ∙ on))

pub server_keeps : (asks : HostsAsk) (scenario : Scenario) (content : Option Contents) (front : List Happening) (world : BothHosts) → Happened scenario content front world → IsAtRest (client_of scenario) (server_of scenario content) world → SendsAsItLends scenario.settings content (asks.servers scenario.settings content)
    → IsFreeAt (server_profile scenario.settings content) (link_up sides.B (all_entries front)) world.b.upper
    → KeepsOn (server_profile scenario.settings content) (asks.servers scenario.settings content) (party_of scenario.settings sides.B) (link_up sides.B (all_entries front)) world.b.upper
server_keeps asks scenario content front world there rest sends free =
    side_keeps scenario.settings content (asks.servers scenario.settings content) sends (all_entries front) world.b.upper (server_stays scenario content front world there rest free)

pub free_servers_keep_on : FreeServersKeepOn
free_servers_keep_on asks scenario content happenings sends clients = record {
  a = clients;
  b = λ front world is there rest. server_keeps asks scenario content front world there rest sends ((runs_are_free scenario content happenings).b front world is there rest);
}
