-- The world of two new hosts from its beginning to its end.
use Rattle.std.proofs.Common.{◌≡◌, ℕ, Bool, true, false, cond, List, [], ◌∷◌, ◌++◌, Option, Some, None, refl, sym, ap, ◌∙◌, subst, arith}
use Rattle.std.specs.Prelude.{unwrap_or}
use Rattle.std.proofs.lemmas.Grind.{flat_map-append}
use Rattle.bt_base.specs.Objects.{Object, Contents}
use Rattle.bt_base.specs.Streams.{gained}
use Rattle.noting_laws.specs.obex_session.specs.Counting.{counts_of}
use Rattle.push_script.specs.declared.scenario.Scenario.{Scenario}
use Rattle.push_terms.specs.declared.outcome.Outcome.{Outcome}
use Rattle.push_terms.specs.declared.outcome.Outcome.TheVariants.{ScriptEnded}
use Rattle.push_terms.specs.declared.peaks.Peaks.{Peaks}
use Rattle.push_terms.specs.declared.word.Word.{Word}
use Rattle.capture.specs.Air.{words_of}
use Rattle.capture.specs.Entries.{Entry, Ended, capture_octets}
use Rattle.noting_laws.specs.world_model.specs.Pushes.{Pushes}
use Rattle.noting_laws.specs.world_model.specs.Worlds.{Happening, IsAtRest, all_entries, all_words, entries_of, words_in}
use Rattle.radio_world.specs.Both.{Both}
use Rattle.radio_world.specs.Leaving.{Medium}
use Rattle.radio_world.specs.Hosts.{Asking, answering}
use Rattle.radio_world.specs.Scenes.{Scene, Moment, moment, world_at, Plays, Stage, stage, moment_of}
use Rattle.radio_world.specs.Standing.{starting, first_moment, last_entries}
use Rattle.radio_world.proofs.Advancing.{plays_then}
use Rattle.radio_world.proofs.Spelled.{AreEntries, each_of_both, each_then}
use Rattle.radio_world.proofs.Moving.{written_then}
use Rattle.radio_world.proofs.Standing.{runs_of, at_rest}
use Rattle.bt_host.specs.host_model.specs.Circumstances.{Circumstance}
use Rattle.bt_host.specs.host_model.specs.Clients.{ClientProfile}
use Rattle.bt_host.specs.host_model.specs.Servers.{ServerProfile}
use Rattle.bt_host.specs.host_model.specs.Settings.{SetHost, set_to, client_machine, server_machine}
use Rattle.bt_host.specs.Noting.{Noted}
use Rattle.bt_host.specs.NotedHosts.{client_noting, server_noting, noted_client_machine, noted_server_machine}
use Rattle.bt_host.specs.Pushing.{AreOf}
use Rattle.bt_host.specs.Serving.{Served, Asks}
use Rattle.bt_host.specs.Shells.{Shelled}
use Rattle.bt_host.specs.Shelving.{Shelved}
use Rattle.bt_host.specs.Playing.{playing}
use Rattle.noting_laws.specs.scenario_laws.specs.Captures.{BothHosts}
use Rattle.noting_laws.specs.scenario_laws.proofs.Played.{last_is}
use Rattle.noting_laws.specs.scenario_laws.proofs.SetHosts.{set_hosts_are_hosts}
use Rattle.noting_laws.specs.pair_laws.specs.Enough.{HappenedEnough}
use Rattle.noting_laws.specs.pair_laws.specs.Served.{HappenedServed}
use Rattle.scenario_play.specs.Playing.{fresh_world, KeepsShelf, RoseNever, RanAnswered, IsPlayed}
use Rattle.noting_laws.specs.Noting.{plain_set}
use Rattle.scenario_play.specs.Shelving.{plain_client}
use Rattle.scenario_play.specs.Peaks.{NotedMoment, AreNoted, AreReached}
use Rattle.scenario_play.specs.Running.{RunsThrough}
use Rattle.scenario_play.proofs.Plainness.{PlainWorld, plain_world, orderly, enough_runs, served_runs, plain_rest}
use Rattle.scenario_play.proofs.Newness.{new_client, new_server, client_twins, holding_twins, server_twins, answering_twins, beginning, hosts_begin}
use Rattle.scenario_play.proofs.Alikeness.{IsLike, IsWhole, IsLikeServed, like_served, like_ends, told_a, told_b}
use Rattle.scenario_play.proofs.Counting.{rose_or_not, asked_twice, asked_says}
use Rattle.scenario_play.proofs.OwnServers.{EndsAtRest, ran_answered}

pub shelf_kept :
    (content content' content'' : Option (List Object)) (faults faults' faults'' shortages shortages' shortages'' : ℕ) (xs ys : List Circumstance) → AreOf content content' faults faults' shortages shortages' xs
    → AreOf content' content'' faults' faults'' shortages' shortages'' ys → KeepsShelf content content'' faults faults'' shortages shortages''
shelf_kept content content' content'' faults faults' faults'' shortages shortages' shortages'' xs ys one two =
    record { content_stays = two.content_stays ∙ one.content_stays; faults_stay = omega (arith, one.faults_stay, two.faults_stay); shortages_stay = omega (arith, one.shortages_stay, two.shortages_stay) }

abbrev pub Hosts : Type 0
Hosts = Both (Shelled (Noted ClientProfile)) (Shelled (Noted Served))

module _ {P Q : Type 0} (holds : P → Option (List Object)) (content : Q → Option Contents) (AnswersA : P → List Circumstance → P → Type 0) (faults shortages : Q → ℕ) (scenario : Scenario) where
  abbrev pub client_at : Hosts → P → Asking (SetHost (Noted Shelved)) Circumstance
  client_at world shelf = playing (client_noting holds) shelf world.a.stack

  abbrev pub server_at : Hosts → Q → Asking (SetHost (Noted ServerProfile)) Circumstance
  server_at world inbox = playing (server_noting content) inbox world.b.stack

  abbrev staged : Hosts → P → Q → Option (List ℕ) → Stage (SetHost (Noted Shelved)) (SetHost (Noted ServerProfile)) Circumstance Circumstance P Q
  staged world shelf inbox trace = stage world.scene (client_at world shelf) (server_at world inbox) shelf inbox trace

  abbrev pub at_moment : Hosts → P → Q → List Circumstance → List Circumstance → Moment (SetHost (Noted Shelved)) (SetHost (Noted ServerProfile))
  at_moment world shelf inbox rest_a rest_b = moment world.scene (answering rest_a (client_at world shelf)) (answering rest_b (server_at world inbox))

  abbrev pub Through : Hosts → Hosts → P → P → Q → Q → Option (List ℕ) → Option (List ℕ) → Type 0
  Through first end shelf shelf' inbox inbox' trace trace' =
      RunsThrough noted_client_machine noted_server_machine AnswersA (Asks faults shortages) (words_of scenario.script) (staged first shelf inbox trace) (staged end shelf' inbox' trace')

  -- ---- from the first commands to where the last word was turned

  -- what happened, from two new hosts on whose ports were to answer so
  record IsCourse (end : Hosts) (shelf shelf' : P) (inbox inbox' : Q) (trace : Option (List ℕ)) (last : Scene) (trace' : Option (List ℕ)) : Type 0 where
    for_a : List Circumstance
    for_b : List Circumstance
    happenings : List Happening
    words_are : all_words happenings ≡ words_of scenario.script
    plays : Plays noted_client_machine noted_server_machine happenings
        (first_moment (starting (new_client holds shelf scenario.settings for_a) noted_client_machine) (starting (new_server content inbox scenario.settings for_b) noted_server_machine) scenario.acl_length scenario.acl_count scenario.names)
        (moment last (answering [] (client_at end shelf')) (answering [] (server_at end inbox')))
    written : trace' ≡ gained trace (capture_octets (all_entries happenings))
    each : AreEntries (all_entries happenings)
    asked : Asks faults shortages inbox for_b inbox'

  course : (first end : Hosts) (shelf shelf' : P) (inbox inbox' : Q) (trace trace' : Option (List ℕ)) → first ≡ fresh_world scenario → (run : Through first end shelf shelf' inbox inbox' trace trace') → IsCourse end shelf shelf' inbox inbox' trace run.last run.trace
  course first end shelf shelf' inbox inbox' trace trace' fresh run =
      let one = run.starts in
      let two = run.turns in
      let rest_a = two.used_a ++ [] in
      let rest_b = two.used_b ++ [] in
      let for_a = one.used_a ++ rest_a in
      let for_b = one.used_b ++ rest_b in
      let new = first_moment (starting (new_client holds shelf scenario.settings for_a) noted_client_machine) (starting (new_server content inbox scenario.settings for_b) noted_server_machine) scenario.acl_length scenario.acl_count scenario.names in
      let settled = moment run.last (answering [] (client_at end shelf')) (answering [] (server_at end inbox')) in
      let begun : Plays noted_client_machine noted_server_machine beginning new (at_moment first shelf inbox for_a for_b) =
      subst (λ (w : Hosts). Plays noted_client_machine noted_server_machine beginning new (at_moment w shelf inbox for_a for_b)) (sym fresh) (hosts_begin holds content scenario shelf inbox for_a for_b) in
      let both : Plays noted_client_machine noted_server_machine (one.happenings ++ two.happenings) (at_moment first shelf inbox for_a for_b) settled =
      plays_then noted_client_machine noted_server_machine one.happenings two.happenings (at_moment first shelf inbox for_a for_b) (moment_of run.mid rest_a rest_b) settled (one.plays rest_a rest_b) (two.plays [] []) in
      let entries = written_then trace run.mid.trace run.trace (all_entries one.happenings) (all_entries two.happenings) (all_entries one.happenings ++ all_entries two.happenings) refl one.written two.written in
      record {
        for_a = for_a;
        for_b = for_b;
        happenings = beginning ++ (one.happenings ++ two.happenings);
        words_are = flat_map-append words_in one.happenings two.happenings ∙ (ap (λ (w : List Word). w ++ all_words two.happenings) one.words_are ∙ two.words_are);
        plays = plays_then noted_client_machine noted_server_machine beginning (one.happenings ++ two.happenings) new (at_moment first shelf inbox for_a for_b) settled begun both;
        written = entries ∙ ap (λ (es : List Entry). gained trace (capture_octets es)) (sym (flat_map-append entries_of one.happenings two.happenings));
        each = each_then (all_entries one.happenings) (all_entries two.happenings) _ (flat_map-append entries_of one.happenings two.happenings) one.each two.each;
        asked = asked_twice faults shortages inbox run.mid.inbox inbox' one.used_b two.used_b one.answered_b two.answered_b;
      }

  -- ---- and to its end

  abbrev came : Hosts → P → Option Outcome
  came end shelf' = noted_client_machine.outcome ((client_at end shelf').upper [])

  -- where the push that goes on ends with what came of it, and not with the script, nothing is owed to either host, which are at rest
  ends_at_rest : (now : NotedMoment) (outcome : Option Outcome) (pushes : Pushes) → client_machine.outcome (plain_world (world_at now)).a.upper ≡ outcome → IsAtRest client_machine server_machine (plain_world (world_at now)) → (push : ℕ) (ended : Outcome) → (ended ≡ ScriptEnded → ⊥) → last_entries outcome pushes ≡ Ended push ended ∷ [] → EndsAtRest ended (plain_world (world_at now))
  ends_at_rest now outcome pushes is rests push ended caused ends = record { none_a = rests.still_a.none_owed; none_b = rests.still_b.none_owed; came = is ∙ by pushes.going outcome ends }
    where
      by : (going : Bool) (outcome : Option Outcome) → cond going (Ended pushes.begun (unwrap_or outcome ScriptEnded) ∷ []) [] ≡ Ended push ended ∷ [] → outcome ≡ Some ended
      by false outcome ends = cc
      by true None ends = let same : ended ≡ ScriptEnded = cc in absurd (caused same)
      by true (Some other) ends = let same : other ≡ ended = cc in ap (λ (o : Outcome). Some o) same

  pub played : (first end : Hosts) (shelf shelf' : P) (inbox inbox' : Q) (trace trace' : Option (List ℕ)) (outcomes : List Outcome) (peaks : Peaks) → first ≡ fresh_world scenario → Through first end shelf shelf' inbox inbox' trace trace'
      → end.a.stack.upper.end.end.client.failed ≡ false → outcomes ≡ end.scene.pushes.outcomes → AreNoted end.scene.medium (at_moment end shelf' inbox' [] []) peaks → IsPlayed scenario (holds shelf) (content inbox) (content inbox') trace trace' outcomes peaks (counts_of faults shortages inbox) (counts_of faults shortages inbox')
  played first end shelf shelf' inbox inbox' trace trace' outcomes peaks fresh through works same noted =
      let run = course first end shelf shelf' inbox inbox' trace trace' fresh through in
      let counts = counts_of faults shortages inbox in
      let counts' = counts_of faults shortages inbox' in
      let says = asked_says faults shortages inbox inbox' run.for_b run.asked in
      let last = through.last in
      let settings = scenario.settings in
      let hosts = set_hosts_are_hosts scenario (content inbox) in
      let new_a = new_client holds shelf settings run.for_a in
      let new_b = new_server content inbox settings run.for_b in
      let s = plain_client new_a in
      let t = plain_set new_b in
      let twins_a = client_twins holds shelf settings run.for_a in
      let twins_b = server_twins content inbox settings run.for_b in
      let begun = first_moment (starting new_a noted_client_machine) (starting new_b noted_server_machine) scenario.acl_length scenario.acl_count scenario.names in
      let now : NotedMoment = moment last (answering [] (client_at end shelf')) (answering [] (server_at end inbox')) in
      let at : PlainWorld = plain_world (world_at now) in
      let runs = runs_of noted_client_machine noted_server_machine run.happenings begun now run.plays in
      let so : IsLikeServed scenario (holds shelf) (content inbox) (set_to settings) (set_to settings) s t run.happenings at (RoseNever counts counts') =
      like_served client_machine server_machine scenario (holds shelf) (content inbox) (set_to settings) (set_to settings) hosts s t (holding_twins (holds shelf) holds shelf settings run.for_a) (answering_twins content inbox settings run.for_b) run.happenings at (RoseNever counts counts') (rose_or_not counts counts')
      (enough_runs (holds shelf) run.happenings (world_at begun) (world_at now) refl says.enough runs) (λ never. served_runs (holds shelf) run.happenings (world_at begun) (world_at now) refl (says.granted never) runs) in
      let like : IsLike scenario (content inbox) (set_to settings) (set_to settings) s t run.happenings at = so.like in
      let rests = at_rest noted_client_machine noted_server_machine last (client_at end shelf') (server_at end inbox') orderly through.stands [] [] in
      let whole : IsWhole scenario (content inbox) (set_to settings) (set_to settings) s t run.happenings at like (came end shelf') =
      like_ends client_machine server_machine scenario (content inbox) (set_to settings) (set_to settings) hosts s t twins_a twins_b run.happenings at like
      (plain_rest (world_at now) rests) run.words_are in
      let held : like.world.b.upper.profile.inbox.content ≡ content inbox' =
      told_b client_machine server_machine scenario (content inbox) (set_to settings) (set_to settings) hosts s t twins_a twins_b run.happenings at like (λ (x : SetHost ServerProfile). x.host.profile.inbox.content) refl in
      let able : like.world.a.upper.profile.client.failed ≡ end.a.stack.upper.end.end.client.failed =
      told_a client_machine server_machine scenario (content inbox) (set_to settings) (set_to settings) hosts s t twins_a twins_b run.happenings at like (λ (x : SetHost ClientProfile). x.host.profile.client.failed) refl in
      record {
        capture = all_entries run.happenings ++ last_entries (came end shelf') last.pushes;
        finished = whole.finished;
        ends = whole.ends;
        able = ap (λ (w : BothHosts). w.a.upper.profile.client.failed) whole.world_is ∙ (able ∙ works);
        outcomes_are = same ∙ (through.outcomes_are ∙ whole.outcomes_are);
        reached = subst (λ (hs : List Happening). AreReached scenario (content inbox) hs peaks) (sym whole.happenings_are) (record {
          shelf = holds shelf;
          for_a = run.for_a;
          for_b = run.for_b;
          last = now;
          plays = run.plays;
          rests = rests;
          noted = subst (λ (m : Medium). AreNoted m now peaks) through.medium_stays (record { buffers = noted.buffers; windows = noted.windows; credits = noted.credits });
        });
        enough = subst (λ (hs : List Happening). HappenedEnough scenario (holds shelf) (content inbox) hs whole.finished.ran.world) (sym whole.happenings_are)
            (subst (λ (w : BothHosts). HappenedEnough scenario (holds shelf) (content inbox) run.happenings w) (sym whole.world_is) so.enough);
        granted = λ never. subst (λ (hs : List Happening). HappenedServed scenario (holds shelf) (content inbox) hs whole.finished.ran.world) (sym whole.happenings_are)
            (subst (λ (w : BothHosts). HappenedServed scenario (holds shelf) (content inbox) run.happenings w) (sym whole.world_is) (so.granted never));
        answered = λ none. subst (λ (hs : List Happening). RanAnswered scenario (holds shelf) (content inbox) (content inbox') counts counts' hs (all_entries run.happenings ++ last_entries (came end shelf') last.pushes)) (sym whole.happenings_are)
            (ran_answered holds content scenario shelf inbox run.for_a run.for_b run.happenings now run.plays (last_entries (came end shelf') last.pushes) (all_entries run.happenings ++ last_entries (came end shelf') last.pushes)
            (last_is (came end shelf') last.pushes) refl (ends_at_rest now (came end shelf') last.pushes refl (plain_rest (world_at now) rests)) (content inbox') refl counts counts' says none);
        stored = sym (ap (λ (w : BothHosts). w.b.upper.profile.inbox.content) whole.world_is ∙ held);
        written = written_then trace through.trace trace' (all_entries run.happenings) (last_entries (came end shelf') last.pushes) (all_entries run.happenings ++ last_entries (came end shelf') last.pushes) refl run.written through.written;
        entries_are = each_of_both (all_entries run.happenings) (last_entries (came end shelf') last.pushes) run.each through.each;
      }
