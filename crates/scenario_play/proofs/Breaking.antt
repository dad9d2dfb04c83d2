-- The world of two new hosts from its beginning to where it broke off.
use Rattle.std.proofs.Common.{◌≡◌, ℕ, ◌≤◌, ◌||◌, ◌⊎◌, Bool, true, false, cond, List, [], ◌∷◌, ◌++◌, length, Option, unwrap_or, inl, inr, refl, sym, ap, ◌∙◌, subst, append_assoc, arith}
use Rattle.std.proofs.lemmas.List.{append-nil}
use Rattle.std.proofs.lemmas.Grind.{flat_map-append}
use Rattle.bt_base.specs.Counts.{HasRisen}
use Rattle.bt_base.specs.Objects.{Object, Contents}
use Rattle.bt_base.specs.Streams.{gained, GainedFront}
use Rattle.bt_base.proofs.PortLaws.{front_none, gained-nil}
use Rattle.noting_laws.specs.obex_session.specs.Counting.{Counts, counts_of}
use Rattle.push_script.specs.declared.scenario.Scenario.{Scenario}
use Rattle.push_terms.specs.declared.outcome.Outcome.{Outcome}
use Rattle.push_terms.specs.declared.outcome.Outcome.TheVariants.{ScriptEnded}
use Rattle.push_terms.specs.declared.word.Word.{Word}
use Rattle.capture.specs.Air.{words_of}
use Rattle.capture.specs.Entries.{Ended, capture_octets}
use Rattle.radio_world.specs.radio_model.specs.Queues.{is_crowded}
use Rattle.radio_world.specs.radio_model.specs.Radio.{Radio}
use Rattle.noting_laws.specs.world_model.specs.Machines.{Upper}
use Rattle.noting_laws.specs.world_model.specs.Pushes.{Pushes}
use Rattle.noting_laws.specs.world_model.specs.Worlds.{Happening, all_entries, all_words, entries_of, words_in}
use Rattle.noting_laws.specs.air_laws.specs.AirLaws.{IsLastEnd}
use Rattle.radio_world.specs.Breaking.{IsLeft}
use Rattle.radio_world.specs.Hosts.{Asking}
use Rattle.radio_world.specs.Scenes.{Moment, world_at, Plays, Stage, stage, moment_of, Advances}
use Rattle.radio_world.specs.Standing.{starting, first_moment, last_entries}
use Rattle.radio_world.specs.Shortages.{ShelfLacked, InboxLacked, AirCrowded, WordsFull}
use Rattle.radio_world.proofs.Advancing.{plays_then}
use Rattle.radio_world.proofs.Spelled.{AreEntries, each_of_both}
use Rattle.radio_world.proofs.Standing.{runs_of}
use Rattle.bt_host.specs.host_model.specs.Circumstances.{Circumstance, answers_in}
use Rattle.bt_host.specs.host_model.specs.Clients.{ClientProfile}
use Rattle.bt_host.specs.host_model.specs.Servers.{ServerProfile}
use Rattle.bt_host.specs.host_model.specs.Settings.{SetHost, set_to, client_machine, server_machine}
use Rattle.bt_host.specs.Noting.{Noted}
use Rattle.bt_host.specs.NotedHosts.{client_noting, server_noting, noted_client_machine, noted_server_machine}
use Rattle.bt_host.specs.Pushing.{Lacks as NoShelf}
use Rattle.bt_host.specs.PushingLaws as pushing_laws
use Rattle.bt_host.specs.PushingLaws.{Answers}
use Rattle.bt_host.specs.ServingLaws.{lacks}
use Rattle.bt_host.specs.Serving.{Served, Asks, Lacks as NoInbox}
use Rattle.bt_host.specs.Shells.{Shelled}
use Rattle.bt_host.specs.Shelving.{Shelved}
use Rattle.bt_host.specs.Playing.{playing}
use Rattle.noting_laws.specs.scenario_laws.specs.Captures.{beginning as first_world}
use Rattle.noting_laws.specs.scenario_laws.proofs.Played.{last_is}
use Rattle.noting_laws.specs.scenario_laws.proofs.SetHosts.{set_hosts_are_hosts}
use Rattle.done_laws.specs.tape_laws.specs.OwnPairs.{own_beginning}
use Rattle.scenario_play.specs.Playing.{fresh_world, KeepsShelf, LackedNever, RoseNever, RanAnswered}
use Rattle.scenario_play.specs.Breaking as breaking
use Rattle.scenario_play.specs.Breaking.{BreaksThrough, OnItsWay, AtItsEnd, MayWant, IsBroken, IsWanting, NothingYet, ShelfWants, InboxWants, ManyWords}
use Rattle.scenario_play.proofs.Newness.{new_client, new_server, client_twins, holding_twins, server_twins, answering_twins, beginning, hosts_begin}
use Rattle.noting_laws.specs.Noting.{plain_set}
use Rattle.scenario_play.specs.Shelving.{plain_client}
use Rattle.scenario_play.proofs.Plainness.{PlainWorld, plain_world, plain_runs, enough_runs, served_runs}
use Rattle.scenario_play.proofs.Counting.{Says, rose_or_not, asked_once, left_says}
use Rattle.scenario_play.proofs.Course.{Hosts, shelf_kept}
use Rattle.scenario_play.proofs.OwnServers.{able_in, ran_answered}
use Rattle.scenario_play.proofs.Alikeness.{IsLikeServed, like_served, IsLike, like_runs, told_a, told_b}

-- one entry at most ends the last push
few_last : (came : Option Outcome) (pushes : Pushes) → length (last_entries came pushes) ≤ 1
few_last came pushes = by pushes.going
  where
    by : (going : Bool) → length (cond going (Ended pushes.begun (unwrap_or came ScriptEnded) ∷ []) []) ≤ 1
    by true = omega arith
    by false = omega arith

front_is : (trace trace' : Option (List ℕ)) → trace' ≡ trace → GainedFront (gained trace []) trace' []
front_is trace trace' same = subst (λ (t : Option (List ℕ)). GainedFront (gained trace []) t []) (gained-nil trace ∙ sym same) (front_none (gained trace []) [])

-- ---- the counts of both ports

-- what a shelf has stays, and no count of it falls, or it lacked memory
pub shelf_left :
    {S T H P Q Y : Type 0} {U : Upper S Circumstance} {V : Upper T H} {RB : Q → List H → Q → Type 0} {LB : Q → Q → Type 0} {station_b : Y → Q → Asking T H} {words : List Word} {old : Stage S T Circumstance H P Q} {inbox : Q} {trace : Option (List ℕ)}
    (content : P → Option (List Object)) (faults shortages : P → ℕ) (shelf shelf' : P) → BreaksThrough U V (Answers content faults shortages) RB (NoShelf shortages) LB station_b words old shelf' inbox trace → old.shelf ≡ shelf
    → KeepsShelf (content shelf) (content shelf') (faults shelf) (faults shelf') (shortages shelf) (shortages shelf') ⊎ HasRisen (shortages shelf) (shortages shelf')
shelf_left {P = P} {old = old} content faults shortages shelf shelf' (OnItsWay broken) same =
    let Left : P → Type 0 = λ (first : P). KeepsShelf (content first) (content shelf') (faults first) (faults shelf') (shortages first) (shortages shelf') ⊎ HasRisen (shortages first) (shortages shelf') in
    let run = broken.advances in
    let mid = broken.mid.shelf in
    subst Left same (elim broken.shelf_went [
      | inl went ↦ inl (shelf_kept (content old.shelf) (content mid) (content shelf') (faults old.shelf) (faults mid) (faults shelf') (shortages old.shelf) (shortages mid) (shortages shelf') run.used_a went.0 run.answered_a went.1)
      | inr lacked ↦ inr (pushing_laws.lacks content faults shortages old.shelf mid shelf' run.used_a run.answered_a lacked).0
    ])
shelf_left {P = P} {old = old} content faults shortages shelf shelf' (AtItsEnd mid run own front each same_shelf same_inbox) same =
    let Left : P → P → Type 0 = λ (first last : P). KeepsShelf (content first) (content last) (faults first) (faults last) (shortages first) (shortages last) ⊎ HasRisen (shortages first) (shortages last) in
    let answered = run.answered_a in
    subst (λ (first : P). Left first shelf') same (subst (λ (last : P). Left old.shelf last) (sym same_shelf) (inl (record { content_stays = answered.content_stays; faults_stay = answered.faults_stay; shortages_stay = answered.shortages_stay })))

-- the count of shortages of an inbox does not fall
pub inbox_left :
    {S T G P Q Y : Type 0} {U : Upper S G} {V : Upper T Circumstance} {RA : P → List G → P → Type 0} {LA : P → P → Type 0} {station_b : Y → Q → Asking T Circumstance} {words : List Word} {old : Stage S T G Circumstance P Q} {shelf : P} {trace : Option (List ℕ)}
    (faults shortages : Q → ℕ) (inbox inbox' : Q) → BreaksThrough U V RA (Asks faults shortages) LA (NoInbox shortages) station_b words old shelf inbox' trace → old.inbox ≡ inbox → shortages inbox ≤ shortages inbox'
inbox_left {old = old} faults shortages inbox inbox' (OnItsWay broken) same =
    let first = ap shortages same in
    let before = broken.advances.answered_b.counted.shortages_stay in
    elim broken.inbox_left [ inl stays ↦ (let last = ap shortages stays in omega arith) | inr lacked ↦ (let last = lacked.1 in omega arith) ]
inbox_left {old = old} faults shortages inbox inbox' (AtItsEnd mid run own front each same_shelf same_inbox) same =
    let first = ap shortages same in
    let before = run.answered_b.counted.shortages_stay in
    let last = ap shortages same_inbox in
    omega arith

-- before anything happened
pub untouched : (scenario : Scenario) (shelf : Option (List Object)) (content content' : Option Contents) (trace trace' : Option (List ℕ)) (counts counts' : Counts) → counts.faults ≤ counts'.faults → content' ≡ content → trace' ≡ trace → IsBroken scenario shelf content content' trace trace' counts counts'
untouched scenario shelf content content' trace trace' counts counts' stay stored written = record {
  happenings = [];
  world = first_world scenario content;
  happened = refl;
  able = refl;
  next = [];
  few = omega arith;
  ran = record { happenings = []; world = first_world scenario content; happened = refl; ends = []; last = tt; capture_is = refl };
  more = [];
  goes_on = refl;
  later = words_of scenario.script;
  words_are = refl;
  written = front_is trace trace' written;
  entries_are = tt;
  enough = (refl, refl);
  granted = λ never. (refl, refl);
  answered = λ none. record {
    answers = [];
    enough = tt;
    counted = inl (omega (arith, stay));
    own = record { happenings = []; world = own_beginning scenario content []; happened = refl; ends = []; last = tt; capture_is = refl };
    happenings_are = refl;
    stored = stored;
    able = refl;
    at_end = λ push outcome decided is. cc;
  };
  stored = inl stored;
}

module _ {P Q : Type 0} (holds : P → Option (List Object)) (content : Q → Option Contents) (AnswersA : P → List Circumstance → P → Type 0) (LackedA : P → P → Type 0) (faults shortages : Q → ℕ) (scenario : Scenario) where
  abbrev Gave : Q → List Circumstance → Q → Type 0
  Gave first used last = Asks faults shortages first used last

  abbrev At : Type 0
  At = Moment (SetHost (Noted Shelved)) (SetHost (Noted ServerProfile))

  abbrev Standing : Type 0
  Standing = Stage (SetHost (Noted Shelved)) (SetHost (Noted ServerProfile)) Circumstance Circumstance P Q

  abbrev server_at : Shelled (Noted Served) → Q → Asking (SetHost (Noted ServerProfile)) Circumstance
  server_at host inbox = playing (server_noting content) inbox host.stack

  abbrev staged : Hosts → P → Q → Option (List ℕ) → Standing
  staged world shelf inbox trace = stage world.scene (playing (client_noting holds) shelf world.a.stack) (server_at world.b inbox) shelf inbox trace

  -- ---- what happened, from two new hosts on whose ports were to answer so

  record IsCourse (words : List Word) (shelf : P) (inbox : Q) (trace trace' : Option (List ℕ)) (at : At) (inbox' : Q) : Type 0 where
    for_a : List Circumstance
    for_b : List Circumstance
    happenings : List Happening
    words_are : all_words happenings ≡ words
    plays : Plays noted_client_machine noted_server_machine happenings
        (first_moment (starting (new_client holds shelf scenario.settings for_a) noted_client_machine) (starting (new_server content inbox scenario.settings for_b) noted_server_machine) scenario.acl_length scenario.acl_count scenario.names) at
    written : trace' ≡ gained trace (capture_octets (all_entries happenings))
    each : AreEntries (all_entries happenings)
    asked : Gave inbox for_b inbox'

  unfoldable course : (words : List Word) (first : Hosts) (shelf : P) (inbox : Q) (trace : Option (List ℕ)) (at : Standing) → first ≡ fresh_world scenario → Advances noted_client_machine noted_server_machine AnswersA Gave words (staged first shelf inbox trace) at
      → IsCourse words shelf inbox trace at.trace (moment_of at [] []) at.inbox
  course words first shelf inbox trace at fresh run =
      let for_a = run.used_a ++ [] in
      let for_b = run.used_b ++ [] in
      let new = first_moment (starting (new_client holds shelf scenario.settings for_a) noted_client_machine) (starting (new_server content inbox scenario.settings for_b) noted_server_machine) scenario.acl_length scenario.acl_count scenario.names in
      let begun : Plays noted_client_machine noted_server_machine beginning new (moment_of (staged first shelf inbox trace) for_a for_b) =
      subst (λ (w : Hosts). Plays noted_client_machine noted_server_machine beginning new (moment_of (staged w shelf inbox trace) for_a for_b)) (sym fresh) (hosts_begin holds content scenario shelf inbox for_a for_b) in
      record {
        for_a = for_a;
        for_b = for_b;
        happenings = beginning ++ run.happenings;
        words_are = run.words_are;
        plays = plays_then noted_client_machine noted_server_machine beginning run.happenings new (moment_of (staged first shelf inbox trace) for_a for_b) (moment_of at [] []) begun (run.plays [] []);
        written = run.written;
        each = run.each;
        asked = asked_once faults shortages inbox at.inbox run.used_b run.answered_b;
      }

  abbrev plain_at : At → PlainWorld
  plain_at at = plain_world (world_at at)

  abbrev Like : P → Q → List Circumstance → List Circumstance → List Happening → PlainWorld → Type 0
  Like shelf inbox for_a for_b happenings at =
      IsLike scenario (content inbox) (set_to scenario.settings) (set_to scenario.settings) (plain_client (new_client holds shelf scenario.settings for_a)) (plain_set (new_server content inbox scenario.settings for_b)) happenings at

  like : (shelf : P) (inbox : Q) (for_a for_b : List Circumstance) (happenings : List Happening) (at : At)
      → Plays noted_client_machine noted_server_machine happenings (first_moment (starting (new_client holds shelf scenario.settings for_a) noted_client_machine) (starting (new_server content inbox scenario.settings for_b) noted_server_machine) scenario.acl_length scenario.acl_count scenario.names) at
      → Like shelf inbox for_a for_b happenings (plain_at at)
  like shelf inbox for_a for_b happenings at plays =
      let settings = scenario.settings in
      let new_a = new_client holds shelf settings for_a in
      let new_b = new_server content inbox settings for_b in
      let begun = first_moment (starting new_a noted_client_machine) (starting new_b noted_server_machine) scenario.acl_length scenario.acl_count scenario.names in
      like_runs client_machine server_machine scenario (content inbox) (set_to settings) (set_to settings) (set_hosts_are_hosts scenario (content inbox)) (plain_client new_a) (plain_set new_b)
      (client_twins holds shelf settings for_a) (server_twins content inbox settings for_b) happenings (plain_at at)
      (plain_runs happenings (world_at begun) (world_at at) (runs_of noted_client_machine noted_server_machine happenings begun at plays))

  -- and where the inbox failed never, it granted all calls of it
  like_so : (shelf : P) (inbox : Q) (for_a for_b : List Circumstance) (happenings : List Happening) (at : At) (counts counts' : Counts) → Says (answers_in for_b) counts counts'
      → Plays noted_client_machine noted_server_machine happenings (first_moment (starting (new_client holds shelf scenario.settings for_a) noted_client_machine) (starting (new_server content inbox scenario.settings for_b) noted_server_machine) scenario.acl_length scenario.acl_count scenario.names) at
      → IsLikeServed scenario (holds shelf) (content inbox) (set_to scenario.settings) (set_to scenario.settings) (plain_client (new_client holds shelf scenario.settings for_a)) (plain_set (new_server content inbox scenario.settings for_b)) happenings (plain_at at) (RoseNever counts counts')
  like_so shelf inbox for_a for_b happenings at counts counts' says plays =
      let settings = scenario.settings in
      let new_a = new_client holds shelf settings for_a in
      let new_b = new_server content inbox settings for_b in
      let begun = first_moment (starting new_a noted_client_machine) (starting new_b noted_server_machine) scenario.acl_length scenario.acl_count scenario.names in
      let runs = runs_of noted_client_machine noted_server_machine happenings begun at plays in
      like_served client_machine server_machine scenario (holds shelf) (content inbox) (set_to settings) (set_to settings) (set_hosts_are_hosts scenario (content inbox)) (plain_client new_a) (plain_set new_b)
      (holding_twins (holds shelf) holds shelf settings for_a) (answering_twins content inbox settings for_b) happenings (plain_at at) (RoseNever counts counts') (rose_or_not counts counts')
      (enough_runs (holds shelf) happenings (world_at begun) (world_at at) refl says.enough runs) (λ never. served_runs (holds shelf) happenings (world_at begun) (world_at at) refl (says.granted never) runs)

  -- what the inbox holds in it
  held : (shelf : P) (inbox : Q) (for_a for_b : List Circumstance) (happenings : List Happening) (at : PlainWorld) (run : Like shelf inbox for_a for_b happenings at)
      → run.world.b.upper.profile.inbox.content ≡ at.b.upper.host.profile.inbox.content
  held shelf inbox for_a for_b happenings at run =
      let settings = scenario.settings in
      told_b client_machine server_machine scenario (content inbox) (set_to settings) (set_to settings) (set_hosts_are_hosts scenario (content inbox)) (plain_client (new_client holds shelf settings for_a)) (plain_set (new_server content inbox settings for_b))
      (client_twins holds shelf settings for_a) (server_twins content inbox settings for_b) happenings at run (λ (x : SetHost ServerProfile). x.host.profile.inbox.content) refl

  radio_is : (shelf : P) (inbox : Q) (for_a for_b : List Circumstance) (happenings : List Happening) (at : PlainWorld) (run : Like shelf inbox for_a for_b happenings at) → run.world.radio ≡ at.radio
  radio_is shelf inbox for_a for_b happenings at run = ap (λ (w : PlainWorld). w.radio) run.alike.same

  pushes_are : (shelf : P) (inbox : Q) (for_a for_b : List Circumstance) (happenings : List Happening) (at : PlainWorld) (run : Like shelf inbox for_a for_b happenings at) → run.world.pushes ≡ at.pushes
  pushes_are shelf inbox for_a for_b happenings at run = ap (λ (w : PlainWorld). w.pushes) run.alike.same

  -- host a lacked no memory in it
  able : (shelf : P) (inbox : Q) (for_a for_b : List Circumstance) (happenings : List Happening) (at : At)
      → Plays noted_client_machine noted_server_machine happenings (first_moment (starting (new_client holds shelf scenario.settings for_a) noted_client_machine) (starting (new_server content inbox scenario.settings for_b) noted_server_machine) scenario.acl_length scenario.acl_count scenario.names) at
      → (run : Like shelf inbox for_a for_b happenings (plain_at at)) → run.world.a.upper.profile.client.failed ≡ false
  able shelf inbox for_a for_b happenings at plays run =
      let settings = scenario.settings in
      told_a client_machine server_machine scenario (content inbox) (set_to settings) (set_to settings) (set_hosts_are_hosts scenario (content inbox)) (plain_client (new_client holds shelf settings for_a)) (plain_set (new_server content inbox settings for_b))
      (client_twins holds shelf settings for_a) (server_twins content inbox settings for_b) happenings (plain_at at) run (λ (x : SetHost ClientProfile). x.host.profile.client.failed) refl
      ∙ able_in holds content scenario shelf inbox for_a for_b happenings at plays

  -- ---- to where it broke off

  own_holds : (own : Shelled (Noted Served)) (inbox : Q) (host : Asking (SetHost (Noted ServerProfile)) Circumstance) → host.upper ≡ (server_at own inbox).upper → (host.upper []).host.profile.end.inbox.content ≡ content inbox
  own_holds own inbox host is = ap (λ (u : List Circumstance → SetHost (Noted ServerProfile)). (u []).host.profile.end.inbox.content) is

  -- it is as it was left, where it did not lack memory
  stays : (mid last : Q) → IsLeft (NoInbox shortages) mid last → (NoInbox shortages mid last → ⊥) → content last ≡ content mid
  stays mid last (inl same) none = ap content same
  stays mid last (inr lacked) none = absurd (none lacked)

  -- what the counts of the inbox say of it
  answered_so_far : (shelf : P) (inbox inbox' : Q) (for_a for_b : List Circumstance) (happenings : List Happening) (at : At)
      → Plays noted_client_machine noted_server_machine happenings (first_moment (starting (new_client holds shelf scenario.settings for_a) noted_client_machine) (starting (new_server content inbox scenario.settings for_b) noted_server_machine) scenario.acl_length scenario.acl_count scenario.names) at
      → (counts counts' : Counts) → Says (answers_in for_b) counts counts' → LackedNever counts counts' → content inbox' ≡ at.b.upper.host.profile.end.inbox.content → RanAnswered scenario (holds shelf) (content inbox) (content inbox') counts counts' happenings (all_entries happenings)
  answered_so_far shelf inbox inbox' for_a for_b happenings at plays counts counts' says none stored =
      ran_answered holds content scenario shelf inbox for_a for_b happenings at plays [] (all_entries happenings) tt (sym (append-nil (all_entries happenings))) (λ push outcome decided is. cc) (content inbox') stored counts counts' says none

  pub broke :
      (first : Hosts) (shelf shelf' : P) (inbox inbox' : Q) (trace trace' : Option (List ℕ)) → first ≡ fresh_world scenario
      → BreaksThrough noted_client_machine noted_server_machine AnswersA Gave LackedA (NoInbox shortages) server_at (words_of scenario.script) (staged first shelf inbox trace) shelf' inbox' trace'
      → IsBroken scenario (holds shelf) (content inbox) (content inbox') trace trace' (counts_of faults shortages inbox) (counts_of faults shortages inbox')
  unfolding course
  broke first shelf shelf' inbox inbox' trace trace' fresh (OnItsWay broken) =
      let counts = counts_of faults shortages inbox in
      let counts' = counts_of faults shortages inbox' in
      let mid = broken.mid in
      let run = course broken.turned first shelf inbox trace mid fresh broken.advances in
      let says = left_says faults shortages inbox mid.inbox inbox' run.for_b run.asked broken.inbox_left in
      let past_so = like_so shelf inbox run.for_a run.for_b run.happenings (moment_of mid [] []) counts counts' says run.plays in
      let past = past_so.like in
      let (new, plays) = broken.may [] [] in
      let all = run.happenings ++ broken.next in
      let on_so = like_so shelf inbox run.for_a run.for_b all new counts counts' says (plays_then noted_client_machine noted_server_machine run.happenings broken.next _ (moment_of mid [] []) new run.plays plays) in
      let on = on_so.like in
      record {
        happenings = run.happenings;
        world = past.world;
        happened = past.happened;
        able = able shelf inbox run.for_a run.for_b run.happenings (moment_of mid [] []) run.plays past;
        next = all_entries broken.next;
        few = broken.few;
        ran = record {
          happenings = all;
          world = on.world;
          happened = on.happened;
          ends = [];
          last = tt;
          capture_is = sym (flat_map-append entries_of run.happenings broken.next) ∙ sym (append-nil (all_entries all));
        };
        more = broken.next;
        goes_on = refl;
        later = broken.later;
        words_are = broken.words_are ∙ sym (append_assoc broken.turned (all_words broken.next) broken.later)
            ∙ ap (λ (ws : List Word). ws ++ broken.later) (sym (flat_map-append words_in run.happenings broken.next ∙ ap (λ (ws : List Word). ws ++ all_words broken.next) run.words_are));
        written = subst (λ (t : Option (List ℕ)). GainedFront t trace' (capture_octets (all_entries broken.next))) run.written broken.front;
        entries_are = each_of_both (all_entries run.happenings) (all_entries broken.next) run.each broken.each;
        enough = (past_so.enough, on_so.enough);
        granted = λ never. (past_so.granted never, on_so.granted never);
        answered = λ none. answered_so_far shelf inbox inbox' run.for_a run.for_b run.happenings (moment_of mid [] []) run.plays counts counts' says none (stays mid.inbox inbox' broken.inbox_left (λ lacked. none (lacks faults shortages inbox mid.inbox inbox' run.for_b run.asked lacked).0) ∙ sym (own_holds broken.own_b.0 mid.inbox mid.b broken.own_b.1));
        stored = elim broken.inbox_left [
          | inl same ↦ inl (ap content same ∙ sym (held shelf inbox run.for_a run.for_b run.happenings (plain_at (moment_of mid [] [])) past ∙ own_holds broken.own_b.0 mid.inbox mid.b broken.own_b.1))
          | inr lacked ↦ inr (lacks faults shortages inbox mid.inbox inbox' run.for_b run.asked lacked).0
        ];
      }
  broke first shelf shelf' inbox inbox' trace trace' fresh (AtItsEnd mid advances own front each same_shelf same_inbox) =
      let counts = counts_of faults shortages inbox in
      let counts' = counts_of faults shortages inbox' in
      let run = course (words_of scenario.script) first shelf inbox trace mid fresh advances in
      let says = left_says faults shortages inbox mid.inbox inbox' run.for_b run.asked (inl same_inbox) in
      let past_so = like_so shelf inbox run.for_a run.for_b run.happenings (moment_of mid [] []) counts counts' says run.plays in
      let past = past_so.like in
      let ends = last_entries (noted_client_machine.outcome (mid.a.upper [])) mid.scene.pushes in
      record {
        happenings = run.happenings;
        world = past.world;
        happened = past.happened;
        able = able shelf inbox run.for_a run.for_b run.happenings (moment_of mid [] []) run.plays past;
        next = ends;
        few = few_last (noted_client_machine.outcome (mid.a.upper [])) mid.scene.pushes;
        ran = record {
          happenings = run.happenings;
          world = past.world;
          happened = past.happened;
          ends = ends;
          last = subst (λ (p : Pushes). IsLastEnd p ends) (sym (pushes_are shelf inbox run.for_a run.for_b run.happenings (plain_at (moment_of mid [] [])) past)) (last_is (noted_client_machine.outcome (mid.a.upper [])) mid.scene.pushes);
          capture_is = refl;
        };
        more = [];
        goes_on = sym (append-nil run.happenings);
        later = [];
        words_are = sym run.words_are ∙ sym (append-nil (all_words run.happenings));
        written = subst (λ (t : Option (List ℕ)). GainedFront t trace' (capture_octets ends)) run.written front;
        entries_are = each_of_both (all_entries run.happenings) ends run.each each;
        enough = (past_so.enough, past_so.enough);
        granted = λ never. (past_so.granted never, past_so.granted never);
        answered = λ none. answered_so_far shelf inbox inbox' run.for_a run.for_b run.happenings (moment_of mid [] []) run.plays counts counts' says none (ap content same_inbox ∙ sym (own_holds own.0 mid.inbox mid.b own.1));
        stored = inl (ap content same_inbox ∙ sym (held shelf inbox run.for_a run.for_b run.happenings (plain_at (moment_of mid [] [])) past ∙ own_holds own.0 mid.inbox mid.b own.1));
      }

  -- ---- and why it wanted memory

  crowded_at : (one other : Radio) → one ≡ other → (is_crowded other.a.waiting || is_crowded other.b.waiting) ≡ true → (is_crowded one.a.waiting || is_crowded one.b.waiting) ≡ true
  crowded_at one other same crowded = subst (λ (r : Radio). (is_crowded r.a.waiting || is_crowded r.b.waiting) ≡ true) (sym same) crowded

  pub wanting :
      (first : Hosts) (shelf shelf' : P) (inbox inbox' : Q) (trace trace' : Option (List ℕ)) (ShelfLacks InboxLacks : Type 0) → first ≡ fresh_world scenario → (LackedA shelf shelf' → ShelfLacks) → (NoInbox shortages inbox inbox' → InboxLacks)
      → MayWant noted_client_machine noted_server_machine AnswersA Gave LackedA (NoInbox shortages) (words_of scenario.script) (staged first shelf inbox trace) shelf' inbox' trace' → IsWanting scenario (content inbox) (content inbox') trace trace' ShelfLacks InboxLacks
  unfolding course
  wanting first shelf shelf' inbox inbox' trace trace' ShelfLacks InboxLacks fresh no_shelf no_inbox (inl none) = NothingYet (ap content none.inbox_is) none.trace_is
  wanting first shelf shelf' inbox inbox' trace trace' ShelfLacks InboxLacks fresh no_shelf no_inbox (inr (ShelfLacked lacked)) = ShelfWants (no_shelf lacked)
  wanting first shelf shelf' inbox inbox' trace trace' ShelfLacks InboxLacks fresh no_shelf no_inbox (inr (InboxLacked lacked)) = InboxWants (no_inbox lacked)
  wanting first shelf shelf' inbox inbox' trace trace' ShelfLacks InboxLacks fresh no_shelf no_inbox (inr (AirCrowded over)) =
      let run = course over.turned first shelf inbox trace over.new fresh over.advances in
      let so = like shelf inbox run.for_a run.for_b run.happenings (moment_of over.new [] []) run.plays in
      breaking.AirCrowded (record {
        happenings = run.happenings;
        world = so.world;
        happened = so.happened;
        crowded = crowded_at so.world.radio over.new.scene.medium.radio (radio_is shelf inbox run.for_a run.for_b run.happenings (plain_at (moment_of over.new [] [])) so) over.crowded;
        written = sym over.trace_is ∙ run.written;
        entries_are = run.each;
      })
  wanting first shelf shelf' inbox inbox' trace trace' ShelfLacks InboxLacks fresh no_shelf no_inbox (inr (WordsFull full)) =
      let none = ap (λ (w : Hosts). w.scene.turned) fresh in
      ManyWords (omega arith)
