-- The capture of each run shows why its pushes ended.
use Rattle.std.proofs.Common.{◌≡◌, ℕ, Bool, true, false, ◌&&◌, ◌==◌, List, [], ◌∷◌, ◌++◌, Option, Some, None, unwrap_or, refl, sym, ap, subst, ◌∙◌, if◌then◌else◌}
use Rattle.std.proofs.lemmas.Bool.{eq-eqb}
use Rattle.std.proofs.lemmas.List.{append-nil}
use Rattle.std.proofs.lemmas.List.Sums.{fold-append}
use Rattle.std.specs.Prelude.{is_none, IfSome}
use Rattle.scenario_laws.specs.h4_framing.specs.Packets.{Packet}
use Rattle.scenario_laws.specs.bt_base.specs.Objects.{Contents}
use Rattle.scenario_laws.specs.bt_base.specs.declared.settings.Settings.{Settings}
use Rattle.scenario_laws.specs.acl_fragments.specs.Pieces.{Piece}
use Rattle.scenario_laws.specs.push_script.specs.declared.scenario.Scenario.{Scenario}
use Rattle.scenario_laws.specs.push_terms.specs.declared.outcome.Outcome.{Outcome}
use Rattle.scenario_laws.specs.push_terms.specs.declared.outcome.Outcome.TheVariants.{Cancelled as PushCancelled, ScriptEnded}
use Rattle.scenario_laws.specs.push_terms.specs.declared.word.Side.{Side}
use Rattle.scenario_laws.specs.push_terms.specs.declared.word.Side.TheVariants.{A, B}
use Rattle.scenario_laws.specs.push_terms.specs.declared.word.Way.TheVariants.{Ab, Ba}
use Rattle.scenario_laws.specs.push_terms.specs.declared.word.Word.{Word}
use Rattle.scenario_laws.specs.capture.specs.declared.flow.Flow.{Flow}
use Rattle.scenario_laws.specs.capture.specs.declared.flow.Flow.TheVariants.{Out, Into}
use Rattle.scenario_laws.specs.capture.specs.Entries.{Entry, Moved, Acted, Begun, Ended}
use Rattle.scenario_laws.specs.capture.specs.Histories.{EachAfter}
use Rattle.scenario_laws.specs.capture.specs.Links.{Link, link_up}
use Rattle.scenario_laws.specs.capture.proofs.HistoryLaws.{each_after-more}
use Rattle.scenario_laws.specs.radio_model.specs.declared.deed.Deed.{Deed}
use Rattle.scenario_laws.specs.radio_model.specs.declared.deed.Deed.TheVariants.{Nothing, Meets, Fires, FiresBoth, Breaks, Cancels}
use Rattle.scenario_laws.specs.radio_model.specs.Controllers.{Answer, LinkMade, LinkGone, answer_packet, piece_packet}
use Rattle.scenario_laws.specs.radio_model.specs.Radio.{found, is_together}
use Rattle.scenario_laws.specs.push_model.specs.Client.{Client, may_cancel}
use Rattle.scenario_laws.specs.world_model.specs.Carriages.{Carriage, Doing, Carries, first_carriage}
use Rattle.scenario_laws.specs.world_model.specs.Machines.{LinkEvent, Up, Down, Linked, Heard, TimerFired, Cancelled, Opening, Upper}
use Rattle.scenario_laws.specs.world_model.specs.Pushes.{Pushes, one_begun, one_ended}
use Rattle.scenario_laws.specs.world_model.specs.Stations.{order_packet, Station, Effort, Taking, Putting, Asking, Leaving, Commanding, MakesEffort, is_handle, longest_pdu, gives, holds, hears_each, hears_piece, event_in, upper_told, hears_answer, told}
use Rattle.scenario_laws.specs.world_model.specs.Worlds.{World, Happening, Tries, Departure, GivingBack, Piecemeal, Answering, Turns, Misses, Opens, Closes, entries_of, all_entries, fired, Acts, one_turned, IsAtRest, Does}
use Rattle.scenario_laws.specs.radio_world.specs.Standing.{last_entries}
use Rattle.scenario_laws.specs.turn_laws.proofs.Advancing.{Both, advances}
use Rattle.scenario_laws.specs.turn_laws.proofs.Coming.{owed_first}
use Rattle.scenario_laws.specs.turn_laws.proofs.Finishing.{nothing_more}
use Rattle.scenario_laws.specs.turn_laws.proofs.Keeping.{Kept}
use Rattle.scenario_laws.specs.turn_laws.proofs.Leading.{Tiding, Went, tidings, Led}
use Rattle.scenario_laws.specs.turn_laws.proofs.Running.{first_both}
use Rattle.scenario_laws.specs.turn_laws.proofs.Stationing.{linked_handle}
use Rattle.scenario_laws.specs.air_laws.proofs.Following.{Keeps as KeepsRun, reached_first, along}
use Rattle.scenario_laws.specs.air_laws.proofs.Turning.{acts_pushes}
use Rattle.scenario_laws.specs.host_model.specs.Circumstances.{Circumstance}
use Rattle.scenario_laws.specs.host_model.specs.Clients.{ClientProfile, client_profile}
use Rattle.scenario_laws.specs.host_model.specs.Hosts.{Host, hear}
use Rattle.scenario_laws.specs.host_model.specs.Machines.{client_host}
use Rattle.scenario_laws.specs.host_model.specs.Servers.{ServerProfile}
use Rattle.scenario_laws.specs.host_laws.proofs.OnwardSteps.{IsSo}
use Rattle.scenario_laws.specs.Captures.{client_of, server_of, BothHosts, beginning, Happened}
use Rattle.scenario_laws.proofs.Carrying.{carried}
use Rattle.scenario_laws.proofs.Fronts.{fits}
use Rattle.scenario_laws.proofs.Onward.{IsOnto, done_onto}
use Rattle.cause_laws.specs.FirstCauses.{since_more, since_begun, HasCause, IsHeardOn, EndsByCause, CausesAreShown}
use Rattle.cause_laws.specs.Said.{Decision, decision_of}
use Rattle.cause_laws.specs.Shown.{RunsShowCauses}
use Rattle.cause_laws.proofs.Clients.{never, is_heard, is_shelf, shelf_unsaid, Came, came_same, came_then}
use Rattle.cause_laws.proofs.Heard.{decided, HeardSo, HeardBy, Hears, unasked, heard_with, heard_same, unsaid_hears, piece_hears, heard_still}
use Rattle.cause_laws.proofs.Parts.{Stood, shown_cause, stood_more, stood_with, stood_by, stood_still, shelf_brings, brought_by, fired_brings, piece_brings, gone_brings}
use Rattle.cause_laws.proofs.Words.{IsPlainDeed, IsQuietDeed, WordIs, Quiet, Firing, Cancelling, word_is}
use Rattle.cause_laws.proofs.Links.{none_told, Decides, rest_hears}
use Rattle.cause_laws.proofs.Driving.{is_timed, timed_unsaid, is_gone, gone_unsaid, next_shelf, up_shelf, timer_timed, down_gone, down_comes, cancel_came, opens_shelf}
use Rattle.cause_laws.proofs.Profiles.{heard_came, may_none, lame_next, lame_hear}

-- ---- a moment of a run

pub since_then : (past : List Entry) (entry : Entry) → since_begun (past ++ entry ∷ []) ≡ since_more (since_begun past) entry
since_then past entry = fold-append since_more [] past (entry ∷ [])

pub well_before : (old new : Bool) → (old ≡ true → new ≡ true) → new ≡ false → old ≡ false
well_before true new goes well = never (sym well ∙ goes refl)
well_before false new goes well = refl

module _ {T H : Type 0} (settings : Settings) (V : Upper T H) where
  abbrev U : Upper (Host ClientProfile) Circumstance
  U = client_host settings

  abbrev W : Type 0
  W = World (Host ClientProfile) T

  abbrev cause_in : W → Option Outcome
  cause_in w = w.a.upper.profile.client.cause

  abbrev failed_in : W → Bool
  failed_in w = w.a.upper.profile.client.failed

  record Stands (past : List Entry) (w : W) : Type 0 where
    each : EachAfter (EndsByCause settings) [] past
    stood : w.pushes.going ≡ true → Stood (since_begun past) (cause_in w)
    heard : w.pushes.going ≡ true → HeardSo settings (cause_in w) past

  -- where its client did not lack memory
  abbrev At : List Entry → W → Type 0
  At past w = failed_in w ≡ false → Stands past w

  at_same : (past : List Entry) (new to : W) → new ≡ to → At past to → At past new
  at_same past new to same at = subst (λ (w : W). At past w) (sym same) at

  -- nothing moves
  still_at : (past : List Entry) (old to : W) → to.pushes ≡ old.pushes → (failed_in old ≡ true → failed_in to ≡ true) → Came is_shelf (cause_in old) (cause_in to) → At past old → At (past ++ []) to
  still_at past old to pushes lame came at = subst (λ (l : List Entry). At l to) (sym (append-nil past)) (λ well.
      let now = at (well_before (failed_in old) (failed_in to) lame well) in
      let still : to.pushes.going ≡ true → old.pushes.going ≡ true = λ going. sym (ap (λ (p : Pushes). p.going) pushes) ∙ going in
      record {
        each = now.each;
        stood = λ going. stood_still (since_begun past) (cause_in old) (cause_in to) came (now.stood (still going));
        heard = λ going. heard_still settings is_shelf past (cause_in old) (cause_in to) shelf_unsaid came (now.heard (still going));
      })

  -- an entry is written
  entry_at : (past : List Entry) (entry : Entry) (old to : W) → EndsByCause settings past entry → since_more (since_begun past) entry ≡ since_begun past ++ entry ∷ [] → to.pushes ≡ old.pushes → (failed_in old ≡ true → failed_in to ≡ true)
      → (Stood (since_begun past) (cause_in old) → Stood (since_begun past ++ entry ∷ []) (cause_in to)) → (Stood (since_begun past) (cause_in old) → HeardSo settings (cause_in old) past → HeardSo settings (cause_in to) (past ++ entry ∷ [])) → At past old → At (past ++ entry ∷ []) to
  entry_at past entry old to ends since pushes lame goes hears at = λ well.
      let now = at (well_before (failed_in old) (failed_in to) lame well) in
      let still : to.pushes.going ≡ true → old.pushes.going ≡ true = λ going. sym (ap (λ (p : Pushes). p.going) pushes) ∙ going in
      record {
        each = each_after-more (EndsByCause settings) past entry now.each ends;
        stood = λ going. subst (λ (l : List Entry). Stood l (cause_in to)) (sym (since_then past entry ∙ since)) (goes (now.stood (still going)));
        heard = λ going. hears (now.stood (still going)) (now.heard (still going));
      }

  -- ---- by itself

  effort_came : (effort : Effort) (one two : Station (Host ClientProfile)) → one.upper.channels.events ≡ [] → MakesEffort U A effort one two → Came is_shelf one.upper.profile.client.cause two.upper.profile.client.cause
  effort_came Taking one two none makes = subst (λ (s : Station (Host ClientProfile)). Came is_shelf one.upper.profile.client.cause s.upper.profile.client.cause) (sym makes.new_is) (next_shelf settings one.upper makes.pdu makes.after none makes.next)
  effort_came Putting one two none makes = subst (λ (s : Station (Host ClientProfile)). Came is_shelf one.upper.profile.client.cause s.upper.profile.client.cause) (sym makes.new_is) (came_same is_shelf one.upper.profile.client.cause)
  effort_came Asking one two none makes = subst (λ (s : Station (Host ClientProfile)). Came is_shelf one.upper.profile.client.cause s.upper.profile.client.cause) (sym makes.new_is) (came_same is_shelf one.upper.profile.client.cause)
  effort_came Leaving one two none makes = subst (λ (s : Station (Host ClientProfile)). Came is_shelf one.upper.profile.client.cause s.upper.profile.client.cause) (sym makes.new_is) (came_same is_shelf one.upper.profile.client.cause)
  effort_came Commanding one two none makes = subst (λ (s : Station (Host ClientProfile)). Came is_shelf one.upper.profile.client.cause s.upper.profile.client.cause) (sym makes.new_is) (came_same is_shelf one.upper.profile.client.cause)

  pub effort_lame : (effort : Effort) (one two : Station (Host ClientProfile)) → MakesEffort U A effort one two → one.upper.profile.client.failed ≡ true → two.upper.profile.client.failed ≡ true
  effort_lame Taking one two makes lame = subst (λ (s : Station (Host ClientProfile)). s.upper.profile.client.failed ≡ true) (sym makes.new_is) (lame_next settings one.upper makes.pdu makes.after makes.next lame)
  effort_lame Putting one two makes lame = subst (λ (s : Station (Host ClientProfile)). s.upper.profile.client.failed ≡ true) (sym makes.new_is) lame
  effort_lame Asking one two makes lame = subst (λ (s : Station (Host ClientProfile)). s.upper.profile.client.failed ≡ true) (sym makes.new_is) lame
  effort_lame Leaving one two makes lame = subst (λ (s : Station (Host ClientProfile)). s.upper.profile.client.failed ≡ true) (sym makes.new_is) lame
  effort_lame Commanding one two makes lame = subst (λ (s : Station (Host ClientProfile)). s.upper.profile.client.failed ≡ true) (sym makes.new_is) lame

  -- ---- what comes in

  each_came : (g : List Circumstance) (pdus : List (List ℕ)) (host : Host ClientProfile) → Came is_heard host.profile.client.cause (hears_each U g pdus host).profile.client.cause
  each_came g [] host = came_same is_heard host.profile.client.cause
  each_came g (pdu ∷ pdus) host =
      let next = hear (client_profile settings) g (Heard pdu) host in
      came_then is_heard host.profile.client.cause next.profile.client.cause (hears_each U g pdus next).profile.client.cause (heard_came settings g pdu host) (each_came g pdus next)

  each_lame : (g : List Circumstance) (pdus : List (List ℕ)) (host : Host ClientProfile) → host.profile.client.failed ≡ true → (hears_each U g pdus host).profile.client.failed ≡ true
  each_lame g [] host lame = lame
  each_lame g (pdu ∷ pdus) host lame = each_lame g pdus (hear (client_profile settings) g (Heard pdu) host) (lame_hear settings g (Heard pdu) host lame)

  piece_came : (g : List Circumstance) (handle : ℕ) (piece : Piece) (s : Station (Host ClientProfile)) → Came is_heard s.upper.profile.client.cause (hears_piece U g handle piece s).upper.profile.client.cause
  piece_came g handle piece s = by (is_handle handle s.link)
    where
      by : (here : Bool) → Came is_heard s.upper.profile.client.cause (if here then (let heard : Station (Host ClientProfile) = record s { upper = hears_each U g (gives longest_pdu s.joining piece) s.upper; joining = holds longest_pdu s.joining piece } in heard) else s).upper.profile.client.cause
      by true = each_came g (gives longest_pdu s.joining piece) s.upper
      by false = came_same is_heard s.upper.profile.client.cause

  piece_lame : (g : List Circumstance) (handle : ℕ) (piece : Piece) (s : Station (Host ClientProfile)) → s.upper.profile.client.failed ≡ true → (hears_piece U g handle piece s).upper.profile.client.failed ≡ true
  piece_lame g handle piece s lame = by (is_handle handle s.link)
    where
      by : (here : Bool) → (if here then (let heard : Station (Host ClientProfile) = record s { upper = hears_each U g (gives longest_pdu s.joining piece) s.upper; joining = holds longest_pdu s.joining piece } in heard) else s).upper.profile.client.failed ≡ true
      by true = each_lame g (gives longest_pdu s.joining piece) s.upper lame
      by false = lame

  told_lame : (g : List Circumstance) (event : Option LinkEvent) (host : Host ClientProfile) → host.profile.client.failed ≡ true → (upper_told U g event host).profile.client.failed ≡ true
  told_lame g None host lame = lame
  told_lame g (Some event) host lame = lame_hear settings g (Linked event) host lame

  made_came : (g : List Circumstance) (here : Bool) (host : Host ClientProfile) → host.channels.events ≡ [] → Came is_shelf host.profile.client.cause (upper_told U g (if here then Some Up else None) host).profile.client.cause
  made_came g true host none = up_shelf settings g host none
  made_came g false host none = came_same is_shelf host.profile.client.cause

  -- it stays heard where no word is turned
  stays_heard : (past : List Entry) (side : Side) (flow : Flow) (packet : Packet) (cause : Option Outcome) → HeardSo settings cause past → HeardSo settings cause (past ++ Moved side flow packet ∷ [])
  stays_heard past side flow packet cause heard = let entry = Moved side flow packet in heard_same settings past entry cause tt (unasked settings cause past entry (λ decision. tt)) heard

  moved_heard : (q : Outcome → Bool) (past : List Entry) (side : Side) (flow : Flow) (packet : Packet) (old new : Option Outcome) → (old ≡ None → Hears settings q (past ++ Moved side flow packet ∷ [])) → Came q old new → HeardSo settings old past → HeardSo settings new (past ++ Moved side flow packet ∷ [])
  moved_heard q past side flow packet old new hears came heard = let entry = Moved side flow packet in heard_with settings q past entry old new tt hears (unasked settings old past entry (λ decision. tt)) came heard

  -- an answer but for the end of a link
  abbrev TellsNoEnd : Answer → Type 0
  TellsNoEnd (LinkGone handle reason) = ⊥
  TellsNoEnd answer = Unit {0}

  answer_stood : (g : List Circumstance) (answer : Answer) (s : Station (Host ClientProfile)) (part : List Entry) → s.upper.channels.events ≡ [] → TellsNoEnd answer → Stood part s.upper.profile.client.cause
      → Stood (part ++ Moved A Into (answer_packet A answer) ∷ []) (hears_answer U g A answer s).upper.profile.client.cause
  answer_stood g (LinkMade handle) s part none plain stood =
      let entry = Moved A Into (answer_packet A (LinkMade handle)) in
      stood_with is_shelf part entry s.upper.profile.client.cause (hears_answer U g A (LinkMade handle) s).upper.profile.client.cause (record { not_cancelled = refl; not_ended = refl }) (shelf_brings entry refl) (made_came g (s.asked && is_none s.link) s.upper none) stood
  answer_stood g (LinkGone handle reason) s part none plain stood = absurd plain
  answer_stood g answer s part none plain stood = stood_more part (Moved A Into (answer_packet A answer)) s.upper.profile.client.cause (record { not_cancelled = refl; not_ended = refl }) stood

  answer_heard : (g : List Circumstance) (answer : Answer) (s : Station (Host ClientProfile)) (past : List Entry) → s.upper.channels.events ≡ [] → TellsNoEnd answer → HeardSo settings s.upper.profile.client.cause past
      → HeardSo settings (hears_answer U g A answer s).upper.profile.client.cause (past ++ Moved A Into (answer_packet A answer) ∷ [])
  answer_heard g (LinkMade handle) s past none plain heard =
      moved_heard is_shelf past A Into (answer_packet A (LinkMade handle)) s.upper.profile.client.cause (hears_answer U g A (LinkMade handle) s).upper.profile.client.cause (λ none. unsaid_hears settings is_shelf _ shelf_unsaid) (made_came g (s.asked && is_none s.link) s.upper none) heard
  answer_heard g (LinkGone handle reason) s past none plain heard = absurd plain
  answer_heard g answer s past none plain heard = stays_heard past A Into (answer_packet A answer) s.upper.profile.client.cause heard

  -- the end of its link
  end_heard : (g : List Circumstance) (handle reason : ℕ) (s : Station (Host ClientProfile)) (past : List Entry) → s.upper.channels.events ≡ [] → is_handle handle s.link ≡ true → HeardSo settings s.upper.profile.client.cause past
      → HeardSo settings (hears_answer U g A (LinkGone handle reason) s).upper.profile.client.cause (past ++ Moved A Into (answer_packet A (LinkGone handle reason)) ∷ [])
  end_heard g handle reason s past none here heard =
      let entry = Moved A Into (answer_packet A (LinkGone handle reason)) in
      subst (λ (b : Bool). HeardSo settings (upper_told U g (if b then Some (Down reason) else None) s.upper).profile.client.cause (past ++ entry ∷ [])) (sym here)
      (moved_heard (is_gone (reason == 0x13)) past A Into (answer_packet A (LinkGone handle reason)) s.upper.profile.client.cause (hear (client_profile settings) g (Linked (Down reason)) s.upper).profile.client.cause
      (λ none. unsaid_hears settings (is_gone (reason == 0x13)) _ (gone_unsaid (reason == 0x13))) (down_gone settings g reason s.upper none) heard)

  end_stood : (g : List Circumstance) (handle reason : ℕ) (s : Station (Host ClientProfile)) (part : List Entry) → s.upper.channels.events ≡ [] → is_handle handle s.link ≡ true → IsSo true s.upper.profile → Stood part s.upper.profile.client.cause
      → Stood (part ++ Moved A Into (answer_packet A (LinkGone handle reason)) ∷ []) (hears_answer U g A (LinkGone handle reason) s).upper.profile.client.cause
  end_stood g handle reason s part none here so stood =
      let entry = Moved A Into (answer_packet A (LinkGone handle reason)) in
      subst (λ (b : Bool). Stood (part ++ entry ∷ []) (upper_told U g (if b then Some (Down reason) else None) s.upper).profile.client.cause) (sym here)
      (stood_by (is_gone (reason == 0x13)) part entry s.upper.profile.client.cause (hear (client_profile settings) g (Linked (Down reason)) s.upper).profile.client.cause refl (gone_brings reason entry refl refl) (down_gone settings g reason s.upper none) (down_comes settings g reason s.upper so) stood)

  -- ---- words

  fired_came : (g : List Circumstance) (s : Station (Host ClientProfile)) → s.upper.channels.events ≡ [] → Came is_timed s.upper.profile.client.cause (fired U g s).upper.profile.client.cause
  fired_came g s none = by (U.armed s.upper)
    where
      by : (armed : Bool) → Came is_timed s.upper.profile.client.cause (if armed then told U g TimerFired s else s).upper.profile.client.cause
      by true = timer_timed settings g s.upper none
      by false = came_same is_timed s.upper.profile.client.cause

  fired_lame : (g : List Circumstance) (s : Station (Host ClientProfile)) → s.upper.profile.client.failed ≡ true → (fired U g s).upper.profile.client.failed ≡ true
  fired_lame g s lame = by (U.armed s.upper)
    where
      by : (armed : Bool) → (if armed then told U g TimerFired s else s).upper.profile.client.failed ≡ true
      by true = lame_hear settings g TimerFired s.upper lame
      by false = lame

  abbrev SoBehind : (old mid : W) → Type 0
  SoBehind old mid = Came is_timed (cause_in old) (cause_in mid) × (failed_in old ≡ true → failed_in mid ≡ true)

  stays_so : (old mid to : W) → mid ≡ to → SoBehind old to → SoBehind old mid
  stays_so old mid to same so = subst (λ (w : W). SoBehind old w) (sym same) so

  acts_so : (deed : Deed) (old mid : W) → old.a.upper.channels.events ≡ [] → IsPlainDeed deed → Acts U V deed old mid → SoBehind old mid
  acts_so Nothing old mid none plain acts = absurd acts
  acts_so (Meets Ab fate) old mid none plain acts = stays_so old mid _ acts (came_same is_timed (cause_in old), (λ lame. lame))
  acts_so (Meets Ba fate) old mid none plain acts = stays_so old mid _ acts (came_same is_timed (cause_in old), (λ lame. lame))
  acts_so (Fires A) old mid none plain (armed, g, same) = stays_so old mid _ same (timer_timed settings g old.a.upper none, (λ lame. lame_hear settings g TimerFired old.a.upper lame))
  acts_so (Fires B) old mid none plain (armed, h, same) = stays_so old mid _ same (came_same is_timed (cause_in old), (λ lame. lame))
  acts_so FiresBoth old mid none plain (armed, g, h, same) = stays_so old mid _ same (fired_came g old.a none, (λ lame. fired_lame g old.a lame))
  acts_so Breaks old mid none plain acts = stays_so old mid _ acts (came_same is_timed (cause_in old), (λ lame. lame))
  acts_so Cancels old mid none plain acts = absurd plain

  -- a word without a timer leaves the client as it is
  quiet_acts : (deed : Deed) (old mid : W) → IsQuietDeed deed → Acts U V deed old mid → mid.a.upper.profile.client ≡ old.a.upper.profile.client
  quiet_acts Nothing old mid quiet acts = absurd acts
  quiet_acts (Meets Ab fate) old mid quiet acts = ap (λ (w : W). w.a.upper.profile.client) acts
  quiet_acts (Meets Ba fate) old mid quiet acts = ap (λ (w : W). w.a.upper.profile.client) acts
  quiet_acts (Fires A) old mid quiet acts = absurd quiet
  quiet_acts (Fires B) old mid quiet (armed, h, same) = ap (λ (w : W). w.a.upper.profile.client) same
  quiet_acts FiresBoth old mid quiet acts = absurd quiet
  quiet_acts Breaks old mid quiet acts = ap (λ (w : W). w.a.upper.profile.client) acts
  quiet_acts Cancels old mid quiet acts = absurd quiet

  both_true : (a b : Bool) → (a && b) ≡ true → b ≡ true
  both_true true b is = is
  both_true false b is = cc

  word_at : (past : List Entry) (ordinal : ℕ) (word : Word) (deed : Deed) (old mid : W) → old.a.upper.channels.events ≡ [] → HeardBy settings (cause_in old) past (Acted ordinal word) → WordIs word deed → Acts U V deed old mid → At past old → At (past ++ Acted ordinal word ∷ []) (one_turned mid)
  word_at past ordinal word deed old mid none shows (Quiet plain_word quiet) acts at =
      let client_is = quiet_acts deed old mid quiet acts in
      let entry = Acted ordinal word in
      entry_at past entry old (one_turned mid) tt refl (acts_pushes U V deed old mid acts) (λ lame. ap (λ (c : Client). c.failed) client_is ∙ lame)
      (λ stood. subst (λ (c : Client). Stood (since_begun past ++ entry ∷ []) c.cause) (sym client_is) (stood_more (since_begun past) entry (cause_in old) (record { not_cancelled = plain_word; not_ended = refl }) stood))
      (λ stood heard. subst (λ (c : Client). HeardSo settings c.cause (past ++ entry ∷ [])) (sym client_is) (heard_same settings past entry (cause_in old) tt shows heard)) at
  word_at past ordinal word deed old mid none shows (Firing plain_word fires plain) acts at =
      let so = acts_so deed old mid none plain acts in
      let entry = Acted ordinal word in
      entry_at past entry old (one_turned mid) tt refl (acts_pushes U V deed old mid acts) so.1
      (λ stood. stood_with is_timed (since_begun past) entry (cause_in old) (cause_in mid) (record { not_cancelled = plain_word; not_ended = refl }) (fired_brings entry plain_word fires) so.0 stood)
      (λ stood heard. heard_with settings is_timed past entry (cause_in old) (cause_in mid) tt (λ uncaused. unsaid_hears settings is_timed (past ++ entry ∷ []) timed_unsaid) shows so.0 heard) at
  word_at past ordinal word deed old mid none shows (Cancelling cancel_word is) acts at = by (subst (λ (d : Deed). Acts U V d old mid) is acts)
    where
      by : Acts U V Cancels old mid → At (past ++ Acted ordinal word ∷ []) (one_turned mid)
      by (may, g, same) =
          let entry = Acted ordinal word in
          let to : W = record old { a = told U g Cancelled old.a } in
          let may_now = both_true old.pushes.going (may_cancel old.a.upper.profile.client) may in
          let uncaused = may_none settings old.a.upper.profile.client may_now in
          at_same (past ++ entry ∷ []) (one_turned mid) (one_turned to) (ap one_turned same)
          (entry_at past entry old (one_turned to) tt refl refl (λ lame. lame_hear settings g Cancelled old.a.upper lame)
          (λ stood. subst (λ (c : Option Outcome). Stood (since_begun past ++ entry ∷ []) c) (sym (cancel_came settings g old.a.upper none may_now))
          (brought_by PushCancelled (since_begun past) entry (subst (λ (c : Option Outcome). Stood (since_begun past) c) uncaused stood) cancel_word))
          (λ stood heard. subst (λ (c : Option Outcome). HeardSo settings c (past ++ entry ∷ [])) (sym (cancel_came settings g old.a.upper none may_now)) tt) at)

  -- ---- whatever happens

  -- host a hears of the end of a link while that is up, and then its push is on it
  abbrev pub IsOn : W → Type 0
  IsOn w = (handle reason : ℕ) (rest : List Answer) → w.radio.a.owed ≡ LinkGone handle reason ∷ rest → (is_handle handle w.a.link ≡ true) × IsSo true w.a.upper.profile

  answered_at : (past : List Entry) (answer : Answer) (rest : List Answer) (g : List Circumstance) (old to : W) → old.a.upper.channels.events ≡ [] → old.radio.a.owed ≡ answer ∷ rest → IsOn old → to.pushes ≡ old.pushes → to.a ≡ hears_answer U g A answer old.a → At past old
      → At (past ++ Moved A Into (answer_packet A answer) ∷ []) to
  answered_at past answer rest g old to none first on pushes same at =
      let entry = Moved A Into (answer_packet A answer) in
      entry_at past entry old to tt refl pushes (λ lame. ap (λ (s : Station (Host ClientProfile)). s.upper.profile.client.failed) same ∙ told_lame g (event_in answer old.a) old.a.upper lame)
      (λ stood. subst (λ (s : Station (Host ClientProfile)). Stood (since_begun past ++ entry ∷ []) s.upper.profile.client.cause) (sym same) (by answer first stood))
      (λ stood heard. subst (λ (s : Station (Host ClientProfile)). HeardSo settings s.upper.profile.client.cause (past ++ entry ∷ [])) (sym same) (hears answer first heard)) at
    where
      hears : (one : Answer) → old.radio.a.owed ≡ one ∷ rest → HeardSo settings (cause_in old) past → HeardSo settings (hears_answer U g A one old.a).upper.profile.client.cause (past ++ Moved A Into (answer_packet A one) ∷ [])
      hears (LinkGone handle reason) is heard = let now = on handle reason rest is in end_heard g handle reason old.a past none now.0 heard
      hears one is heard = answer_heard g one old.a past none tt heard

      by : (one : Answer) → old.radio.a.owed ≡ one ∷ rest → Stood (since_begun past) (cause_in old) → Stood (since_begun past ++ Moved A Into (answer_packet A one) ∷ []) (hears_answer U g A one old.a).upper.profile.client.cause
      by (LinkGone handle reason) is stood = let now = on handle reason rest is in end_stood g handle reason old.a (since_begun past) none now.0 now.1 stood
      by one is stood = answer_stood g one old.a (since_begun past) none tt stood

  abbrev Shows : List Entry → W → Type 0
  Shows past w = IsAtRest U V w → IfSome (decided (cause_in w)) (λ decision. IsHeardOn settings decision (link_up A past))

  does_at : (happening : Happening) (past : List Entry) (old new : W) → old.a.upper.channels.events ≡ [] → IsOn old → Shows past old → Does U V happening old new → At past old → At (past ++ entries_of happening) new
  does_at (Tries A effort) past old new quiet on shows (station, makes, same) at =
      at_same (past ++ []) new (record old { a = station }) same (still_at past old (record old { a = station }) refl (effort_lame effort old.a station makes) (effort_came effort old.a station quiet makes) at)
  does_at (Tries B effort) past old new quiet on shows (station, makes, same) at =
      at_same (past ++ []) new (record old { b = station }) same (still_at past old (record old { b = station }) refl (λ lame. lame) (came_same is_shelf (cause_in old)) at)
  does_at (Departure A order) past old new quiet on shows (rest, first, same) at =
      let entry = Moved A Out (order_packet A order) in
      at_same (past ++ entry ∷ []) new _ same (entry_at past entry old _ tt refl refl (λ lame. lame) (λ stood. stood_more (since_begun past) entry (cause_in old) (record { not_cancelled = refl; not_ended = refl }) stood)
      (λ stood heard. stays_heard past _ _ _ (cause_in old) heard) at)
  does_at (Departure B order) past old new quiet on shows (rest, first, same) at =
      let entry = Moved B Out (order_packet B order) in
      at_same (past ++ entry ∷ []) new _ same (entry_at past entry old _ tt refl refl (λ lame. lame) (λ stood. stood_more (since_begun past) entry (cause_in old) (record { not_cancelled = refl; not_ended = refl }) stood)
      (λ stood heard. stays_heard past _ _ _ (cause_in old) heard) at)
  does_at (GivingBack side) past old new quiet on shows same at = at_same (past ++ []) new _ same (still_at past old _ refl (λ lame. lame) (came_same is_shelf (cause_in old)) at)
  does_at (Piecemeal A handle piece) past old new quiet on shows (rest, first, here, g, same) at =
      let entry = Moved A Into (piece_packet handle piece) in
      at_same (past ++ entry ∷ []) new _ same (entry_at past entry old _ tt refl refl (λ lame. piece_lame g handle piece old.a lame)
      (λ stood. stood_with is_heard (since_begun past) entry (cause_in old) (hears_piece U g handle piece old.a).upper.profile.client.cause (record { not_cancelled = refl; not_ended = refl }) (piece_brings entry refl refl) (piece_came g handle piece old.a) stood)
      (λ stood heard. moved_heard is_heard past A Into (piece_packet handle piece) (cause_in old) (hears_piece U g handle piece old.a).upper.profile.client.cause (λ none. piece_hears settings is_heard past entry refl (subst (Stood (since_begun past)) none stood)) (piece_came g handle piece old.a) heard) at)
  does_at (Piecemeal B handle piece) past old new quiet on shows (rest, first, here, h, same) at =
      let entry = Moved B Into (piece_packet handle piece) in
      at_same (past ++ entry ∷ []) new _ same (entry_at past entry old _ tt refl refl (λ lame. lame) (λ stood. stood_more (since_begun past) entry (cause_in old) (record { not_cancelled = refl; not_ended = refl }) stood)
      (λ stood heard. stays_heard past _ _ _ (cause_in old) heard) at)
  does_at (Answering A answer) past old new quiet on shows (rest, none, first, g, same) at =
      at_same (past ++ Moved A Into (answer_packet A answer) ∷ []) new _ same (answered_at past answer rest g old _ quiet first on refl refl at)
  does_at (Answering B answer) past old new quiet on shows (rest, none, first, h, same) at =
      let entry = Moved B Into (answer_packet B answer) in
      at_same (past ++ entry ∷ []) new _ same (entry_at past entry old _ tt refl refl (λ lame. lame) (λ stood. stood_more (since_begun past) entry (cause_in old) (record { not_cancelled = refl; not_ended = refl }) stood)
      (λ stood heard. stays_heard past _ _ _ (cause_in old) heard) at)
  does_at (Turns ordinal word) past old new quiet on shows (rest, is_word, ordinal_is, mid, acts, same) at =
      at_same (past ++ Acted ordinal word ∷ []) new (one_turned mid) same (word_at past ordinal word (found word old.radio) old mid quiet (shows rest) (word_is word old.radio.served old.radio.a.waiting old.radio.b.waiting _) acts at)
  does_at (Misses word) past old new quiet on shows (rest, nothing, same) at = at_same (past ++ []) new _ same (still_at past old _ refl (λ lame. lame) (came_same is_shelf (cause_in old)) at)
  does_at (Opens push name) past old new quiet on shows (idle, next, push_is, g, same) at =
      let to : W = record old { pushes = one_begun old.pushes; a = told U g (Opening name) old.a } in
      at_same (past ++ Begun push ∷ []) new to same (λ well.
      let now = at (well_before (failed_in old) (failed_in to) (λ lame. lame_hear settings g (Opening name) old.a.upper lame) well) in
      record {
        each = each_after-more (EndsByCause settings) past (Begun push) now.each tt;
        stood = λ going. subst (λ (l : List Entry). Stood l (cause_in to)) (sym (since_then past (Begun push))) (stood_still [] None (cause_in to) (opens_shelf settings g name old.a.upper quiet well) tt);
        heard = λ going. heard_still settings is_shelf (past ++ Begun push ∷ []) None (cause_in to) shelf_unsaid (opens_shelf settings g name old.a.upper quiet well) tt;
      })
  does_at (Closes push outcome) past old new quiet on shows (going, push_is, idle, is, apart, none_a, none_b, quiet_a, quiet_b, same) at =
      let to : W = record old { pushes = one_ended outcome old.pushes } in
      at_same (past ++ Ended push outcome ∷ []) new to same (λ well.
      let now = at well in
      record {
        each = each_after-more (EndsByCause settings) past (Ended push outcome) now.each (record {
          cause = shown_cause outcome (since_begun past) (subst (λ (c : Option Outcome). Stood (since_begun past) c) is (now.stood going));
          heard = subst (λ (c : Option Outcome). HeardSo settings c past) is (now.heard going);
        });
        stood = λ on. never on;
        heard = λ on. never on;
      })

  -- with the end of the push that goes on
  last_cause : (cause : Option Outcome) (part : List Entry) → Stood part cause → HasCause (unwrap_or cause ScriptEnded) part
  last_cause None part stood = stood
  last_cause (Some outcome) part stood = shown_cause outcome part stood

  last_heard : (cause : Option Outcome) (past : List Entry) → HeardSo settings cause past → HeardSo settings (Some (unwrap_or cause ScriptEnded)) past
  last_heard None past heard = tt
  last_heard (Some outcome) past heard = heard

  last_at : (past : List Entry) (w : W) → Stands past w → CausesAreShown settings (past ++ last_entries (cause_in w) w.pushes)
  last_at past w stands = by w.pushes.going refl
    where
      by : (going : Bool) → w.pushes.going ≡ going → CausesAreShown settings (past ++ (if going then Ended w.pushes.begun (unwrap_or (cause_in w) ScriptEnded) ∷ [] else []))
      by true is = each_after-more (EndsByCause settings) past (Ended w.pushes.begun (unwrap_or (cause_in w) ScriptEnded)) stands.each
          (record { cause = last_cause (cause_in w) (since_begun past) (stands.stood is); heard = last_heard (cause_in w) past (stands.heard is) })
      by false is = subst (CausesAreShown settings) (sym (append-nil past)) stands.each

-- ---- a scenario

module _ (scenario : Scenario) (content : Option Contents) where
  abbrev S : Upper (Host ClientProfile) Circumstance
  S = client_of scenario

  abbrev R : Upper (Host ServerProfile) Circumstance
  R = server_of scenario content

  carries_onto : (doings : List Doing) (old new : Carriage (Host ClientProfile) (Host ServerProfile)) → Carries S R doings old new → Both S R old → IsOnto old.a → IsOnto new.a
  carries_onto [] old new same sound onto = subst (λ (c : Carriage (Host ClientProfile) (Host ServerProfile)). IsOnto c.a) (sym same) onto
  carries_onto (doing ∷ doings) old new (mid, does, runs) sound onto =
      carries_onto doings mid new runs (advances S R doing old nothing_more nothing_more mid does sound).both (done_onto scenario.settings R doing old mid does sound onto)

  -- its push is on its link while that is up
  on_link : (happenings : List Happening) (w : BothHosts) → Happened scenario content happenings w → IsSo w.radio.a.up w.a.upper.profile
  on_link happenings w happened =
      let all = carried S R scenario.acl_length scenario.acl_count scenario.names happenings w (fits scenario content) happened in
      (carries_onto all.doings (first_carriage S R scenario.acl_length scenario.names) _ all.carries (first_both S R scenario.acl_length scenario.names) (record { so = record { suits = refl; linked = λ on. cc }; owed = tt })).so

  pub is_on : (done : List Happening) (w : BothHosts) → Happened scenario content done w → Kept S R w.radio w.a w.b w.pushes.going → IsOn scenario.settings R w
  is_on done w happened kept handle reason rest first =
      let owed = owed_first w.radio.a.owed rest (LinkGone handle reason) (Went handle reason) first refl in
      let led : Led w.radio.a.told w.radio.a.up (Went handle reason ∷ tidings rest) w.radio.number (is_together w.radio.phase) = subst (λ (l : List Tiding). Led w.radio.a.told w.radio.a.up l w.radio.number (is_together w.radio.phase)) owed kept.one.led in
      let link : w.a.link ≡ Some w.radio.a.told = kept.one.link ∙ ap (λ (b : Bool). linked_handle b w.radio.a.told) led.0 in (
        ap (is_handle handle) link ∙ eq-eqb w.radio.a.told handle (sym led.1),
        subst (λ (up : Bool). IsSo up w.a.upper.profile) led.0 (on_link done w happened),
      )

  -- at rest host a has heard what its outcome came of
  rest_heard : (done : List Happening) (w : BothHosts) → Happened scenario content done w → (past : List Entry) → all_entries done ≡ past → Shows scenario.settings (server_of scenario content) past w
  rest_heard done w there past is rest = subst (λ (l : List Entry). IfSome (decided w.a.upper.profile.client.cause) (λ decision. IsHeardOn scenario.settings decision (link_up A l))) is (by w.a.upper.profile.client.cause refl)
    where
      on : (decision : Decision) → Decides w decision → (found : Option Link) → link_up A (all_entries done) ≡ found → IsHeardOn scenario.settings decision found
      on decision decides None up = tt
      on decision decides (Some link) up = rest_hears scenario content done w there rest link up decision decides

      at : (outcome : Outcome) → w.a.upper.profile.client.cause ≡ Some outcome → (found : Option Decision) → decision_of outcome ≡ found → IfSome found (λ decision. IsHeardOn scenario.settings decision (link_up A (all_entries done)))
      at outcome came None said = tt
      at outcome came (Some decision) said = on decision (outcome, came, said) (link_up A (all_entries done)) refl

      by : (cause : Option Outcome) → w.a.upper.profile.client.cause ≡ cause → IfSome (decided cause) (λ decision. IsHeardOn scenario.settings decision (link_up A (all_entries done)))
      by None came = tt
      by (Some outcome) came = at outcome came (decision_of outcome) refl

  keeps_at : (happenings : List Happening) → KeepsRun S R happenings (beginning scenario content) (λ past words w. At scenario.settings R past w)
  keeps_at happenings happening ahead past words old new reached does next at = does_at scenario.settings R happening past old new (none_told scenario content reached.done old reached.runs) (is_on reached.done old reached.runs reached.kept) (rest_heard reached.done old reached.runs past reached.past_is) does at

  arrives : (happenings : List Happening) (w : BothHosts) → Happened scenario content happenings w → At scenario.settings R (all_entries happenings) w
  arrives happenings w happened =
      let all = fits scenario content in
      (along S R happenings (beginning scenario content) (λ past words w. At scenario.settings R past w) happenings [] [] (beginning scenario content) w all.frames_a all.frames_b all.idles (keeps_at happenings) happened
      (reached_first S R scenario.acl_length scenario.acl_count scenario.names happenings all) (λ well. record { each = tt; stood = λ going. never going; heard = λ going. never going })).now

pub runs_show_causes : RunsShowCauses
runs_show_causes = record {
  moments = λ scenario content happenings world happened well. (arrives scenario content happenings world happened well).each;
  ends = λ scenario content happenings world happened well. last_at scenario.settings (server_of scenario content) (all_entries happenings) world (arrives scenario content happenings world happened well);
}
