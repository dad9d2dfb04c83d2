-- The capture of each run shows that links are lost where `drop` broke them.
use Rattle.std.proofs.Common.{◌≡◌, ℕ, Bool, true, false, ◌&&◌, ◌||◌, ◌==◌, List, [], ◌∷◌, ◌++◌, length, Option, Some, None, unwrap_or, inl, inr, refl, sym, ap, subst, ◌∙◌, if◌then◌else◌}
use Rattle.std.specs.Prelude.{is_some, is_none, slice_get}
use Rattle.std.specs.List.{AllByRecursion}
use Rattle.std.proofs.lemmas.Bool.{eqb-true, eq-eqb}
use Rattle.std.proofs.lemmas.List.{append-nil}
use Rattle.cause_laws.specs.bt_base.specs.Objects.{Contents}
use Rattle.cause_laws.specs.bt_base.specs.declared.settings.Settings.{Settings}
use Rattle.cause_laws.specs.acl_fragments.specs.Pieces.{Piece}
use Rattle.cause_laws.specs.push_script.specs.declared.scenario.Scenario.{Scenario}
use Rattle.cause_laws.specs.push_terms.specs.declared.outcome.Outcome.{Outcome}
use Rattle.cause_laws.specs.push_terms.specs.declared.outcome.Outcome.TheVariants.{LinkLost, Cancelled as PushCancelled, ScriptEnded}
use Rattle.cause_laws.specs.push_terms.specs.declared.word.Side.{Side}
use Rattle.cause_laws.specs.push_terms.specs.declared.word.Side.TheVariants.{A, B}
use Rattle.cause_laws.specs.push_terms.specs.declared.word.Way.{Way}
use Rattle.cause_laws.specs.push_terms.specs.declared.word.Way.TheVariants.{Ab, Ba}
use Rattle.cause_laws.specs.push_terms.specs.declared.word.Word.{Word}
use Rattle.cause_laws.specs.push_terms.specs.declared.word.Word.TheVariants.{Pass, Lose, Repeat, Damage, Cut, Timer, Drop, Cancel}
use Rattle.cause_laws.specs.capture.specs.declared.flow.Flow.TheVariants.{Out, Into}
use Rattle.cause_laws.specs.capture.specs.Entries.{Entry, Moved, Acted, Begun, Ended}
use Rattle.cause_laws.specs.capture.specs.Frames.{way_served}
use Rattle.cause_laws.specs.capture.specs.Histories.{EachAfter}
use Rattle.cause_laws.specs.capture.proofs.HistoryLaws.{each_after-more}
use Rattle.cause_laws.specs.radio_model.specs.declared.deed.Deed.{Deed}
use Rattle.cause_laws.specs.radio_model.specs.declared.deed.Deed.TheVariants.{Nothing, Meets, Fires, FiresBoth, Breaks, Cancels}
use Rattle.cause_laws.specs.radio_model.specs.declared.fate.Fate.{Fate}
use Rattle.cause_laws.specs.radio_model.specs.declared.fate.Fate.TheVariants.{Delivered, Lost, Repeated, CutOff, Changed}
use Rattle.cause_laws.specs.radio_model.specs.Controllers.{Answer, LinkMade, LinkGone, Controller, answer_packet, piece_packet, after_handing, after_giving_back, after_telling}
use Rattle.cause_laws.specs.radio_model.specs.Fates.{first_can_meet}
use Rattle.cause_laws.specs.radio_model.specs.Radio.{Radio, knows_link, is_together, after_offer, after_meeting}
use Rattle.cause_laws.specs.radio_model.specs.Words.{meets_on, passing, deed_of}
use Rattle.cause_laws.specs.push_model.specs.Client.{may_cancel}
use Rattle.cause_laws.specs.world_model.specs.Machines.{Up, Down, Linked, Heard, TimerFired, Cancelled, Opening, Upper}
use Rattle.cause_laws.specs.world_model.specs.Pushes.{Pushes, one_begun, one_ended}
use Rattle.cause_laws.specs.world_model.specs.Stations.{Order, End, order_packet, Station, Effort, Taking, Putting, Asking, Leaving, Commanding, MakesEffort, is_handle, longest_pdu, gives, holds, hears_each, hears_piece, event_in, upper_told, hears_answer, told}
use Rattle.cause_laws.specs.world_model.specs.Worlds.{World, Happening, Tries, Departure, GivingBack, Piecemeal, Answering, Turns, Misses, Opens, Closes, entries_of, all_entries, after_order, fired, Acts, one_turned, Does}
use Rattle.cause_laws.specs.radio_world.specs.Standing.{last_entries}
use Rattle.cause_laws.specs.turn_laws.proofs.Coming.{handed_piece, handed_answer}
use Rattle.cause_laws.specs.turn_laws.proofs.Departing.{gives_back_tidings}
use Rattle.cause_laws.specs.turn_laws.proofs.Keeping.{Kept}
use Rattle.cause_laws.specs.turn_laws.proofs.Wiring.{has_end}
use Rattle.cause_laws.specs.air_laws.proofs.Following.{Keeps as KeepsRun, reached_first, along}
use Rattle.cause_laws.specs.air_laws.proofs.Turning.{acts_pushes}
use Rattle.cause_laws.specs.host_model.specs.Circumstances.{Circumstance}
use Rattle.cause_laws.specs.host_model.specs.Clients.{ClientProfile, client_profile, is_at_end}
use Rattle.cause_laws.specs.host_model.specs.Hosts.{Host, hear}
use Rattle.cause_laws.specs.host_model.specs.Machines.{client_host}
use Rattle.cause_laws.specs.host_model.specs.Servers.{ServerProfile}
use Rattle.cause_laws.specs.scenario_laws.specs.Captures.{client_of, server_of, BothHosts, beginning, Happened}
use Rattle.cause_laws.specs.scenario_laws.proofs.Fronts.{fits}
use Rattle.cause_laws.specs.FirstCauses.{since_more, since_begun, is_cancel, end_reason, IsNoCause, AreNoCauses}
use Rattle.cause_laws.proofs.Clients.{never, is_any, is_heard, is_shelf, shelf_any, Within, Came, came_same, came_then, came_more, HasCome, has_come}
use Rattle.cause_laws.proofs.Driving.{is_timed, is_gone, next_shelf, up_shelf, timer_timed, down_gone, down_comes, cancel_came, opens_shelf}
use Rattle.cause_laws.proofs.Links.{none_told}
use Rattle.cause_laws.proofs.Parts.{none_more, timed_any}
use Rattle.cause_laws.proofs.Runs.{since_then, well_before, effort_lame, IsOn, is_on}
use Rattle.cause_laws.proofs.Profiles.{heard_came, may_none, lame_hear}
use Rattle.drop_laws.specs.Dropped.{is_drop, is_drop_word, IsLostByDrop, LossIs, EndsByDrop, LossesAreDrops, RunsLoseByDrops}
use Rattle.drop_laws.proofs.Leaves.{LeavesByCause}
use Rattle.drop_laws.proofs.Owing.{GoneSo, TidingSo, Owes, owes_more, owes_same, owes_on, drop_more, drop_now, ordered, owes_rest}
use Rattle.drop_laws.proofs.Profiles.{hear_leaves, next_leaves, leaving_has_cause}

-- ---- outcomes

-- without one none came before
none_before : (q : Outcome → Bool) (old new : Option Outcome) → Came q old new → new ≡ None → old ≡ None
none_before q None new came none = refl
none_before q (Some outcome) new came none = let e : Some outcome ≡ None = sym came ∙ none in absurd cc

-- and link-lost came of nothing of that kind
lost_before : (q : Outcome → Bool) (old new : Option Outcome) → q LinkLost ≡ false → Came q old new → new ≡ Some LinkLost → old ≡ Some LinkLost
lost_before q None new other came lost = let came_so : Within q (Some LinkLost) = subst (Within q) lost came in never (sym other ∙ came_so)
lost_before q (Some outcome) new other came lost = sym came ∙ lost

some_comes : (cause : Option Outcome) → is_some cause ≡ true → HasCome cause
some_comes None is = never is
some_comes (Some outcome) is = tt

comes_not : (cause : Option Outcome) → HasCome cause → cause ≡ None → ⊥
comes_not None comes none = comes
comes_not (Some outcome) comes none = let e : Some outcome ≡ None = none in cc

-- ---- a part

lost_more : (part : List Entry) (entry : Entry) → IsLostByDrop part → IsLostByDrop (part ++ entry ∷ [])
lost_more part entry lost = record {
  before = lost.before;
  entry = lost.entry;
  after = lost.after ++ entry ∷ [];
  part_is = ap (λ (l : List Entry). l ++ entry ∷ []) lost.part_is ∙ behind lost.before (lost.entry ∷ lost.after) (entry ∷ []);
  first = lost.first;
  dropped = lost.dropped;
  told = lost.told;
}
  where
    behind : (xs ys zs : List Entry) → (xs ++ ys) ++ zs ≡ xs ++ (ys ++ zs)
    behind [] ys zs = refl
    behind (x ∷ xs) ys zs = ap (λ (l : List Entry). x ∷ l) (behind xs ys zs)

-- ---- words

-- only `drop` breaks a link
no_break : (test : Bool) (way : Way) (fate : Fate) → (if test then Meets way fate else Nothing) ≡ Breaks → ⊥
no_break true way fate is = let e = is in cc
no_break false way fate is = let e = is in cc

on_no_break : (way : Way) (fate : Fate) (ab ba : List (List ℕ)) → meets_on way fate ab ba ≡ Breaks → ⊥
on_no_break Ab fate ab ba is = no_break (first_can_meet fate ab (length ba)) Ab fate is
on_no_break Ba fate ab ba is = no_break (first_can_meet fate ba (length ab)) Ba fate is

pass_no_break : (way : Option Way) (ab ba : List (List ℕ)) → passing way ab ba ≡ Breaks → ⊥
pass_no_break None ab ba is = let e = is in cc
pass_no_break (Some way) ab ba is = on_no_break way Delivered ab ba is

-- and only `cancel` cancels
no_cancel : (test : Bool) (way : Way) (fate : Fate) → (if test then Meets way fate else Nothing) ≡ Cancels → ⊥
no_cancel true way fate is = let e = is in cc
no_cancel false way fate is = let e = is in cc

on_no_cancel : (way : Way) (fate : Fate) (ab ba : List (List ℕ)) → meets_on way fate ab ba ≡ Cancels → ⊥
on_no_cancel Ab fate ab ba is = no_cancel (first_can_meet fate ab (length ba)) Ab fate is
on_no_cancel Ba fate ab ba is = no_cancel (first_can_meet fate ba (length ab)) Ba fate is

pass_no_cancel : (way : Option Way) (ab ba : List (List ℕ)) → passing way ab ba ≡ Cancels → ⊥
pass_no_cancel None ab ba is = let e = is in cc
pass_no_cancel (Some way) ab ba is = on_no_cancel way Delivered ab ba is

fires_no_break : (side : Side) → Fires side ≡ Breaks → ⊥
fires_no_break side is = let e : Fires side ≡ Breaks = is in cc

fires_no_cancel : (side : Side) → Fires side ≡ Cancels → ⊥
fires_no_cancel side is = let e : Fires side ≡ Cancels = is in cc

broken_no_cancel : (test : Bool) → (if test then Breaks else Nothing) ≡ Cancels → ⊥
broken_no_cancel true is = let e = is in cc
broken_no_cancel false is = let e = is in cc

-- ---- a moment of a run

-- how the part of the push that goes on stands: what it shows, and what host a is to be told
record IsNow (part : List Entry) (cause : Option Outcome) (owed : List Answer) : Type 0 where
  none : cause ≡ None → AreNoCauses part
  lost : cause ≡ Some LinkLost → IsLostByDrop part
  owes : Owes part cause owed

-- nothing is written
now_still : (q : Outcome → Bool) (part : List Entry) (old new : Option Outcome) (owed owed' : List Answer) → q LinkLost ≡ false → Came q old new → (Owes part old owed → Owes part old owed') → IsNow part old owed → IsNow part new owed'
now_still q part old new owed owed' other came owes now = record {
  none = λ is. now.none (none_before q old new came is);
  lost = λ is. now.lost (lost_before q old new other came is);
  owes = owes_on part part old new owed' (λ has. has) (has_come q old new came) (owes now.owes);
}

-- an entry is written
now_more : (q : Outcome → Bool) (part : List Entry) (entry : Entry) (old new : Option Outcome) (owed owed' : List Answer) → q LinkLost ≡ false → (new ≡ None → IsNoCause entry) → Came q old new
    → (Owes (part ++ entry ∷ []) new owed → Owes (part ++ entry ∷ []) new owed') → IsNow part old owed → IsNow (part ++ entry ∷ []) new owed'
now_more q part entry old new owed owed' other plain came owes now = record {
  none = λ is. none_more part entry (plain is) (now.none (none_before q old new came is));
  lost = λ is. lost_more part entry (now.lost (lost_before q old new other came is));
  owes = owes (owes_on part (part ++ entry ∷ []) old new owed (drop_more part entry) (has_come q old new came) now.owes);
}

module _ {T H : Type 0} (settings : Settings) (V : Upper T H) where
  abbrev U : Upper (Host ClientProfile) Circumstance
  U = client_host settings

  abbrev W : Type 0
  W = World (Host ClientProfile) T

  abbrev cause_in : W → Option Outcome
  cause_in w = w.a.upper.profile.client.cause

  abbrev failed_in : W → Bool
  failed_in w = w.a.upper.profile.client.failed

  abbrev LeavesSo : Host ClientProfile → Type 0
  LeavesSo host = LeavesByCause host.profile.client

  record Stands (past : List Entry) (w : W) : Type 0 where
    each : EachAfter EndsByDrop [] past
    leaves : LeavesSo w.a.upper
    now : w.pushes.going ≡ true → IsNow (since_begun past) (cause_in w) w.radio.a.owed

  abbrev At : List Entry → W → Type 0
  At past w = failed_in w ≡ false → Stands past w

  at_same : (past : List Entry) (new to : W) → new ≡ to → At past to → At past new
  at_same past new to same at = subst (λ (w : W). At past w) (sym same) at

  still_at : (past : List Entry) (old to : W) → to.pushes ≡ old.pushes → (failed_in old ≡ true → failed_in to ≡ true) → (LeavesSo old.a.upper → LeavesSo to.a.upper) → Came is_any (cause_in old) (cause_in to)
      → (Owes (since_begun past) (cause_in old) old.radio.a.owed → Owes (since_begun past) (cause_in old) to.radio.a.owed) → At past old → At (past ++ []) to
  still_at past old to pushes lame leaves came owes at = subst (λ (l : List Entry). At l to) (sym (append-nil past)) (λ well.
      let so = at (well_before (failed_in old) (failed_in to) lame well) in
      record {
        each = so.each;
        leaves = leaves so.leaves;
        now = λ going. now_still is_any (since_begun past) (cause_in old) (cause_in to) old.radio.a.owed to.radio.a.owed refl came owes (so.now (sym (ap (λ (p : Pushes). p.going) pushes) ∙ going));
      })

  entry_at : (past : List Entry) (entry : Entry) (old to : W) → EndsByDrop past entry → since_more (since_begun past) entry ≡ since_begun past ++ entry ∷ [] → to.pushes ≡ old.pushes → (failed_in old ≡ true → failed_in to ≡ true)
      → (LeavesSo old.a.upper → LeavesSo to.a.upper) → (LeavesSo old.a.upper → IsNow (since_begun past) (cause_in old) old.radio.a.owed → IsNow (since_begun past ++ entry ∷ []) (cause_in to) to.radio.a.owed) → At past old → At (past ++ entry ∷ []) to
  entry_at past entry old to ends since pushes lame leaves goes at = λ well.
      let so = at (well_before (failed_in old) (failed_in to) lame well) in
      record {
        each = each_after-more EndsByDrop past entry so.each ends;
        leaves = leaves so.leaves;
        now = λ going. subst (λ (l : List Entry). IsNow l (cause_in to) to.radio.a.owed) (sym (since_then past entry ∙ since)) (goes so.leaves (so.now (sym (ap (λ (p : Pushes). p.going) pushes) ∙ going)));
      }

  -- an entry that is no cause, at which its client stays as it is
  quiet_at : (past : List Entry) (entry : Entry) (old to : W) → EndsByDrop past entry → since_more (since_begun past) entry ≡ since_begun past ++ entry ∷ [] → to.pushes ≡ old.pushes → IsNoCause entry → to.a.upper ≡ old.a.upper
      → (LeavesSo old.a.upper → Owes (since_begun past ++ entry ∷ []) (cause_in old) old.radio.a.owed → Owes (since_begun past ++ entry ∷ []) (cause_in old) to.radio.a.owed) → At past old → At (past ++ entry ∷ []) to
  quiet_at past entry old to ends since pushes plain same owes at =
      entry_at past entry old to ends since pushes (λ lame. ap (λ (host : Host ClientProfile). host.profile.client.failed) same ∙ lame) (λ leaves. subst LeavesSo (sym same) leaves)
      (λ leaves now. subst (λ (host : Host ClientProfile). IsNow (since_begun past ++ entry ∷ []) host.profile.client.cause to.radio.a.owed) (sym same)
      (now_more is_any (since_begun past) entry (cause_in old) (cause_in old) old.radio.a.owed to.radio.a.owed refl (λ none. plain) (came_same is_any (cause_in old)) (owes leaves) now)) at

  -- ---- by itself

  effort_came : (effort : Effort) (one two : Station (Host ClientProfile)) → one.upper.channels.events ≡ [] → MakesEffort U A effort one two → Came is_any one.upper.profile.client.cause two.upper.profile.client.cause
  effort_came Taking one two none makes = subst (λ (s : Station (Host ClientProfile)). Came is_any one.upper.profile.client.cause s.upper.profile.client.cause) (sym makes.new_is) (came_more is_shelf is_any shelf_any one.upper.profile.client.cause makes.after.profile.client.cause (next_shelf settings one.upper makes.pdu makes.after none makes.next))
  effort_came Putting one two none makes = subst (λ (s : Station (Host ClientProfile)). Came is_any one.upper.profile.client.cause s.upper.profile.client.cause) (sym makes.new_is) (came_same is_any one.upper.profile.client.cause)
  effort_came Asking one two none makes = subst (λ (s : Station (Host ClientProfile)). Came is_any one.upper.profile.client.cause s.upper.profile.client.cause) (sym makes.new_is) (came_same is_any one.upper.profile.client.cause)
  effort_came Leaving one two none makes = subst (λ (s : Station (Host ClientProfile)). Came is_any one.upper.profile.client.cause s.upper.profile.client.cause) (sym makes.new_is) (came_same is_any one.upper.profile.client.cause)
  effort_came Commanding one two none makes = subst (λ (s : Station (Host ClientProfile)). Came is_any one.upper.profile.client.cause s.upper.profile.client.cause) (sym makes.new_is) (came_same is_any one.upper.profile.client.cause)

  effort_leaves : (effort : Effort) (one two : Station (Host ClientProfile)) → MakesEffort U A effort one two → LeavesSo one.upper → LeavesSo two.upper
  effort_leaves Taking one two makes l = subst (λ (s : Station (Host ClientProfile)). LeavesSo s.upper) (sym makes.new_is) (next_leaves settings one.upper makes.pdu makes.after makes.next l)
  effort_leaves Putting one two makes l = subst (λ (s : Station (Host ClientProfile)). LeavesSo s.upper) (sym makes.new_is) l
  effort_leaves Asking one two makes l = subst (λ (s : Station (Host ClientProfile)). LeavesSo s.upper) (sym makes.new_is) l
  effort_leaves Leaving one two makes l = subst (λ (s : Station (Host ClientProfile)). LeavesSo s.upper) (sym makes.new_is) l
  effort_leaves Commanding one two makes l = subst (λ (s : Station (Host ClientProfile)). LeavesSo s.upper) (sym makes.new_is) l

  -- ---- what comes in

  -- how a client goes on: its outcome stays or comes so, it does not find memory again, and it leaves by cause
  record On (q : Outcome → Bool) (old new : Host ClientProfile) : Type 0 where
    came : Came q old.profile.client.cause new.profile.client.cause
    lame : old.profile.client.failed ≡ true → new.profile.client.failed ≡ true
    leaves : LeavesSo old → LeavesSo new

  on_same : (q : Outcome → Bool) (host : Host ClientProfile) → On q host host
  on_same q host = record { came = came_same q host.profile.client.cause; lame = λ lame. lame; leaves = λ l. l }

  on_then : (q : Outcome → Bool) (one two three : Host ClientProfile) → On q one two → On q two three → On q one three
  on_then q one two three a b = record {
    came = came_then q one.profile.client.cause two.profile.client.cause three.profile.client.cause a.came b.came;
    lame = λ lame. b.lame (a.lame lame);
    leaves = λ l. b.leaves (a.leaves l);
  }

  each_on : (g : List Circumstance) (pdus : List (List ℕ)) (host : Host ClientProfile) → On is_heard host (hears_each U g pdus host)
  each_on g [] host = on_same is_heard host
  each_on g (pdu ∷ pdus) host =
      let next = hear (client_profile settings) g (Heard pdu) host in
      on_then is_heard host next (hears_each U g pdus next) (record { came = heard_came settings g pdu host; lame = λ lame. lame_hear settings g (Heard pdu) host lame; leaves = λ l. hear_leaves settings g (Heard pdu) host l }) (each_on g pdus next)

  piece_on : (g : List Circumstance) (handle : ℕ) (piece : Piece) (s : Station (Host ClientProfile)) → On is_heard s.upper (hears_piece U g handle piece s).upper
  piece_on g handle piece s = by (is_handle handle s.link)
    where
      by : (here : Bool) → On is_heard s.upper (if here then (let heard : Station (Host ClientProfile) = record s { upper = hears_each U g (gives longest_pdu s.joining piece) s.upper; joining = holds longest_pdu s.joining piece } in heard) else s).upper
      by true = each_on g (gives longest_pdu s.joining piece) s.upper
      by false = on_same is_heard s.upper

  timer_on : (g : List Circumstance) (host : Host ClientProfile) → host.channels.events ≡ [] → On is_any host (U.hear g TimerFired host)
  timer_on g host none = record { came = came_more is_timed is_any timed_any host.profile.client.cause (U.hear g TimerFired host).profile.client.cause (timer_timed settings g host none); lame = λ lame. lame_hear settings g TimerFired host lame; leaves = λ l. hear_leaves settings g TimerFired host l }

  fired_on : (g : List Circumstance) (s : Station (Host ClientProfile)) → s.upper.channels.events ≡ [] → On is_any s.upper (fired U g s).upper
  fired_on g s none = by (U.armed s.upper)
    where
      by : (armed : Bool) → On is_any s.upper (if armed then told U g TimerFired s else s).upper
      by true = timer_on g s.upper none
      by false = on_same is_any s.upper

  made_on : (g : List Circumstance) (here : Bool) (host : Host ClientProfile) → host.channels.events ≡ [] → On is_any host (upper_told U g (if here then Some Up else None) host)
  made_on g true host none = record { came = came_more is_shelf is_any shelf_any host.profile.client.cause (U.hear g (Linked Up) host).profile.client.cause (up_shelf settings g host none); lame = λ lame. lame_hear settings g (Linked Up) host lame; leaves = λ l. hear_leaves settings g (Linked Up) host l }
  made_on g false host none = on_same is_any host

  down_on : (g : List Circumstance) (reason : ℕ) (host : Host ClientProfile) → host.channels.events ≡ [] → On (is_gone (reason == 0x13)) host (U.hear g (Linked (Down reason)) host)
  down_on g reason host none = record { came = down_gone settings g reason host none; lame = λ lame. lame_hear settings g (Linked (Down reason)) host lame; leaves = λ l. hear_leaves settings g (Linked (Down reason)) host l }

  -- ---- it is told that its link ended

  -- what it is told, by why it is owed
  gone_now : (reason : ℕ) (part : List Entry) (entry : Entry) (old new : Host ClientProfile) (owed : List Answer) → end_reason entry ≡ Some reason → On (is_gone (reason == 0x13)) old new → HasCome new.profile.client.cause
      → GoneSo part old.profile.client.cause reason → Owes part old.profile.client.cause owed → IsNow part old.profile.client.cause owed → IsNow (part ++ entry ∷ []) new.profile.client.cause owed
  gone_now reason part entry old new owed ends on comes gone rest now = record {
    none = λ none. absurd (comes_not new.profile.client.cause comes none);
    lost = λ is. lost gone old.profile.client.cause refl is;
    owes = owes_on part (part ++ entry ∷ []) old.profile.client.cause new.profile.client.cause owed (drop_more part entry) (has_come (is_gone (reason == 0x13)) old.profile.client.cause new.profile.client.cause on.came) rest;
  }
    where
      lost : GoneSo part old.profile.client.cause reason → (cause : Option Outcome) → old.profile.client.cause ≡ cause → new.profile.client.cause ≡ Some LinkLost → IsLostByDrop (part ++ entry ∷ [])
      lost gone (Some outcome) was is =
          let came : new.profile.client.cause ≡ Some outcome = subst (λ (c : Option Outcome). Came (is_gone (reason == 0x13)) c new.profile.client.cause) was on.came in
          lost_more part entry (now.lost (was ∙ (sym came ∙ is)))
      lost (inl (eight, dropped)) None was is = record {
        before = part;
        entry = entry;
        after = [];
        part_is = refl;
        first = now.none was;
        dropped = dropped;
        told = ends ∙ ap (λ (n : ℕ). let r : Option ℕ = Some n in r) eight;
      }
      lost (inr (inl peer)) None was is =
          let came : Within (is_gone (reason == 0x13)) (Some LinkLost) = subst (Within (is_gone (reason == 0x13))) is (subst (λ (c : Option Outcome). Came (is_gone (reason == 0x13)) c new.profile.client.cause) was on.came) in
          never (subst (λ (n : ℕ). is_gone (n == 0x13) LinkLost ≡ true) peer came)
      lost (inr (inr own)) None was is = absurd (comes_not old.profile.client.cause own.1 was)

  -- ---- whatever happens

  abbrev plain_entry : (entry : Entry) → is_cancel entry ≡ false → end_reason entry ≡ None → IsNoCause entry
  plain_entry entry cancels ends = record { not_cancelled = cancels; not_ended = ends }

  -- what comes in, but for the end of its link
  answer_now : (past : List Entry) (answer : Answer) (rest : List Answer) (g : List Circumstance) (old to : W) → old.a.upper.channels.events ≡ [] → old.radio.a.owed ≡ answer ∷ rest → IsOn settings V old → to.pushes ≡ old.pushes → to.a ≡ hears_answer U g A answer old.a
      → to.radio.a.owed ≡ (after_telling answer (record old.radio.a { owed = rest })).owed → At past old → At (past ++ Moved A Into (answer_packet A answer) ∷ []) to
  answer_now past answer rest g old to quiet first on pushes same owed at =
      let entry = Moved A Into (answer_packet A answer) in
      let upper : to.a.upper ≡ upper_told U g (event_in answer old.a) old.a.upper = ap (λ (s : Station (Host ClientProfile)). s.upper) same in
      let so = by answer first in
      entry_at past entry old to tt refl pushes (λ lame. ap (λ (host : Host ClientProfile). host.profile.client.failed) upper ∙ so.1 lame) (λ l. subst LeavesSo (sym upper) (so.2 l))
      (λ leaves now. subst (λ (host : Host ClientProfile). IsNow (since_begun past ++ entry ∷ []) host.profile.client.cause to.radio.a.owed) (sym upper)
      (subst (λ (l : List Answer). IsNow (since_begun past ++ entry ∷ []) (upper_told U g (event_in answer old.a) old.a.upper).profile.client.cause l) (sym owed) (so.0 now))) at
    where
      part : List Entry
      part = since_begun past

      behind : (one : Answer) → old.radio.a.owed ≡ one ∷ rest → IsNow part (cause_in old) old.radio.a.owed → Owes part (cause_in old) rest
      behind one is now = owes_rest part (cause_in old) one rest (subst (λ (l : List Answer). Owes part (cause_in old) l) is now.owes)

      -- of an answer that is no end
      other : (one : Answer) (new : Host ClientProfile) → old.radio.a.owed ≡ one ∷ rest → IsNoCause (Moved A Into (answer_packet A one)) → On is_any old.a.upper new → (after_telling one (record old.radio.a { owed = rest })).owed ≡ rest
          → IsNow part (cause_in old) old.radio.a.owed → IsNow (part ++ Moved A Into (answer_packet A one) ∷ []) new.profile.client.cause (after_telling one (record old.radio.a { owed = rest })).owed
      other one new is plain goes left now =
          let entry = Moved A Into (answer_packet A one) in
          let kept : IsNow part (cause_in old) rest = record { none = now.none; lost = now.lost; owes = behind one is now } in
          subst (λ (l : List Answer). IsNow (part ++ entry ∷ []) new.profile.client.cause l) (sym left) (now_more is_any part entry (cause_in old) new.profile.client.cause rest rest refl (λ none. plain) goes.came (λ so. so) kept)

      Told : Answer → Type 0
      Told one =
          let new = upper_told U g (event_in one old.a) old.a.upper in
          (IsNow part (cause_in old) old.radio.a.owed → IsNow (part ++ Moved A Into (answer_packet A one) ∷ []) new.profile.client.cause (after_telling one (record old.radio.a { owed = rest })).owed)
          × (failed_in old ≡ true → new.profile.client.failed ≡ true) × (LeavesSo old.a.upper → LeavesSo new)

      by : (one : Answer) → old.radio.a.owed ≡ one ∷ rest → Told one
      by (LinkMade handle) is =
          let goes = made_on g (old.a.asked && is_none old.a.link) old.a.upper quiet in
          ((λ now. other (LinkMade handle) (upper_told U g (event_in (LinkMade handle) old.a) old.a.upper) is (record { not_cancelled = refl; not_ended = refl }) goes refl now), (λ lame. goes.lame lame), (λ l. goes.leaves l))
      by (LinkGone handle reason) is =
          let here = on handle reason rest is in
          let goes = down_on g reason old.a.upper quiet in
          let new = U.hear g (Linked (Down reason)) old.a.upper in
          let entry = Moved A Into (answer_packet A (LinkGone handle reason)) in
          subst (λ (b : Bool). let after = upper_told U g (if b then Some (Down reason) else None) old.a.upper in
          (IsNow part (cause_in old) old.radio.a.owed → IsNow (part ++ entry ∷ []) after.profile.client.cause rest) × (failed_in old ≡ true → after.profile.client.failed ≡ true) × (LeavesSo old.a.upper → LeavesSo after)) (sym here.0) (
            (λ now.
                let owes = subst (λ (l : List Answer). Owes part (cause_in old) l) is now.owes in
                let kept : IsNow part (cause_in old) rest = record { none = now.none; lost = now.lost; owes = owes.1 } in
                gone_now reason part entry old.a.upper new rest refl goes (down_comes settings g reason old.a.upper here.1) owes.0 owes.1 kept),
            (λ lame. goes.lame lame),
            (λ l. goes.leaves l),
          )
      by answer is = ((λ now. other answer old.a.upper is (record { not_cancelled = refl; not_ended = refl }) (on_same is_any old.a.upper) refl now), (λ lame. lame), (λ l. l))

  -- at an end of its own link that goes out, its push has an outcome
  ends_by_cause : (order : Order) (rest : List Order) (w : W) → w.a.out ≡ order ∷ rest → Kept U V w.radio w.a w.b w.pushes.going → LeavesSo w.a.upper
      → (handle : ℕ) → order ≡ End handle → A ≡ A → (knows_link A w.radio && (handle == w.radio.number)) ≡ true → HasCome (cause_in w)
  ends_by_cause order rest w first kept leaves handle is side test =
      let up = up_of (is_together w.radio.phase) w.radio.a.up (w.radio.a.told == w.radio.number) (handle == w.radio.number) test in
      let told : w.radio.a.told ≡ w.radio.number = eqb-true w.radio.a.told w.radio.number up.1 in
      let number : handle ≡ w.radio.number = eqb-true handle w.radio.number up.2 in
      let out : has_end w.radio.a.told w.a.out ≡ true = ap (λ (l : List Order). has_end w.radio.a.told l) (first ∙ ap (λ (o : Order). o ∷ rest) is) ∙ ap (λ (b : Bool). b || has_end w.radio.a.told rest) (eq-eqb handle w.radio.a.told (number ∙ sym told)) in
      let leaving = kept.one.ends.leaving up.0 (or_last (has_end w.radio.a.told w.a.waiting) (has_end w.radio.a.told w.a.out) out) in
      some_comes (cause_in w) (leaving_has_cause w.a.upper.profile leaves (and_last _ (is_at_end w.a.upper.profile.client.stage) leaving.leaves))
    where
      up_of : (together up same here : Bool) → ((together && (up && same)) && here) ≡ true → (up ≡ true) × (same ≡ true) × (here ≡ true)
      up_of true true true true is = (refl, refl, refl)
      up_of true true true false is = never is
      up_of true true false here is = never is
      up_of true false same here is = never is
      up_of false up same here is = never is

      or_last : (a b : Bool) → b ≡ true → (a || b) ≡ true
      or_last true b is = refl
      or_last false b is = is

      and_last : (a b : Bool) → (a && b) ≡ true → b ≡ true
      and_last true b is = is
      and_last false b is = never is

  departs_at : (side : Side) (order : Order) (past : List Entry) (old to : W) → to.pushes ≡ old.pushes → to.a.upper ≡ old.a.upper → to.radio ≡ after_order side order old.radio
      → (LeavesSo old.a.upper → (handle : ℕ) → order ≡ End handle → side ≡ A → (knows_link A old.radio && (handle == old.radio.number)) ≡ true → HasCome (cause_in old)) → EndsByDrop past (Moved side Out (order_packet side order))
      → IsNoCause (Moved side Out (order_packet side order)) → At past old → At (past ++ Moved side Out (order_packet side order) ∷ []) to
  departs_at side order past old to pushes same radio comes ends plain at =
      let entry = Moved side Out (order_packet side order) in
      quiet_at past entry old to ends refl pushes plain same
      (λ leaves owes. subst (λ (r : Radio). Owes (since_begun past ++ entry ∷ []) (cause_in old) r.a.owed) (sym radio) (ordered (since_begun past ++ entry ∷ []) (cause_in old) side order old.radio (comes leaves) owes)) at

  out_plain : (side : Side) (order : Order) → IsNoCause (Moved side Out (order_packet side order))
  out_plain A order = record { not_cancelled = refl; not_ended = refl }
  out_plain B order = record { not_cancelled = refl; not_ended = refl }

  offered : (past : List Entry) (cause : Option Outcome) (side : Side) (radio : Radio) → Owes past cause radio.a.owed → Owes past cause (after_offer side radio).a.owed
  offered past cause A radio so = owes_same past cause radio.a.owed (after_giving_back radio.a).owed (gives_back_tidings radio.a.told radio.a.taken radio.a.owed) so
  offered past cause B radio so = so

  -- a frame that meets its fate changes nothing of it
  met_same : (way : Way) (fate : Fate) (checked : Bool) (waiting : List (List ℕ)) (radio : Radio) → (after_meeting way fate checked waiting radio).a.owed ≡ radio.a.owed
  met_same way fate checked [] radio = refl
  met_same Ab fate checked (frame ∷ rest) radio = refl
  met_same Ba fate checked (frame ∷ rest) radio = refl

  record Acted_so (entry : Entry) (part : List Entry) (old mid : W) : Type 0 where
    on : On is_any old.a.upper mid.a.upper
    owes : Owes (part ++ entry ∷ []) (cause_in mid) old.radio.a.owed → Owes (part ++ entry ∷ []) (cause_in mid) mid.radio.a.owed

  acted_to : (entry : Entry) (part : List Entry) (old mid to : W) → mid ≡ to → Acted_so entry part old to → Acted_so entry part old mid
  acted_to entry part old mid to same so = subst (λ (w : W). Acted_so entry part old w) (sym same) so

  acts_so : (entry : Entry) (part : List Entry) (deed : Deed) (old mid : W) → old.a.upper.channels.events ≡ [] → (deed ≡ Breaks → is_drop entry ≡ true) → (deed ≡ Cancels → ⊥) → Acts U V deed old mid → Acted_so entry part old mid
  acts_so entry part Nothing old mid quiet drops other acts = absurd acts
  acts_so entry part (Meets Ab fate) old mid quiet drops other acts =
      acted_to entry part old mid _ acts (record { on = on_same is_any old.a.upper; owes = λ so. subst (λ (l : List Answer). Owes (part ++ entry ∷ []) (cause_in old) l) (sym (met_same Ab fate _ old.radio.a.waiting old.radio)) so })
  acts_so entry part (Meets Ba fate) old mid quiet drops other acts =
      acted_to entry part old mid _ acts (record { on = on_same is_any old.a.upper; owes = λ so. subst (λ (l : List Answer). Owes (part ++ entry ∷ []) (cause_in old) l) (sym (met_same Ba fate _ old.radio.b.waiting old.radio)) so })
  acts_so entry part (Fires A) old mid quiet drops other (armed, g, same) = acted_to entry part old mid _ same (record { on = timer_on g old.a.upper quiet; owes = λ so. so })
  acts_so entry part (Fires B) old mid quiet drops other (armed, h, same) = acted_to entry part old mid _ same (record { on = on_same is_any old.a.upper; owes = λ so. so })
  acts_so entry part FiresBoth old mid quiet drops other (armed, g, h, same) = acted_to entry part old mid _ same (record { on = fired_on g old.a quiet; owes = λ so. so })
  acts_so entry part Breaks old mid quiet drops other acts =
      acted_to entry part old mid _ acts (record {
        on = on_same is_any old.a.upper;
        owes = λ so. owes_more (part ++ entry ∷ []) (cause_in old) old.radio.a.owed (LinkGone old.radio.number 0x08 ∷ []) so (inl (refl, drop_now part entry (drops refl)), tt);
      })
  acts_so entry part Cancels old mid quiet drops other acts = absurd (other refl)

  both_true : (a b : Bool) → (a && b) ≡ true → b ≡ true
  both_true true b is = is
  both_true false b is = never is

  -- whether it cancels is told by the deed
  turned_at : (past : List Entry) (ordinal : ℕ) (word : Word) (deed : Deed) (old mid : W) → old.a.upper.channels.events ≡ [] → (deed ≡ Breaks → is_drop_word word ≡ true) → (deed ≡ Cancels → ⊥) → is_cancel (Acted ordinal word) ≡ false → Acts U V deed old mid → At past old → At (past ++ Acted ordinal word ∷ []) (one_turned mid)
  turned_at past ordinal word deed old mid quiet drops other plain acts at =
      let entry = Acted ordinal word in
      let so = acts_so entry (since_begun past) deed old mid quiet drops other acts in
      entry_at past entry old (one_turned mid) tt refl (acts_pushes U V deed old mid acts) so.on.lame so.on.leaves
      (λ leaves now. now_more is_any (since_begun past) entry (cause_in old) (cause_in mid) old.radio.a.owed mid.radio.a.owed refl (λ none. record { not_cancelled = plain; not_ended = refl }) so.on.came so.owes now) at

  cancelled_at : (past : List Entry) (ordinal : ℕ) (word : Word) (old mid : W) → old.a.upper.channels.events ≡ [] → Acts U V Cancels old mid → At past old → At (past ++ Acted ordinal word ∷ []) (one_turned mid)
  cancelled_at past ordinal word old mid quiet (may, g, same) at =
      let entry = Acted ordinal word in
      let to : W = record old { a = told U g Cancelled old.a } in
      let may_now = both_true old.pushes.going (may_cancel old.a.upper.profile.client) may in
      let is_now = cancel_came settings g old.a.upper quiet may_now in
      let none = may_none settings old.a.upper.profile.client may_now in
      at_same (past ++ entry ∷ []) (one_turned mid) (one_turned to) (ap one_turned same)
      (entry_at past entry old (one_turned to) tt refl refl (λ lame. lame_hear settings g Cancelled old.a.upper lame) (λ l. hear_leaves settings g Cancelled old.a.upper l)
      (λ leaves now. record {
        none = λ is. let e : Some PushCancelled ≡ None = sym is_now ∙ is in absurd cc;
        lost = λ is. let e : Some PushCancelled ≡ Some LinkLost = sym is_now ∙ is in absurd cc;
        owes = owes_on (since_begun past) (since_begun past ++ entry ∷ []) (cause_in old) (cause_in to) old.radio.a.owed (drop_more (since_begun past) entry) (λ comes. absurd (comes_not (cause_in old) comes none)) now.owes;
      }) at)

  met_at : (past : List Entry) (ordinal : ℕ) (word : Word) (way : Way) (fate : Fate) (ab ba : List (List ℕ)) (old mid : W) → old.a.upper.channels.events ≡ [] → is_cancel (Acted ordinal word) ≡ false → Acts U V (meets_on way fate ab ba) old mid → At past old → At (past ++ Acted ordinal word ∷ []) (one_turned mid)
  met_at past ordinal word way fate ab ba old mid quiet plain acts at = turned_at past ordinal word (meets_on way fate ab ba) old mid quiet (λ is. absurd (on_no_break way fate ab ba is)) (λ is. on_no_cancel way fate ab ba is) plain acts at

  word_at : (past : List Entry) (ordinal : ℕ) (word : Word) (old mid : W) → old.a.upper.channels.events ≡ [] → (served : Option Way) (ab ba : List (List ℕ)) (linked : Bool) → Acts U V (deed_of word served ab ba linked) old mid → At past old → At (past ++ Acted ordinal word ∷ []) (one_turned mid)
  word_at past ordinal Pass old mid quiet served ab ba linked acts at = turned_at past ordinal Pass (passing (way_served served ab ba) ab ba) old mid quiet (λ is. absurd (pass_no_break (way_served served ab ba) ab ba is)) (λ is. pass_no_cancel (way_served served ab ba) ab ba is) refl acts at
  word_at past ordinal (Lose way) old mid quiet served ab ba linked acts at = met_at past ordinal (Lose way) way Lost ab ba old mid quiet refl acts at
  word_at past ordinal (Repeat way) old mid quiet served ab ba linked acts at = met_at past ordinal (Repeat way) way Repeated ab ba old mid quiet refl acts at
  word_at past ordinal (Damage way at_octet mask) old mid quiet served ab ba linked acts at = met_at past ordinal (Damage way at_octet mask) way (Changed at_octet mask) ab ba old mid quiet refl acts at
  word_at past ordinal (Cut way packets) old mid quiet served ab ba linked acts at = met_at past ordinal (Cut way packets) way (CutOff packets) ab ba old mid quiet refl acts at
  word_at past ordinal (Timer side) old mid quiet served ab ba linked acts at = turned_at past ordinal (Timer side) (Fires side) old mid quiet (λ is. absurd (fires_no_break side is)) (λ is. fires_no_cancel side is) refl acts at
  word_at past ordinal Drop old mid quiet served ab ba linked acts at = turned_at past ordinal Drop (if linked then Breaks else Nothing) old mid quiet (λ is. refl) (λ is. broken_no_cancel linked is) refl acts at
  word_at past ordinal Cancel old mid quiet served ab ba linked acts at = cancelled_at past ordinal Cancel old mid quiet acts at

  does_at : (happening : Happening) (past : List Entry) (old new : W) → old.a.upper.channels.events ≡ [] → IsOn settings V old → Kept U V old.radio old.a old.b old.pushes.going → Does U V happening old new → At past old → At (past ++ entries_of happening) new
  does_at (Tries A effort) past old new quiet on kept (station, makes, same) at =
      at_same (past ++ []) new (record old { a = station }) same (still_at past old (record old { a = station }) refl (effort_lame settings V effort old.a station makes) (effort_leaves effort old.a station makes) (effort_came effort old.a station quiet makes) (λ so. so) at)
  does_at (Tries B effort) past old new quiet on kept (station, makes, same) at =
      at_same (past ++ []) new (record old { b = station }) same (still_at past old (record old { b = station }) refl (λ lame. lame) (λ l. l) (came_same is_any (cause_in old)) (λ so. so) at)
  does_at (Departure A order) past old new quiet on kept (rest, first, same) at =
      at_same (past ++ Moved A Out (order_packet A order) ∷ []) new _ same (departs_at A order past old (record old { radio = after_order A order old.radio; a = record old.a { out = rest } }) refl refl refl (λ leaves. ends_by_cause order rest old first kept leaves) tt (out_plain A order) at)
  does_at (Departure B order) past old new quiet on kept (rest, first, same) at =
      at_same (past ++ Moved B Out (order_packet B order) ∷ []) new _ same (departs_at B order past old (record old { radio = after_order B order old.radio; b = record old.b { out = rest } }) refl refl refl (λ leaves handle is side test. absurd (let e = side in cc)) tt (out_plain B order) at)
  does_at (GivingBack side) past old new quiet on kept same at =
      at_same (past ++ []) new _ same (still_at past old (record old { radio = after_offer side old.radio }) refl (λ lame. lame) (λ l. l) (came_same is_any (cause_in old)) (λ so. offered (since_begun past) (cause_in old) side old.radio so) at)
  does_at (Piecemeal A handle piece) past old new quiet on kept (rest, first, here, g, same) at =
      let entry = Moved A Into (piece_packet handle piece) in
      let goes = piece_on g handle piece old.a in
      let owed : (after_handing old.radio.a).owed ≡ old.radio.a.owed = ap (λ (one : Controller). one.owed) (handed_piece old.radio.a piece rest first) in
      at_same (past ++ entry ∷ []) new _ same (entry_at past entry old _ tt refl refl goes.lame goes.leaves
      (λ leaves now. now_more is_heard (since_begun past) entry (cause_in old) (hears_piece U g handle piece old.a).upper.profile.client.cause old.radio.a.owed (after_handing old.radio.a).owed refl (λ none. record { not_cancelled = refl; not_ended = refl }) goes.came
      (λ so. subst (λ (l : List Answer). Owes (since_begun past ++ entry ∷ []) (hears_piece U g handle piece old.a).upper.profile.client.cause l) (sym owed) so) now) at)
  does_at (Piecemeal B handle piece) past old new quiet on kept (rest, first, here, h, same) at =
      let entry = Moved B Into (piece_packet handle piece) in
      at_same (past ++ entry ∷ []) new _ same (quiet_at past entry old _ tt refl refl (record { not_cancelled = refl; not_ended = refl }) refl (λ leaves so. so) at)
  does_at (Answering A answer) past old new quiet on kept (rest, none, first, g, same) at =
      at_same (past ++ Moved A Into (answer_packet A answer) ∷ []) new _ same (answer_now past answer rest g old _ quiet first on refl refl (ap (λ (one : Controller). one.owed) (handed_answer old.radio.a answer rest none first)) at)
  does_at (Answering B answer) past old new quiet on kept (rest, none, first, h, same) at =
      let entry = Moved B Into (answer_packet B answer) in
      at_same (past ++ entry ∷ []) new _ same (quiet_at past entry old _ tt refl refl (record { not_cancelled = refl; not_ended = refl }) refl (λ leaves so. so) at)
  does_at (Turns ordinal word) past old new quiet on kept (rest, is_word, ordinal_is, mid, acts, same) at =
      at_same (past ++ Acted ordinal word ∷ []) new (one_turned mid) same (word_at past ordinal word old mid quiet old.radio.served old.radio.a.waiting old.radio.b.waiting _ acts at)
  does_at (Misses word) past old new quiet on kept (rest, nothing, same) at = at_same (past ++ []) new _ same (still_at past old _ refl (λ lame. lame) (λ l. l) (came_same is_any (cause_in old)) (λ so. so) at)
  does_at (Opens push name) past old new quiet on kept (idle, next, push_is, g, same) at =
      let to : W = record old { pushes = one_begun old.pushes; a = told U g (Opening name) old.a } in
      at_same (past ++ Begun push ∷ []) new to same (λ well.
      let so = at (well_before (failed_in old) (failed_in to) (λ lame. lame_hear settings g (Opening name) old.a.upper lame) well) in
      let came : Came is_shelf None (cause_in to) = opens_shelf settings g name old.a.upper quiet well in
      record {
        each = each_after-more EndsByDrop past (Begun push) so.each tt;
        leaves = hear_leaves settings g (Opening name) old.a.upper so.leaves;
        now = λ going. subst (λ (l : List Entry). IsNow l (cause_in to) old.radio.a.owed) (sym (since_then past (Begun push))) (record {
          none = λ is. tt;
          lost = λ is. let e : None ≡ Some LinkLost = lost_before is_shelf None (cause_in to) refl came is in absurd cc;
          owes = subst (AllByRecursion (TidingSo [] (cause_in to))) (sym (kept.rests (idle_by old.pushes next)).none_a) tt;
        });
      })
    where
      idle_by : (pushes : Pushes) → (if pushes.going then None else slice_get pushes.names pushes.begun) ≡ Some name → pushes.going ≡ false
      idle_by pushes next = by pushes.going next
        where
          by : (going : Bool) → (if going then None else slice_get pushes.names pushes.begun) ≡ Some name → going ≡ false
          by true is = absurd (let e = is in cc)
          by false is = refl
  does_at (Closes push outcome) past old new quiet on kept (going, push_is, idle, is, apart, none_a, none_b, quiet_a, quiet_b, same) at =
      let to : W = record old { pushes = one_ended outcome old.pushes } in
      at_same (past ++ Ended push outcome ∷ []) new to same (λ well.
      let so = at well in
      record {
        each = each_after-more EndsByDrop past (Ended push outcome) so.each (loss_shown outcome (since_begun past) (cause_in old) is (so.now going));
        leaves = so.leaves;
        now = λ on. never on;
      })
    where
      loss_shown : (outcome : Outcome) (part : List Entry) (cause : Option Outcome) → cause ≡ Some outcome → IsNow part cause old.radio.a.owed → LossIs outcome part
      loss_shown LinkLost part cause is now = now.lost is
      loss_shown outcome part cause is now = tt

  -- with the end of the push that goes on
  last_loss : (cause : Option Outcome) (part : List Entry) (owed : List Answer) → IsNow part cause owed → LossIs (unwrap_or cause ScriptEnded) part
  last_loss None part owed now = tt
  last_loss (Some LinkLost) part owed now = now.lost refl
  last_loss (Some outcome) part owed now = tt

  last_at : (past : List Entry) (w : W) → Stands past w → LossesAreDrops (past ++ last_entries (cause_in w) w.pushes)
  last_at past w stands = by w.pushes.going refl
    where
      by : (going : Bool) → w.pushes.going ≡ going → LossesAreDrops (past ++ (if going then Ended w.pushes.begun (unwrap_or (cause_in w) ScriptEnded) ∷ [] else []))
      by true is = each_after-more EndsByDrop past (Ended w.pushes.begun (unwrap_or (cause_in w) ScriptEnded)) stands.each (last_loss (cause_in w) (since_begun past) w.radio.a.owed (stands.now is))
      by false is = subst LossesAreDrops (sym (append-nil past)) stands.each

-- ---- a scenario

module _ (scenario : Scenario) (content : Option Contents) where
  abbrev S : Upper (Host ClientProfile) Circumstance
  S = client_of scenario

  abbrev R : Upper (Host ServerProfile) Circumstance
  R = server_of scenario content

  keeps_at : (happenings : List Happening) → KeepsRun S R happenings (beginning scenario content) (λ past words w. At scenario.settings R past w)
  keeps_at happenings happening ahead past words old new reached does next at = does_at scenario.settings R happening past old new (none_told scenario content reached.done old reached.runs) (is_on scenario content reached.done old reached.runs reached.kept) reached.kept does at

  arrives : (happenings : List Happening) (w : BothHosts) → Happened scenario content happenings w → At scenario.settings R (all_entries happenings) w
  arrives happenings w happened =
      let all = fits scenario content in
      (along S R happenings (beginning scenario content) (λ past words w. At scenario.settings R past w) happenings [] [] (beginning scenario content) w all.frames_a all.frames_b all.idles (keeps_at happenings) happened
      (reached_first S R scenario.acl_length scenario.acl_count scenario.names happenings all) (λ well. record { each = tt; leaves = λ none. (refl, refl); now = λ going. never going })).now

pub runs_lose_by_drops : RunsLoseByDrops
runs_lose_by_drops = record {
  moments = λ scenario content happenings world happened well. (arrives scenario content happenings world happened well).each;
  ends = λ scenario content happenings world happened well. last_at scenario.settings (server_of scenario content) (all_entries happenings) world (arrives scenario content happenings world happened well);
}
