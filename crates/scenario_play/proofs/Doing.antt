-- What comes of the pushes of a played scenario that are done.
use Rattle.std.proofs.Common.{◌≡◌, ℕ, Bool, true, false, List, [], ◌∷◌, ◌++◌, Option, Some, None, refl, sym, ap, subst, ◌∙◌, append_assoc, append-nil}
use Rattle.std.specs.Prelude.{IfSome}
use Rattle.bt_base.specs.Objects.{Object, Contents}
use Rattle.bt_base.specs.declared.settings.Transport.TheVariants.{L2cap}
use Rattle.noting_laws.specs.obex_session.specs.Counting.{Counts}
use Rattle.push_script.specs.declared.scenario.Scenario.{Scenario}
use Rattle.push_terms.specs.declared.outcome.Outcome.{Outcome}
use Rattle.push_terms.specs.declared.outcome.Outcome.TheVariants.{Done}
use Rattle.push_terms.specs.declared.word.Side.TheVariants.{B}
use Rattle.capture.specs.Entries.{Entry, Moved, Acted, Begun, Ended}
use Rattle.capture.specs.Histories.{EachAfter}
use Rattle.noting_laws.specs.air_laws.specs.AirLaws.{IsLastEnd}
use Rattle.noting_laws.specs.world_model.specs.Worlds.{Happening, all_entries}
use Rattle.noting_laws.specs.link_talk.specs.Captures.{objects_heard}
use Rattle.noting_laws.specs.push_laws.specs.Laws.{stored_in}
use Rattle.noting_laws.specs.scenario_laws.specs.Gains.{holding}
use Rattle.noting_laws.specs.scenario_laws.specs.Parties.{party_of}
use Rattle.done_laws.specs.tape_laws.specs.capture.proofs.HistoryLaws.{each_after-both}
use Rattle.drop_laws.specs.cause_laws.specs.FirstCauses.{since_begun, HasCause, EndsByCause, CausesAreShown}
use Rattle.done_laws.specs.Runs.{IsDoneAt}
use Rattle.done_laws.specs.Storing.{kept_of, StoresOneMore, AtDone, AtShown, StoresDone, SpellsNamed, StoresKept}
use Rattle.done_laws.proofs.Stores.{own_servers_store_done}
use Rattle.unmarked_laws.specs.Ends.{IsOverAt}
use Rattle.unmarked_laws.specs.Unserved.{SpellsNoMore}
use Rattle.unmarked_laws.specs.Unspelled.{is_withheld}
use Rattle.unspelled_laws.specs.Withheld.{AtWithheld, WithholdsAll}
use Rattle.unspelled_laws.proofs.Along.{own_servers_withhold_all}
use Rattle.scenario_play.proofs.Causes.{causes_shown, causes_so_far}
use Rattle.scenario_play.specs.Doing.{NamesDone, UnsentSpellNone, DoneAreStored, PlaysStoreDone}
use Rattle.scenario_play.specs.Playing.{RanAnswered}

-- ---- histories

-- what holds of each member of a history in two parts
each_cut : {X : Type 0} (P : List X → X → Type 0) (past xs ys : List X) → EachAfter P past (xs ++ ys) → EachAfter P past xs × EachAfter P (past ++ xs) ys
each_cut P past [] ys each = (tt, subst (λ before. EachAfter P before ys) (sym (append-nil past)) each)
each_cut P past (x ∷ xs) ys (now, each) = let rest = each_cut P (past ++ x ∷ []) xs ys each in ((now, rest.0), subst (λ before. EachAfter P before ys) (append_assoc past (x ∷ []) xs) rest.1)

-- what holds of each member where something else does
each_so : {X : Type 0} (P Q : List X → X → Type 0) (past xs : List X) → EachAfter (λ (before : List X) (x : X). P before x → Q before x) past xs → EachAfter P past xs → EachAfter Q past xs
each_so P Q past [] all each = tt
each_so P Q past (x ∷ xs) all each = (all.0 each.0, each_so P Q (past ++ x ∷ []) xs all.1 each.1)

-- ---- a scenario

module _ (scenario : Scenario) (shelf before : List Object) (after : Option Contents) (counts counts' : Counts) (happenings : List Happening) (capture : List Entry) (direct : scenario.settings.transport ≡ L2cap) (shown : CausesAreShown scenario.settings capture)
    (ran : RanAnswered scenario (Some shelf) (holding before) after counts counts' happenings capture) where
  all : StoresKept scenario shelf before ran.answers capture ran.own
  all = own_servers_store_done scenario shelf before ran.answers capture ran.own direct ran.enough

  abbrev Shows : List Entry → List Entry → Type 0
  Shows past entries = EachAfter (EndsByCause scenario.settings) past entries

  done_at : IsOverAt Done ran.own.world → IsDoneAt ran.own.world
  done_at over = record { none_a = over.none_a; none_b = over.none_b; cause = over.cause }

  -- what holds wherever the capture shows why a push ended so, and of the last one that is done, holds wherever a push ends that is done
  module _ (So : ℕ → List Entry → Type 0) where
    abbrev Each : List Entry → List Entry → Type 0
    Each past entries = EachAfter (AtDone So) past entries

    abbrev Now : Type 0
    Now = IsDoneAt ran.own.world → HasCause Done (since_begun (all_entries ran.own.happenings)) → So ran.own.world.pushes.begun (all_entries ran.own.happenings)

    behind : Now → (ends : List Entry) → ran.own.ends ≡ ends → Shows (all_entries ran.own.happenings) ends → IsLastEnd ran.own.world.pushes ends → Each (all_entries ran.own.happenings) ends
    behind now [] is shown_last last = tt
    behind now (Ended push outcome ∷ []) is shown_last last = (
      λ done.
          subst (λ (n : ℕ). So n (all_entries ran.own.happenings)) (sym last.1)
          (now (done_at (ran.at_end push Done (λ e. cc) (is ∙ ap (λ (o : Outcome). Ended push o ∷ []) done)))
          (subst (λ (o : Outcome). HasCause o (since_begun (all_entries ran.own.happenings))) done shown_last.0.cause)),
      tt,
    )
    behind now (Ended push outcome ∷ other ∷ more) is shown_last last = absurd last
    behind now (Moved side flow packet ∷ more) is shown_last last = absurd last
    behind now (Acted ordinal word ∷ more) is shown_last last = absurd last
    behind now (Begun push ∷ more) is shown_last last = absurd last

    each_done : EachAfter (AtShown scenario.settings So) [] (all_entries ran.own.happenings) → Now → Each [] capture
    each_done moments now =
        let past = all_entries ran.own.happenings in
        let cut = each_cut (EndsByCause scenario.settings) [] past ran.own.ends (subst (CausesAreShown scenario.settings) ran.own.capture_is shown) in
        subst (Each []) (sym ran.own.capture_is) (each_after-both (AtDone So) [] past ran.own.ends (each_so (EndsByCause scenario.settings) (AtDone So) [] past moments cut.0) (behind now ran.own.ends refl cut.1 ran.own.last))

  all_stored : EachAfter (StoresDone scenario.settings all.kept) [] capture
  all_stored = each_done (λ push past. StoresOneMore (party_of scenario.settings B) all.kept past) all.moments all.now

  all_named : EachAfter (NamesDone scenario shelf) [] capture
  all_named = each_done (SpellsNamed scenario shelf) (all.named ran.able) (all.named_now ran.able)

  -- ---- those whose object was not sent

  unsent : WithholdsAll scenario shelf before ran.answers capture ran.own
  unsent = own_servers_withhold_all scenario shelf before ran.answers capture ran.own direct ran.enough

  abbrev Unsent : List Entry → List Entry → Type 0
  Unsent past entries = EachAfter (AtWithheld (SpellsNoMore (party_of scenario.settings B))) past entries

  last_unsent : (ends : List Entry) → ran.own.ends ≡ ends → IsLastEnd ran.own.world.pushes ends → Unsent (all_entries ran.own.happenings) ends
  last_unsent [] is last = tt
  last_unsent (Ended push outcome ∷ []) is last = (
    λ withheld. unsent.now outcome withheld (ran.at_end push outcome (λ e. (let never : true ≡ false = sym withheld ∙ ap is_withheld e in cc)) is).cause,
    tt,
  )
  last_unsent (Ended push outcome ∷ other ∷ more) is last = absurd last
  last_unsent (Moved side flow packet ∷ more) is last = absurd last
  last_unsent (Acted ordinal word ∷ more) is last = absurd last
  last_unsent (Begun push ∷ more) is last = absurd last

  all_unsent : UnsentSpellNone scenario capture
  all_unsent =
      subst (Unsent []) (sym ran.own.capture_is)
      (each_after-both (AtWithheld (SpellsNoMore (party_of scenario.settings B))) [] (all_entries ran.own.happenings) ran.own.ends unsent.moments (last_unsent ran.own.ends refl ran.own.last))

  same_some : (xs ys : List Object) → Some xs ≡ Some ys → xs ≡ ys
  same_some xs ys same = cc

  stored_by : (found : Option Contents) → found ≡ ran.own.world.b.upper.profile.inbox.content
      → IfSome found (λ held. (kept : List Bool) × (held.stored ≡ before ++ kept_of kept (objects_heard (party_of scenario.settings B) B capture)) × EachAfter (StoresDone scenario.settings kept) [] capture)
  stored_by None is = tt
  stored_by (Some held) is = (all.kept, same_some held.stored (before ++ kept_of all.kept (objects_heard (party_of scenario.settings B) B capture)) (ap stored_in is ∙ all.gained), all_stored)

  stores_done : DoneAreStored scenario shelf before after capture
  stores_done = (stored_by after ran.stored, all_named, all_unsent)

pub plays_store_done : PlaysStoreDone
plays_store_done = record {
  plays = λ scenario shelf before after trace trace' outcomes peaks counts counts' played direct none.
      stores_done scenario shelf before after counts counts' played.finished.ran.happenings played.capture direct (causes_shown scenario (Some shelf) (holding before) after trace trace' outcomes peaks counts counts' played) (played.answered none);
  breaks = λ scenario shelf before after trace trace' counts counts' broken direct none.
      stores_done scenario shelf before after counts counts' broken.happenings (all_entries broken.happenings) direct (causes_so_far scenario (Some shelf) (holding before) after trace trace' counts counts' broken) (broken.answered none);
}
