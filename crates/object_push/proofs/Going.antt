-- What was promised over what ports were at the beginning is so over what they were.
use Rattle.std.proofs.Common.{◌≡◌, ℕ, ◌≤◌, false, length, Option, Result, sym, ◌∙◌, subst, arith}
use Rattle.std.specs.Prelude.{IsErrOf, is_ok, IfErr, IfOk}
use Rattle.bt_base.specs.Counts.{HasRisen}
use Rattle.bt_base.specs.Objects.{Contents}
use Rattle.btpush_forms.specs.h4_view.specs.View.{IsAnswered}
use Rattle.scenario_play.specs.obex_session.specs.Counting.{HasRisenBy}
use Rattle.push_script.specs.declared.scenario.Scenario.{Scenario}
use Rattle.radio_world.specs.declared.fault.WorldFault.{WorldFault}
use Rattle.radio_world.specs.declared.fault.WorldFault.TheVariants.{TraceFault, NoMemory}
use Rattle.scenario_play.specs.Breaking.{IsBroken}
use Rattle.scenario_play.specs.Failing.{shelf_faults}
use Rattle.scenario_play.specs.Playing.{IsPlayed}
use Rattle.watched_ports.specs.Gains.{Keeps}
use Rattle.watched_ports.specs.Pasts.{ShelfPast, InboxPast, IsShelf, IsInbox}
use Rattle.object_push.specs.declared.halting.Ended.{Ended}
use Rattle.object_push.specs.Halting.{HasReason}
use Rattle.object_push.specs.Playing.{Lent, GoesOn}
use Rattle.object_push.specs.Ports.{counts_in}
use Rattle.object_push.proofs.Gained.{gained_by, grows_by}
use Rattle.object_push.proofs.Handing.{ok_then}

-- the same over what the ports were at the beginning
pub record Watched (scenario : Scenario) (old new : Lent) (of_shelf : ShelfPast) (of_inbox : InboxPast) (result : Result Ended WorldFault) : Type 0 where
  pub plays : IfOk result (λ ended. IsPlayed scenario old.shelf.content old.inbox.content new.inbox.content old.trace.content new.trace.content ended.played.outcomes.items ended.played.peaks (counts_in old.inbox) (counts_in new.inbox))
  pub each : IfOk result (λ ended. length ended.played.outcomes.items ≡ length scenario.names)
  pub kept : IfOk result (λ ended. Keeps of_inbox.content ended.kept new.inbox.content)
  pub faulted : IfOk result (λ ended. HasRisenBy (shelf_faults ended.played.outcomes.items) old.shelf.faults new.shelf.faults)
  pub breaks : IfErr result (λ fault. IsBroken scenario old.shelf.content old.inbox.content new.inbox.content old.trace.content new.trace.content (counts_in old.inbox) (counts_in new.inbox))
  pub reason : IfErr result (λ fault. HasReason fault scenario old.inbox.content new.inbox.content old.trace.content new.trace.content (HasRisen old.trace.faults new.trace.faults) (HasRisen old.trace.shortages new.trace.shortages)
      (HasRisen old.shelf.shortages new.shelf.shortages) (HasRisen old.inbox.shortages new.inbox.shortages))
  pub grows : (kept : ℕ) × Keeps of_inbox.content kept new.inbox.content
  pub trace_faults : IsAnswered old.trace.faults new.trace.faults (IsErrOf result TraceFault)
  pub trace_short : IsAnswered old.trace.shortages new.trace.shortages (IsErrOf result NoMemory)
  pub shelf_content : new.shelf.content ≡ of_shelf.content
  pub shelf_faults : of_shelf.faults ≤ new.shelf.faults
  pub shelf_absences : of_shelf.absences ≤ new.shelf.absences
  pub shelf_short : IsAnswered of_shelf.shortages new.shelf.shortages (is_ok result ≡ false)
  pub inbox_faults : of_inbox.faults ≤ new.inbox.faults
  pub inbox_short : IsAnswered of_inbox.shortages new.inbox.shortages (is_ok result ≡ false)

pub goes_on :
    (scenario : Scenario) (old new : Lent) (of_shelf : ShelfPast) (of_inbox : InboxPast) (result : Result Ended WorldFault) (shelf_name inbox_name : ℕ)
    → IsShelf of_shelf shelf_name old.shelf.content old.shelf.faults old.shelf.shortages old.shelf.absences → IsInbox of_inbox inbox_name old.inbox.content old.inbox.faults old.inbox.shortages
    → Watched scenario old new of_shelf of_inbox result → GoesOn scenario old new result
goes_on scenario old new of_shelf of_inbox result shelf_name inbox_name shelf inbox watched =
    let From : Option Contents → ℕ → Type 0 = λ (past : Option Contents) (kept : ℕ). Keeps past kept new.inbox.content in
    record {
      plays = watched.plays;
      each = watched.each;
      gained = ok_then result watched.kept (λ ended keeps. gained_by old.inbox.content ended.kept new.inbox.content (subst (λ (past : Option Contents). From past ended.kept) (sym inbox.content_is) keeps));
      faulted = watched.faulted;
      breaks = watched.breaks;
      reason = watched.reason;
      grows = grows_by old.inbox.content new.inbox.content (watched.grows.0, subst (λ (past : Option Contents). From past watched.grows.0) (sym inbox.content_is) watched.grows.1);
      trace_faults = watched.trace_faults;
      trace_short = watched.trace_short;
      shelf_content = watched.shelf_content ∙ sym shelf.content_is;
      shelf_faults = omega (arith, shelf.faults_are, watched.shelf_faults);
      shelf_absences = omega (arith, shelf.absences_are, watched.shelf_absences);
      shelf_short = subst (λ (n : ℕ). IsAnswered n new.shelf.shortages (is_ok result ≡ false)) (sym shelf.shortages_are) watched.shelf_short;
      inbox_faults = omega (arith, inbox.faults_are, watched.inbox_faults);
      inbox_short = subst (λ (n : ℕ). IsAnswered n new.inbox.shortages (is_ok result ≡ false)) (sym inbox.shortages_are) watched.inbox_short;
    }
