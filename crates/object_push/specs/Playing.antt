-- What becomes of a scenario that is played over watched ports (this project's own).
use Rattle.std.specs.Prelude.{ℕ, ◌≡◌, ◌≤◌, false, List, length, Option, Result, IfErr, IfOk, IsErrOf, is_ok}
use Rattle.bt_base.specs.Counts.{HasRisen}
use Rattle.bt_base.specs.Objects.{Object, Contents}
use Rattle.btpush_forms.specs.h4_view.specs.View.{IsAnswered}
use Rattle.scenario_play.specs.obex_session.specs.Counting.{HasRisenBy}
use Rattle.push_script.specs.declared.scenario.Scenario.{Scenario}
use Rattle.radio_world.specs.declared.fault.WorldFault.{WorldFault}
use Rattle.radio_world.specs.declared.fault.WorldFault.TheVariants.{TraceFault, NoMemory}
use Rattle.scenario_play.specs.Breaking.{IsBroken}
use Rattle.scenario_play.specs.Failing.{shelf_faults}
use Rattle.scenario_play.specs.Playing.{IsPlayed}
use Rattle.object_push.specs.declared.halting.Ended.{Ended}
use Rattle.btpush_forms.specs.Ports.{Written}
use Rattle.object_push.specs.Ports.{Shelved, Kept, counts_in}
use Rattle.object_push.specs.Gains.{Gains, Grows}
use Rattle.object_push.specs.Halting.{HasReason}

-- the ports of a play: its trace, its shelf and its inbox
pub record Lent : Type 0 where
  pub trace : Written
  pub shelf : Shelved
  pub inbox : Kept

abbrev pub trace_by : {T : Type 0} → (T → Option (List ℕ)) → (faults shortages : T → ℕ) → T → Written
trace_by content faults shortages port = record { content = content port; faults = faults port; shortages = shortages port }

abbrev pub shelf_by : {F : Type 0} → (F → Option (List Object)) → (faults shortages absences : F → ℕ) → F → Shelved
shelf_by content faults shortages absences port = record { content = content port; faults = faults port; shortages = shortages port; absences = absences port }

abbrev pub inbox_by : {B : Type 0} → (B → Option Contents) → (faults shortages : B → ℕ) → B → Kept
inbox_by content faults shortages port = record { content = content port; faults = faults port; shortages = shortages port }

abbrev pub lent_by : {T F B : Type 0} → (T → Written) → (F → Shelved) → (B → Kept) → T → F → B → Lent
lent_by trace_is shelf_is inbox_is trace shelf inbox = record { trace = trace_is trace; shelf = shelf_is shelf; inbox = inbox_is inbox }

-- It was played to its end, with an outcome for each object, and the inbox gained what was counted; or it stopped short for a reason. What a
-- shelf has stays, no count of a port falls, and each fault and each want of memory of a port is answered.
pub record GoesOn (scenario : Scenario) (old new : Lent) (result : Result Ended WorldFault) : Type 0 where
  pub plays : IfOk result (λ ended. IsPlayed scenario old.shelf.content old.inbox.content new.inbox.content old.trace.content new.trace.content ended.played.outcomes.items ended.played.peaks (counts_in old.inbox) (counts_in new.inbox))
  pub each : IfOk result (λ ended. length ended.played.outcomes.items ≡ length scenario.names)
  pub gained : IfOk result (λ ended. Gains old.inbox.content ended.kept new.inbox.content)
  pub faulted : IfOk result (λ ended. HasRisenBy (shelf_faults ended.played.outcomes.items) old.shelf.faults new.shelf.faults)
  pub breaks : IfErr result (λ fault. IsBroken scenario old.shelf.content old.inbox.content new.inbox.content old.trace.content new.trace.content (counts_in old.inbox) (counts_in new.inbox))
  pub reason : IfErr result (λ fault. HasReason fault scenario old.inbox.content new.inbox.content old.trace.content new.trace.content (HasRisen old.trace.faults new.trace.faults) (HasRisen old.trace.shortages new.trace.shortages)
      (HasRisen old.shelf.shortages new.shelf.shortages) (HasRisen old.inbox.shortages new.inbox.shortages))
  pub grows : Grows old.inbox.content new.inbox.content
  pub trace_faults : IsAnswered old.trace.faults new.trace.faults (IsErrOf result TraceFault)
  pub trace_short : IsAnswered old.trace.shortages new.trace.shortages (IsErrOf result NoMemory)
  pub shelf_content : new.shelf.content ≡ old.shelf.content
  pub shelf_faults : old.shelf.faults ≤ new.shelf.faults
  pub shelf_absences : old.shelf.absences ≤ new.shelf.absences
  pub shelf_short : IsAnswered old.shelf.shortages new.shelf.shortages (is_ok result ≡ false)
  pub inbox_faults : old.inbox.faults ≤ new.inbox.faults
  pub inbox_short : IsAnswered old.inbox.shortages new.inbox.shortages (is_ok result ≡ false)
