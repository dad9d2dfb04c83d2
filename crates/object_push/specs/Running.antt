-- What becomes of a scenario that is run (this project's own).
use Rattle.std.specs.Prelude.{ℕ, ◌≡◌, Bool, true, false, List, Option}
use Rattle.std.specs.List.{list_all}
use Rattle.bt_base.specs.Counts.{HasRisen}
use Rattle.bt_base.specs.Streams.{gained, GainedFront}
use Rattle.scenario_play.specs.obex_session.specs.Counting.{HasRisenBy}
use Rattle.push_terms.specs.declared.outcome.Outcome.{Outcome}
use Rattle.push_terms.specs.declared.outcome.Outcome.TheVariants as outcomes
use Rattle.push_terms.specs.declared.peaks.Peaks.{Peaks}
use Rattle.push_script.specs.declared.scenario.Scenario.{Scenario}
use Rattle.push_script.specs.Reports.{report_text}
use Rattle.radio_world.specs.declared.fault.WorldFault.{WorldFault}
use Rattle.radio_world.specs.declared.fault.WorldFault.TheVariants as world
use Rattle.scenario_play.specs.Playing.{IsPlayed}
use Rattle.scenario_play.specs.Breaking.{IsBroken}
use Rattle.scenario_play.specs.Failing.{shelf_faults}
use Rattle.btpush_forms.specs.declared.status.Status.{Status}
use Rattle.btpush_forms.specs.declared.status.Status.TheVariants as status
use Rattle.object_push.specs.Ports.{Ports, counts_in}
use Rattle.object_push.specs.Gains.{Gains, Grows}
use Rattle.object_push.specs.Halting.{HasReason}

-- the push is done
abbrev pub is_done : Outcome → Bool
is_done outcomes.Done = true
is_done _ = false

-- A report is told: all of it, with a status that says whether every push is done, or after a fault of the sink a front of it. Memory is
-- wanting only where the sink lacked some.
abbrev pub Reports : List ℕ → List Outcome → (old new : Option (List ℕ)) → (SinkLacked : Type 0) → Status → Type 0
Reports text outcomes old new SinkLacked status.Ok = (list_all is_done outcomes ≡ true) × (new ≡ gained old text)
Reports text outcomes old new SinkLacked status.SomeFailed = (list_all is_done outcomes ≡ false) × (new ≡ gained old text)
Reports text outcomes old new SinkLacked status.WriteFault = GainedFront old new text
Reports text outcomes old new SinkLacked status.NoMemory = GainedFront old new text × SinkLacked
Reports text outcomes old new SinkLacked status.BadWords = ⊥
Reports text outcomes old new SinkLacked status.InputRefused = ⊥
Reports text outcomes old new SinkLacked status.ReadFault = ⊥

-- the trace failed, or memory was wanting
abbrev pub status_of : WorldFault → Status
status_of world.TraceFault = status.WriteFault
status_of world.NoMemory = status.NoMemory

-- for that fault a run of a scenario stops short
abbrev pub Stops : WorldFault → Scenario → (old new : Ports) → Type 0
Stops fault scenario old new =
    HasReason fault scenario old.inbox.content new.inbox.content old.trace.content new.trace.content (HasRisen old.trace.faults new.trace.faults) (HasRisen old.trace.shortages new.trace.shortages)
    (HasRisen old.shelf.shortages new.shelf.shortages) (HasRisen old.inbox.shortages new.inbox.shortages)

-- What becomes of a scenario, over ports that were `old` and are `new`.
pub data Runs (scenario : Scenario) (old new : Ports) (result : Status) : Type 0 where
  -- It is played to its end, as the trace has it, and reported: what came of its pushes, how many objects the inbox gained, and what the hosts
  -- held at most. The shelf failed as often at least as pushes ended for that.
  RanToEnd : (outcomes : List Outcome) (kept : ℕ) (peaks : Peaks) → IsPlayed scenario old.shelf.content old.inbox.content new.inbox.content old.trace.content new.trace.content outcomes peaks (counts_in old.inbox) (counts_in new.inbox) → Gains old.inbox.content kept new.inbox.content
      → HasRisenBy (shelf_faults outcomes) old.shelf.faults new.shelf.faults
      → Reports (report_text scenario.names outcomes kept peaks) outcomes old.sink.content new.sink.content (HasRisen old.sink.shortages new.sink.shortages) result → Runs scenario old new result
  -- It stops short: the trace has the capture of a run so far, and a front of its next entry. Nothing is reported.
  RanShort : (fault : WorldFault) → result ≡ status_of fault → Stops fault scenario old new
      → IsBroken scenario old.shelf.content old.inbox.content new.inbox.content old.trace.content new.trace.content (counts_in old.inbox) (counts_in new.inbox)
      → Grows old.inbox.content new.inbox.content → new.sink.content ≡ old.sink.content → Runs scenario old new result
