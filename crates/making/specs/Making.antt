-- What comes of making the scenario of a number and running it (this project's own).
use Rattle.std.specs.Prelude.{ℕ, ◌≡◌, ◌⊎◌, true, false, List, [], length, Option, Some, None}
use Rattle.std.specs.List.{list_all}
use Rattle.bt_base.specs.Counts.{HasRisen}
use Rattle.bt_base.specs.Objects.{Object}
use Rattle.bt_base.specs.Streams.{gained, GainedFront}
use Rattle.object_push.specs.capture.specs.Entries.{Entry}
use Rattle.object_push.specs.push_terms.specs.declared.outcome.Outcome.{Outcome}
use Rattle.object_push.specs.push_terms.specs.declared.peaks.Peaks.{Peaks}
use Rattle.push_script.specs.declared.scenario.Scenario.{Scenario}
use Rattle.push_script.specs.Made.{made_names, made_objects, made_script, put_first}
use Rattle.push_script.specs.Reading.{script_of}
use Rattle.push_script.specs.Reports.{report_text}
use Rattle.btpush_forms.specs.declared.status.Status.{Status}
use Rattle.btpush_forms.specs.declared.status.Status.TheVariants as status
use Rattle.btpush_forms.specs.Run.{HasEnded}
use Rattle.btpush_forms.specs.Ports.{Written}
use Rattle.object_push.specs.Ports.{Ports}
use Rattle.object_push.specs.Running.{is_done}
use Rattle.object_push.specs.Told as told
use Rattle.object_push.specs.Told.{Tells}
use Rattle.making.specs.Counting.{octets_counted}
use Rattle.making.specs.Outcomes.{done_count}
use Rattle.making.specs.Summary.{summary_text}

-- The ports over which the scenario of a number is run: an empty report, that trace, the objects of the number on the shelf, and an empty
-- inbox. None has failed or found no memory but the trace.
abbrev pub first_ports : ℕ → Written → Ports
first_ports number trace = record {
  sink = record { content = Some []; faults = 0; shortages = 0 };
  trace = trace;
  shelf = record { content = Some (put_first (made_objects number) []); faults = 0; shortages = 0; absences = 0 };
  inbox = record { content = Some (record { stored = []; pending = None }); faults = 0; shortages = 0 };
}

-- The scenario of the number was run by the form `push`: it ended so, and left the ports so.
pub record IsRun (number : ℕ) (trace : Written) (after : Ports) (end : Status) : Type 0 where
  pub scenario : Scenario
  pub made : script_of scenario ≡ made_script number
  pub tells : Tells scenario (first_ports number trace) after end

-- how a run with these outcomes ends: well where every push is done
abbrev pub EndsSo : List Outcome → Status → Type 0
EndsSo outcomes status.Ok = list_all is_done outcomes ≡ true
EndsSo outcomes status.SomeFailed = list_all is_done outcomes ≡ false
EndsSo outcomes _ = ⊥

-- A scenario was played to its end over ports that were `before` and are `after`, as the capture says that its trace gained, with these outcomes, which
-- are reported; these objects are stored.
pub record IsReported (scenario : Scenario) (before after : Ports) (end : Status) (outcomes : List Outcome) (stored : List Object) : Type 0 where
  pub ends : EndsSo outcomes end
  pub kept : ℕ
  pub peaks : Peaks
  pub capture : List Entry
  pub played : told.EndsSo scenario before after outcomes kept peaks capture
  pub report : after.sink.content ≡ Some (report_text made_names outcomes kept peaks)
  pub pending : Option Object
  pub inbox : after.inbox.content ≡ Some (record { stored = stored; pending = pending })

-- the summary of a run with these outcomes, which stored these objects
abbrev pub summary_of : List Outcome → List Object → List ℕ
summary_of outcomes stored = summary_text (done_count outcomes made_names) (length stored) (octets_counted stored)

-- A summary is told of a run that ended so: all of it, with that end, or after a fault of the sink a front of it. Memory is wanting only
-- where the sink lacked some.
abbrev pub Sums : List ℕ → (end : Status) → (old new : Option (List ℕ)) → (SinkLacked : Type 0) → Status → Type 0
Sums text end old new SinkLacked status.WriteFault = GainedFront old new text
Sums text end old new SinkLacked status.NoMemory = GainedFront old new text × SinkLacked
Sums text end old new SinkLacked result = (result ≡ end) × (new ≡ gained old text)

-- a run that stops short of its end: memory was wanting, or the trace failed
abbrev pub StopsShort : Status → Type 0
StopsShort result = (result ≡ status.NoMemory) ⊎ (result ≡ status.WriteFault)

-- What comes of the scenario of a number, over a sink and a trace that were so and are so.
pub data Makes (number : ℕ) (sink sink' trace trace' : Written) (result : Status) : Type 0 where
  -- there is no memory for the scenario or for the ports of its run: nothing is told
  NotMade : result ≡ status.NoMemory → sink'.content ≡ sink.content → trace'.content ≡ trace.content → Makes number sink sink' trace trace' result
  -- its run stops short, and so does this: nothing is told of it but what the trace has
  Stopped : (after : Ports) → IsRun number trace after result → StopsShort result → after.trace ≡ trace' → sink'.content ≡ sink.content → Makes number sink sink' trace trace' result
  -- its run comes to its end, and the summary of it is told
  Told : (after : Ports) (end : Status) (outcomes : List Outcome) (stored : List Object) (ran : IsRun number trace after end) → IsReported ran.scenario (first_ports number trace) after end outcomes stored → after.trace ≡ trace'
      → Sums (summary_of outcomes stored) end sink.content sink'.content (HasRisen sink.shortages sink'.shortages) result → Makes number sink sink' trace trace' result

-- it ended with its summary told, or short of that
abbrev pub IsKnown : Status → Type 0
IsKnown result = HasEnded result ⊎ StopsShort result
