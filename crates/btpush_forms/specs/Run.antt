-- What a run does (this project's own).
use Rattle.std.specs.Prelude.{ℕ, ◌≡◌, ◌<◌, ◌≤◌, ◌⊎◌, List, Option, Result, Ok, Err}
use Rattle.bt_base.specs.Counts.{HasRisen}
use Rattle.bt_base.specs.Streams.{gained, GainedFront}
use Rattle.h4_view.specs.declared.refusal.ViewFault.{ViewFault}
use Rattle.h4_view.specs.declared.refusal.ViewFault.TheVariants as view
use Rattle.h4_view.specs.View.{Views}
use Rattle.h4_view.specs.Snoop.{SnoopViews}
use Rattle.object_lines.specs.Viewing.{CaptureViews}
use Rattle.btpush_forms.specs.declared.viewing.Viewing.{Viewing}
use Rattle.btpush_forms.specs.declared.viewing.Viewing.TheVariants.{Raw, Tagged, Snoop}
use Rattle.btpush_forms.specs.declared.status.Status.{Status}
use Rattle.btpush_forms.specs.declared.status.Status.TheVariants as status
use Rattle.btpush_forms.specs.Words.{usage_line}

-- what a sink gains from the view of an input of that kind
abbrev pub ViewsBy : Viewing → List ℕ → Option (List ℕ) → Option (List ℕ) → Option (List ℕ) → Result (Unit {0}) ViewFault → Type 0
ViewsBy Raw input left old new end = Views input left old new end
ViewsBy Tagged input left old new end = CaptureViews input left old new end
ViewsBy Snoop input left old new end = SnoopViews input left old new end

-- the status that the end of a view has
abbrev pub status_of : Result (Unit {0}) ViewFault → Status
status_of (Ok done) = status.Ok
status_of (Err (view.Refused refusal place)) = status.InputRefused
status_of (Err view.ReadFault) = status.ReadFault
status_of (Err view.WriteFault) = status.WriteFault
status_of (Err view.NoMemory) = status.NoMemory

-- The forms `decode`: the sink gains the view of the input, of which the source then has `left`, with the status that the
-- view's end has.
abbrev pub Decodes : Viewing → List ℕ → Option (List ℕ) → Option (List ℕ) → Option (List ℕ) → Status → Type 0
Decodes viewing input left old new result = (end : Result (Unit {0}) ViewFault) × ViewsBy viewing input left old new end × (result ≡ status_of end)

-- Words that are no command line: the sink gains the line on the usage, or a front of it after a fault.
abbrev pub RefusesWords : Option (List ℕ) → Option (List ℕ) → Status → Type 0
RefusesWords old new status.BadWords = new ≡ gained old usage_line
RefusesWords old new status.WriteFault = GainedFront old new usage_line
RefusesWords old new status.NoMemory = GainedFront old new usage_line
RefusesWords old new status.Ok = ⊥
RefusesWords old new status.SomeFailed = ⊥
RefusesWords old new status.InputRefused = ⊥
RefusesWords old new status.ReadFault = ⊥

-- Each fault has its cause: a fault of reading comes only where the source's count of faults rose, one of writing
-- only where that of the sink or of the trace did; and where a count rose, that fault is answered. No count falls.
pub record HasCauses (source source' sink sink' trace trace' : ℕ) (result : Status) : Type 0 where
  pub source_stays : source ≤ source'
  pub sink_stays : sink ≤ sink'
  pub trace_stays : trace ≤ trace'
  pub read : result ≡ status.ReadFault → HasRisen source source'
  pub write : result ≡ status.WriteFault → HasRisen sink sink' ⊎ HasRisen trace trace'
  pub only_read : source < source' → result ≡ status.ReadFault
  pub only_write : sink < sink' → result ≡ status.WriteFault
  pub only_trace : trace < trace' → result ≡ status.WriteFault

-- a mode that ran to its end
abbrev pub HasEnded : Status → Type 0
HasEnded status.Ok = Unit {0}
HasEnded status.SomeFailed = Unit {0}
HasEnded _ = ⊥
