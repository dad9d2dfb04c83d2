-- The form `push`: a scenario in, its report and its capture out (this project's own).
use Rattle.std.specs.Prelude.{ℕ, ◌≡◌, ◌⊎◌, List, [], drop, Option, Some, Ok, Err}
use Rattle.bt_base.specs.Counts.{HasRisen}
use Rattle.push_script.specs.declared.scenario.Scenario.{Scenario}
use Rattle.push_script.specs.declared.refusal.ScriptRefusal.{ScriptRefusal}
use Rattle.push_script.specs.Reading.{reading, script_of}
use Rattle.push_script.specs.Refusals.{refusal_line}
use Rattle.btpush_forms.specs.declared.status.Status.{Status}
use Rattle.btpush_forms.specs.declared.status.Status.TheVariants as status
use Rattle.btpush_forms.specs.Gathering.{unread}
use Rattle.btpush_forms.specs.Refusing.{Refuses}
use Rattle.object_push.specs.Ports.{Ports}
use Rattle.object_push.specs.Told.{Tells}

-- the source failed, or memory was wanting
abbrev pub IsUnread : Status → Type 0
IsUnread status.ReadFault = Unit {0}
IsUnread status.NoMemory = Unit {0}
IsUnread _ = ⊥

-- The form `push` on an input, of which the source then has `left`, over ports that were `old` and are `new`.
-- `Untouched` says that trace, shelf and inbox are as they were.
pub data Pushes (input : List ℕ) (left : Option (List ℕ)) (old new : Ports) (Untouched : Type 0) (result : Status) : Type 0 where
  -- the input is not read to its end, or there is no memory for what it says
  NotRead : (n : ℕ) → left ≡ Some (drop n input) → new.sink.content ≡ old.sink.content → Untouched → IsUnread result → Pushes input left old new Untouched result
  -- it is no scenario, and the first refusal is told
  NotTaken : (line : ℕ) (refusal : ScriptRefusal) → left ≡ unread input → reading input ≡ Err (line, refusal) → Refuses (refusal_line line refusal) old.sink.content new.sink.content result → Untouched
      → Pushes input left old new Untouched result
  -- it is a scenario, which is played
  Taken : (scenario : Scenario) → left ≡ Some [] → reading input ≡ Ok (script_of scenario) → Tells scenario old new result → Pushes input left old new Untouched result

-- With what status a run ends whose shelf or inbox found no memory: that memory was wanting where the trace did not fail, and else that it
-- failed. The numbers are the count of faults of the trace before and after.
abbrev pub IsShort : (faults faults' : ℕ) → Status → Type 0
IsShort faults faults' result = ((result ≡ status.NoMemory) × (faults' ≡ faults)) ⊎ ((result ≡ status.WriteFault) × HasRisen faults faults')
