-- The ports of a push beside its source (this project's own).
use Rattle.std.specs.Prelude.{ℕ, List, Option}
use Rattle.bt_base.specs.Objects.{Object, Contents}
use Rattle.bt_base.specs.declared.ports.Sink as sink
use Rattle.bt_base.specs.declared.ports.Shelf as shelf
use Rattle.bt_base.specs.declared.ports.Inbox as inbox
use Rattle.scenario_play.specs.obex_session.specs.Counting.{Counts}
use Rattle.btpush_forms.specs.Ports.{Written, written}

-- a shelf: its objects, where it tells them, and how often it failed, found no memory, and was asked for what it lacks
pub record Shelved : Type 0 where
  pub content : Option (List Object)
  pub faults : ℕ
  pub shortages : ℕ
  pub absences : ℕ

-- an inbox: what it holds, where it tells that, and how often it failed and found no memory
pub record Kept : Type 0 where
  pub content : Option Contents
  pub faults : ℕ
  pub shortages : ℕ

-- both counts of it
abbrev pub counts_in : Kept → Counts
counts_in inbox = record { faults = inbox.faults; shortages = inbox.shortages }

-- the ports of a push: its sink, for the report, its trace, its shelf and its inbox
pub record Ports : Type 0 where
  pub sink : Written
  pub trace : Written
  pub shelf : Shelved
  pub inbox : Kept

abbrev pub shelved : {F : Type 0} → shelf.Ghosts F → F → Shelved
shelved port at = record { content = port.content at; faults = port.faults at; shortages = port.shortages at; absences = port.absences at }

abbrev pub kept : {B : Type 0} → inbox.Ghosts B → B → Kept
kept port at = record { content = port.content at; faults = port.faults at; shortages = port.shortages at }

-- what ports of these kinds are
abbrev pub ports_of : {K T F B : Type 0} → sink.Ghosts K → sink.Ghosts T → shelf.Ghosts F → inbox.Ghosts B → K → T → F → B → Ports
ports_of of_sink of_trace of_shelf of_inbox sink trace shelf inbox =
    record { sink = written of_sink sink; trace = written of_trace trace; shelf = shelved of_shelf shelf; inbox = kept of_inbox inbox }
