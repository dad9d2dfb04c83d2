-- The ports of a host that receives, and why it may want memory (this project's own).
use Rattle.std.specs.Prelude.{ℕ, ◌⊎◌, List, Option}
use Rattle.bt_base.specs.Objects.{Contents}
use Rattle.bt_base.specs.declared.ports.Source as source
use Rattle.bt_base.specs.declared.ports.Sink as sink
use Rattle.bt_base.specs.declared.ports.Inbox as inbox
use Rattle.receiving.specs.Receiving.{IsUntouched, AnyShort}

-- a port: what it holds, where it tells that, and how often it found no memory
pub record Port (Content : Type 0) : Type 0 where
  pub content : Option Content
  pub shortages : ℕ

-- its source, its sink, the trace, for a refusal, and its inbox
pub record Ports : Type 0 where
  pub source : Port (List ℕ)
  pub sink : Port (List ℕ)
  pub trace : Port (List ℕ)
  pub inbox : Port Contents

-- what ports of these kinds are
abbrev pub ports_of : {S K T B : Type 0} → source.Ghosts S → sink.Ghosts K → sink.Ghosts T → inbox.Ghosts B → S → K → T → B → Ports
ports_of of_source of_sink of_trace of_inbox source sink trace inbox = record {
  source = record { content = of_source.content source; shortages = of_source.shortages source };
  sink = record { content = of_sink.content sink; shortages = of_sink.shortages sink };
  trace = record { content = of_trace.content trace; shortages = of_trace.shortages trace };
  inbox = record { content = of_inbox.content inbox; shortages = of_inbox.shortages inbox };
}

-- nothing happened yet, or a port found no memory
abbrev pub LacksMemory : (old new : Ports) → Type 0
LacksMemory old new =
    IsUntouched old.source.content new.source.content old.sink.content new.sink.content old.trace.content new.trace.content old.inbox.content new.inbox.content
    ⊎ AnyShort old.source.shortages new.source.shortages old.sink.shortages new.sink.shortages old.trace.shortages new.trace.shortages old.inbox.shortages new.inbox.shortages
