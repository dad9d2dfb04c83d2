-- What a port has heard (this project's own).
use Rattle.std.specs.Prelude.{ℕ, List, Option}
use Rattle.bt_base.specs.declared.ports.Sink as sink

-- a sink: what was written to it, where it tells that, and how often it failed and found no memory
pub record Written : Type 0 where
  pub content : Option (List ℕ)
  pub faults : ℕ
  pub shortages : ℕ

abbrev pub written : {K : Type 0} → sink.Ghosts K → K → Written
written port at = record { content = port.content at; faults = port.faults at; shortages = port.shortages at }
