-- Why a run of a scenario stops short (this project's own).
use Rattle.std.specs.Prelude.{ℕ, ◌≡◌, ◌⊎◌, Bool, true, false, List, Option, Result, Ok, Err}
use Rattle.bt_base.specs.Objects.{Contents}
use Rattle.push_script.specs.declared.scenario.Scenario.{Scenario}
use Rattle.radio_world.specs.declared.fault.WorldFault.{WorldFault}
use Rattle.radio_world.specs.declared.fault.WorldFault.TheVariants.{TraceFault, NoMemory}
use Rattle.scenario_play.specs.declared.playing.Played.{Played}
use Rattle.scenario_play.specs.Breaking.{IsWanting}

-- What was played is taken over with the count of what was stored, unless the trace failed, or a port found no memory.
pub record Follows (failed short : Bool) (played : Result Played WorldFault) (taken : Played) : Type 0 where
  pub not_failed : failed ≡ false
  pub not_short : short ≡ false
  pub is : played ≡ Ok taken

-- the trace failed; or a port found no memory; or the play was given up for that fault
pub data Halts (failed short : Bool) (played : Result Played WorldFault) : WorldFault → Type 0 where
  ByFault : failed ≡ true → Halts failed short played TraceFault
  ByShortage : failed ≡ false → short ≡ true → Halts failed short played NoMemory
  ByPlay : (fault : WorldFault) → failed ≡ false → short ≡ false → played ≡ Err fault → Halts failed short played fault

-- The trace failed where its fault is told. Memory was wanting since a port lacked some, or for what the play says; the facts say that trace,
-- shelf and inbox lacked some.
abbrev pub HasReason : WorldFault → Scenario → (before after : Option Contents) → (trace trace' : Option (List ℕ)) → (TraceFailed TraceLacked ShelfLacked InboxLacked : Type 0) → Type 0
HasReason TraceFault scenario before after trace trace' TraceFailed TraceLacked ShelfLacked InboxLacked = TraceFailed
HasReason NoMemory scenario before after trace trace' TraceFailed TraceLacked ShelfLacked InboxLacked = TraceLacked ⊎ IsWanting scenario before after trace trace' ShelfLacked InboxLacked
