-- A scenario that broke off (this project's own).
use Rattle.std.specs.Prelude.{ℕ, ◌≡◌, ◌≤◌, ◌⊎◌, ◌||◌, ◌^◌, true, false, List, [], ◌++◌, length, Option}
use Rattle.std.specs.List.{AllByRecursion}
use Rattle.bt_base.specs.Counts.{HasRisen}
use Rattle.bt_base.specs.Objects.{Object, Contents}
use Rattle.bt_base.specs.Streams.{gained, GainedFront}
use Rattle.noting_laws.specs.obex_session.specs.Counting.{Counts}
use Rattle.push_script.specs.declared.scenario.Scenario.{Scenario}
use Rattle.push_terms.specs.declared.word.Word.{Word}
use Rattle.capture.specs.Air.{words_of}
use Rattle.capture.specs.Entries.{Entry, capture_octets, IsEntry}
use Rattle.radio_world.specs.radio_model.specs.Queues.{is_crowded}
use Rattle.noting_laws.specs.world_model.specs.Machines.{Upper}
use Rattle.noting_laws.specs.world_model.specs.Worlds.{Happening, all_entries, all_words}
use Rattle.radio_world.specs.Hosts.{Asking}
use Rattle.radio_world.specs.Scenes.{Stage, Advances}
use Rattle.radio_world.specs.Standing.{last_entries}
use Rattle.radio_world.specs.Shortages.{Wants}
use Rattle.radio_world.specs.Breaking.{IsOf, Broken}
use Rattle.noting_laws.specs.scenario_laws.specs.Captures.{BothHosts, Happened, Ran}
use Rattle.noting_laws.specs.pair_laws.specs.Enough.{HappenedEnough}
use Rattle.noting_laws.specs.pair_laws.specs.Served.{HappenedServed}
use Rattle.scenario_play.specs.Playing.{LackedNever, RoseNever, RanAnswered}

-- ---- a world of any two hosts

-- It broke off on its way, or behind its last word, as the end of the push that goes on was being written.
pub data BreaksThrough {S T G H P Q Y : Type 0} (U : Upper S G) (V : Upper T H) (AnswersA : P → List G → P → Type 0) (AnswersB : Q → List H → Q → Type 0) (LackedA : P → P → Type 0) (LackedB : Q → Q → Type 0) (station_b : Y → Q → Asking T H) (words : List Word) (old : Stage S T G H P Q) (shelf : P) (inbox : Q) (trace : Option (List ℕ)) : Type 0 where
  OnItsWay : Broken U V AnswersA AnswersB LackedA LackedB station_b words old shelf inbox trace → BreaksThrough U V AnswersA AnswersB LackedA LackedB station_b words old shelf inbox trace
  AtItsEnd : (mid : Stage S T G H P Q) → Advances U V AnswersA AnswersB words old mid → IsOf station_b mid.b mid.inbox → GainedFront mid.trace trace (capture_octets (last_entries (U.outcome (mid.a.upper [])) mid.scene.pushes)) → AllByRecursion IsEntry (last_entries (U.outcome (mid.a.upper [])) mid.scene.pushes) → shelf ≡ mid.shelf → inbox ≡ mid.inbox
      → BreaksThrough U V AnswersA AnswersB LackedA LackedB station_b words old shelf inbox trace

-- nothing has happened yet
pub record IsUntouched {S T G H P Q : Type 0} (old : Stage S T G H P Q) (shelf : P) (inbox : Q) (trace : Option (List ℕ)) : Type 0 where
  pub shelf_is : shelf ≡ old.shelf
  pub inbox_is : inbox ≡ old.inbox
  pub trace_is : trace ≡ old.trace

-- why it may want memory where the trace did not: for what it reserves first, or for a cause of its world
abbrev pub MayWant : {S T G H P Q : Type 0} → Upper S G → Upper T H → (P → List G → P → Type 0) → (Q → List H → Q → Type 0) → (P → P → Type 0) → (Q → Q → Type 0) → List Word → Stage S T G H P Q → P → Q → Option (List ℕ) → Type 0
MayWant U V AnswersA AnswersB LackedA LackedB words old shelf inbox trace = IsUntouched old shelf inbox trace ⊎ Wants U V AnswersA AnswersB LackedA LackedB words old shelf inbox trace

-- ---- both hosts of the scenario

-- So much happened, from an inbox that held `before`, and the trace gained its entries. Behind them it gained a front of the next entry, if
-- one was begun; the capture with that entry is one of a run as well, which goes on from there and whose words are the first of the script. The inbox holds what host b
-- made of what happened, unless it lacked memory as that entry was heard; host a had lacked none by then. In both runs the shelf told what it holds, and the inbox lacked no memory:
-- it did not by then, and what it answered as that entry was heard is left open. What it answered by then its counts say, as where a scenario is played to its end.
pub record IsBroken (scenario : Scenario) (shelf : Option (List Object)) (before after : Option Contents) (trace trace' : Option (List ℕ)) (counts counts' : Counts) : Type 0 where
  pub happenings : List Happening
  pub world : BothHosts
  pub happened : Happened scenario before happenings world
  pub able : world.a.upper.profile.client.failed ≡ false
  pub next : List Entry
  pub few : length next ≤ 1
  pub ran : Ran scenario before (all_entries happenings ++ next)
  pub more : List Happening
  pub goes_on : ran.happenings ≡ happenings ++ more
  pub later : List Word
  pub words_are : words_of scenario.script ≡ all_words ran.happenings ++ later
  pub written : GainedFront (gained trace (capture_octets (all_entries happenings))) trace' (capture_octets next)
  pub entries_are : AllByRecursion IsEntry (all_entries happenings ++ next)
  pub enough : HappenedEnough scenario shelf before happenings world × HappenedEnough scenario shelf before ran.happenings ran.world
  pub granted : RoseNever counts counts' → HappenedServed scenario shelf before happenings world × HappenedServed scenario shelf before ran.happenings ran.world
  pub answered : LackedNever counts counts' → RanAnswered scenario shelf before after counts counts' happenings (all_entries happenings)
  pub stored : (after ≡ world.b.upper.profile.inbox.content) ⊎ HasRisen counts.shortages counts'.shortages

-- a run led to where more frames wait in a direction of the air, or more octets of them, than memory is reserved for
pub record IsCrowdedRun (scenario : Scenario) (before : Option Contents) (trace trace' : Option (List ℕ)) : Type 0 where
  pub happenings : List Happening
  pub world : BothHosts
  pub happened : Happened scenario before happenings world
  pub crowded : (is_crowded world.radio.a.waiting || is_crowded world.radio.b.waiting) ≡ true
  pub written : trace' ≡ gained trace (capture_octets (all_entries happenings))
  pub entries_are : AllByRecursion IsEntry (all_entries happenings)

-- Why a scenario may want memory where the trace did not: for what is reserved before anything happens; for its shelf or its inbox, which
-- lacked some; for the air, which is crowded; or since its words cannot be counted.
pub data IsWanting (scenario : Scenario) (before after : Option Contents) (trace trace' : Option (List ℕ)) (ShelfLacked InboxLacked : Type 0) : Type 0 where
  NothingYet : after ≡ before → trace' ≡ trace → IsWanting scenario before after trace trace' ShelfLacked InboxLacked
  ShelfWants : ShelfLacked → IsWanting scenario before after trace trace' ShelfLacked InboxLacked
  InboxWants : InboxLacked → IsWanting scenario before after trace trace' ShelfLacked InboxLacked
  AirCrowded : IsCrowdedRun scenario before trace trace' → IsWanting scenario before after trace trace' ShelfLacked InboxLacked
  ManyWords : 2 ^ 64 ≤ length (words_of scenario.script) → IsWanting scenario before after trace trace' ShelfLacked InboxLacked
