-- What a run of a scenario over RFCOMM comes to, over its ports and its capture (this project's own).
use Rattle.std.specs.Prelude.{ℕ, ◌≡◌, List, length, min}
use Rattle.bt_base.specs.Objects.{Object}
use Rattle.bt_base.specs.declared.settings.Transport.TheVariants.{Rfcomm}
use Rattle.watched_ports.specs.Gains.{most_kept}
use Rattle.push_terms.specs.declared.outcome.Outcome.{Outcome}
use Rattle.push_terms.specs.declared.peaks.Peaks.{Peaks}
use Rattle.push_terms.specs.declared.word.Side.TheVariants.{B}
use Rattle.push_script.specs.declared.scenario.Scenario.{Scenario}
use Rattle.scenario_play.specs.link_talk.specs.Captures.{objects_heard}
use Rattle.scenario_play.specs.host_laws.specs.Calls.{HostsAsk}
use Rattle.scenario_play.specs.scenario_laws.specs.Gains.{holding}
use Rattle.scenario_play.specs.scenario_laws.specs.Parties.{party_of}
use Rattle.scenario_play.specs.Breaking.{IsBroken}
use Rattle.scenario_play.specs.Playing.{IsPlayed}
use Rattle.scenario_play.specs.Streaming.{HaveStreamed, StreamsPlayed, StreamsBroken}
use Rattle.btpush_forms.specs.declared.status.Status.{Status}
use Rattle.object_push.specs.Ports.{Ports, counts_in}
use Rattle.object_push.specs.Running.{Runs, RanToEnd, RanShort}

-- It was played to its end from an inbox that held `before`; and the report says how many objects the capture spells, where ports answered.
pub record StreamsToEnd (asks : HostsAsk) (scenario : Scenario) (before : List Object) (old new : Ports) (outcomes : List Outcome) (kept : ℕ) (peaks : Peaks) : Type 0 where
  pub played : IsPlayed scenario old.shelf.content (holding before) new.inbox.content old.trace.content new.trace.content outcomes peaks (counts_in old.inbox) (counts_in new.inbox)
  pub streams : StreamsPlayed asks scenario old.shelf.content before new.inbox.content outcomes played.capture played.finished.ran (counts_in old.inbox) (counts_in new.inbox)
  pub counted : HaveStreamed asks scenario before played.capture played.finished.ran → kept ≡ min (length (objects_heard (party_of scenario.settings B) B played.capture)) most_kept

-- It stopped short, from an inbox that held `before`.
pub record StreamsShort (asks : HostsAsk) (scenario : Scenario) (before : List Object) (old new : Ports) : Type 0 where
  pub broken : IsBroken scenario old.shelf.content (holding before) new.inbox.content old.trace.content new.trace.content (counts_in old.inbox) (counts_in new.inbox)
  pub streams : StreamsBroken asks scenario old.shelf.content before new.inbox.content old.trace.content new.trace.content (counts_in old.inbox) (counts_in new.inbox) broken

abbrev pub StreamsRun : (asks : HostsAsk) (scenario : Scenario) (before : List Object) (old new : Ports) (result : Status) → Runs scenario old new result → Type 0
StreamsRun asks scenario before old new result (RanToEnd outcomes kept peaks played gains faults reports) = StreamsToEnd asks scenario before old new outcomes kept peaks
StreamsRun asks scenario before old new result (RanShort fault is stops broken grows silent) = StreamsShort asks scenario before old new

-- So it is of each run of a scenario over RFCOMM with an inbox that tells what it holds.
pub record RunsStream : Type 0 where
  pub asks : HostsAsk
  pub streams : (scenario : Scenario) (before : List Object) (old new : Ports) (result : Status) → old.inbox.content ≡ holding before → scenario.settings.transport ≡ Rfcomm → (runs : Runs scenario old new result)
      → StreamsRun asks scenario before old new result runs
