-- What a run of a scenario over L2CAP comes to, over its ports and its capture (this project's own).
use Rattle.std.specs.Prelude.{ℕ, ◌≡◌, List, length, min}
use Rattle.bt_base.specs.Counts.{HasRisen}
use Rattle.bt_base.specs.Objects.{Object}
use Rattle.bt_base.specs.declared.settings.Transport.TheVariants.{L2cap}
use Rattle.watched_ports.specs.Gains.{most_kept}
use Rattle.push_terms.specs.declared.outcome.Outcome.{Outcome}
use Rattle.push_terms.specs.declared.peaks.Peaks.{Peaks}
use Rattle.push_terms.specs.declared.word.Side.TheVariants.{B}
use Rattle.push_script.specs.declared.scenario.Scenario.{Scenario}
use Rattle.push_script.specs.Reports.{report_text}
use Rattle.radio_world.specs.declared.fault.WorldFault.{WorldFault}
use Rattle.scenario_play.specs.link_talk.specs.Captures.{objects_heard}
use Rattle.scenario_play.specs.host_laws.specs.Calls.{HostsAsk}
use Rattle.scenario_play.specs.scenario_laws.specs.Gains.{holding}
use Rattle.scenario_play.specs.scenario_laws.specs.Parties.{party_of}
use Rattle.scenario_play.specs.Breaking.{IsBroken}
use Rattle.scenario_play.specs.Gaining.{HaveOffered, GainsPlayed, GainsBroken}
use Rattle.scenario_play.specs.Playing.{IsPlayed}
use Rattle.btpush_forms.specs.declared.status.Status.{Status}
use Rattle.object_push.specs.Ports.{Ports, counts_in}
use Rattle.object_push.specs.Running.{Reports, status_of, Stops, Runs}

-- What a run comes to, from an inbox that held `before`, over ports that were `old` and are `new`.
pub data ComesTo (asks : HostsAsk) (scenario : Scenario) (before : List Object) (old new : Ports) (result : Status) : Type 0 where
  -- It was played to its end, and reported: the report says how many objects the capture spells, where the inbox granted all calls.
  ToItsEnd : (outcomes : List Outcome) (kept : ℕ) (peaks : Peaks) (played : IsPlayed scenario old.shelf.content (holding before) new.inbox.content old.trace.content new.trace.content outcomes peaks (counts_in old.inbox) (counts_in new.inbox))
      → GainsPlayed asks scenario old.shelf.content before new.inbox.content outcomes played.capture played.finished (counts_in old.inbox) (counts_in new.inbox)
      → (HaveOffered asks scenario before played.capture played.finished.ran → kept ≡ min (length (objects_heard (party_of scenario.settings B) B played.capture)) most_kept)
      → Reports (report_text scenario.names outcomes kept peaks) outcomes old.sink.content new.sink.content (HasRisen old.sink.shortages new.sink.shortages) result → ComesTo asks scenario before old new result
  -- It stopped short, and nothing is reported.
  Short : (fault : WorldFault) → result ≡ status_of fault → Stops fault scenario old new
      → (broken : IsBroken scenario old.shelf.content (holding before) new.inbox.content old.trace.content new.trace.content (counts_in old.inbox) (counts_in new.inbox))
      → GainsBroken asks scenario old.shelf.content before new.inbox.content old.trace.content new.trace.content (counts_in old.inbox) (counts_in new.inbox) broken → new.sink.content ≡ old.sink.content → ComesTo asks scenario before old new result

-- So it is of each run of a scenario over L2CAP with an inbox that tells what it holds.
pub record RunsGain : Type 0 where
  pub asks : HostsAsk
  pub gains : (scenario : Scenario) (before : List Object) (old new : Ports) (result : Status) → old.inbox.content ≡ holding before → scenario.settings.transport ≡ L2cap → Runs scenario old new result
      → ComesTo asks scenario before old new result
