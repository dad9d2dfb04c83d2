-- What a run of a scenario over RFCOMM comes to.
use Rattle.std.proofs.Common.{◌≡◌, List, Option, subst}
use Rattle.bt_base.specs.Objects.{Object, Contents}
use Rattle.bt_base.specs.declared.settings.Transport.TheVariants.{Rfcomm}
use Rattle.push_script.specs.declared.scenario.Scenario.{Scenario}
use Rattle.scenario_play.specs.scenario_laws.specs.Gains.{holding}
use Rattle.scenario_play.specs.Breaking.{IsBroken}
use Rattle.scenario_play.specs.Playing.{IsPlayed}
use Rattle.scenario_play.specs.Streaming.{PlaysStream}
use Rattle.btpush_forms.specs.declared.status.Status.{Status}
use Rattle.object_push.specs.Gains.{Gains}
use Rattle.object_push.specs.Ports.{Ports, counts_in}
use Rattle.object_push.specs.Running.{Runs, RanToEnd, RanShort}
use Rattle.object_push.specs.Streaming.{StreamsRun, RunsStream}
use Rattle.object_push.proofs.Gaining.{counted}

-- from an inbox that held that
streams_from : (law : PlaysStream) (scenario : Scenario) (before : List Object) (old new : Ports) (result : Status) → old.inbox.content ≡ holding before → scenario.settings.transport ≡ Rfcomm → (runs : Runs scenario old new result)
    → StreamsRun law.asks scenario before old new result runs
streams_from law scenario before old new result held muxed (RanToEnd outcomes kept peaks played gains faults reports) =
    let over : IsPlayed scenario old.shelf.content (holding before) new.inbox.content old.trace.content new.trace.content outcomes peaks (counts_in old.inbox) (counts_in new.inbox) =
    subst (λ (c : Option Contents). IsPlayed scenario old.shelf.content c new.inbox.content old.trace.content new.trace.content outcomes peaks (counts_in old.inbox) (counts_in new.inbox)) held played in
    let so = law.plays scenario old.shelf.content before new.inbox.content old.trace.content new.trace.content outcomes peaks (counts_in old.inbox) (counts_in new.inbox) over muxed in
    let more : Gains (holding before) kept new.inbox.content = subst (λ (c : Option Contents). Gains c kept new.inbox.content) held gains in
    record { played = over; streams = so; counted = λ have. counted before _ kept new.inbox.content more (so.gained have) }
streams_from law scenario before old new result held muxed (RanShort fault is stops broken grows silent) =
    let over : IsBroken scenario old.shelf.content (holding before) new.inbox.content old.trace.content new.trace.content (counts_in old.inbox) (counts_in new.inbox) =
    subst (λ (c : Option Contents). IsBroken scenario old.shelf.content c new.inbox.content old.trace.content new.trace.content (counts_in old.inbox) (counts_in new.inbox)) held broken in
    record { broken = over; streams = law.breaks scenario old.shelf.content before new.inbox.content old.trace.content new.trace.content (counts_in old.inbox) (counts_in new.inbox) over muxed }

pub runs_stream : PlaysStream → RunsStream
runs_stream law = record { asks = law.asks; streams = streams_from law }
