-- What a run of a scenario over L2CAP comes to.
use Rattle.std.proofs.Common.{◌≡◌, ℕ, List, ◌++◌, length, Option, Some, None, sym, ap, ◌∙◌, subst, arith, length-append}
use Rattle.std.specs.Prelude.{min}
use Rattle.bt_base.specs.Objects.{Object, Contents}
use Rattle.bt_base.specs.declared.settings.Transport.TheVariants.{L2cap}
use Rattle.watched_ports.specs.Gains.{most_kept}
use Rattle.push_script.specs.declared.scenario.Scenario.{Scenario}
use Rattle.scenario_play.specs.push_laws.specs.Laws.{stored_in}
use Rattle.scenario_play.specs.scenario_laws.specs.Gains.{holding}
use Rattle.scenario_play.specs.Breaking.{IsBroken}
use Rattle.scenario_play.specs.Gaining.{PlaysGain}
use Rattle.scenario_play.specs.Playing.{IsPlayed}
use Rattle.btpush_forms.specs.declared.status.Status.{Status}
use Rattle.object_push.specs.Gaining.{ComesTo, ToItsEnd, Short, RunsGain}
use Rattle.object_push.specs.Gains.{Gains}
use Rattle.object_push.specs.Ports.{Ports, counts_in}
use Rattle.object_push.specs.Running.{Runs, RanToEnd, RanShort}

-- as many objects were counted as stand behind those that were there
same_length : (before gain heard : List Object) → before ++ gain ≡ before ++ heard → length gain ≡ length heard
same_length before gain heard same =
    let one = length-append before gain in
    let other = length-append before heard in
    let both : length (before ++ gain) ≡ length (before ++ heard) = ap length same in
    omega (arith, one, other, both)

pub counted : (before heard : List Object) (kept : ℕ) (after : Option Contents) → Gains (holding before) kept after → stored_in after ≡ Some (before ++ heard) → kept ≡ min (length heard) most_kept
counted before heard kept None gains stored = absurd cc
counted before heard kept (Some after) gains stored =
    let same : before ++ gains.gain ≡ before ++ heard = sym gains.stored ∙ cc in
    gains.counted ∙ ap (λ (n : ℕ). min n most_kept) (same_length before gains.gain heard same)

-- from an inbox that held that
pub comes_from : (law : PlaysGain) (scenario : Scenario) (before : List Object) (old new : Ports) (result : Status) → old.inbox.content ≡ holding before → scenario.settings.transport ≡ L2cap → Runs scenario old new result
    → ComesTo law.asks scenario before old new result
comes_from law scenario before old new result held direct (RanToEnd outcomes kept peaks played gains faults reports) =
    let over : IsPlayed scenario old.shelf.content (holding before) new.inbox.content old.trace.content new.trace.content outcomes peaks (counts_in old.inbox) (counts_in new.inbox) =
    subst (λ (c : Option Contents). IsPlayed scenario old.shelf.content c new.inbox.content old.trace.content new.trace.content outcomes peaks (counts_in old.inbox) (counts_in new.inbox)) held played in
    let so = law.plays scenario old.shelf.content before new.inbox.content old.trace.content new.trace.content outcomes peaks (counts_in old.inbox) (counts_in new.inbox) over direct in
    let more : Gains (holding before) kept new.inbox.content = subst (λ (c : Option Contents). Gains c kept new.inbox.content) held gains in
    ToItsEnd outcomes kept peaks over so (λ have. counted before _ kept new.inbox.content more (so.gained have)) reports
comes_from law scenario before old new result held direct (RanShort fault is stops broken grows silent) =
    let over : IsBroken scenario old.shelf.content (holding before) new.inbox.content old.trace.content new.trace.content (counts_in old.inbox) (counts_in new.inbox) =
    subst (λ (c : Option Contents). IsBroken scenario old.shelf.content c new.inbox.content old.trace.content new.trace.content (counts_in old.inbox) (counts_in new.inbox)) held broken in
    Short fault is stops over (law.breaks scenario old.shelf.content before new.inbox.content old.trace.content new.trace.content (counts_in old.inbox) (counts_in new.inbox) over direct) silent

pub runs_gain : PlaysGain → RunsGain
runs_gain law = record { asks = law.asks; gains = comes_from law }
