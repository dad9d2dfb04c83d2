-- Both hosts hold credits at each moment of a run whose inbox does not lack memory.
use Rattle.std.proofs.Common.{◌≡◌, List, [], map, Option, refl, sym, ap, subst}
use Rattle.inbox_laws.specs.bt_base.specs.declared.settings.Transport.{Transport}
use Rattle.inbox_laws.specs.bt_base.specs.declared.settings.Transport.TheVariants.{L2cap, Rfcomm}
use Rattle.inbox_laws.specs.bt_base.specs.Objects.{Object}
use Rattle.inbox_laws.specs.push_script.specs.declared.scenario.Scenario.{Scenario}
use Rattle.inbox_laws.specs.push_terms.specs.declared.word.Side.{Side}
use Rattle.inbox_laws.specs.push_terms.specs.declared.word.Side.TheVariants.{A, B}
use Rattle.inbox_laws.specs.capture.specs.Entries.{Entry}
use Rattle.inbox_laws.specs.push_laws.specs.Laws.{new_over}
use Rattle.inbox_laws.specs.push_laws.specs.Occurrences.{Occurrence}
use Rattle.inbox_laws.specs.push_laws.specs.Premises.{NoneShort, AllMayFail}
use Rattle.inbox_laws.specs.push_laws.specs.Searches.{AllServe}
use Rattle.inbox_laws.specs.push_laws.proofs.Gaining.{all_alone}
use Rattle.inbox_laws.specs.push_laws.proofs.Pushed.{pushed-are_taken}
use Rattle.inbox_laws.specs.air_laws.specs.AirLaws.{IsLastEnd}
use Rattle.inbox_laws.specs.world_model.specs.Machines.{News}
use Rattle.inbox_laws.specs.world_model.specs.Pushes.{Pushes}
use Rattle.inbox_laws.specs.world_model.specs.Worlds.{all_words}
use Rattle.inbox_laws.specs.host_model.specs.Circumstances.{Circumstance}
use Rattle.inbox_laws.specs.shelf_model.specs.Held.{held_by}
use Rattle.inbox_laws.specs.host_laws.specs.Serving.{served_from}
use Rattle.inbox_laws.specs.scenario_laws.specs.Captures.{client_of, server_of, BothHosts, beginning, Ran}
use Rattle.inbox_laws.specs.scenario_laws.specs.Gains.{holding, serving}
use Rattle.inbox_laws.specs.pair_laws.specs.Enough.{remembered, HappenedEnough}
use Rattle.inbox_laws.specs.pair_laws.specs.Keeping.{LosesNothing}
use Rattle.inbox_laws.specs.pair_laws.proofs.Answered.{runs-so}
use Rattle.inbox_laws.specs.pair_laws.proofs.Pairing.{enough-keep_order}
use Rattle.request_laws.proofs.HeardTogether.{pushed_over, serves_over}
use Rattle.request_laws.proofs.Summing.{both_ask}
use Rattle.request_laws.proofs.Told.{none_longer, gives_octets, all_answer}
use Rattle.inbox_laws.proofs.Deciding.{answers_decide}
use Rattle.credit_laws.specs.Fronts.{IsGentle}
use Rattle.credit_laws.specs.Kept.{IsSolvent, StaysSolvent}
use Rattle.credit_laws.specs.Staying.{RunsStaySolvent}
use Rattle.credit_laws.proofs.Direct.{direct_solvent}
use Rattle.credit_laws.proofs.Fronts.{credits-are_kept}
use Rattle.credit_laws.proofs.Initiating.{initiator_solvent}
use Rattle.credit_laws.proofs.Runs.{missed_solvent}

-- its inbox does not lack memory
abbrev memory : News → List Circumstance → List Circumstance
memory news answers = map remembered answers

-- host b at its end over RFCOMM
enough_solvent : (scenario : Scenario) (shelf : Option (List Object)) (before : List Object) (capture : List Entry) (ran : Ran scenario (holding before) capture) → scenario.settings.transport ≡ Rfcomm → HappenedEnough scenario shelf (holding before) ran.happenings ran.world
    → LosesNothing (all_words ran.happenings) → IsSolvent scenario.settings B capture
enough_solvent scenario shelf before capture ran muxed happened gentle =
    let settings = scenario.settings in
    let so = enough-keep_order both_ask scenario shelf (holding before) capture ran happened gentle in
    let order = so.order in
    let pairs = order.turns.pairs in
    let near = pairs.a.fed.so.lives.feeds in
    let far = pairs.b.fed.so.lives.feeds in
    let list : List Occurrence = served_from settings (holding before) (serving settings before).first far in
    let all = pushed_over scenario before capture ran muxed order (gives_octets shelf near so.told) (none_longer shelf near so.told) in
    let serve = serves_over scenario before capture ran muxed order NoneShort (all_answer NoneShort far so.enough) in
    let may : AllMayFail settings [] (new_over settings before) list =
    subst (AllMayFail settings [] (new_over settings before)) (sym all.is)
    (pushed-are_taken settings before all.pushes all.last all.pushed all.last_pushed (subst (AllServe NoneShort (new_over settings before)) all.is serve)) in
    missed_solvent scenario before capture ran order muxed (all_alone settings before list [] (new_over settings before) may)

-- over either transport
solvent_over : (transport : Transport) (scenario : Scenario) (shelf : Option (List Object)) (before : List Object) (capture : List Entry) (ran : Ran scenario (holding before) capture) → scenario.settings.transport ≡ transport
    → HappenedEnough scenario shelf (holding before) ran.happenings ran.world → IsGentle scenario ran.happenings → IsSolvent scenario.settings B capture
solvent_over L2cap scenario shelf before capture ran direct happened gentle = direct_solvent scenario (holding before) capture ran direct
solvent_over Rfcomm scenario shelf before capture ran muxed happened gentle = enough_solvent scenario shelf before capture ran muxed happened (gentle muxed)

-- of either side
side_solvent : (side : Side) (scenario : Scenario) (shelf : Option (List Object)) (before : List Object) (capture : List Entry) (ran : Ran scenario (holding before) capture) → HappenedEnough scenario shelf (holding before) ran.happenings ran.world → IsGentle scenario ran.happenings
    → IsSolvent scenario.settings side capture
side_solvent A scenario shelf before capture ran happened gentle = initiator_solvent scenario.settings.transport scenario shelf before capture ran refl happened gentle
side_solvent B scenario shelf before capture ran happened gentle = solvent_over scenario.settings.transport scenario shelf before capture ran refl happened gentle

-- at each moment, where the inbox holds these
held_solvent : (scenario : Scenario) (shelf : Option (List Object)) (before : List Object) (capture : List Entry) (side : Side) (ran : Ran scenario (holding before) capture) → HappenedEnough scenario shelf (holding before) ran.happenings ran.world → IsGentle scenario ran.happenings
    → StaysSolvent scenario.settings side capture
held_solvent scenario shelf before capture side ran happened gentle =
    credits-are_kept scenario (held_by shelf) memory (holding before) capture side ran happened gentle (λ front run there softly. side_solvent side scenario shelf before front run there softly)

-- or whatever it holds: what happened, happens as well where it holds nothing
pub runs-stay_solvent : RunsStaySolvent
runs-stay_solvent scenario shelf content capture side ran happened gentle =
    let (there, alike, happens) = answers_decide scenario (held_by shelf) memory content (holding []) ran.happenings ran.world happened in
    let as_empty : Ran scenario (holding []) capture = record {
      happenings = ran.happenings;
      world = there;
      happened = runs-so (client_of scenario) (server_of scenario (holding [])) (held_by shelf) memory ran.happenings (beginning scenario (holding [])) there happens;
      ends = ran.ends;
      last = subst (λ (pushes : Pushes). IsLastEnd pushes ran.ends) (sym (ap (λ (w : BothHosts). w.pushes) alike.same)) ran.last;
      capture_is = ran.capture_is;
    } in
    held_solvent scenario shelf [] capture side as_empty happens gentle
