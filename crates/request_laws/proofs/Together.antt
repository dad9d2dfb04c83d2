-- All laws on requests together.
use Rattle.std.proofs.Common.{◌≡◌, List}
use Rattle.std.specs.List.{AllByRecursion}
use Rattle.pair_laws.specs.bt_base.specs.declared.settings.Transport.TheVariants.{L2cap}
use Rattle.pair_laws.specs.bt_base.specs.Objects.{Object}
use Rattle.pair_laws.specs.push_script.specs.declared.scenario.Scenario.{Scenario}
use Rattle.pair_laws.specs.capture.specs.Entries.{Entry}
use Rattle.pair_laws.specs.push_laws.specs.Premises.{AllGranted}
use Rattle.pair_laws.specs.host_model.specs.Circumstances.{Circumstance, answers_in}
use Rattle.pair_laws.specs.host_laws.specs.Feeds.{Feed}
use Rattle.pair_laws.specs.host_laws.specs.Gifts.{gifts_of}
use Rattle.pair_laws.specs.host_laws.proofs.InOrder.{asks-nothing}
use Rattle.pair_laws.specs.scenario_laws.specs.Captures.{Ran}
use Rattle.pair_laws.specs.scenario_laws.specs.Gains.{holding}
use Rattle.pair_laws.specs.scenario_laws.proofs.Gaining.{gains_exactly}
use Rattle.pair_laws.specs.InTurn.{PairsInTurn}
use Rattle.pair_laws.proofs.Pairing.{hosts-take_turns, granted-take_turns}
use Rattle.pair_laws.proofs.Taking.{clients_within, servers_within}
use Rattle.request_laws.specs.BothFed.{GrantsAll}
use Rattle.request_laws.specs.Granted.{RunsServeGranted}
use Rattle.request_laws.specs.Together.{ServesAll, PortsAnswer, RunsServeTogether}
use Rattle.request_laws.proofs.Linked.{runs_are_linked}
use Rattle.request_laws.proofs.ObjectPipes.{are_piped}
use Rattle.request_laws.proofs.Paired.{paired_servers_serve}
use Rattle.request_laws.proofs.Summing.{both_ask}
use Rattle.request_laws.proofs.Told.{all_answer}

-- where the channels of both hosts are pairs whose links go side by side
serves_so : (scenario : Scenario) (before : List Object) (capture : List Entry) (ran : Ran scenario (holding before) capture) → scenario.settings.transport ≡ L2cap → (turns : PairsInTurn both_ask scenario (holding before) capture ran)
    → PortsAnswer both_ask scenario before capture ran turns.pairs → ServesAll both_ask scenario before capture ran
serves_so scenario before capture ran direct turns answer =
    let pairs = turns.pairs in
    let piped = are_piped scenario before capture ran direct pairs in
    let linked = piped.linked (runs_are_linked both_ask scenario before capture ran turns) in
    let orderly = paired_servers_serve both_ask scenario before capture ran direct pairs (record { linked = linked; small = answer.small; granted = answer.granted }) (record { clients = clients_within; servers = servers_within })
    (asks-nothing scenario.settings (holding before)) in
    record { orderly = orderly; gained = gains_exactly both_ask scenario before capture ran direct orderly }

pub runs_serve_together : RunsServeTogether
runs_serve_together = record {
  asks = both_ask;
  runs = λ scenario before capture ran direct.
      let turns = hosts-take_turns both_ask scenario (holding before) capture ran in record { turns = turns; serves = serves_so scenario before capture ran direct turns };
}

-- ---- where the inbox grants all

pub all_granted : (feeds : List Feed) → AllByRecursion (λ (gift : List Circumstance). AllGranted (answers_in gift)) (gifts_of feeds) → AllByRecursion GrantsAll feeds
all_granted feeds all = all_answer AllGranted feeds all

pub runs_serve_granted : RunsServeGranted
runs_serve_granted = record {
  asks = both_ask;
  runs = λ scenario before capture ran direct happened.
      let so = granted-take_turns both_ask scenario (holding before) capture ran happened in
      record { together = record { turns = so.turns; serves = serves_so scenario before capture ran direct so.turns }; granted = all_granted so.turns.pairs.b.fed.so.lives.feeds so.given };
}
