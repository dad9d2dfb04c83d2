-- In each run over RFCOMM the inbox gains what the capture spells, but for one object at most for each fault.
use Rattle.std.proofs.Common.{arith, ◌≡◌, List, sym, ap, subst, ◌∙◌}
use Rattle.std.specs.List.{flat_map}
use Rattle.pair_laws.specs.bt_base.specs.declared.settings.Transport.TheVariants.{Rfcomm}
use Rattle.pair_laws.specs.bt_base.specs.Objects.{Object}
use Rattle.pair_laws.specs.push_script.specs.declared.scenario.Scenario.{Scenario}
use Rattle.pair_laws.specs.capture.specs.Entries.{Entry}
use Rattle.pair_laws.specs.push_model.specs.Server.{Reacted}
use Rattle.pair_laws.specs.push_laws.specs.Faults.{spent_from}
use Rattle.pair_laws.specs.push_laws.specs.Laws.{new_over, stored_in}
use Rattle.pair_laws.specs.push_laws.specs.Losing.{LeavesOut}
use Rattle.pair_laws.specs.push_laws.specs.Occurrences.{Occurrence}
use Rattle.pair_laws.specs.push_laws.specs.OneName.{LosesByFaults}
use Rattle.pair_laws.specs.push_laws.specs.Premises.{NoneShort}
use Rattle.pair_laws.specs.push_laws.specs.Searches.{AllServe}
use Rattle.pair_laws.specs.push_laws.proofs.Pushed.{pushed-gain_less}
use Rattle.pair_laws.specs.host_laws.specs.OverLinks.{talk_marks}
use Rattle.pair_laws.specs.host_laws.proofs.Serving.{servers_are_served}
use Rattle.pair_laws.specs.scenario_laws.specs.Captures.{Ran}
use Rattle.pair_laws.specs.scenario_laws.specs.Gains.{holding, serving, asked_by}
use Rattle.pair_laws.specs.Keeping.{PairsKeepOrder}
use Rattle.pair_laws.proofs.Pairing.{runs-keep_order}
use Rattle.request_laws.specs.LessHeard.{LosesHeard, FailingAnswer, HeardRunsGainLess}
use Rattle.request_laws.specs.Losing.{served_in}
use Rattle.request_laws.proofs.FaultsGiven.{told_is_given}
use Rattle.request_laws.proofs.GainsCarried.{carried-reads}
use Rattle.request_laws.proofs.HeardTogether.{pushed_over, serves_over}
use Rattle.request_laws.proofs.Losing.{same_gain}
use Rattle.request_laws.proofs.Summing.{both_ask}

module _ (scenario : Scenario) (before : List Object) (capture : List Entry) (ran : Ran scenario (holding before) capture) (muxed : scenario.settings.transport ≡ Rfcomm) (order : PairsKeepOrder both_ask scenario (holding before) capture ran) where
  abbrev told : List Occurrence
  told = served_in both_ask scenario before capture ran order.turns.pairs

  loses : FailingAnswer both_ask scenario before capture ran order → LosesByFaults scenario.settings before told
  loses answer =
      let settings = scenario.settings in
      let all = pushed_over scenario before capture ran muxed order answer.given answer.small in
      subst (LosesByFaults settings before) (sym all.is)
      (pushed-gain_less settings before all.pushes all.last all.pushed all.last_pushed (subst (AllServe NoneShort (new_over settings before)) all.is (serves_over scenario before capture ran muxed order NoneShort answer.enough)))

  pub loses_few : FailingAnswer both_ask scenario before capture ran order → LosesHeard both_ask scenario before capture ran order.turns.pairs
  loses_few answer =
      let settings = scenario.settings in
      let b = order.turns.pairs.b in
      let lost = loses answer in
      let less = lost.less in
      let but = lost.tells.but in
      record {
        loses = record {
          gain = less.gain;
          stored_is = ap (λ (at : Reacted). stored_in at.gift.content) (servers_are_served settings (holding before) (asked_by both_ask settings before) (flat_map talk_marks b.came.talk) ran.world.b.upper b.fed.so.lives) ∙ less.stored;
          leaves = subst (λ (os : List Object). LeavesOut less.gain os (spent_from (new_over settings before) told)) (carried-reads scenario before capture ran muxed order) less.leaves;
          marked = same_gain before less.gain _ (sym less.stored ∙ but.gains);
          said = but.said;
        };
        few = (let few = lost.few in let given = told_is_given settings (holding before) b.fed.so.lives.feeds (serving settings before).first in omega (arith, few, given));
        each = lost.tells.each;
      }

pub heard_runs_gain_less : HeardRunsGainLess
heard_runs_gain_less = record {
  asks = both_ask;
  runs = λ scenario before capture ran muxed gentle.
      let order = runs-keep_order both_ask scenario (holding before) capture ran gentle in record { order = order; less = loses_few scenario before capture ran muxed order };
}
