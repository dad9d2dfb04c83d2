use Rattle.std.proofs.Common.{ap, ◌∙◌}
use Rattle.noting_laws.specs.push_laws.specs.Laws.{stored_in}
use Rattle.noting_laws.specs.scenario_laws.specs.Captures.{client_of}
use Rattle.noting_laws.specs.scenario_laws.proofs.Clauses.{scenarios_end}
use Rattle.scenario_play.proofs.ending.plays_end.Goals as goal

pub returns : goal.returns
returns c = record {
  asks = scenarios_end.asks;
  ends = λ scenario shelf before after trace trace' outcomes peaks counts counts' played transport serves.
      let world = played.finished.ran.world in
      let ends = scenarios_end.ends scenario before played.capture played.finished ((client_of scenario).outcome world.a.upper) played.ends transport serves in
      record {
        gained = ap stored_in played.stored ∙ ends.gained;
        within_a = ends.within_a;
        within_b = ends.within_b;
        window_a = ends.window_a;
        window_b = ends.window_b;
        honest = ends.honest;
        in_turn = ends.in_turn;
        outcomes_are = played.outcomes_are;
        obeys = ends.obeys;
      };
}
