use Rattle.credit_laws.specs.request_laws.proofs.Together.{runs_serve_granted}
use Rattle.scenario_play.proofs.Gained.{so_granted}
use Rattle.scenario_play.proofs.ending.plays_serve.Goals as goal

pub returns : goal.returns
returns c = record {
  asks = runs_serve_granted.asks;
  played = λ scenario shelf before after trace trace' outcomes peaks counts counts' played never direct. runs_serve_granted.runs scenario before played.capture played.finished.ran direct (so_granted scenario shelf before played.finished.ran.happenings played.finished.ran.world (played.granted never));
  broken = λ scenario shelf before after trace trace' counts counts' broken never direct. runs_serve_granted.runs scenario before _ broken.ran direct (so_granted scenario shelf before broken.ran.happenings broken.ran.world (broken.granted never).1);
}
