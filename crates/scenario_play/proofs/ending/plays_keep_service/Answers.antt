use Rattle.scenario_play.proofs.Services.{plays_keep_service}
use Rattle.scenario_play.proofs.ending.plays_keep_service.Goals as goal

pub returns : goal.returns
returns c = plays_keep_service
