use Rattle.scenario_play.proofs.Pushed.{plays_spell_pushed}
use Rattle.scenario_play.proofs.ending.plays_spell_pushed.Goals as goal

pub returns : goal.returns
returns c = plays_spell_pushed
