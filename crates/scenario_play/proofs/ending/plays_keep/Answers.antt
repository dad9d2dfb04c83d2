use Rattle.scenario_play.proofs.Gained.{plays_keep}
use Rattle.scenario_play.proofs.ending.plays_keep.Goals as goal

pub returns : goal.returns
returns c = plays_keep c.few_words_part_none.ensures
