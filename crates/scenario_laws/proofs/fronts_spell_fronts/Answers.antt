use Rattle.scenario_laws.proofs.Early.{fronts_spell_fronts}
use Rattle.scenario_laws.proofs.fronts_spell_fronts.Goals as goal

pub returns : goal.returns
returns c = fronts_spell_fronts
