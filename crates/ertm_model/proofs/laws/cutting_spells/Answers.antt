use Rattle.ertm_model.proofs.Cutting.{cut-spells}
use Rattle.ertm_model.proofs.laws.cutting_spells.Goals as goal

pub returns : goal.returns
returns c = cut-spells
