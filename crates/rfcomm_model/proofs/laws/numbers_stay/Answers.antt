use Rattle.rfcomm_model.proofs.Keeping.{hears_keeps, next_keeps}
use Rattle.rfcomm_model.proofs.laws.numbers_stay.Goals as goal

pub returns : goal.returns
returns c = record { hearing = hears_keeps; saying = next_keeps }
