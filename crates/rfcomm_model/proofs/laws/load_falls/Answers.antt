use Rattle.rfcomm_model.proofs.Unloading.{load-falls}
use Rattle.rfcomm_model.proofs.laws.load_falls.Goals as goal

pub returns : goal.returns
returns c = load-falls
