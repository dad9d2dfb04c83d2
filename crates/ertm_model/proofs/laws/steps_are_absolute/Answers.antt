use Rattle.ertm_model.proofs.Stepping.{gives-absolutely, hears-absolutely, rejects-ahead, others-stand}
use Rattle.ertm_model.proofs.laws.steps_are_absolute.Goals as goal

pub returns : goal.returns
returns c = record { gives = gives-absolutely; hears = hears-absolutely; rejects = rejects-ahead; others = others-stand }
