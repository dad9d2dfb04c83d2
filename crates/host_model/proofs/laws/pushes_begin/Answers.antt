use Rattle.host_model.proofs.Worked.{pushes_begin}
use Rattle.host_model.proofs.laws.pushes_begin.Goals as goal

pub returns : goal.returns
returns c = pushes_begin
