use Rattle.passing_laws.proofs.Handing.{handed-were_put}
use Rattle.passing_laws.proofs.handed_were_put.Goals as goal

pub returns : goal.returns
returns c = handed-were_put
