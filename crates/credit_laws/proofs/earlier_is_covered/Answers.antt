use Rattle.credit_laws.proofs.Seeing.{earlier-is_covered}
use Rattle.credit_laws.proofs.earlier_is_covered.Goals as goal

pub returns : goal.returns
returns c = earlier-is_covered
