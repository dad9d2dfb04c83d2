use Rattle.passing_laws.proofs.Recovering.{channels-recover}
use Rattle.passing_laws.proofs.channels_recover.Goals as goal

pub returns : goal.returns
returns c = channels-recover
