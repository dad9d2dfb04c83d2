use Rattle.channel_laws.proofs.Uttering.{uttered-is_read}
use Rattle.channel_laws.proofs.laws.uttered_is_read.Goals as goal

pub returns : goal.returns
returns c = uttered-is_read
