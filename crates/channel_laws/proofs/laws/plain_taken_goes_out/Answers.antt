use Rattle.channel_laws.proofs.PlainTaken.{plain-goes_out}
use Rattle.channel_laws.proofs.laws.plain_taken_goes_out.Goals as goal

pub returns : goal.returns
returns c = plain-goes_out
