use Rattle.channel_laws.proofs.Pairing.{each-end_utters}
use Rattle.channel_laws.proofs.laws.each_end_utters.Goals as goal

pub returns : goal.returns
returns c = each-end_utters
