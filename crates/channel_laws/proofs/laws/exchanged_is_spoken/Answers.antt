use Rattle.channel_laws.proofs.Exchanged.{exchanged-is_spoken}
use Rattle.channel_laws.proofs.laws.exchanged_is_spoken.Goals as goal

pub returns : goal.returns
returns c = exchanged-is_spoken
