use Rattle.lasting_laws.proofs.Lasting.{channels-last}
use Rattle.lasting_laws.proofs.channels_last.Goals as goal

pub returns : goal.returns
returns c = channels-last
