use Rattle.talk_laws.proofs.Captures.{only-moves_tell}
use Rattle.talk_laws.proofs.only_moves_tell.Goals as goal

pub returns : goal.returns
returns c = only-moves_tell
