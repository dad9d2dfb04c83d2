use Rattle.accepting_laws.proofs.Accepting.{wishes-meet}
use Rattle.accepting_laws.proofs.wishes_meet.Goals as goal

pub returns : goal.returns
returns c = wishes-meet
