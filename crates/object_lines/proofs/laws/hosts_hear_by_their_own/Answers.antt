use Rattle.object_lines.proofs.Hearing.{hear_by_their_own}
use Rattle.object_lines.proofs.laws.hosts_hear_by_their_own.Goals as goal

pub returns : goal.returns
returns c = hear_by_their_own
