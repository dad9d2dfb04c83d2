use Rattle.inbox_laws.proofs.Deciding.{answers_decide}
use Rattle.inbox_laws.proofs.answers_alone_decide.Goals as goal

pub returns : goal.returns
returns c = answers_decide
