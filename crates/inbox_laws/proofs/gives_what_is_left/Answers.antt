use Rattle.inbox_laws.proofs.Spending.{gives_what_is_left}
use Rattle.inbox_laws.proofs.gives_what_is_left.Goals as goal

pub returns : goal.returns
returns c = gives_what_is_left
