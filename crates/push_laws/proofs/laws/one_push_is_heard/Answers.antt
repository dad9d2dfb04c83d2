use Rattle.push_laws.proofs.Example.{one-push_is_heard}
use Rattle.push_laws.proofs.laws.one_push_is_heard.Goals as goal

pub returns : goal.returns
returns c = one-push_is_heard
