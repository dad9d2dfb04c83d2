use Rattle.push_laws.proofs.Example.{one-fault_is_heard}
use Rattle.push_laws.proofs.laws.one_fault_is_heard.Goals as goal

pub returns : goal.returns
returns c = one-fault_is_heard
