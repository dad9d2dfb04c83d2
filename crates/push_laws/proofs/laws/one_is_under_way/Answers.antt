use Rattle.push_laws.proofs.OneUnderWay.{one-is_under_way, names-abort_the_other}
use Rattle.push_laws.proofs.laws.one_is_under_way.Goals as goal

pub returns-clause-single : goal.returns-clause-single
returns-clause-single c = one-is_under_way

pub returns-clause-aborted : goal.returns-clause-aborted
returns-clause-aborted c = names-abort_the_other
