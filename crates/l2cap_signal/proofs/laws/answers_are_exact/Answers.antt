use Rattle.l2cap_signal.proofs.Payloads.{answers_right, answers_only}
use Rattle.l2cap_signal.proofs.laws.answers_are_exact.Goals as goal

pub returns-clause-right : goal.returns-clause-right
returns-clause-right c = answers_right

pub returns-clause-only : goal.returns-clause-only
returns-clause-only c = answers_only
