use Rattle.std.proofs.Common.{sym, ◌∙◌, refl}
use Rattle.l2cap_signal.proofs.Steps.{step_is, end_is}
use Rattle.l2cap_signal.proofs.signals.Signals.next.Goals as goal

pub returns-then-is_empty-clause-answer : goal.returns-then-is_empty-clause-answer
returns-then-is_empty-clause-answer c = rw (end_is c.self.inside.rest.now c.args.self.now c.self.view_is (sym c.is_empty.ensures ∙ c.if-is_empty.true)) refl

pub returns-then-is_empty-clause-rest : goal.returns-then-is_empty-clause-rest
returns-then-is_empty-clause-rest c = rw (end_is c.self.inside.rest.now c.args.self.now c.self.view_is (sym c.is_empty.ensures ∙ c.if-is_empty.true)) refl

pub returns-clause-answer : goal.returns-clause-answer
returns-clause-answer c = (step_is c.self.inside.rest.now c.args.self.now _ _ c.self.view_is (sym c.is_empty.ensures ∙ c.if-is_empty.false) c.first_of.ensures).0

pub returns-clause-rest : goal.returns-clause-rest
returns-clause-rest c = (step_is c.self.inside.rest.now c.args.self.now _ _ c.self.view_is (sym c.is_empty.ensures ∙ c.if-is_empty.false) c.first_of.ensures).1
