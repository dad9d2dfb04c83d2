use Rattle.obex_session.proofs.RuledLaws.{never_fails}
use Rattle.obex_session.proofs.laws.no_rule_fails.Goals as goal

pub returns : goal.returns
returns c = never_fails
