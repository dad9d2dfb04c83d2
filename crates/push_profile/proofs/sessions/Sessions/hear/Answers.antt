use Rattle.std.proofs.Common.{sym, ◌∙◌}
use Rattle.push_profile.proofs.HearingLaws.{nameless}
use Rattle.push_profile.proofs.sessions.Sessions.hear.Goals as goal

pub returns-clause-hears : goal.returns-clause-hears
returns-clause-hears g c = nameless _ _ _ _ _ _ _ _ _ _ _ (sym c.is_naming.ensures ∙ c.if-is_naming.false) c.answer.ensures.answers
