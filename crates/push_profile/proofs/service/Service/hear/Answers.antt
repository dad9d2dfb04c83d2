use Rattle.std.proofs.Common.{sym, ◌∙◌}
use Rattle.push_profile.proofs.ServiceLaws.{ignored_from}
use Rattle.push_profile.proofs.service.Service.hear.Goals as goal

pub returns-then-is_ignored-clause-hears : goal.returns-then-is_ignored-clause-hears
returns-then-is_ignored-clause-hears g c = ignored_from _ _ _ _ _ _ _ _ _ (sym c.is_ignored.ensures ∙ c.if-is_ignored.true) c.part.ensures.parts
