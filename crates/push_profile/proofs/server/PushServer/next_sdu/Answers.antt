use Rattle.std.proofs.Common.{ap, ◌∙◌}
use Rattle.push_model.specs.Server.{Server}
use Rattle.push_profile.proofs.LendingLaws.{lends_leaves}
use Rattle.push_profile.proofs.server.PushServer.next_sdu.Goals as goal

pub returns-clause-sessions : goal.returns-clause-sessions
returns-clause-sessions c = ap (λ (s : Server). s.listener.service.sessions) c.lend.ensures ∙ lends_leaves c.args.self.now
