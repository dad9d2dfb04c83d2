use Rattle.std.proofs.Common.{sym, ap, ◌∙◌}
use Rattle.push_model.specs.Listening.{Listener}
use Rattle.push_profile.specs.Hearing.{longest}
use Rattle.push_profile.proofs.ListeningLaws.{hear_longest, hear_comes}
use Rattle.push_profile.proofs.listener.Listener.hear.Goals as goal

pub invariant_of-self : goal.invariant_of-self
invariant_of-self g c =
    let before : Listener = record { service = c.self.inside.service; breaks = c.self.inside.breaks } in
    c.self.invariant ∙ sym (hear_longest c.args.transport c.args.packet.now before (record before { service = c.hear.new.self }) _ _ _ _ _ (hear_comes c.args.transport c.args.packet.now before c.hear.new.self _ _ _ _ _ c.hear.ensures.hears))

pub returns-clause-longest : goal.returns-clause-longest
returns-clause-longest g c =
    let before : Listener = record { service = c.self.inside.service; breaks = c.self.inside.breaks } in
    hear_longest c.args.transport c.args.packet.now before (record before { service = c.hear.new.self }) _ _ _ _ _ (hear_comes c.args.transport c.args.packet.now before c.hear.new.self _ _ _ _ _ c.hear.ensures.hears)
    ∙ ap longest c.self.view_is
