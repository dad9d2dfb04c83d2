use Rattle.std.proofs.Common.{sym, ap, ◌∙◌}
use Rattle.push_model.specs.Listening.{Listener}
use Rattle.push_profile.specs.Hearing.{longest}
use Rattle.push_profile.proofs.ListeningLaws.{part_longest, part_comes}
use Rattle.push_profile.proofs.listener.Listener.part.Goals as goal

pub invariant_of-self : goal.invariant_of-self
invariant_of-self g c =
    let before : Listener = record { service = c.self.inside.service; breaks = c.self.inside.breaks } in
    c.self.invariant ∙ sym (part_longest c.args.transport before (record before { service = c.part.new.self }) _ _ _ _ _ (part_comes c.args.transport before c.part.new.self _ _ _ _ _ c.part.ensures.parts))

pub returns-clause-longest : goal.returns-clause-longest
returns-clause-longest g c =
    let before : Listener = record { service = c.self.inside.service; breaks = c.self.inside.breaks } in
    part_longest c.args.transport before (record before { service = c.part.new.self }) _ _ _ _ _ (part_comes c.args.transport before c.part.new.self _ _ _ _ _ c.part.ensures.parts)
    ∙ ap longest c.self.view_is
