use Rattle.std.proofs.Common.{ap, suc, ◌-◌, sym, ◌∙◌}
use Rattle.bt_host.specs.Uppers.{Upward}
use Rattle.bt_host.proofs.Sayings.{one_less, says_into}
use Rattle.bt_host.proofs.upper.Upper.say.Goals as goal

pub returns-clause-says : goal.returns-clause-says
returns-clause-says g c =
    says_into g.E.End.profile g.E.End.answers g.E.End.pushing c.args.self.now c.give-size.new.self c.drive_by.new.self c.self-2.inside.channels c.self-2.inside.end c.self-2.inside.may_say (c.self.inside.may_say - 1) c.steps_behind-steps.result
    c.args.port.now c.drive_by.new.port c.args.into.now c.give-size.new.into c.give-size.result c.self-2.view_is
    (one_less c.args.self.now c.requires.says ∙ ap (λ (u : Upward _). suc (u.may_say - 1)) (sym c.self.view_is)) c.steps_behind-steps.ensures c.give-size.ensures.short c.give-size.ensures.octets c.give-size.ensures.gives c.in_ok-drive_by.ensures.does
