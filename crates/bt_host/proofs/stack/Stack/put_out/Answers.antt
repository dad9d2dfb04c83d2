use Rattle.std.proofs.Common.{ap, ◌∙◌}
use Rattle.l2cap_channels.specs.Machine.{Machine}
use Rattle.host_link.specs.PuttingOut.{put_pieces, put_command}
use Rattle.shelf_model.specs.host_model.specs.Profiles.{Profile}
use Rattle.bt_host.specs.Stacks.{Stacked, Standing, standing, with_line, says_all, leaves, pages}
use Rattle.bt_host.proofs.Reacting.{reacts_then, reacts_by, pieces_react, command_reacts}
use Rattle.bt_host.proofs.Resting.{none_goes_then, out_rests}
use Rattle.bt_host.proofs.stack.Stack.put_out.Goals as goal

pub say_all-requires-clause-pieces : goal.say_all-requires-clause-pieces
say_all-requires-clause-pieces g c = none_goes_then c.self.inside.link c.put_pieces.new.self c.put_pieces.ensures.line

pub returns-clause-goes : goal.returns-clause-goes
returns-clause-goes g c =
    let A = g.E.End.profile c.args.self.now.upper.machine.settings in
    let answers = g.E.End.answers in
    let joins = g.met.E.End.joins in
    let port = c.say_all.new.port in
    let same = ap (λ (n : Stacked _). n.upper.machine.settings) c.self.view_is in
    let said = ap (λ (n : Stacked _). n.upper.machine.settings) c.self-2.view_is ∙ ap (λ (m : Machine). m.settings) c.say_all.ensures.machine ∙ same in
    let put_all = λ (B : Profile _) (now : Standing _). with_line put_command now in
    let paged = λ (B : Profile _) (now : Standing _). put_all B (pages B now) in
    let left = λ (B : Profile _) (now : Standing _). paged B (leaves B now) in
    let commanded = λ (B : Profile _) (now : Standing _). left B (with_line put_command now) in
    let all_said = λ (B : Profile _) (now : Standing _). commanded B (says_all B now) in
    reacts_then A answers joins (λ B. with_line put_pieces) all_said _ (standing g.E.End.pushing c.args.port.now (record { line = c.put_pieces.new.self; upper = c.self.inside.upper; paged = c.self.inside.paged })) _ c.args.port.now c.args.port.now port
    (pieces_react A answers joins g.E.End.pushing c.self.inside.link c.put_pieces.new.self c.self.inside.upper c.self.inside.paged c.args.self.now c.args.port.now c.self.view_is c.put_pieces.ensures.line)
    (reacts_then A answers joins says_all commanded _ (standing g.E.End.pushing port c.say_all.new.self) _ c.args.port.now port port
    (reacts_by g.E.End.profile answers says_all _ _ _ _ c.args.port.now port same c.in_ok-say_all.ensures.goes)
    (reacts_then A answers joins (λ B. with_line put_command) left _ (standing g.E.End.pushing port (record { line = c.put_command.new.self; upper = c.self-2.inside.upper; paged = c.self-2.inside.paged })) _ port port port
    (command_reacts A answers joins g.E.End.pushing c.self-2.inside.link c.put_command.new.self c.self-2.inside.upper c.self-2.inside.paged c.say_all.new.self port c.self-2.view_is c.put_command.ensures.line)
    (reacts_then A answers joins leaves paged _ (standing g.E.End.pushing port c.leave.new.self) _ port port port
    (reacts_by g.E.End.profile answers leaves _ _ _ _ port port said c.leave.ensures.goes)
    (reacts_then A answers joins pages put_all _ (standing g.E.End.pushing port c.page.new.self) _ port port port
    (reacts_by g.E.End.profile answers pages _ _ _ _ port port (ap (λ (n : Stacked _). n.upper.machine.settings) c.leave.ensures.stack ∙ said) c.page.ensures.goes)
    (command_reacts A answers joins g.E.End.pushing c.self-3.inside.link c.put_command-2.new.self c.self-3.inside.upper c.self-3.inside.paged c.page.new.self port c.self-3.view_is c.put_command-2.ensures.line)))))

pub returns-clause-rests : goal.returns-clause-rests
returns-clause-rests g c =
    out_rests g.E.End.profile g.E.End.pushing c.args.self.now.upper.machine.settings c.say_all.new.port c.say_all.new.self c.leave.new.self c.page.new.self
    c.self-2.inside.link c.put_command.new.self c.self-3.inside.link c.put_command-2.new.self c.self-2.inside.upper c.self-3.inside.upper c.self-2.inside.paged c.self-3.inside.paged
    c.self-2.view_is c.in_ok-say_all.ensures.said c.put_command.ensures.line c.leave.ensures.stack c.leave.ensures.line c.leave.ensures.keeps c.page.ensures.stack c.page.ensures.line c.page.ensures.asks
    c.self-3.view_is c.put_command-2.ensures.line
    (ap (λ (n : Stacked _). n.upper.machine.settings) c.self-2.view_is ∙ ap (λ (m : Machine). m.settings) c.say_all.ensures.machine ∙ ap (λ (n : Stacked _). n.upper.machine.settings) c.self.view_is)
