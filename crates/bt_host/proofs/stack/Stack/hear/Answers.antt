use Rattle.std.proofs.Common.{ap, sym, subst, ◌∙◌, Result, Ok}
use Rattle.h4_framing.specs.Packets.{packet}
use Rattle.l2cap_channels.specs.Machine.{Machine}
use Rattle.host_link.specs.declared.news.ControllerFault.{ControllerFault}
use Rattle.host_link.specs.declared.news.News.{News}
use Rattle.host_link.specs.Hearing.{Answers, plain_news, fault_of}
use Rattle.bt_host.specs.Uppers.{IsTitled}
use Rattle.bt_host.specs.Stacks.{Stacked}
use Rattle.bt_host.proofs.Reacting.{titled, packet_heard, resting_by}
use Rattle.bt_host.proofs.stack.Stack.hear.Goals as goal

pub hear-heard-requires-clause-titled : goal.hear-heard-requires-clause-titled
hear-heard-requires-clause-titled g c =
    let line = c.self.inside.link in
    let answer : Answers (packet c.args.unit) line (Ok c.in-Ok.news) = subst (λ (result : Result News ControllerFault). Answers (packet c.args.unit) line result) c.in-Ok.is c.hear.follows.holds-at-none.answer in
    subst IsTitled (sym answer.1) (titled (packet c.args.unit) line)

pub returns-clause-rests : goal.returns-clause-rests
returns-clause-rests g c =
    resting_by g.E.End.profile g.E.End.pushing c.hear-heard.new.self.machine.settings c.args.self.now.upper.machine.settings (record { stack = c.put_out.new.self; port = c.put_out.new.port }) (ap (λ (m : Machine). m.settings) c.hear-heard.ensures.machine ∙ ap (λ (n : Stacked _). n.upper.machine.settings) c.self.view_is) c.in-Ok-put_out.ensures.rests

pub returns-clause-heard : goal.returns-clause-heard
returns-clause-heard g c =
    let line = c.self.inside.link in
    let answer : Answers (packet c.args.unit) line (Ok c.in-Ok.news) = subst (λ (result : Result News ControllerFault). Answers (packet c.args.unit) line result) c.in-Ok.is c.hear.follows.holds-at-none.answer in
    record {
      fault = ap (λ (n : Stacked _). fault_of (packet c.args.unit) n.line) (sym c.self.view_is) ∙ answer.0;
      reacts = packet_heard g.E.End.profile g.E.End.answers g.met.E.End.joins g.E.End.pushing (packet c.args.unit) (plain_news c.in-Ok.news) line _ c.self.inside.upper c.hear-heard.new.self c.self.inside.paged c.args.self.now _ c.args.port.now c.hear-heard.new.port c.put_out.new.port
          c.self.view_is c.hear.follows.holds-at-none.line answer.1 (ap (λ (m : Machine). m.settings) c.hear-heard.ensures.machine) c.in-Ok-heard.ensures.does c.in-Ok-put_out.ensures.goes;
    }
