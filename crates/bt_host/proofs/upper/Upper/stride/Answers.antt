use Rattle.bt_host.proofs.Calling.{on_err_anyhow}
use Rattle.bt_host.proofs.Going.{stride_on}
use Rattle.bt_host.proofs.upper.Upper.stride.Goals as goal

pub returns-in_err-tell_events-clause-lacked : goal.returns-in_err-tell_events-clause-lacked
returns-in_err-tell_events-clause-lacked g c =
    on_err_anyhow _ (g.met.E.End.lacks c.args.port.now c.step.new.port c.tell_events.new.port _ (c.in_ok-more.ensures.does c.args.self.now.machine.settings).answered c.in_err-tell_events.ensures.lacked)

pub returns-clause-does : goal.returns-clause-does
returns-clause-does g c =
    stride_on g.E.End.profile g.E.End.answers g.met.E.End.joins g.E.End.pushing c.self.inside.channels c.step.new.channels c.self.inside.end c.step.new.self c.self.inside.may_say c.in_ok-more.more c.args.self.now c.tell_events.new.self
    c.args.port.now c.step.new.port c.tell_events.new.port c.self.view_is c.step.ensures.channels c.in_ok-more.ensures.does c.in_ok-tell_events.ensures.does
