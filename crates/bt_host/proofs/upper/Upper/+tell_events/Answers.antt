use Rattle.std.proofs.Common.{sym, ◌∙◌}
use Rattle.bt_host.proofs.Calling.{on_err_anyhow}
use Rattle.bt_host.proofs.Going.{tell_more}
use Rattle.bt_host.proofs.upper.Upper.+tell_events.Goals as goal

pub returns-in_err-tell_events-clause-lacked : goal.returns-in_err-tell_events-clause-lacked
returns-in_err-tell_events-clause-lacked g t c =
    on_err_anyhow _ (g.met.E.End.lacks c.args.port.now c.happened.new.port c.tell_events.new.port _ (c.in_ok-happened.ensures.does c.args.self.now.machine.settings).answered c.in_err-tell_events.ensures.lacked)

pub returns-clause-does : goal.returns-clause-does
returns-clause-does g t c =
    tell_more g.E.End.profile g.E.End.answers g.met.E.End.joins g.E.End.pushing c.self.inside.channels c.next_event.new.self c.self.inside.end c.happened.new.self c.self.inside.may_say c.args.self.now c.tell_events.new.self c.in-Some.event
    c.args.port.now c.happened.new.port c.tell_events.new.port c.self.view_is (sym c.next_event.ensures.answer ∙ c.in-Some.is) c.next_event.ensures.after c.in_ok-happened.ensures.does c.in_ok-tell_events.ensures.does
