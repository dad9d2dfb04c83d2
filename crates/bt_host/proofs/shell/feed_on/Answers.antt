use Rattle.std.proofs.Common.{ap, sym}
use Rattle.std.proofs.lemmas.Result.{on_ok_weaker}
use Rattle.l2cap_channels.specs.Machine.{Machine}
use Rattle.bt_host.proofs.Reacting.{resting_by}
use Rattle.bt_host.proofs.Feeding.{feeds_after}
use Rattle.bt_host.proofs.shell.feed_on.Goals as goal

pub returns-clause-feeds : goal.returns-clause-feeds
returns-clause-feeds g c =
    feeds_after g.E.End.profile g.E.End.answers g.E.End.lacked g.E.End.pushing g.met.E.End.lacks c.put_out.new.self.upper.machine.settings c.args.stack.now.upper.machine.settings c.args.piece.now c.args.framer.now c.feed_stack.new.framer
    (record { stack = c.args.stack.now; port = c.args.port.now }) (record { stack = c.put_out.new.self; port = c.put_out.new.port }) (record { stack = c.feed_stack.new.stack; port = c.feed_stack.new.port }) c.feed_stack.result
    (ap (λ (m : Machine). m.settings) c.put_out.ensures.machine) c.in-Ok.ensures.goes c.feed_stack.ensures.reads

pub feed_stack-requires-clause-rests : goal.feed_stack-requires-clause-rests
feed_stack-requires-clause-rests g c =
    resting_by g.E.End.profile g.E.End.pushing c.args.stack.now.upper.machine.settings c.put_out.new.self.upper.machine.settings (record { stack = c.put_out.new.self; port = c.put_out.new.port }) (sym (ap (λ (m : Machine). m.settings) c.put_out.ensures.machine)) c.in-Ok.ensures.rests

pub returns-clause-rests : goal.returns-clause-rests
returns-clause-rests g c =
    on_ok_weaker c.feed_stack.result
    (λ rests. resting_by g.E.End.profile g.E.End.pushing c.put_out.new.self.upper.machine.settings c.args.stack.now.upper.machine.settings (record { stack = c.feed_stack.new.stack; port = c.feed_stack.new.port }) (ap (λ (m : Machine). m.settings) c.put_out.ensures.machine) rests)
    c.feed_stack.ensures.rests
