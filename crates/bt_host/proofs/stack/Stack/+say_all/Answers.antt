use Rattle.std.proofs.Common.{rules, ap}
use Rattle.l2cap_channels.specs.Machine.{Machine}
use Rattle.bt_host.specs.Stacks.{standing, says_one, says_all}
use Rattle.bt_host.proofs.Stepping.{none_taken, none_there, one_and_all}
use Rattle.bt_host.proofs.Reacting.{reacts_none, reacts_then, reacts_as, reacts_by}
use Rattle.bt_host.proofs.stack.Stack.+say_all.Goals as goal

pub returns-then-not-can_take_pdu-clause-goes : goal.returns-then-not-can_take_pdu-clause-goes
returns-then-not-can_take_pdu-clause-goes g t c = reacts_none (g.E.End.profile c.args.self.now.upper.machine.settings) g.E.End.answers g.met.E.End.joins says_all (standing g.E.End.pushing c.args.port.now c.args.self.now) c.args.port.now (λ rest. none_taken (g.E.End.profile c.args.self.now.upper.machine.settings) (standing g.E.End.pushing c.args.port.now c.args.self.now rest) (search rules))

pub returns-then-not-says-clause-goes : goal.returns-then-not-says-clause-goes
returns-then-not-says-clause-goes g t c = reacts_none (g.E.End.profile c.args.self.now.upper.machine.settings) g.E.End.answers g.met.E.End.joins says_all (standing g.E.End.pushing c.args.port.now c.args.self.now) c.args.port.now (λ rest. none_there (g.E.End.profile c.args.self.now.upper.machine.settings) (standing g.E.End.pushing c.args.port.now c.args.self.now rest) (search rules))

pub returns-clause-goes : goal.returns-clause-goes
returns-clause-goes g t c =
    let A = g.E.End.profile c.args.self.now.upper.machine.settings in
    let before = standing g.E.End.pushing c.args.port.now c.args.self.now in
    let after = standing g.E.End.pushing c.say_all.new.port c.say_all.new.self in
    reacts_as A g.E.End.answers g.met.E.End.joins (λ B now. says_all B (says_one B now)) says_all before after c.args.port.now c.say_all.new.port (one_and_all A)
    (reacts_then A g.E.End.answers g.met.E.End.joins says_one says_all before (standing g.E.End.pushing c.say.new.port c.say.new.self) after c.args.port.now c.say.new.port c.say_all.new.port c.in_ok-say.ensures.goes
    (reacts_by g.E.End.profile g.E.End.answers says_all _ _ _ _ c.say.new.port c.say_all.new.port (ap (λ (m : Machine). m.settings) c.say.ensures.machine) c.in_ok-say_all.ensures.goes))
