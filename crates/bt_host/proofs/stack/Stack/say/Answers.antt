use Rattle.bt_host.specs.Stacks.{says_one}
use Rattle.bt_host.proofs.Reacting.{viewed_reacts}
use Rattle.bt_host.proofs.stack.Stack.say.Goals as goal

pub returns-clause-goes : goal.returns-clause-goes
returns-clause-goes g c =
    viewed_reacts g.E.End.profile g.E.End.answers g.E.End.pushing says_one c.self.inside.link c.self.inside.upper c.self.inside.paged c.args.self.now _ c.args.port.now c.say_into.new.port c.self.view_is (c.in_ok-say_into.ensures.goes c.self.inside.paged)
