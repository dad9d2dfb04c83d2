use Rattle.bt_host.proofs.ClientsCalls.{call_is, makes_link}
use Rattle.bt_host.proofs.client_end.ClientEnd.call.Goals as goal

pub returns-in-MakeLink-clause-is : goal.returns-in-MakeLink-clause-is
returns-in-MakeLink-clause-is g c = call_is _ c.args.self.now c.advance.new.self c.advance.result _ c.self.view_is c.requires.due c.advance.ensures.comes c.stepped.new.self c.stepped.ensures

pub returns-in_default : goal.returns-in_default
returns-in_default g c = absurd (c.in_default.not-MakeLink (makes_link _ c.args.self.now c.advance.new.self c.advance.result _ c.self.view_is c.requires.due c.advance.ensures.comes))
