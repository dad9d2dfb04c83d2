use Rattle.bt_host.proofs.client_host.ClientHost.push.Goals as goal

pub returns-clause-hears : goal.returns-clause-hears
returns-clause-hears g c = rw (← c.self.view_is) c.begin.ensures.hears
