use Rattle.bt_host.proofs.client_host.ClientHost.cancel.Goals as goal

pub returns-clause-hears : goal.returns-clause-hears
returns-clause-hears g c = rw (← c.self.view_is) c.cancel.ensures.hears
