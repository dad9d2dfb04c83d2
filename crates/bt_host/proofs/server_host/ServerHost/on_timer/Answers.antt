use Rattle.bt_host.proofs.server_host.ServerHost.on_timer.Goals as goal

pub returns-clause-hears : goal.returns-clause-hears
returns-clause-hears g c = rw (← c.self.view_is) c.on_timer.ensures.hears

pub returns-clause-rests : goal.returns-clause-rests
returns-clause-rests g c = rw (← c.self.view_is) c.on_timer.ensures.rests
