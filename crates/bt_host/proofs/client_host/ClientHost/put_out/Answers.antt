use Rattle.bt_host.proofs.client_host.ClientHost.put_out.Goals as goal

pub returns-clause-goes : goal.returns-clause-goes
returns-clause-goes g c = rw (← c.self.view_is) c.put_out.ensures.goes

pub returns-clause-rests : goal.returns-clause-rests
returns-clause-rests g c = rw (← c.self.view_is) c.put_out.ensures.rests
