use Rattle.bt_host.proofs.client_host.ClientHost.feed.Goals as goal

pub returns-clause-feeds : goal.returns-clause-feeds
returns-clause-feeds g c = rw (← c.self.view_is) c.feed.ensures.feeds

pub returns-clause-rests : goal.returns-clause-rests
returns-clause-rests g c = rw (← c.self.view_is) c.feed.ensures.rests
