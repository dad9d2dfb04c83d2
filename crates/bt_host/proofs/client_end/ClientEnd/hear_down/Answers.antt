use Rattle.push_model.specs.Events.{hears_news, LinkDown}
use Rattle.bt_host.proofs.ClientsCalls.{lost_is}
use Rattle.bt_host.proofs.client_end.ClientEnd.hear_down.Goals as goal

pub returns : goal.returns
returns c = lost_is (hears_news (LinkDown c.args.reason)) _ c.args.self.now c.unlink.new.self c.link_down.new.self c.end.new.self c.self.view_is c.link_down.ensures c.end.ensures c.unlink.ensures
