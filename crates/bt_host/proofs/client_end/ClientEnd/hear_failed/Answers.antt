use Rattle.push_model.specs.Events.{hears_news, LinkFailed}
use Rattle.bt_host.proofs.ClientsCalls.{lost_is}
use Rattle.bt_host.proofs.client_end.ClientEnd.hear_failed.Goals as goal

pub returns : goal.returns
returns c = lost_is (hears_news (LinkFailed c.args.status)) _ c.args.self.now c.unlink.new.self c.link_failed.new.self c.end.new.self c.self.view_is c.link_failed.ensures c.end.ensures c.unlink.ensures
