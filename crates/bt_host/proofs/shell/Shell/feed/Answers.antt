use Rattle.std.proofs.Common.{rules}
use Rattle.std.proofs.lemmas.Result.{on_ok_weaker}
use Rattle.bt_host.proofs.Feeding.{fed_host, comes_to_rest}
use Rattle.bt_host.proofs.shell.Shell.feed.Goals as goal

pub returns-clause-feeds : goal.returns-clause-feeds
returns-clause-feeds g c =
    fed_host g.E.End.profile g.E.End.answers g.E.End.lacked g.E.End.pushing c.args.piece.now c.self.inside.framer c.feed_on-fed.new.framer c.self.inside.stack c.feed_on-fed.new.stack
    c.self.inside.refusal c.err-self-inside.result c.args.self.now c.args.port.now c.feed_on-fed.new.port c.feed_on-fed.result c.self.view_is (search rules) (search rules) c.feed_on-fed.ensures.feeds

pub returns-clause-rests : goal.returns-clause-rests
returns-clause-rests g c =
    on_ok_weaker c.feed_on-fed.result
    (λ rests. comes_to_rest g.E.End.profile g.E.End.pushing c.self.inside.framer c.feed_on-fed.new.framer c.self.inside.stack c.feed_on-fed.new.stack c.self.inside.refusal c.err-self-inside.result c.args.self.now c.feed_on-fed.new.port
    c.self.view_is c.feed_on-fed.ensures.settings c.feed_on-fed.ensures.paged rests)
    c.feed_on-fed.ensures.rests
