use Rattle.bt_host.specs.obex_session.specs.Counting.{counts_of}
use Rattle.receiving.proofs.Received.{receives_by}
use Rattle.receiving.proofs.receiving.receive.Goals as goal

pub returns-clause-receives : goal.returns-clause-receives
returns-clause-receives g c =
    receives_by (g.S.Source.content c.args.source.now) (g.S.Source.content c.listen-end.new.source) (g.K.Sink.content c.args.sink.now) (g.K.Sink.content c.listen-end.new.sink) (g.T.Sink.content c.args.trace.now) (g.T.Sink.content c.tell.new.trace)
    (g.B.Inbox.content c.args.inbox.now) (g.B.Inbox.content c.listen-end.new.inbox) (counts_of g.B.Inbox.faults g.B.Inbox.shortages c.args.inbox.now) (counts_of g.B.Inbox.faults g.B.Inbox.shortages c.listen-end.new.inbox) c.listen-end.result c.tell.result c.listen-end.ensures.listened c.tell.ensures.tells
