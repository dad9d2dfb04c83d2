use Rattle.std.proofs.Common.{Ok, Err}
use Rattle.bt_host.specs.obex_session.specs.Counting.{counts_of}
use Rattle.receiving.proofs.Received.{nothing_listened, listened_by}
use Rattle.receiving.proofs.receiving.listen.Goals as goal

pub returns-in_default-clause-listened : goal.returns-in_default-clause-listened
returns-in_default-clause-listened g c = nothing_listened (g.S.Source.content c.args.source.now) (g.K.Sink.content c.args.sink.now) (g.B.Inbox.content c.args.inbox.now) (counts_of g.B.Inbox.faults g.B.Inbox.shortages c.args.inbox.now) (counts_of g.B.Inbox.faults g.B.Inbox.shortages c.args.inbox.now)

pub returns-in_default-new-clause-listened : goal.returns-in_default-new-clause-listened
returns-in_default-new-clause-listened g c = nothing_listened (g.S.Source.content c.args.source.now) (g.K.Sink.content c.args.sink.now) (g.B.Inbox.content c.args.inbox.now) (counts_of g.B.Inbox.faults g.B.Inbox.shortages c.args.inbox.now) (counts_of g.B.Inbox.faults g.B.Inbox.shortages c.args.inbox.now)

pub returns-in-Ok-serve-clause-listened : goal.returns-in-Ok-serve-clause-listened
returns-in-Ok-serve-clause-listened g c =
    let comes = c.in-Ok-serve.ensures.comes in
    listened_by g.B.Inbox.content c.plain-settings.result c.in-Ok-new.host c.in-Ok-new.ensures c.args.inbox.now c.plain-settings.ensures comes.0 c.serve.new.port (g.S.Source.content c.args.source.now) (g.S.Source.content c.serve.new.source) (g.K.Sink.content c.args.sink.now) (g.K.Sink.content c.serve.new.sink) (counts_of g.B.Inbox.faults g.B.Inbox.shortages c.args.inbox.now) (counts_of g.B.Inbox.faults g.B.Inbox.shortages c.serve.new.port) (Ok tt) comes.1

pub returns-in-Err-clause-listened : goal.returns-in-Err-clause-listened
returns-in-Err-clause-listened g c =
    let comes = c.in-Err.ensures.comes in
    listened_by g.B.Inbox.content c.plain-settings.result c.in-Ok-new.host c.in-Ok-new.ensures c.args.inbox.now c.plain-settings.ensures comes.0 c.serve.new.port (g.S.Source.content c.args.source.now) (g.S.Source.content c.serve.new.source) (g.K.Sink.content c.args.sink.now) (g.K.Sink.content c.serve.new.sink) (counts_of g.B.Inbox.faults g.B.Inbox.shortages c.args.inbox.now) (counts_of g.B.Inbox.faults g.B.Inbox.shortages c.serve.new.port) (Err c.in-Err.fault) comes.1
