use Rattle.std.proofs.Common.{sym, subst}
use Rattle.object_push.specs.Playing.{Lent, lent_by, trace_by, shelf_by, inbox_by, GoesOn}
use Rattle.object_push.proofs.running.play_stored.Goals as goal

pub returns-clause-goes : goal.returns-clause-goes
returns-clause-goes g c =
    let end = c.play_traced-end.result in
    let at : g.row.T.Denot → g.row.F.Denot → g.row.B.Denot → Lent = lent_by (trace_by g.T.Sink.content g.T.Sink.faults g.T.Sink.shortages) (shelf_by g.F.LentShelf.content g.F.LentShelf.faults g.F.LentShelf.shortages g.F.LentShelf.absences) (inbox_by g.B.Inbox.content g.B.Inbox.faults g.B.Inbox.shortages) in
    let same = c.inbox-1.given.1 (sym c.play_traced-end.ensures.names.1) in
    subst (λ (b : g.row.B.Denot). GoesOn c.args.scenario.now (at c.args.trace.now c.args.shelf c.args.inbox.now) (at c.play_traced-end.new.trace end.1 b) end.0) (sym same) c.play_traced-end.ensures.goes
