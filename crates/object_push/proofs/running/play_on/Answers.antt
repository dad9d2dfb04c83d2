use Rattle.std.proofs.Common.{sym, subst}
use Rattle.object_push.specs.Playing.{Lent, lent_by, trace_by, shelf_by, inbox_by, GoesOn}
use Rattle.object_push.proofs.running.play_on.Goals as goal

pub returns : goal.returns
returns g c =
    let end = c.play_stored-end.result in
    let at : g.row.T.Denot → g.row.F.Denot → g.row.B.Denot → Lent = lent_by (trace_by g.T.Sink.content g.T.Sink.faults g.T.Sink.shortages) (shelf_by g.F.Shelf.content g.F.Shelf.faults g.F.Shelf.shortages g.F.Shelf.absences) (inbox_by g.B.Inbox.content g.B.Inbox.faults g.B.Inbox.shortages) in
    let same = c.shelf-1.given.1 (sym c.play_stored-end.ensures.name) in
    subst (λ (s : g.row.F.Denot). GoesOn c.args.scenario.now (at c.args.trace.now c.args.shelf.now c.args.inbox.now) (at c.play_stored-end.new.trace s c.play_stored-end.new.inbox) end.0) (sym same) c.play_stored-end.ensures.goes
