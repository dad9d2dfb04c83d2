use Rattle.std.proofs.Common.{sym, subst}
use Rattle.object_push.specs.Playing.{Lent, lent_by, trace_by, shelf_by, inbox_by, GoesOn}
use Rattle.object_push.proofs.Going.{goes_on}
use Rattle.object_push.proofs.running.play_traced.Goals as goal

pub returns-clause-goes : goal.returns-clause-goes
returns-clause-goes g c =
    let end = c.play_watched-end.result in
    let at : g.row.T.Denot → g.row.F.Denot → g.row.B.Denot → Lent = lent_by (trace_by g.T.Sink.content g.T.Sink.faults g.T.Sink.shortages) (shelf_by g.F.LentShelf.content g.F.LentShelf.faults g.F.LentShelf.shortages g.F.LentShelf.absences) (inbox_by g.B.LentInbox.content g.B.LentInbox.faults g.B.LentInbox.shortages) in
    let same = c.trace-1.given.1 (sym c.play_watched-end.ensures.names.2) in
    subst (λ (t : g.row.T.Denot). GoesOn c.args.scenario.now (at c.args.trace.now c.args.shelf c.args.inbox) (at t end.1 end.2) end.0) (sym same)
    (goes_on c.args.scenario.now (at c.args.trace.now c.args.shelf c.args.inbox) (at end.3.now end.1 end.2) g.PF.Past.shelf g.PB.Past.inbox end.0 (g.F.LentShelf.name c.args.shelf) (g.B.LentInbox.name c.args.inbox) c.requires.shelf c.requires.inbox
    (record { plays = c.play_watched-end.ensures.plays; each = c.play_watched-end.ensures.each; kept = c.play_watched-end.ensures.kept; faulted = c.play_watched-end.ensures.faulted; breaks = c.play_watched-end.ensures.breaks; reason = c.play_watched-end.ensures.reason; grows = c.play_watched-end.ensures.grows; trace_faults = c.play_watched-end.ensures.trace_faults; trace_short = c.play_watched-end.ensures.trace_short; shelf_content = c.play_watched-end.ensures.shelf_content; shelf_faults = c.play_watched-end.ensures.shelf_faults; shelf_absences = c.play_watched-end.ensures.shelf_absences; shelf_short = c.play_watched-end.ensures.shelf_short; inbox_faults = c.play_watched-end.ensures.inbox_faults; inbox_short = c.play_watched-end.ensures.inbox_short }))
