use Rattle.push_script.proofs.Telling.{HasTold}
use Rattle.push_script.proofs.report.put_pushes.Given as goal

abbrev pub invariant-loop-i : goal.invariant-loop-i
invariant-loop-i g l = HasTold (g.K.Sink.content l.initial.sink) (g.K.Sink.content l.sink) (g.K.Sink.faults l.initial.sink) (g.K.Sink.faults l.sink) (g.K.Sink.shortages l.initial.sink) (g.K.Sink.shortages l.sink) l.i l.outcomes l.names
