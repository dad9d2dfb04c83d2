use Rattle.three_wire.specs.Crossing.{Steady}
use Rattle.three_wire.specs.Going.{pair_of, IsSound, WentSo}
use Rattle.wire_model.specs.Machine.{debts}
use Rattle.wire_model.specs.Pair.{speaker}
use Rattle.three_wire.proofs.ends.Ends.say_all.Given as goal

abbrev pub invariant-saying : goal.invariant-saying
invariant-saying g l = record {
  went : WentSo l.way (pair_of l.initial.self) (pair_of l.self) (g.K.Sink.content l.initial.sink) (g.K.Sink.content l.sink) (g.T.Sink.content l.initial.trace) (g.T.Sink.content l.trace) l.said;
  sound : IsSound l.self;
  steady : Steady (g.K.Sink.faults l.initial.sink) (g.K.Sink.faults l.sink) (g.K.Sink.shortages l.initial.sink) (g.K.Sink.shortages l.sink) (g.T.Sink.faults l.initial.trace) (g.T.Sink.faults l.trace) (g.T.Sink.shortages l.initial.trace) (g.T.Sink.shortages l.trace);
}

abbrev pub decreases-saying : goal.decreases-saying
decreases-saying g l = debts (speaker l.way (pair_of l.self))
