use Rattle.std.proofs.Common.{◌≡◌, ◌-◌}
use Rattle.three_wire.specs.Crossing.{Steady}
use Rattle.three_wire.specs.Carrying.{Given, IsCarrying}
use Rattle.three_wire.proofs.rounds.run.Given as goal

abbrev pub invariant-rounds : goal.invariant-rounds
invariant-rounds g l = record {
  goes : (given : Given) → IsCarrying given (g.S.Source.content l.initial.source) (g.K.Sink.content l.initial.sink) (g.T.Sink.content l.initial.trace) l.initial.carriage
      → IsCarrying given (g.S.Source.content l.source) (g.K.Sink.content l.sink) (g.T.Sink.content l.trace) l.carriage;
  faults : g.S.Source.faults l.source ≡ g.S.Source.faults l.initial.source;
  shortages : g.S.Source.shortages l.source ≡ g.S.Source.shortages l.initial.source;
  steady : Steady (g.K.Sink.faults l.initial.sink) (g.K.Sink.faults l.sink) (g.K.Sink.shortages l.initial.sink) (g.K.Sink.shortages l.sink) (g.T.Sink.faults l.initial.trace) (g.T.Sink.faults l.trace) (g.T.Sink.shortages l.initial.trace) (g.T.Sink.shortages l.trace);
}

abbrev pub decreases-rounds : goal.decreases-rounds
decreases-rounds g l = 6710887400 - l.carriage.rounds
