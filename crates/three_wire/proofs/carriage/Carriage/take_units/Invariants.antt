use Rattle.std.proofs.Common.{◌≡◌, ℕ, List, Option}
use Rattle.three_wire.specs.Carrying.{Given, IsCarrying, takes_left}
use Rattle.three_wire.proofs.carriage.Carriage.take_units.Given as goal

abbrev pub invariant-taking : goal.invariant-taking
invariant-taking g l = record {
  goes : (given : Given) → (sink trace : Option (List ℕ)) → IsCarrying given (g.S.Source.content l.initial.source) sink trace l.initial.self → IsCarrying given (g.S.Source.content l.source) sink trace l.self;
  rounds : l.self.rounds ≡ l.initial.self.rounds;
  faults : g.S.Source.faults l.source ≡ g.S.Source.faults l.initial.source;
  shortages : g.S.Source.shortages l.source ≡ g.S.Source.shortages l.initial.source;
}

abbrev pub decreases-taking : goal.decreases-taking
decreases-taking g l = takes_left l.self
