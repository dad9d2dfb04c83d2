use Rattle.std.proofs.Common.{◌≡◌}
use Rattle.push_script.specs.Made.{state_after, made_octets}
use Rattle.push_script.proofs.made.Draws.octets.Given as goal

abbrev pub invariant-loop : goal.invariant-loop
invariant-loop l = record {
  octets : l.octets.items ≡ made_octets l.counter l.fn.self.state;
  state : l.self.state ≡ state_after l.counter l.fn.self.state;
}
