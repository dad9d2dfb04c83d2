use Rattle.making.proofs.Telling.{HasCounted}
use Rattle.making.proofs.counting.done_in.Given as goal

abbrev pub invariant-loop : goal.invariant-loop
invariant-loop l = HasCounted l.report l.rest l.counter l.done
