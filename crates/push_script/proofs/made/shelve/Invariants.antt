use Rattle.push_script.proofs.Making.{HasShelved}
use Rattle.push_script.proofs.made.shelve.Given as goal

abbrev pub invariant-loop-i : goal.invariant-loop-i
invariant-loop-i l = HasShelved l.initial.shelf l.shelf l.initial.draws.state l.draws.state l.i l.names l.lengths
