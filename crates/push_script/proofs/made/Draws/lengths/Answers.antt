use Rattle.push_script.specs.Made.{draws, state_after}
use Rattle.push_script.proofs.made.Draws.lengths.Goals as goal

pub returns-clause-lengths : goal.returns-clause-lengths
unfolding draws
returns-clause-lengths c = cc

pub returns-clause-state : goal.returns-clause-state
unfolding state_after
returns-clause-state c = cc
