use Rattle.tape_laws.proofs.Pairs.{taped_take_turns}
use Rattle.tape_laws.proofs.taped_take_turns.Goals as goal

pub returns : goal.returns
returns t c scenario content tape = taped_take_turns scenario content tape
