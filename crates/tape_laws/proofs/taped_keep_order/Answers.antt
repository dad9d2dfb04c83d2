use Rattle.tape_laws.proofs.Order.{taped_keep_order}
use Rattle.tape_laws.proofs.taped_keep_order.Goals as goal

pub returns : goal.returns
returns t c scenario content tape = taped_keep_order scenario content tape
