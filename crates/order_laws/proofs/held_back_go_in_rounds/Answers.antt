use Rattle.order_laws.proofs.Heard.{held_back_go_in_rounds}
use Rattle.order_laws.proofs.held_back_go_in_rounds.Goals as goal

pub returns : goal.returns
returns g c = held_back_go_in_rounds
