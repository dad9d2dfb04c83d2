use Rattle.order_laws.proofs.Heard.{packets_go_in_rounds}
use Rattle.order_laws.proofs.packets_go_in_rounds.Goals as goal

pub returns : goal.returns
returns g c = packets_go_in_rounds
