use Rattle.order_laws.proofs.Roomy.{room_suffices}
use Rattle.order_laws.proofs.room_suffices.Goals as goal

pub returns : goal.returns
returns g c = room_suffices
