use Rattle.ertm_model.proofs.Ordering.{standing-is_in_order, always-in_order}
use Rattle.ertm_model.proofs.Standing.{new-stands, turns-stand}
use Rattle.ertm_model.proofs.laws.ends_are_in_order.Goals as goal

pub returns : goal.returns
returns c = record { new = new-stands; kept = turns-stand; says = standing-is_in_order; always = always-in_order }
