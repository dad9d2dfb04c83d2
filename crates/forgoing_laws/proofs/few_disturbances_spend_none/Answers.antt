use Rattle.forgoing_laws.proofs.Spending.{few-disturbances_spend_none}
use Rattle.forgoing_laws.proofs.few_disturbances_spend_none.Goals as goal

pub returns : goal.returns
returns c = few-disturbances_spend_none c.met_is_heeded.ensures
