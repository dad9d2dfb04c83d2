use Rattle.forgoing_laws.proofs.Spending.{few-disturbances_forgo_none}
use Rattle.forgoing_laws.proofs.few_disturbances_forgo_none.Goals as goal

pub returns : goal.returns
returns c = few-disturbances_forgo_none c.few_disturbances_spend_none.ensures
