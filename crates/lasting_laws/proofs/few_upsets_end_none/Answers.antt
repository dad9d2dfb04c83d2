use Rattle.lasting_laws.proofs.Meeting.{few-upsets_end_none}
use Rattle.lasting_laws.proofs.few_upsets_end_none.Goals as goal

pub returns : goal.returns
returns c = few-upsets_end_none c.machines_are_paid.ensures
