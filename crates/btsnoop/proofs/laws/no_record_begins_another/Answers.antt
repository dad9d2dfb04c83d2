use Rattle.btsnoop.proofs.Items.{one_record}
use Rattle.btsnoop.proofs.laws.no_record_begins_another.Goals as goal

pub returns : goal.returns
returns c = one_record
