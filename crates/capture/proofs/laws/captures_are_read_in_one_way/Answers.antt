use Rattle.capture.proofs.EntryLaws.{one_capture}
use Rattle.capture.proofs.laws.captures_are_read_in_one_way.Goals as goal

pub returns : goal.returns
returns c = one_capture
