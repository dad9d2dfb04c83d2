use Rattle.capture.proofs.EntryLaws.{no_entry_begins_another}
use Rattle.capture.proofs.laws.no_entry_begins_another.Goals as goal

pub returns : goal.returns
returns c = no_entry_begins_another
