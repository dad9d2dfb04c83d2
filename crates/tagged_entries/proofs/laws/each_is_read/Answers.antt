use Rattle.tagged_entries.proofs.Fronts.{each_is_read as law}
use Rattle.tagged_entries.proofs.laws.each_is_read.Goals as goal

pub returns : goal.returns
returns c = law
