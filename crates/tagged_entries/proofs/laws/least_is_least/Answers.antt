use Rattle.tagged_entries.proofs.Lengths.{least_is_least as law}
use Rattle.tagged_entries.proofs.laws.least_is_least.Goals as goal

pub returns : goal.returns
returns c = law
