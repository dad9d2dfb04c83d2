use Rattle.run_laws.proofs.Breaking.{written_is_happened}
use Rattle.run_laws.proofs.written_entries_happen.Goals as goal

pub returns : goal.returns
returns g c U V = written_is_happened U V
