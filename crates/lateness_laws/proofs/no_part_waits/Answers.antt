use Rattle.lateness_laws.proofs.Parts.{no-part_waits}
use Rattle.lateness_laws.proofs.no_part_waits.Goals as goal

pub returns : goal.returns
returns c = no-part_waits
