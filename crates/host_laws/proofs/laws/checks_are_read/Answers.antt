use Rattle.host_laws.proofs.Profiles.{checks_are_read}
use Rattle.host_laws.proofs.laws.checks_are_read.Goals as goal

pub returns : goal.returns
returns g c A = checks_are_read A
