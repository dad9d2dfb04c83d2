use Rattle.host_laws.proofs.Profiles.{all_ends_are_told}
use Rattle.host_laws.proofs.laws.all_ends_are_told.Goals as goal

pub returns : goal.returns
returns g c A = all_ends_are_told A
