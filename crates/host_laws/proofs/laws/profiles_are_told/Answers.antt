use Rattle.host_laws.proofs.Profiles.{profiles_are_told}
use Rattle.host_laws.proofs.laws.profiles_are_told.Goals as goal

pub returns : goal.returns
returns g c A = profiles_are_told A
