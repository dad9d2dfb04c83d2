use Rattle.air_laws.proofs.Addressing.{captures_are_honest}
use Rattle.air_laws.proofs.captures_are_honest.Goals as goal

pub returns : goal.returns
returns g c U V = captures_are_honest U V
