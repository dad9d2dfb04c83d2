use Rattle.opening_laws.proofs.Giving.{gives-what_waits}
use Rattle.opening_laws.proofs.laws.gives_what_waits.Goals as goal

pub returns : goal.returns
returns c = gives-what_waits
