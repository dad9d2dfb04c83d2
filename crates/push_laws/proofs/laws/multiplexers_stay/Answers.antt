use Rattle.push_laws.proofs.Staying.{multiplexers-stay, clients-stay}
use Rattle.push_laws.proofs.laws.multiplexers_stay.Goals as goal

pub returns-clause-always : goal.returns-clause-always
returns-clause-always c = multiplexers-stay

pub returns-clause-pushed : goal.returns-clause-pushed
returns-clause-pushed c = clients-stay
