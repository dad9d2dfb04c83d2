use Rattle.push_laws.proofs.Pushed.{new-clients_are_muxed, muxed-clients_stay}
use Rattle.push_laws.proofs.laws.muxed_clients_stay.Goals as goal

pub returns-clause-new : goal.returns-clause-new
returns-clause-new c = new-clients_are_muxed

pub returns-clause-pushed : goal.returns-clause-pushed
returns-clause-pushed c = muxed-clients_stay
