use Rattle.host_laws.proofs.ShelfAnswers.{clients_are_given_objects}
use Rattle.host_laws.proofs.laws.clients_are_given_objects.Goals as goal

pub returns : goal.returns
returns c = clients_are_given_objects
