use Rattle.request_laws.proofs.ObjectPipes.{channels_of_objects_are_pipes}
use Rattle.request_laws.proofs.channels_of_objects_are_pipes.Goals as goal

pub returns : goal.returns
returns c = channels_of_objects_are_pipes
