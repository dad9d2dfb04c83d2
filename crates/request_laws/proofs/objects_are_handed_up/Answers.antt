use Rattle.request_laws.proofs.HandedUp.{objects_are_handed_up}
use Rattle.request_laws.proofs.objects_are_handed_up.Goals as goal

pub returns : goal.returns
returns c = objects_are_handed_up
