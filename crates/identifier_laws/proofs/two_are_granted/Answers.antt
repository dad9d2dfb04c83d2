use Rattle.identifier_laws.proofs.Granting.{two-are_granted}
use Rattle.identifier_laws.proofs.two_are_granted.Goals as goal

pub returns : goal.returns
returns c = two-are_granted c.channels_belong.ensures c.grants_are_single.ensures c.none_is_called.ensures
