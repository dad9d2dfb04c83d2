use Rattle.std.proofs.Common.{sym, subst}
use Rattle.l2cap_config.specs.Types.{AreUnknown}
use Rattle.l2cap_config.proofs.TypeLists.{unknown_none}
use Rattle.l2cap_config.proofs.unknown.UnknownTypes.new.Goals as goal

pub invariant_of-result : goal.invariant_of-result
invariant_of-result c = subst AreUnknown (sym c.new.ensures) unknown_none
