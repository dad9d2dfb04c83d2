use Rattle.std.proofs.Common.{◌≡◌, take}
use Rattle.l2cap_config.specs.Types.{joined_types}
use Rattle.l2cap_config.proofs.unknown.UnknownTypes.join.Given as goal

abbrev pub invariant-loop-octet : goal.invariant-loop-octet
invariant-loop-octet l = l.self ≡ joined_types l.fn.self (take l.octet-index l.octet-items)
