use Rattle.std.proofs.Common.{◌≡◌, take}
use Rattle.l2cap_config.proofs.unknown.UnknownTypes.copied.Given as goal

abbrev pub invariant-loop-octet : goal.invariant-loop-octet
invariant-loop-octet l = l.types.items ≡ take l.octet-index l.octet-items
