use Rattle.std.proofs.Common.{sym, subst, arith}
use Rattle.l2cap_config.specs.Types.{AreUnknown}
use Rattle.l2cap_config.proofs.TypeLists.{room_more, unknown_push, not_among}
use Rattle.l2cap_config.proofs.unknown.UnknownTypes.add.Goals as goal

pub push-requires : goal.push-requires
push-requires c =
    let types = c.self.inside.types.items in
    (omega arith, room_more types c.args.octet c.self.invariant c.requires (not_among types c.as_slice.result.now c.args.octet c.contains.result c.as_slice.ensures.value c.contains.ensures.value c.if-not-contains.true))

pub invariant_of-self : goal.invariant_of-self
invariant_of-self c =
    let types = c.self.inside.types.items in
    subst AreUnknown (sym c.push.ensures.items) (unknown_push types c.args.octet c.self.invariant c.requires (not_among types c.as_slice.result.now c.args.octet c.contains.result c.as_slice.ensures.value c.contains.ensures.value c.if-not-contains.true))
