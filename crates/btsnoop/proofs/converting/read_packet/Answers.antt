use Rattle.std.proofs.Common.{arith}
use Rattle.btsnoop.proofs.Growing.{flags_small}
use Rattle.btsnoop.proofs.converting.read_packet.Goals as goal

pub push_record-requires : goal.push_record-requires
push_record-requires c = record {
  original = omega (arith, c.requires);
  flags = omega (arith, c.in-Some.ensures.some.3, flags_small c.args.flow c.in-Some.ensures.some.0);
  drops = omega arith;
  time = omega arith;
  octets = λ i. omega (arith, c.type_inv.payload i);
  within = omega (arith, c.requires);
  no_more = omega arith;
}
