use Rattle.std.proofs.Common.{arith}
use Rattle.wire_packets.proofs.Spelled.{read_packet}
use Rattle.wire_packets.proofs.reading.packet_of.Goals as goal

pub returns : goal.returns
returns c =
    read_packet c.args.bytes.now c.in-len4-up.len_at_least (λ i. omega (arith, c.type_inv.bytes i)) c.if-sum-ne255.false c.if-first-eq1.false c.if-payload-second.false (c.is_kind.ensures.0 c.if-not-is_kind.false)
