use Rattle.std.proofs.Common.{arith}
use Rattle.obex_headers.proofs.PacketLaws.{is_found, is_only}
use Rattle.obex_headers.proofs.packet.packet_of.Goals as goal

pub returns-clause-found : goal.returns-clause-found
returns-clause-found c = is_found c.args.phase c.args.maximum c.args.bytes.now c.judged_packet.result (λ i. omega (arith, c.type_inv.bytes i)) c.judged_packet.ensures

pub returns-clause-only : goal.returns-clause-only
returns-clause-only c = λ packet h. is_only c.args.phase c.args.maximum c.args.bytes.now packet c.judged_packet.result h c.judged_packet.ensures
