use Rattle.std.proofs.Common.{refl, arith}
use Rattle.obex_headers.proofs.PacketLaws.{is_judged}
use Rattle.obex_headers.proofs.packet.judged_packet.Goals as goal

pub returns : goal.returns
returns c =
    is_judged c.args.phase c.args.maximum c.args.bytes.now (record { code = _; extra = c.in_ok-extra.extra; headers = c.in_ok-extra.headers }) c.in_ok-judge_headers.ensures.0 (λ i. omega (arith, c.type_inv.bytes i)) refl
    c.in_ok-extra.ensures.parts c.in_ok-judge_headers.ensures.1
