use Rattle.std.proofs.Common.{◌≡◌, ◌+◌, ◌-◌, length, take, drop, subst, arith}
use Rattle.sdp_elements.specs.Headers.{content_len, HasLength}
use Rattle.sdp_elements.proofs.Lengths.{has_length, length-between}
use Rattle.sdp_elements.proofs.header.content.Goals as goal

pub returns-clause-len : goal.returns-clause-len
returns-clause-len c =
    let end = c.length_octets-width.result + c.in-Some.len in
    let e : content_len c.args.kind c.args.index c.args.octets.now ≡ length (take (end - c.length_octets-width.result) (drop c.length_octets-width.result c.args.octets.now)) =
    omega (arith, c.in-Some.ensures.some, length-between c.length_octets-width.result end c.args.octets.now (omega arith) (omega arith)) in
    subst (HasLength c.args.kind) e (has_length c.args.kind c.args.index c.args.octets.now c.requires)
