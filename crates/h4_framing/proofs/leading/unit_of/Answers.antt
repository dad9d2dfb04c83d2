use Rattle.std.proofs.Common.{◌≡◌, get_or, arith}
use Rattle.h4_framing.proofs.SpellingLemmas.{acl_again}
use Rattle.h4_framing.proofs.leading.unit_of.Goals as goal

pub returns-in-2-clause-spelling : goal.returns-in-2-clause-spelling
returns-in-2-clause-spelling c =
    let is : get_or c.args.octets.now 0 0 ≡ 2 = omega arith in
    acl_again c.args.octets.now c.from_le_bytes.result (λ i. omega (arith, c.type_inv.octets i)) c.requires is c.from_le_bytes.ensures
