use Rattle.std.proofs.Common.{◌∙◌, ap, arith}
use Rattle.bt_base.specs.Octets.{be32}
use Rattle.bt_base.proofs.OctetLemmas.{be32-front}
use Rattle.bt_base.proofs.octets.read_be32.Goals as goal

pub returns : goal.returns
returns c = ap be32 c.read_u32.ensures ∙ be32-front c.args.octets.now (λ i. omega (arith, c.type_inv.octets i)) c.requires
