use Rattle.std.proofs.Common.{◌∙◌, ap, arith}
use Rattle.bt_base.specs.Octets.{be16}
use Rattle.bt_base.proofs.OctetLemmas.{be16-front}
use Rattle.bt_base.proofs.octets.read_be16.Goals as goal

pub returns : goal.returns
returns c = ap be16 c.read_u16.ensures ∙ be16-front c.args.octets.now (λ i. omega (arith, c.type_inv.octets i)) c.requires
