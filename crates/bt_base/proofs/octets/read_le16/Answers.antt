use Rattle.std.proofs.Common.{◌∙◌, ap, arith}
use Rattle.bt_base.specs.Octets.{le16}
use Rattle.bt_base.proofs.OctetLemmas.{le16-front}
use Rattle.bt_base.proofs.octets.read_le16.Goals as goal

pub returns : goal.returns
returns c = ap le16 c.read_u16.ensures ∙ le16-front c.args.octets.now (λ i. omega (arith, c.type_inv.octets i)) c.requires
