use Rattle.std.proofs.Common.{arith}
use Rattle.sdp_elements.specs.declared.fault.SdpRefusal.TheVariants.{LengthMismatch}
use Rattle.sdp_elements.specs.Elements.{plain}
use Rattle.sdp_elements.proofs.ContractLaws.{form_found, form_only, within_one}
use Rattle.sdp_elements.proofs.walk.part.Goals as goal

pub returns-clause-found : goal.returns-clause-found
returns-clause-found c = form_found (λ x. plain x.0) (λ x. x.1) LengthMismatch 1 c.args.bytes.now c.front.result (λ i. omega (arith, c.type_inv.bytes i)) c.front.ensures.read

pub returns-clause-only : goal.returns-clause-only
returns-clause-only c = λ element front rest f e. form_only (λ x. plain x.0) (λ x. x.1) LengthMismatch 1 c.args.bytes.now c.front.result c.front.ensures.read element front rest f (within_one element) e
