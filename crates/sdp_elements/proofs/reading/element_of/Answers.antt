use Rattle.std.proofs.Common.{arith}
use Rattle.sdp_elements.specs.declared.fault.SdpRefusal.TheVariants.{Short}
use Rattle.sdp_elements.specs.Elements.{plain}
use Rattle.sdp_elements.proofs.ContractLaws.{tree_found, tree_only}
use Rattle.sdp_elements.proofs.reading.element_of.Goals as goal

pub returns-clause-found : goal.returns-clause-found
returns-clause-found c = tree_found (λ x. plain x.0) (λ x. x.1) Short 8 c.args.bytes.now c.judge.result (λ i. omega (arith, c.type_inv.bytes i)) c.judge.ensures.front c.judge.ensures.tree

pub returns-clause-only : goal.returns-clause-only
returns-clause-only c = tree_only (λ x. plain x.0) (λ x. x.1) Short 8 c.args.bytes.now c.judge.result (λ i. omega (arith, c.type_inv.bytes i)) c.judge.ensures.front c.judge.ensures.tree
