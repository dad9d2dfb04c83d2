use Rattle.std.proofs.Common.{arith}
use Rattle.h4_view.proofs.Frames.{enhanced_answer}
use Rattle.h4_view.proofs.nested.enhanced_frame.Goals as goal

pub returns : goal.returns
returns c = enhanced_answer 65535 c.args.pdu.now _ (λ i. omega (arith, c.type_inv.pdu i)) c.frame_of.ensures
