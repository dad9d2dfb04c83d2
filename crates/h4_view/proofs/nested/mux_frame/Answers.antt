use Rattle.std.proofs.Common.{arith}
use Rattle.h4_view.proofs.Frames.{mux_answer}
use Rattle.h4_view.proofs.nested.mux_frame.Goals as goal

pub returns : goal.returns
returns c = mux_answer c.args.octets.now _ (λ i. omega (arith, c.type_inv.octets i)) c.frame_of.ensures
