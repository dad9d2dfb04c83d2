use Rattle.std.proofs.Common.{arith}
use Rattle.rfcomm_frames.specs.Answers.{answer}
use Rattle.rfcomm_frames.proofs.FrameReading.{frame_answer-is}
use Rattle.rfcomm_mux.proofs.Answered.{dlci_fits}
use Rattle.rfcomm_mux.proofs.reading.frame_in.Goals as goal

pub returns-clause-answer : goal.returns-clause-answer
returns-clause-answer c = frame_answer-is c.args.sdu.now (answer c.frame_of.result) (λ i. omega (arith, c.type_inv.sdu i)) c.frame_of.ensures

pub returns-clause-dlci : goal.returns-clause-dlci
returns-clause-dlci c = dlci_fits c.args.sdu.now c.frame_of.result c.frame_of.ensures
