use Rattle.std.proofs.Common.{Ok, Err, arith}
use Rattle.rfcomm_frames.specs.Frames.{plain}
use Rattle.object_lines.proofs.Coursing.{frame_is}
use Rattle.object_lines.proofs.course.frame_in.Goals as goal

pub returns-in-Ok : goal.returns-in-Ok
returns-in-Ok c = frame_is c.args.from c.args.sdu.now (Ok (plain c.in-Ok.frame)) (λ i. omega (arith, c.type_inv.sdu i)) c.in-Ok.ensures

pub returns-in-Err : goal.returns-in-Err
returns-in-Err c = frame_is c.args.from c.args.sdu.now (Err c.in-Err.field-0) (λ i. omega (arith, c.type_inv.sdu i)) c.in-Err.ensures
