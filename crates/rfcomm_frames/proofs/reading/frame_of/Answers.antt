use Rattle.std.proofs.Common.{arith}
use Rattle.rfcomm_frames.specs.Frames.{plain}
use Rattle.rfcomm_frames.proofs.Checked.{check_fails, check_holds}
use Rattle.rfcomm_frames.proofs.reading.frame_of.Goals as goal

pub returns-then-fcs8-bytes : goal.returns-then-fcs8-bytes
returns-then-fcs8-bytes c =
    check_fails (plain c.in_ok-frame.frame) c.args.bytes.now c.in_ok-frame.ensures c.covered_size-covered.result c.fcs8.result c.covered_size-covered.ensures (omega arith) c.fcs8.ensures c.if-fcs8-bytes.true

pub returns : goal.returns
returns c =
    check_holds (plain c.in_ok-frame.frame) c.args.bytes.now c.in_ok-frame.ensures c.covered_size-covered.result c.fcs8.result c.covered_size-covered.ensures c.fcs8.ensures c.if-fcs8-bytes.false
