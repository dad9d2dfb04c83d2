use Rattle.std.proofs.Common.{arith}
use Rattle.rfcomm_frames.specs.Frames.{plain}
use Rattle.rfcomm_frames.proofs.Written.{frame_spells, frame_rest}
use Rattle.rfcomm_frames.proofs.writing.put_frame.Goals as goal

pub returns-clause-spelling : goal.returns-clause-spelling
returns-clause-spelling c =
    frame_spells (plain c.args.frame.now) c.args.into.now c.put_unchecked-end.new.into c.put.new.into c.put_unchecked-end.result c.put.result c.covered_size.result c.fcs8-check.result
    c.requires.fits c.requires.few c.put_unchecked-end.ensures.end c.put_unchecked-end.ensures.written c.covered_size.ensures (omega arith) c.fcs8-check.ensures c.put.ensures.end c.put.ensures.written

pub returns-clause-rest : goal.returns-clause-rest
returns-clause-rest c =
    frame_rest (plain c.args.frame.now) c.args.into.now c.put_unchecked-end.new.into c.put.new.into c.put_unchecked-end.result c.put.result c.covered_size.result c.fcs8-check.result
    c.requires.fits c.requires.few c.put_unchecked-end.ensures.end c.put_unchecked-end.ensures.written c.covered_size.ensures (omega arith) c.fcs8-check.ensures c.put.ensures.end c.put.ensures.written
