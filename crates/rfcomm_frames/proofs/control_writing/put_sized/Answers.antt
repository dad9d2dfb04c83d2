use Rattle.std.proofs.Common.{length, arith}
use Rattle.rfcomm_frames.specs.Lengths.{shortest}
use Rattle.rfcomm_frames.proofs.Puts.{piece_then}
use Rattle.rfcomm_frames.proofs.control_writing.put_sized.Goals as goal

pub returns-clause-written : goal.returns-clause-written
returns-clause-written c =
    let octets = c.args.octets.now in
    piece_then c.args.at c.put_length-start.result c.put.result (shortest (length octets)) octets c.args.into.now c.put_length-start.new.into c.put.new.into
    (omega arith) c.put_length-start.ensures.end c.put.ensures.end c.put_length-start.ensures.written c.put.ensures.written
