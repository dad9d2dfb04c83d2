use Rattle.rfcomm_frames.specs.Frames.{plain}
use Rattle.rfcomm_frames.proofs.Written.{unchecked_is}
use Rattle.rfcomm_frames.proofs.writing.put_unchecked.Goals as goal

pub returns-clause-written : goal.returns-clause-written
returns-clause-written c =
    unchecked_is (plain c.args.frame.now) c.args.into.now c.put-head.new.into c.put_length-field.new.into c.put_credits-start.new.into c.put.new.into
    c.put-head.result c.put_length-field.result c.put_credits-start.result c.put.result _ _ c.address_of.ensures c.control_octet.ensures c.put-head.ensures.end
    c.put_length-field.ensures.end c.put_credits-start.ensures.end c.put.ensures.end
    c.put-head.ensures.written c.put_length-field.ensures.written c.put_credits-start.ensures.written c.put.ensures.written
