use Rattle.acl_fragments.proofs.Frames.{frames, one_pdu}
use Rattle.acl_fragments.proofs.laws.whole_frames.Goals as goal

pub returns : goal.returns
returns c = record { same = frames; one = one_pdu }
