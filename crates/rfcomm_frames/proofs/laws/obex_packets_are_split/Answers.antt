use Rattle.rfcomm_frames.proofs.ObexSplits.{obex_packets-right, obex_packets-one}
use Rattle.rfcomm_frames.proofs.laws.obex_packets_are_split.Goals as goal

pub returns : goal.returns
returns c = record { right = obex_packets-right; one = obex_packets-one }
