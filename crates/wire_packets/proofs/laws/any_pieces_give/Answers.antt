use Rattle.wire_packets.proofs.Walking.{took_all}
use Rattle.wire_packets.proofs.laws.any_pieces_give.Goals as goal

pub returns : goal.returns
returns c old new calls t = took_all old new calls t
