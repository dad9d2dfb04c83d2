use Rattle.wire_packets.proofs.Spelled.{one_answer_lem}
use Rattle.wire_packets.proofs.laws.one_answer.Goals as goal

pub returns : goal.returns
returns c octets first second a b = one_answer_lem octets first second a b
