use Rattle.wire_packets.proofs.Finding.{whole_found}
use Rattle.wire_packets.proofs.laws.slip_is_found.Goals as goal

pub returns : goal.returns
returns c octets some fits = whole_found octets some fits
