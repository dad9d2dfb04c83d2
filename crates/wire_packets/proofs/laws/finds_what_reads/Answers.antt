use Rattle.wire_packets.proofs.Finding.{reads_found}
use Rattle.wire_packets.proofs.laws.finds_what_reads.Goals as goal

pub returns : goal.returns
returns c stream what reads = reads_found stream what reads
