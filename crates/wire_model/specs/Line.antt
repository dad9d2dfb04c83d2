-- Packets as they stand on the line.
use Rattle.std.specs.Prelude.{ℕ, List}
use Rattle.wire_packets.specs.Packets.{Packet, spelling}
use Rattle.wire_packets.specs.Slip.{slip}

-- between two delimiters, and escaped (Core 5.1, Volume 4 Part D, sections 3 and 4)
unfoldable pub line : Packet → List ℕ
line packet = slip (spelling packet)
