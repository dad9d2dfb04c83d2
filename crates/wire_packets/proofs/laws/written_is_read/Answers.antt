use Rattle.std.proofs.Common.{Ok, refl}
use Rattle.wire_packets.specs.Packets.{spelling}
use Rattle.wire_packets.proofs.Spelled.{one_answer_lem}
use Rattle.wire_packets.proofs.laws.written_is_read.Goals as goal

pub returns : goal.returns
returns c packet given fits is = one_answer_lem (spelling packet) given (Ok packet) is (fits, refl)
