use Rattle.obex_headers.proofs.PacketLaws.{packet_takes, packet_again}
use Rattle.obex_headers.proofs.laws.read_is_spelled.Goals as goal

pub returns : goal.returns
returns c = λ phase maximum octets packet fits. (packet_takes phase maximum octets packet fits, packet_again phase maximum octets packet)
