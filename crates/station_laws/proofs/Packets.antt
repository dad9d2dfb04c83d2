-- The packets of commands and pieces.
use Rattle.std.proofs.Common.{◌≡◌, ℕ, ◌+◌, ◌*◌, List, refl, ap, arith}
use Rattle.turn_laws.specs.h4_framing.specs.Packets.{Acl}
use Rattle.turn_laws.specs.hci_packets.specs.AclWords.{flag_of}
use Rattle.turn_laws.specs.push_terms.specs.declared.word.Side.TheVariants.{A, B}
use Rattle.host_link.specs.declared.host_command.HostCommand.TheVariants.{Reset, ReadBufferSize, ReadBdAddr, WriteScanEnable, CreateConnection, AcceptConnection, Disconnect}
use Rattle.host_link.specs.HostCommands.{command_packet}
use Rattle.station_laws.specs.Laws.{CommandsAreOrders, PiecesAreOrders}

pub commands_are_orders : CommandsAreOrders
commands_are_orders A Reset is = refl
commands_are_orders B Reset is = refl
commands_are_orders A ReadBufferSize is = refl
commands_are_orders B ReadBufferSize is = refl
commands_are_orders A ReadBdAddr is = refl
commands_are_orders B ReadBdAddr is = refl
commands_are_orders A WriteScanEnable is = refl
commands_are_orders B WriteScanEnable is = refl
commands_are_orders A (CreateConnection to) is = ap (λ (octets : List ℕ). command_packet (CreateConnection octets)) is
commands_are_orders B (CreateConnection to) is = absurd is
commands_are_orders A (AcceptConnection to) is = absurd is
commands_are_orders B (AcceptConnection to) is = ap (λ (octets : List ℕ). command_packet (AcceptConnection octets)) is
commands_are_orders A (Disconnect handle) is = refl
commands_are_orders B (Disconnect handle) is = refl

pub pieces_are_orders : PiecesAreOrders
pieces_are_orders side handle piece =
    let same : handle + 0x1000 * flag_of piece.boundary + 0x4000 * 0 ≡ handle + 0x1000 * flag_of piece.boundary = omega arith in
    ap (λ (word : ℕ). Acl word piece.octets) same
