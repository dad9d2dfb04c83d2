-- What a host puts out (Core 5.1, Volume 2 Part E, 4.1.1 and 4.4).
use Rattle.std.specs.Prelude.{ℕ, ◌+◌, Bool, true, ◌&&◌, ◌||◌, ◌==◌, not, nat_lt, List, [], ◌∷◌, ◌++◌, length, Option, Some, None, is_some, if◌then◌else◌}
use Rattle.h4_framing.specs.Packets.{Packet, Acl, spelling}
use Rattle.hci_packets.specs.AclWords.{acl_word_of}
use Rattle.acl_fragments.specs.Pieces.{Piece}
use Rattle.hci_packets.specs.declared.acl.Boundary.TheVariants.{First}
use Rattle.acl_fragments.specs.Cuts.{cut}
use Rattle.acl_credits.specs.Ledgers.{Account, packets_of, outstanding_on}
use Rattle.host_link.specs.declared.role.Role.{Role}
use Rattle.host_link.specs.declared.host_command.HostCommand.{HostCommand}
use Rattle.host_link.specs.declared.host_command.HostCommand.TheVariants.{CreateConnection, Disconnect}
use Rattle.host_link.specs.HostCommands.{command_packet, asks}
use Rattle.host_link.specs.CommandFlows.{with_command, next_command, after_command}
use Rattle.host_link.specs.Lines.{Line, fresh}

-- a packet is put out only while fewer octets than these wait to be taken
abbrev pub has_room : Line → Bool
has_room line = nat_lt (length line.out) 65536

-- the controller takes one packet more
abbrev pub has_buffer : Line → Bool
has_buffer line = nat_lt (packets_of line.ledger.held) line.ledger.total

-- a piece of a PDU waits to be put out
abbrev pub is_waiting : Line → Bool
is_waiting line = not (length line.pieces == 0)

-- ---- packets of the link

-- the packet of a piece, to one device
abbrev pub piece_packet : ℕ → Piece → Packet
piece_packet handle piece = Acl (acl_word_of (record { handle = handle; boundary = piece.boundary; broadcast = 0 })) piece.octets

abbrev pub one_more : ℕ → Account → Account
one_more handle account = record account { held = Some (handle, outstanding_on account handle + 1) }

-- a piece is put out, and those are left
abbrev pub with_piece : ℕ → Piece → List Piece → Line → Line
with_piece handle piece rest line =
    record line { ledger = one_more handle line.ledger; pieces = rest; out = line.out ++ spelling (piece_packet handle piece) }

-- the pieces are put out in their order, as long as there is room and a buffer for the next
abbrev pub with_pieces : ℕ → List Piece → Line → Line
with_pieces handle [] line = line
with_pieces handle (piece ∷ rest) line =
    if has_room line && has_buffer line then with_pieces handle rest (with_piece handle piece rest line) else line

abbrev pub put_pieces_on : Option ℕ → Line → Line
put_pieces_on None line = line
put_pieces_on (Some handle) line = with_pieces handle line.pieces line

abbrev pub put_pieces : Line → Line
put_pieces line = put_pieces_on line.link line

-- ---- the command

abbrev pub with_next : Option HostCommand → Line → Line
with_next None line = line
with_next (Some command) line =
    record line {
      commands = after_command (Some command) line.commands;
      asked = line.asked || asks command;
      out = line.out ++ spelling (command_packet command);
    }

abbrev pub put_command : Line → Line
put_command line = if has_room line then with_next (next_command line.commands) line else line

-- ---- both

-- all that room, buffers and the flow of commands permit: first the packets of the link, then a command
abbrev pub put_out : Line → Line
put_out line = put_command (put_pieces line)

-- a host that is made has put out its first command
abbrev pub started : Role → Line
started role = put_out (fresh role)

-- ---- what is to be put out

abbrev pub connecting : List ℕ → Line → Line
connecting address line = record line { commands = with_command (CreateConnection address) line.commands }

-- the link that is up is ended once; without one there is nothing to end
abbrev pub leaving : Option ℕ → Line → Line
leaving None line = line
leaving (Some handle) line = if line.ending then line else record line { commands = with_command (Disconnect handle) line.commands; ending = true }

-- a PDU is taken only where no piece of the PDU before waits, and its first piece may go out at once
abbrev pub can_take_pdu : Line → Bool
can_take_pdu line = is_some line.link && (not (is_waiting line) && (has_buffer line && has_room line))

-- its pieces wait, and go out as long as there is room and a buffer for the next
abbrev pub with_pdu : List ℕ → Line → Line
with_pdu pdu line = record line { pieces = cut line.size First pdu }

abbrev pub take_pdu : List ℕ → Line → Line
take_pdu pdu line = put_pieces (with_pdu pdu line)
