-- What a packet from the controller does to a host, and what it tells (Core 5.1, Volume 2 Part E, 4.1.1, 4.4, 5.4.2
-- and 7.7).
use Rattle.std.specs.Prelude.{ℕ, ◌≡◌, Bool, true, false, ◌==◌, ◌&&◌, not, nat_lt, min, List, [], fold, Option, Some, None, is_none, Result, Ok, Err, if◌then◌else◌}
use Rattle.std.specs.List.{list_any}
use Rattle.h4_framing.specs.Packets.{Packet, Acl, Event}
use Rattle.hci_packets.specs.Events.{PlainEvent, ConnectionComplete, ConnectionRequest, DisconnectionComplete, CommandComplete, CommandStatus, CompletedPackets, entries_of}
use Rattle.acl_fragments.specs.Pieces.{Piece, starts}
use Rattle.acl_fragments.specs.Answers.{Answer, answer, held_after}
use Rattle.acl_fragments.specs.Answers as joined
use Rattle.acl_credits.specs.Ledgers.{Account, outstanding_on, less, without}
use Rattle.capture.specs.Pdus.{piece_of}
use Rattle.host_link.specs.declared.role.Role.{Role}
use Rattle.host_link.specs.declared.role.Role.TheVariants.{Client, Server}
use Rattle.host_link.specs.declared.news.ControllerFault.{ControllerFault}
use Rattle.host_link.specs.declared.news.News.{News}
use Rattle.host_link.specs.declared.news.News.TheVariants as lent
use Rattle.host_link.specs.declared.returned.Returned.{Returned}
use Rattle.host_link.specs.declared.returned.Returned.TheVariants.{Refused, Unlisted, Status, Buffers}
use Rattle.host_link.specs.declared.host_command.HostCommand.TheVariants.{AcceptConnection}
use Rattle.host_link.specs.HostCommands.{accepts}
use Rattle.host_link.specs.CommandFlows.{Flow, with_command, awaits, stated, answered, is_number}
use Rattle.host_link.specs.Returning.{returned_by, completes, status_fault, returned_fault}
use Rattle.host_link.specs.EventReading.{event_in}
use Rattle.host_link.specs.Lines.{Line, longest_pdu}

-- what a host is told, without where a PDU lies in memory
pub data PlainNews : Type 0 where
  Nothing : PlainNews
  LinkUp : PlainNews
  LinkFailed : (status : ℕ) → PlainNews
  LinkDown : (reason : ℕ) → PlainNews
  Pdu : (channel : ℕ) (octets : List ℕ) → PlainNews

abbrev pub plain_news : News → PlainNews
plain_news lent.Nothing = Nothing
plain_news lent.LinkUp = LinkUp
plain_news (lent.LinkFailed status) = LinkFailed status
plain_news (lent.LinkDown reason) = LinkDown reason
plain_news (lent.Pdu channel octets) = Pdu channel octets.now

-- ---- answers to commands

abbrev pub with_flow : Flow → Line → Line
with_flow flow line = record line { commands = flow }

-- a host learns the buffers of its controller before it has a link: it uses at most 64, and at most 1,021 octets of each
abbrev pub learn : ℕ → ℕ → Line → Line
learn size count line =
    if is_none line.link then
    record line { size = min size 1021; ledger = record { total = min count 64; held = None }; pieces = [] }
    else line

-- the awaited command is answered with success
abbrev pub after_answer : ℕ → Returned → Line → Line
after_answer number Refused line = line
after_answer number Unlisted line = with_flow (stated number line.commands) line
after_answer number (Status status) line = with_flow (answered number line.commands) line
after_answer number (Buffers status size count) line = learn size count (with_flow (answered number line.commands) line)

-- another command is answered: only the number of commands counts
abbrev pub after_other : ℕ → Returned → Line → Line
after_other number Refused line = line
after_other number _ line = with_flow (stated number line.commands) line

abbrev pub after_complete : ℕ → ℕ → Returned → Line → Line
after_complete number opcode returned line =
    if awaits opcode line.commands then after_answer number returned line else after_other number returned line

abbrev pub complete_fault : ℕ → Returned → Line → Option ControllerFault
complete_fault opcode returned line = if awaits opcode line.commands then returned_fault opcode returned else None

-- Command Status answers the commands that Command Complete does not
abbrev pub after_status : ℕ → ℕ → Line → Line
after_status number opcode line =
    if awaits opcode line.commands && not (completes opcode) then with_flow (answered number line.commands) line
    else with_flow (stated number line.commands) line

abbrev pub command_fault : ℕ → ℕ → Line → Option ControllerFault
command_fault status opcode line = if awaits opcode line.commands then status_fault opcode status else None

-- ---- the link

-- a success makes the link, unless one is up
abbrev pub makes_link : ℕ → Line → Bool
makes_link status line = (status == 0) && is_none line.link

-- a Connection Complete that is awaited ends the waiting; nothing has come in on a link that it makes. One that is not
-- awaited means nothing
abbrev pub after_connection : ℕ → ℕ → Line → Line
after_connection status handle line =
    if line.asked then
    (if makes_link status line then record line { asked = false; link = Some handle; ending = false; joining = [] } else record line { asked = false })
    else line

abbrev pub connection_news : ℕ → Line → PlainNews
connection_news status line =
    if line.asked then (if status == 0 then (if is_none line.link then LinkUp else Nothing) else LinkFailed status) else Nothing

-- a server accepts an ACL link while none is up, no Connection Complete is awaited, and no acceptance waits already
abbrev pub is_server : Role → Bool
is_server Client = false
is_server Server = true

abbrev pub may_accept : ℕ → Line → Bool
may_accept kind line =
    is_server line.role && (kind == 0x01) && is_none line.link && not line.asked && not (list_any accepts line.commands.waiting)

abbrev pub after_request : List ℕ → ℕ → Line → Line
after_request address kind line =
    if may_accept kind line then with_flow (with_command (AcceptConnection address) line.commands) line else line

-- with status 0 the link of the handle ends: its packets are outstanding no more, and what waits for it is dropped
abbrev pub ends_link : ℕ → ℕ → Line → Bool
ends_link status handle line = (status == 0) && is_number handle line.link

abbrev pub after_disconnection : ℕ → ℕ → Line → Line
after_disconnection status handle line =
    if ends_link status handle line then
    record line { ledger = record line.ledger { held = without handle line.ledger.held }; link = None; ending = false; joining = []; pieces = [] }
    else line

abbrev pub disconnection_news : ℕ → ℕ → ℕ → Line → PlainNews
disconnection_news status handle reason line = if ends_link status handle line then LinkDown reason else Nothing

-- ---- the buffers

-- an entry of Number Of Completed Packets: more than are outstanding on the handle are not given back
abbrev pub given_back : Account → ℕ × ℕ → Account
given_back account entry =
    if nat_lt (outstanding_on account entry.0) entry.1 then account else record account { held = less entry.1 account.held }

abbrev pub after_completed : List ℕ → Line → Line
after_completed entries line = record line { ledger = fold given_back line.ledger (entries_of entries) }

-- ---- pieces of PDUs

abbrev pub piece_on : Option ℕ → Packet → Option Piece
piece_on None packet = None
piece_on (Some handle) packet = piece_of handle packet

abbrev pub after_piece : Option Piece → Line → Line
after_piece None line = line
after_piece (Some piece) line =
    record line { joining = held_after longest_pdu line.joining (starts piece.boundary) piece.octets }

abbrev pub joined_news : Answer → PlainNews
joined_news (joined.Pdu channel octets) = Pdu channel octets
joined_news _ = Nothing

abbrev pub piece_news : Option Piece → Line → PlainNews
piece_news None line = Nothing
piece_news (Some piece) line = joined_news (answer longest_pdu line.joining (starts piece.boundary) piece.octets)

-- ---- events and packets

abbrev pub after_event : Option PlainEvent → Line → Line
after_event (Some (ConnectionComplete status handle address kind encryption)) line = after_connection status handle line
after_event (Some (ConnectionRequest address class kind)) line = after_request address kind line
after_event (Some (DisconnectionComplete status handle reason)) line = after_disconnection status handle line
after_event (Some (CommandComplete number opcode returned)) line = after_complete number opcode (returned_by opcode returned) line
after_event (Some (CommandStatus status number opcode)) line = after_status number opcode line
after_event (Some (CompletedPackets count entries)) line = after_completed entries line
after_event _ line = line

abbrev pub event_news : Option PlainEvent → Line → PlainNews
event_news (Some (ConnectionComplete status handle address kind encryption)) line = connection_news status line
event_news (Some (DisconnectionComplete status handle reason)) line = disconnection_news status handle reason line
event_news _ line = Nothing

abbrev pub event_fault : Option PlainEvent → Line → Option ControllerFault
event_fault (Some (CommandComplete number opcode returned)) line = complete_fault opcode (returned_by opcode returned) line
event_fault (Some (CommandStatus status number opcode)) line = command_fault status opcode line
event_fault _ line = None

-- what a packet tells, and what is wrong with it. Commands and synchronous packets mean nothing to a host
abbrev pub news_of : Packet → Line → PlainNews
news_of (Event code params) line = event_news (event_in code params) line
news_of packet line = piece_news (piece_on line.link packet) line

abbrev pub fault_of : Packet → Line → Option ControllerFault
fault_of (Event code params) line = event_fault (event_in code params) line
fault_of packet line = None

abbrev pub after_packet : Packet → Line → Line
after_packet (Event code params) line = after_event (event_in code params) line
after_packet packet line = after_piece (piece_on line.link packet) line

-- a host whose controller is at fault stays as it is
abbrev pub unless_fault : Option ControllerFault → Line → Line → Line
unless_fault None new old = new
unless_fault (Some fault) new old = old

abbrev pub heard : Packet → Line → Line
heard packet line = unless_fault (fault_of packet line) (after_packet packet line) line

-- what `hear` answers
abbrev pub Answers : Packet → Line → Result News ControllerFault → Type 0
Answers packet line (Ok news) = (fault_of packet line ≡ None) × (plain_news news ≡ news_of packet line)
Answers packet line (Err fault) = fault_of packet line ≡ Some fault

-- a piece of a PDU is heard, or a packet that is none
pub record HearsPiece (old : Line) (word : ℕ) (octets : List ℕ) (result : News) (new : Line) : Type 0 where
  pub news : plain_news result ≡ news_of (Acl word octets) old
  pub line : new ≡ after_packet (Acl word octets) old
