-- Whatever a host hears and does, it uses no more buffers of its controller than it counts, and counts at most 64.
use Rattle.std.proofs.Common.{◌≡◌, ◌==◌, ◌&&◌, ℕ, ◌+◌, ◌≤◌, not, Bool, true, false, List, [], ◌∷◌, ◌++◌, is_none, Option, Some, None, refl, sym, subst, arith, tests, if◌then◌else◌}
use Rattle.std.proofs.Math.Nat.{min-le_right}
use Rattle.receiving.specs.acl_fragments.specs.Pieces.{Piece}
use Rattle.receiving.specs.h4_framing.specs.Packets.{Packet, Command, Acl, Sync, Event}
use Rattle.noting_laws.specs.scenario_laws.specs.acl_credits.specs.Ledgers.{Account, packets_of, packets_on, without}
use Rattle.noting_laws.specs.host_laws.specs.hci_packets.specs.Events.{PlainEvent, ConnectionComplete, ConnectionRequest, DisconnectionComplete, CommandComplete, CommandStatus, CompletedPackets, Other, entries_of}
use Rattle.receiving.specs.host_link.specs.declared.host_command.HostCommand.{HostCommand}
use Rattle.receiving.specs.host_link.specs.declared.news.ControllerFault.{ControllerFault}
use Rattle.receiving.specs.host_link.specs.declared.returned.Returned.{Returned}
use Rattle.receiving.specs.host_link.specs.declared.returned.Returned.TheVariants.{Refused, Unlisted, Status, Buffers}
use Rattle.receiving.specs.host_link.specs.CommandFlows.{awaits, next_command}
use Rattle.receiving.specs.host_link.specs.EventReading.{event_in}
use Rattle.receiving.specs.host_link.specs.Hearing.{after_answer, after_other, makes_link, after_connection, may_accept, ends_link, piece_on, after_piece, after_event, after_packet, fault_of, unless_fault, heard}
use Rattle.receiving.specs.host_link.specs.Lines.{Line}
use Rattle.receiving.specs.host_link.specs.PuttingOut.{has_room, has_buffer, with_piece, with_pieces, put_pieces_on, put_pieces, with_next, put_command, leaving, with_pdu}
use Rattle.receiving.specs.host_link.specs.Returning.{returned_by, completes}
use Rattle.receiving.specs.host_link.proofs.Accounts.{given_shrinks}
use Rattle.receiving.specs.host_model.specs.Circumstances.{Circumstance}
use Rattle.receiving.specs.host_model.specs.Profiles.{Profile}
use Rattle.receiving.specs.bt_host.specs.Stacks.{Standing, Deed, Putting, Saying, Ending, Paging, Commanding, DoesDeed, DoesAll, after_packet as stands_after}
use Rattle.receiving.specs.Turns.{Moves, Posture, Turn, HearsIn, HasTurn, Stand}

-- its controller holds no more packets than it takes, at most 64
pub record IsLow (line : Line) : Type 0 where
  pub few : line.ledger.total ≤ 64
  pub within : packets_of line.ledger.held ≤ line.ledger.total

-- nothing of its buffers changes
low_same : (old new : Line) → new.ledger ≡ old.ledger → IsLow old → IsLow new
low_same old new same low = record {
  few = subst (λ (account : Account). account.total ≤ 64) (sym same) low.few;
  within = subst (λ (account : Account). packets_of account.held ≤ account.total) (sym same) low.within;
}

low_by : (test : Bool) (one other : Line) → IsLow one → IsLow other → IsLow (if test then one else other)
low_by true one other first second = first
low_by false one other first second = second

-- ---- what it puts out

on_one : (held : Option (ℕ × ℕ)) (handle : ℕ) → packets_on held handle ≤ packets_of held
on_one None handle = omega arith
on_one (Some one) handle = by (one.0 == handle)
  where
    by : (b : Bool) → (if b then one.1 else 0) ≤ one.1
    by true = omega arith
    by false = omega arith

piece_low : (handle : ℕ) (piece : Piece) (rest : List Piece) (line : Line) → has_buffer line ≡ true → IsLow line → IsLow (with_piece handle piece rest line)
piece_low handle piece rest line free low =
    let less : packets_of line.ledger.held + 1 ≤ line.ledger.total = grind (arith, tests, free) in
    let on = on_one line.ledger.held handle in
    record { few = low.few; within = omega (arith, less, on) }

pieces_low : (handle : ℕ) (pieces : List Piece) (line : Line) → IsLow line → IsLow (with_pieces handle pieces line)
pieces_low handle [] line low = low
pieces_low handle (piece ∷ rest) line low = by (λ free. pieces_low handle rest (with_piece handle piece rest line) (piece_low handle piece rest line free low)) (has_room line) (has_buffer line) refl
  where
    by : (has_buffer line ≡ true → IsLow (with_pieces handle rest (with_piece handle piece rest line))) → (room buffer : Bool) → has_buffer line ≡ buffer → IsLow (if room && buffer then with_pieces handle rest (with_piece handle piece rest line) else line)
    by more true true free = more free
    by more true false free = low
    by more false buffer free = low

puts_low : (line : Line) → IsLow line → IsLow (put_pieces line)
puts_low line low = by line.link
  where
    by : (link : Option ℕ) → IsLow (put_pieces_on link line)
    by None = low
    by (Some handle) = pieces_low handle line.pieces line low

command_low : (line : Line) → IsLow line → IsLow (put_command line)
command_low line low = low_by (has_room line) (with_next (next_command line.commands) line) line (by (next_command line.commands)) low
  where
    by : (next : Option HostCommand) → IsLow (with_next next line)
    by None = low
    by (Some command) = record { few = low.few; within = low.within }

leaving_low : (link : Option ℕ) (line : Line) → IsLow line → IsLow (leaving link line)
leaving_low None line low = low
leaving_low (Some handle) line low = low_by line.ending line _ low (record { few = low.few; within = low.within })

-- ---- what it hears

answer_low : (number : ℕ) (returned : Returned) (line : Line) → IsLow line → IsLow (after_answer number returned line)
answer_low number Refused line low = low
answer_low number Unlisted line low = record { few = low.few; within = low.within }
answer_low number (Status status) line low = record { few = low.few; within = low.within }
answer_low number (Buffers status size count) line low = low_by (is_none line.link) _ _ (record { few = min-le_right count 64; within = omega arith }) (record { few = low.few; within = low.within })

other_low : (number : ℕ) (returned : Returned) (line : Line) → IsLow line → IsLow (after_other number returned line)
other_low number Refused line low = low
other_low number Unlisted line low = record { few = low.few; within = low.within }
other_low number (Status status) line low = record { few = low.few; within = low.within }
other_low number (Buffers status size count) line low = record { few = low.few; within = low.within }

connection_low : (status handle : ℕ) (line : Line) → IsLow line → IsLow (after_connection status handle line)
connection_low status handle line low =
    low_by line.asked _ line (low_by (makes_link status line) _ _ (record { few = low.few; within = low.within }) (record { few = low.few; within = low.within })) low

fewer_left : (handle : ℕ) (held : Option (ℕ × ℕ)) → packets_of (without handle held) ≤ packets_of held
fewer_left handle None = omega arith
fewer_left handle (Some one) = by (one.0 == handle)
  where
    by : (b : Bool) → packets_of (if b then None else Some one) ≤ one.1
    by true = omega arith
    by false = omega arith

event_low : (event : Option PlainEvent) (line : Line) → IsLow line → IsLow (after_event event line)
event_low None line low = low
event_low (Some (ConnectionComplete status handle address kind encryption)) line low = connection_low status handle line low
event_low (Some (ConnectionRequest address class kind)) line low = low_by (may_accept kind line) _ line (record { few = low.few; within = low.within }) low
event_low (Some (DisconnectionComplete status handle reason)) line low =
    let fewer = fewer_left handle line.ledger.held in
    low_by (ends_link status handle line) _ line (record { few = low.few; within = omega (arith, fewer, low.within) }) low
event_low (Some (CommandComplete number opcode returned)) line low =
    low_by (awaits opcode line.commands) _ _ (answer_low number (returned_by opcode returned) line low) (other_low number (returned_by opcode returned) line low)
event_low (Some (CommandStatus status number opcode)) line low =
    low_by (awaits opcode line.commands && not (completes opcode)) _ _ (record { few = low.few; within = low.within }) (record { few = low.few; within = low.within })
event_low (Some (CompletedPackets count entries)) line low =
    let fewer = given_shrinks (entries_of entries) line.ledger in record { few = omega (arith, fewer.total, low.few); within = omega (arith, fewer.total, fewer.held, low.within) }
event_low (Some (Other code params)) line low = low

piece_heard_low : (piece : Option Piece) (line : Line) → IsLow line → IsLow (after_piece piece line)
piece_heard_low None line low = low
piece_heard_low (Some piece) line low = record { few = low.few; within = low.within }

packet_low : (packet : Packet) (line : Line) → IsLow line → IsLow (after_packet packet line)
packet_low (Command opcode params) line low = piece_heard_low (piece_on line.link (Command opcode params)) line low
packet_low (Acl word octets) line low = piece_heard_low (piece_on line.link (Acl word octets)) line low
packet_low (Sync word octets) line low = piece_heard_low (piece_on line.link (Sync word octets)) line low
packet_low (Event code params) line low = event_low (event_in code params) line low

heard_low : (packet : Packet) (line : Line) → IsLow line → IsLow (heard packet line)
heard_low packet line low = by (fault_of packet line)
  where
    by : (found : Option ControllerFault) → IsLow (unless_fault found (after_packet packet line) line)
    by None = packet_low packet line low
    by (Some fault) = low

-- ---- turns

module _ {S : Type 0} (A : Profile S) where
  deed_low : (deed : Deed) (old new : Standing S) → DoesDeed A deed old new → IsLow old.line → IsLow new.line
  deed_low Putting old new does low = subst (λ (s : Standing S). IsLow s.line) (sym does) (puts_low old.line low)
  deed_low (Saying pdu) old new does low = subst IsLow (sym does.line) (puts_low (with_pdu pdu old.line) (record { few = low.few; within = low.within }))
  deed_low Ending old new does low = subst (λ (s : Standing S). IsLow s.line) (sym does.1) (leaving_low old.line.link old.line low)
  deed_low Paging old new does low = subst (λ (s : Standing S). IsLow s.line) (sym does.1) (record { few = low.few; within = low.within })
  deed_low Commanding old new does low = subst (λ (s : Standing S). IsLow s.line) (sym does) (command_low old.line low)

  deeds_low : (deeds : List Deed) (old new : Standing S) → DoesAll A deeds old new → IsLow old.line → IsLow new.line
  deeds_low [] old new does low = subst (λ (s : Standing S). IsLow s.line) (sym does) low
  deeds_low (deed ∷ deeds) old new (mid, one, more) low = deeds_low deeds mid new more (deed_low deed old mid one low)

  abbrev pub AreLow : Stand S → Type 0
  AreLow now = (rest : List Circumstance) → IsLow (now rest).line

  moves_low : (before after : Stand S) → Moves A before after → AreLow before → AreLow after
  moves_low before after moves low = λ rest. deeds_low moves.deeds (before (moves.used ++ rest)) (after rest) (moves.does rest) (low (moves.used ++ rest))

  hears_low : (packet : Option Packet) (full : Bool) (before after : Stand S) → HearsIn A packet full before after → AreLow before → AreLow after
  hears_low None full before after hears low = subst AreLow (sym hears.1) low
  hears_low (Some packet) full before after hears low = moves_low (λ rest. stands_after A packet rest (before rest)) after hears.0.moves (λ rest. heard_low packet (before rest).line (low rest))

  -- so it is behind each turn
  pub turn_low : (turn : Turn) (old new : Posture S) → HasTurn A turn old new → AreLow old.stands → AreLow new.stands
  turn_low turn old new one low =
      let there = hears_low turn.packet old.full one.between one.after one.hears (moves_low old.stands one.between one.back low) in
      subst AreLow (sym one.stands) (λ rest. record { few = (there rest).few; within = (there rest).within })
