-- A host in code is a station of the pure world: each of its calls is a step of the station, for every machine above it (this
-- project's own).
use Rattle.std.specs.Prelude.{ℕ, ◌≡◌, ◌≤◌, true, false, List, [], ◌∷◌, length, replicate, Some, None, ◌&&◌, is_some, is_none}
use Rattle.std.specs.List.{list_any}
use Rattle.turn_laws.specs.bt_base.specs.Numbers.{IsHandle}
use Rattle.turn_laws.specs.acl_fragments.specs.Pieces.{Piece}
use Rattle.turn_laws.specs.push_terms.specs.declared.word.Side.{Side}
use Rattle.turn_laws.specs.push_terms.specs.declared.word.Side.TheVariants.{A, B}
use Rattle.turn_laws.specs.radio_model.specs.Controllers.{Answer, answer_packet, piece_packet, address}
use Rattle.host_link.specs.declared.host_command.HostCommand.{HostCommand}
use Rattle.host_link.specs.HostCommands.{command_packet}
use Rattle.host_link.specs.Lines.{Line, fresh}
use Rattle.host_link.specs.PuttingOut.{has_room, has_buffer, is_waiting, connecting, leaving, can_take_pdu, take_pdu, put_pieces, put_command, started}
use Rattle.host_link.specs.PuttingOut as code
use Rattle.host_link.specs.Hearing.{fault_of, news_of, heard}
use Rattle.turn_laws.specs.world_model.specs.Machines.{Upper}
use Rattle.turn_laws.specs.world_model.specs.Stations.{Order, Data, order_packet, Station, first_station, Taking, Putting, Asking, Leaving, Commanding, asks, is_end, event_in, hears_answer, hears_piece}
use Rattle.station_laws.specs.Seen.{role_of, IsHostOf, order_of, IsCommandOf, Offers, IsStation}
use Rattle.station_laws.specs.Coming.{MayCome, news_of_link, news_of_pdus, pdus_by}
use Rattle.station_laws.specs.Striving.{Strives, Departs}

-- ---- packets

-- a command and a piece of a PDU are put out as the packets of their orders
abbrev pub CommandsAreOrders : Type 0
CommandsAreOrders = (side : Side) (command : HostCommand) → IsCommandOf side command → command_packet command ≡ order_packet side (order_of command)

abbrev pub PiecesAreOrders : Type 0
PiecesAreOrders = (side : Side) (handle : ℕ) (piece : Piece) → code.piece_packet handle piece ≡ order_packet side (Data handle piece)

-- ---- hearing

-- an answer is heard as the station hears it: nothing is wrong with it, and the news are the same
pub record HearsAnswer {S G : Type 0} (U : Upper S G) (side : Side) (gone : ℕ) (answer : Answer) (line : Line) (station : Station S) : Type 0 where
  pub fault : fault_of (answer_packet side answer) line ≡ None
  pub news : news_of (answer_packet side answer) line ≡ news_of_link (event_in answer station)
  pub is_station : (answers : List G) → IsStation side gone (heard (answer_packet side answer) line) (hears_answer U answers side answer station)

abbrev pub AnswersAreHeard : {S G : Type 0} → Upper S G → Type 0
AnswersAreHeard {S} U =
    (side : Side) (gone : ℕ) (answer : Answer) (line : Line) (station : Station S) → IsStation side gone line station → MayCome station.awaited answer
    → HearsAnswer U side gone answer line station

-- and so is a piece, with the PDU that it completes
pub record HearsPiece {S G : Type 0} (U : Upper S G) (side : Side) (gone handle : ℕ) (piece : Piece) (line : Line) (station : Station S) : Type 0 where
  pub fault : fault_of (piece_packet handle piece) line ≡ None
  pub news : news_of (piece_packet handle piece) line ≡ news_of_pdus (pdus_by handle piece station)
  pub is_station : (answers : List G) → IsStation side gone (heard (piece_packet handle piece) line) (hears_piece U answers handle piece station)

abbrev pub PiecesAreHeard : {S G : Type 0} → Upper S G → Type 0
PiecesAreHeard {S} U =
    (side : Side) (gone handle : ℕ) (piece : Piece) (line : Line) (station : Station S) → IsStation side gone line station → IsHandle handle
    → HearsPiece U side gone handle piece line station

-- what a host tells its machine leaves the host as it was
abbrev pub MachinesChange : {S G : Type 0} → Upper S G → Type 0
MachinesChange {S} U =
    (side : Side) (gone : ℕ) (line : Line) (station : Station S) (upper : S) → IsStation side gone line station → IsStation side gone line (record station { upper = upper })

-- ---- going on

-- a host before its first command is the first station, which then puts out that command
abbrev pub BeginsAsFirst : {S G : Type 0} → Upper S G → Type 0
BeginsAsFirst U = (side : Side) → IsStation side 0 (fresh (role_of side)) (first_station U side)

abbrev pub StartsAsFirst : {S G : Type 0} → Upper S G → Type 0
StartsAsFirst U = (side : Side) → Strives U side 0 (Commanding ∷ []) (first_station U side) U.first (started (role_of side))

-- pieces are put out, as many as the code puts out
abbrev pub PiecesGo : {S G : Type 0} → Upper S G → Type 0
PiecesGo {S} U =
    (side : Side) (gone : ℕ) (line : Line) (station : Station S) → IsStation side gone line station
    → (count : ℕ) × Strives U side gone (replicate count Putting) station station.upper (put_pieces line)

-- a PDU that the machine says is taken, and pieces of it are put out
abbrev pub PdusGo : {S G : Type 0} → Upper S G → Type 0
PdusGo {S} U =
    (side : Side) (gone : ℕ) (line : Line) (station : Station S) (pdu : List ℕ) (upper : S) → IsStation side gone line station
    → can_take_pdu line ≡ true → U.next station.upper ≡ Some (pdu, upper)
    → (count : ℕ) × Strives U side gone (Taking ∷ replicate count Putting) station upper (take_pdu pdu line)

-- a command is put out, or none
abbrev pub CommandsGo : {S G : Type 0} → Upper S G → Type 0
CommandsGo {S} U =
    (side : Side) (gone : ℕ) (line : Line) (station : Station S) → IsStation side gone line station
    → (count : ℕ) × (count ≤ 1) × Strives U side gone (replicate count Commanding) station station.upper (put_command line)

-- where a piece still waits behind that, there is no buffer for it, or no room
abbrev pub PiecesStop : Type 0
PiecesStop = (line : Line) → is_some line.link ≡ true → (has_room (put_pieces line) && has_buffer (put_pieces line) && is_waiting (put_pieces line)) ≡ false

-- where a command still waits behind that, an answer is awaited, or there was no room
abbrev pub CommandsStop : Type 0
CommandsStop =
    (side : Side) (line : Line) → IsHostOf side line → has_room line ≡ true → is_none (put_command line).commands.awaited ≡ true
    → (put_command line).commands.waiting ≡ []

-- host a asks for its link, where the station may
abbrev pub LinksAreAsked : {S G : Type 0} → Upper S G → Type 0
LinksAreAsked {S} U =
    (gone : ℕ) (line : Line) (station : Station S) → IsStation A gone line station
    → U.wants_link station.upper ≡ true → line.link ≡ None → line.asked ≡ false → list_any asks station.waiting ≡ false
    → Strives U A gone (Asking ∷ []) station station.upper (connecting (address B) line)

-- a host ends its link, where the station may
abbrev pub LinksAreEnded : {S G : Type 0} → Upper S G → Type 0
LinksAreEnded {S} U =
    (side : Side) (gone handle : ℕ) (line : Line) (station : Station S) → IsStation side gone line station
    → line.link ≡ Some handle → line.pieces ≡ [] → U.next station.upper ≡ None → U.leaves_link station.upper ≡ true → line.ending ≡ false
    → list_any is_end station.waiting ≡ false → Strives U side gone (Leaving ∷ []) station station.upper (leaving line.link line)

-- ---- the octets

-- what a controller takes of the octets are whole packets of orders, and a front of the next
abbrev pub OctetsDepart : Type 0
OctetsDepart = (side : Side) (gone : ℕ) (orders : List Order) (count : ℕ) (octets : List ℕ) → Offers side gone orders octets → count ≤ length octets → Departs side gone orders count octets
