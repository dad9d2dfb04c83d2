-- A whole host, its line and what stands above it, and the units that move between it and its controller, in the order in which they do
-- (Core 5.1, Volume 4 Part A, 2; Volume 2 Part E, 4.1.1, 4.4 and 5.4.2).
use Rattle.std.specs.Prelude.{ℕ, ◌≡◌, List, [], ◌∷◌, map, Some, None}
use Rattle.std.specs.List.{flat_map}
use Rattle.scenario_laws.specs.h4_framing.specs.Packets.{Packet, IsPacket}
use Rattle.scenario_laws.specs.acl_fragments.specs.Pieces.{Piece}
use Rattle.scenario_laws.specs.push_terms.specs.declared.word.Side.{Side}
use Rattle.scenario_laws.specs.capture.specs.Entries.{Entry, Moved}
use Rattle.scenario_laws.specs.capture.specs.Moves.{Move}
use Rattle.scenario_laws.specs.host_link.specs.declared.role.Role.{Role}
use Rattle.scenario_laws.specs.host_link.specs.declared.host_command.HostCommand.{HostCommand}
use Rattle.scenario_laws.specs.host_link.specs.CommandFlows.{next_command}
use Rattle.scenario_laws.specs.host_link.specs.Hearing.{PlainNews, Nothing, LinkUp, LinkFailed, LinkDown, Pdu, fault_of, news_of, heard}
use Rattle.scenario_laws.specs.host_link.specs.HostCommands.{command_packet, IsWhole}
use Rattle.scenario_laws.specs.host_link.specs.Lines.{Line, fresh}
use Rattle.scenario_laws.specs.host_link.specs.PuttingOut.{piece_packet, with_piece, with_next, with_pdu}
use Rattle.scenario_laws.specs.host_link.specs.Stands.{into, out_of}
use Rattle.scenario_laws.specs.world_model.specs.Machines.{News, Linked, Up, Down, Failed, Heard, TimerFired, Cancelled, Opening, Upper}

-- a machine above its line
pub record Lined (S : Type 0) : Type 0 where
  pub line : Line
  pub upper : S

-- to which nothing happened
abbrev pub starting : {S G : Type 0} → Upper S G → Role → Lined S
starting U role = record { line = fresh role; upper = U.first }

-- ---- what happens to a host

-- `G` is what its ports answer
pub data Occasion (G : Type 0) : Type 0 where
  -- a unit comes in
  Comes : (gifts : List G) (unit : Packet) → Occasion G
  -- it hears what no unit brings: its timer fires, a push begins or is cancelled
  Learns : (gifts : List G) (news : News) → Occasion G
  -- it says its next PDU, whose pieces then wait
  Says : (pdu : List ℕ) → Occasion G
  -- the first piece that waits goes out, on the link; the first command goes out
  Puts : (handle : ℕ) (piece : Piece) → Occasion G
  Commands : (command : HostCommand) → Occasion G
  -- a command waits, or the controller took octets
  Waits : Occasion G

-- the units that move, the host's own and those of its controller
abbrev pub units_of : {G : Type 0} → Occasion G → List Move
units_of (Comes gifts unit) = into unit ∷ []
units_of (Learns gifts news) = []
units_of (Says pdu) = []
units_of (Puts handle piece) = out_of (piece_packet handle piece) ∷ []
units_of (Commands command) = out_of (command_packet command) ∷ []
units_of Waits = []

abbrev pub units : {G : Type 0} → List (Occasion G) → List Move
units occasions = flat_map units_of occasions

-- as the capture of this host alone
abbrev pub lone_capture : Side → List Move → List Entry
lone_capture side list = map (λ (move : Move). Moved side move.flow move.packet) list

-- ---- how it happens

-- what the machine is told of a unit
abbrev pub hears_line : {S G : Type 0} → Upper S G → List G → PlainNews → S → S
hears_line U gifts Nothing s = s
hears_line U gifts LinkUp s = U.hear gifts (Linked Up) s
hears_line U gifts (LinkFailed status) s = U.hear gifts (Failed status) s
hears_line U gifts (LinkDown reason) s = U.hear gifts (Linked (Down reason)) s
hears_line U gifts (Pdu channel octets) s = U.hear gifts (Heard octets) s

abbrev pub after_unit : {S G : Type 0} → Upper S G → List G → Packet → Lined S → Lined S
after_unit U gifts unit old = record { line = heard unit old.line; upper = hears_line U gifts (news_of unit old.line) old.upper }

abbrev pub IsOwnNews : News → Type 0
IsOwnNews (Linked event) = ⊥
IsOwnNews (Failed status) = ⊥
IsOwnNews (Heard pdu) = ⊥
IsOwnNews TimerFired = Unit {0}
IsOwnNews Cancelled = Unit {0}
IsOwnNews (Opening name) = Unit {0}

-- on a link, where no piece waits
pub record SaysNext {S G : Type 0} (U : Upper S G) (pdu : List ℕ) (old new : Lined S) : Type 0 where
  pub handle : ℕ
  pub link : old.line.link ≡ Some handle
  pub none_waits : old.line.pieces ≡ []
  pub next_is : U.next old.upper ≡ Some (pdu, new.upper)
  pub line_is : new.line ≡ with_pdu pdu old.line

pub record PutsPiece {S : Type 0} (handle : ℕ) (piece : Piece) (old new : Lined S) : Type 0 where
  pub link : old.line.link ≡ Some handle
  pub rest : List Piece
  pub first : old.line.pieces ≡ piece ∷ rest
  pub packet : IsPacket 1021 (piece_packet handle piece)
  pub upper_is : new.upper ≡ old.upper
  pub line_is : new.line ≡ with_piece handle piece rest old.line

pub record PutsCommand {S : Type 0} (command : HostCommand) (old new : Lined S) : Type 0 where
  pub first : next_command old.line.commands ≡ Some command
  pub whole : IsWhole command
  pub packet : IsPacket 1021 (command_packet command)
  pub upper_is : new.upper ≡ old.upper
  pub line_is : new.line ≡ with_next (Some command) old.line

-- no more of its line changes than the commands that wait, and what was not taken; the same command is awaited
pub record OnlyWaits {S : Type 0} (old new : Lined S) : Type 0 where
  pub upper_is : new.upper ≡ old.upper
  pub line_is : new.line ≡ record old.line { commands = new.line.commands; ending = new.line.ending; out = new.line.out }
  pub awaited_is : new.line.commands.awaited ≡ old.line.commands.awaited

abbrev pub Happens : {S G : Type 0} → Upper S G → Occasion G → (old new : Lined S) → Type 0
Happens U (Comes gifts unit) old new = (fault_of unit old.line ≡ None) × (new ≡ after_unit U gifts unit old)
Happens U (Learns gifts news) old new = IsOwnNews news × (new ≡ record old { upper = U.hear gifts news old.upper })
Happens U (Says pdu) old new = SaysNext U pdu old new
Happens U (Puts handle piece) old new = PutsPiece handle piece old new
Happens U (Commands command) old new = PutsCommand command old new
Happens U Waits old new = OnlyWaits old new

-- one after the other, each where that is so
abbrev pub Runs : {S G : Type 0} → Upper S G → (Occasion G → Lined S → Type 0) → List (Occasion G) → (old new : Lined S) → Type 0
Runs U P [] old new = new ≡ old
Runs {S} U P (occasion ∷ occasions) old new = (mid : Lined S) × P occasion old × Happens U occasion old mid × Runs U P occasions mid new

-- whatever it may be
abbrev pub Whatever : {S G : Type 0} → Occasion G → Lined S → Type 0
Whatever occasion now = Unit {0}

-- ---- one thing at a time

-- it has no PDU to say, and no piece of one waits
pub record HasSaidAll {S G : Type 0} (U : Upper S G) (now : Lined S) : Type 0 where
  pub pieces : now.line.pieces ≡ []
  pub none_next : U.next now.upper ≡ None

-- it is told anything but of its link where it has said all
abbrev pub IsToldInTurn : {S G : Type 0} → Upper S G → Lined S → PlainNews → Type 0
IsToldInTurn U now Nothing = Unit {0}
IsToldInTurn U now LinkUp = Unit {0}
IsToldInTurn U now (LinkFailed status) = HasSaidAll U now
IsToldInTurn U now (LinkDown reason) = Unit {0}
IsToldInTurn U now (Pdu channel octets) = HasSaidAll U now

abbrev pub ComesInTurn : {S G : Type 0} → Upper S G → Occasion G → Lined S → Type 0
ComesInTurn U (Comes gifts unit) now = IsToldInTurn U now (news_of unit now.line)
ComesInTurn U (Learns gifts news) now = HasSaidAll U now
ComesInTurn U (Says pdu) now = Unit {0}
ComesInTurn U (Puts handle piece) now = Unit {0}
ComesInTurn U (Commands command) now = Unit {0}
ComesInTurn U Waits now = Unit {0}
