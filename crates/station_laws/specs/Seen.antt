-- A host in code, seen as a station of the pure world (this project's own).
use Rattle.std.specs.Prelude.{ℕ, ◌≡◌, ◌≤◌, ◌<◌, ◌+◌, Bool, not, ◌||◌, List, [], ◌∷◌, drop, map, length, Some, None, if◌then◌else◌}
use Rattle.std.specs.List.{AllByRecursion}
use Rattle.turn_laws.specs.h4_framing.specs.Packets.{spelling, spellings}
use Rattle.turn_laws.specs.acl_credits.specs.Ledgers.{packets_of, outstanding_on}
use Rattle.turn_laws.specs.push_terms.specs.declared.word.Side.{Side}
use Rattle.turn_laws.specs.push_terms.specs.declared.word.Side.TheVariants.{A, B}
use Rattle.turn_laws.specs.radio_model.specs.Controllers.{address}
use Rattle.host_link.specs.declared.role.Role.{Role}
use Rattle.host_link.specs.declared.role.Role.TheVariants.{Client, Server}
use Rattle.host_link.specs.declared.host_command.HostCommand.{HostCommand}
use Rattle.host_link.specs.declared.host_command.HostCommand.TheVariants.{Reset, ReadBufferSize, ReadBdAddr, WriteScanEnable, CreateConnection, AcceptConnection, Disconnect}
use Rattle.host_link.specs.Lines.{Line}
use Rattle.turn_laws.specs.world_model.specs.Stations.{Order, ReadBuffers, ReadAddress, Scan, Page, Accept, End, order_packet, asks, is_end, Station}
use Rattle.turn_laws.specs.world_model.specs.Stations as orders

-- host a is a client, host b is a server
abbrev pub role_of : Side → Role
role_of A = Client
role_of B = Server

-- ---- commands

-- a command as an order of the world, which does not name the other device
abbrev pub order_of : HostCommand → Order
order_of Reset = orders.Reset
order_of ReadBufferSize = ReadBuffers
order_of ReadBdAddr = ReadAddress
order_of WriteScanEnable = Scan
order_of (CreateConnection to) = Page
order_of (AcceptConnection to) = Accept
order_of (Disconnect handle) = End handle

-- host a pages device b, and host b accepts device a
abbrev pub IsCommandOf : Side → HostCommand → Type 0
IsCommandOf A (CreateConnection to) = to ≡ address B
IsCommandOf A (AcceptConnection to) = ⊥
IsCommandOf B (CreateConnection to) = ⊥
IsCommandOf B (AcceptConnection to) = to ≡ address A
IsCommandOf side command = Unit {0}

-- ---- how many commands wait

abbrev pub how_many : (Order → Bool) → List Order → ℕ
how_many is [] = 0
how_many is (order ∷ orders) = (if is order then 1 else 0) + how_many is orders

-- of the start: none that asks for a link, and none that ends one
abbrev pub is_start : Order → Bool
is_start order = not (asks order || is_end order)

-- the four of the start at most, one that asks for a link, and one that ends one: so no command is dropped for want of room
pub record AreFew (waiting : List Order) : Type 0 where
  pub starts : how_many is_start waiting ≤ 4
  pub asking : how_many asks waiting ≤ 1
  pub ending : how_many is_end waiting ≤ 1

-- ---- the host

-- What is true of the host of a side in this world at all times. Its controller takes one command at any time.
pub record IsHostOf (side : Side) (line : Line) : Type 0 where
  pub role : line.role ≡ role_of side
  pub commands : AllByRecursion (IsCommandOf side) line.commands.waiting
  pub few : AreFew (map order_of line.commands.waiting)
  pub number : line.commands.number ≡ 1
  -- packets are outstanding on its link alone, and pieces wait on its link alone
  pub alone : (handle : ℕ) → 0 < outstanding_on line.ledger handle → line.link ≡ Some handle
  pub off : line.link ≡ None → line.pieces ≡ []

-- ---- what it put out

-- less than the whole of the first packet is gone
abbrev pub IsWithin : Side → ℕ → List Order → Type 0
IsWithin side gone [] = gone ≡ 0
IsWithin side gone (order ∷ orders) = gone < length (spelling (order_packet side order))

-- octets that were put out and not taken: the packets of these orders, of which the first octets are gone
pub record Offers (side : Side) (gone : ℕ) (orders : List Order) (octets : List ℕ) : Type 0 where
  pub octets_are : octets ≡ drop gone (spellings (map (order_packet side) orders))
  pub within : IsWithin side gone orders

-- ---- the station

-- the host with this machine above it, and with these orders in what it put out
abbrev pub station_of : {S : Type 0} → S → List Order → Line → Station S
station_of upper out line = record {
  upper = upper;
  waiting = map order_of line.commands.waiting;
  awaited = line.commands.awaited;
  size = line.size;
  total = line.ledger.total;
  outstanding = packets_of line.ledger.held;
  asked = line.asked;
  link = line.link;
  ending = line.ending;
  joining = line.joining;
  pieces = line.pieces;
  out = out;
}

-- a host of a side is this station, and so many octets of the first packet that it put out are gone
pub record IsStation {S : Type 0} (side : Side) (gone : ℕ) (line : Line) (station : Station S) : Type 0 where
  pub host : IsHostOf side line
  pub offers : Offers side gone station.out line.out
  pub seen : station ≡ station_of station.upper station.out line
