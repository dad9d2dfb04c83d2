-- A host that runs, as the world sees it: its half that faces its controller, and above it a machine whose ports have still to
-- answer (this project's own).
use Rattle.std.specs.Prelude.{ℕ, ◌≡◌, ◌≢◌, ◌≤◌, List, [], ◌∷◌, ◌++◌, map}
use Rattle.std.specs.List.{AllByRecursion}
use Rattle.h4_framing.specs.Packets.{Packet, spelling, spellings, IsPacket}
use Rattle.bt_base.specs.Numbers.{IsHandle}
use Rattle.room_laws.specs.acl_fragments.specs.Pieces.{Piece}
use Rattle.push_terms.specs.declared.word.Side.{Side}
use Rattle.radio_model.specs.Controllers.{Answer, answer_packet, piece_packet}
use Rattle.room_laws.specs.world_model.specs.Machines.{Upper}
use Rattle.room_laws.specs.turn_laws.specs.WorldLaws.{handle_of}
use Rattle.run_laws.specs.station_laws.specs.Coming.{MayCome}
use Rattle.room_laws.specs.world_model.specs.Stations.{Order, order_packet, Station, Effort, MakesEffort, hears_piece, hears_answer}

-- ---- what its ports have still to answer

-- a host whose machine is what it is for all that its ports may answer from now on
abbrev pub Asking : (S G : Type 0) → Type 0
Asking S G = Station (List G → S)

-- what it is where they answer so
abbrev pub answering : {S G : Type 0} → List G → Asking S G → Station S
answering answers host = record {
  upper = host.upper answers;
  waiting = host.waiting;
  awaited = host.awaited;
  size = host.size;
  total = host.total;
  outstanding = host.outstanding;
  asked = host.asked;
  link = host.link;
  ending = host.ending;
  joining = host.joining;
  pieces = host.pieces;
  out = host.out;
}

-- ---- what it puts out

-- the longest ACL packet of a host, in octets
abbrev pub acl_limit : ℕ
acl_limit = 1021

-- an order that a host may put out: its packet can be written, and its handle is one that a link may have
pub record IsSent (side : Side) (order : Order) : Type 0 where
  pub packet : IsPacket acl_limit (order_packet side order)
  pub handle : handle_of order ≤ 0x0EFF

abbrev pub AreSent : Side → List Order → Type 0
AreSent side orders = AllByRecursion (IsSent side) orders

-- the octets of orders, one after the other
abbrev pub order_octets : Side → List Order → List ℕ
order_octets side orders = spellings (map (order_packet side) orders)

-- ---- what comes to it

pub data Coming : Type 0 where
  -- a piece on a link of that handle
  Part : (handle : ℕ) (piece : Piece) → Coming
  -- what its controller owes it
  Told : (answer : Answer) → Coming

abbrev pub coming_packet : Side → Coming → Packet
coming_packet side (Part handle piece) = piece_packet handle piece
coming_packet side (Told answer) = answer_packet side answer

abbrev pub hears_coming : {S G : Type 0} → Upper S G → Side → Coming → List G → Station S → Station S
hears_coming U side (Part handle piece) answers station = hears_piece U answers handle piece station
hears_coming U side (Told answer) answers station = hears_answer U answers side answer station

-- what a controller of this world may let come to that host: a piece on a handle, and the answer to the command that is awaited
abbrev pub MayBeHeard : {S : Type 0} → Station S → Coming → Type 0
MayBeHeard host (Part handle piece) = IsHandle handle
MayBeHeard host (Told answer) = MayCome host.awaited answer

-- ---- what it does in one reaction

-- efforts, one after the other
abbrev pub MakesEfforts : {S G : Type 0} → Upper S G → Side → List Effort → Station S → Station S → Type 0
MakesEfforts U side [] old new = new ≡ old
MakesEfforts {S} U side (effort ∷ efforts) old new = (mid : Station S) × MakesEffort U side effort old mid × MakesEfforts U side efforts mid new

-- A change comes to it, and it goes on by itself. Its ports gave the answers `used` in this reaction; whatever they answer later,
-- the machine is where these and those lead.
pub record Reacts {S G P : Type 0} (U : Upper S G) (side : Side) (Answers : P → List G → P → Type 0) (change : List G → Station S → Station S) (old new : Asking S G) (port port' : P) : Type 0 where
  pub used : List G
  pub answered : Answers port used port'
  pub efforts : List Effort
  pub reacts : (rest : List G) → MakesEfforts U side efforts (change (used ++ rest) (answering (used ++ rest) old)) (answering rest new)

-- It reacts to the packet that these octets are, where that is one which a controller of this world may let come to it. Behind it what is said of the
-- octets that it holds is so, and it is sound.
abbrev pub ReactsTo : {S G P : Type 0} → Upper S G → Side → (P → List G → P → Type 0) → (octets : List ℕ) → (old new : Asking S G) → (port port' : P) → (Held Sound : Type 0) → Type 0
ReactsTo U side Answers octets old new port port' Held Sound =
    (coming : Coming) → MayBeHeard old coming → IsPacket acl_limit (coming_packet side coming) → octets ≡ spelling (coming_packet side coming) → Reacts U side Answers (hears_coming U side coming) old new port port' × Held × Sound

-- octets of a whole packet, which a controller of this world may let come to that host
pub record Comes {S : Type 0} (side : Side) (host : Station S) (octets : List ℕ) : Type 0 where
  pub coming : Coming
  pub may : MayBeHeard host coming
  pub is : IsPacket acl_limit (coming_packet side coming)
  pub spelled : octets ≡ spelling (coming_packet side coming)

-- Octets of a packet come to it, behind those that it holds. It holds them until the packet is whole, and then hears it, where
-- it is one that a controller of this world may let come; so it stays sound.
pub record Hears {S G P : Type 0} (U : Upper S G) (side : Side) (Answers : P → List G → P → Type 0) (held octets held' : List ℕ) (old new : Asking S G) (port port' : P) (Sound : Type 0) : Type 0 where
  pub part : (coming : Coming) (left : List ℕ) → IsPacket acl_limit (coming_packet side coming) → spelling (coming_packet side coming) ≡ held ++ (octets ++ left) → left ≢ []
      → (held' ≡ held ++ octets) × (new ≡ old) × Answers port [] port' × Sound
  pub whole : (coming : Coming) → MayBeHeard old coming → IsPacket acl_limit (coming_packet side coming) → spelling (coming_packet side coming) ≡ held ++ octets
      → (held' ≡ []) × Reacts U side Answers (hears_coming U side coming) old new port port' × Sound

-- one list of answers behind another, from port to port
pub record JoinAnswers {G P : Type 0} (Answers : P → List G → P → Type 0) : Type 0 where
  pub none : (port : P) → Answers port [] port
  pub then : (first mid last : P) (xs ys : List G) → Answers first xs mid → Answers mid ys last → Answers first (xs ++ ys) last
