-- What a host in code over `host_link` is to the world (this project's own).
use Rattle.std.specs.Prelude.{ℕ, ◌≡◌, true, false, List, [], ◌∷◌, None}
use Rattle.radio_world.specs.bt_base.specs.Numbers.{IsHandle}
use Rattle.radio_world.specs.acl_fragments.specs.Pieces.{Piece}
use Rattle.radio_world.specs.push_terms.specs.declared.word.Side.{Side}
use Rattle.radio_world.specs.push_terms.specs.declared.word.Side.TheVariants.{A, B}
use Rattle.radio_world.specs.radio_model.specs.Controllers.{Answer, answer_packet, piece_packet, address}
use Rattle.radio_world.specs.host_link.specs.Lines.{Line}
use Rattle.radio_world.specs.host_link.specs.Calling.{may_end}
use Rattle.radio_world.specs.host_link.specs.PuttingOut.{connecting, leaving, started}
use Rattle.radio_world.specs.host_link.specs.Hearing.{heard}
use Rattle.radio_world.specs.world_model.specs.Machines.{Upper}
use Rattle.radio_world.specs.world_model.specs.Stations.{Order, Station, Effort, Asking, Leaving, Commanding, first_station, hears_answer, hears_piece, IsStopped}
use Rattle.radio_world.specs.station_laws.specs.Seen.{role_of}
use Rattle.radio_world.specs.station_laws.specs.Coming.{MayCome}
use Rattle.radio_world.specs.station_laws.specs.Striving.{Strives}
use Rattle.radio_world.specs.Hosts.{order_octets, AreSent, MakesEfforts}
use Rattle.line_laws.specs.Reading.{orders_in}
use Rattle.line_laws.specs.Seeing.{seen, SaysOctets, is_asking, IsSeen, IsSpent}

-- orders are read off their octets
abbrev pub OrdersAreRead : Type 0
OrdersAreRead = (side : Side) (orders : List Order) → AreSent side orders → orders_in (order_octets side orders) ≡ orders

-- a host does what its station does, and is what its octets say again
pub record GoesAsSeen {S G : Type 0} (U : Upper S G) (side : Side) (efforts : List Effort) (old : Station S) (upper : S) (line : Line) : Type 0 where
  pub is_seen : IsSeen side upper line
  pub makes : MakesEfforts U side efforts old (seen upper line)

abbrev pub StationsAreSeen : {S G : Type 0} → Upper S G → Type 0
StationsAreSeen U = (side : Side) → SaysOctets U → GoesAsSeen U side (Commanding ∷ []) (first_station U side) U.first (started (role_of side))

-- whatever `station_laws` says that a call strives for
abbrev pub StrivesAreSeen : {S G : Type 0} → Upper S G → Type 0
StrivesAreSeen {S} U =
    (side : Side) (efforts : List Effort) (upper after : S) (old new : Line) → SaysOctets U → IsSeen side upper old → Strives U side 0 efforts (seen upper old) after new → GoesAsSeen U side efforts (seen upper old) after new

-- host a asks for its link where it wants one, none is up, and it does not ask already
abbrev pub CallsAreSeen : {S G : Type 0} → Upper S G → Type 0
CallsAreSeen {S} U =
    (upper : S) (line : Line) → SaysOctets U → IsSeen A upper line → U.wants_link upper ≡ true → line.link ≡ None → is_asking line ≡ false
    → GoesAsSeen U A (Asking ∷ []) (seen upper line) upper (connecting (address B) line)

-- a host ends its link where it leaves it, all is said, and it may end it
abbrev pub EndsAreSeen : {S G : Type 0} → Upper S G → Type 0
EndsAreSeen {S} U =
    (side : Side) (upper : S) (line : Line) → SaysOctets U → IsSeen side upper line → line.pieces ≡ [] → U.next upper ≡ None → U.leaves_link upper ≡ true → may_end line ≡ true
    → GoesAsSeen U side (Leaving ∷ []) (seen upper line) upper (leaving line.link line)

-- what comes to it
pub record HearsAsSeen {S : Type 0} (side : Side) (station : Station S) (line : Line) : Type 0 where
  pub is_seen : IsSeen side station.upper line
  pub station_is : seen station.upper line ≡ station

abbrev pub HeardIsSeen : {S G : Type 0} → Upper S G → Type 0
HeardIsSeen {S} {G} U =
    (side : Side) (answers : List G) (upper : S) (line : Line) → IsSeen side upper line
    → ((answer : Answer) → MayCome line.commands.awaited answer → HearsAsSeen side (hears_answer U answers side answer (seen upper line)) (heard (answer_packet side answer) line))
    × ((handle : ℕ) (piece : Piece) → IsHandle handle → HearsAsSeen side (hears_piece U answers handle piece (seen upper line)) (heard (piece_packet handle piece) line))

-- its controller took all
abbrev pub TakenIsSeen : {S G : Type 0} → Upper S G → Type 0
TakenIsSeen {S} U = (side : Side) (upper : S) (line : Line) → IsSeen side upper line → HearsAsSeen side (record (seen upper line) { out = [] }) (record line { out = [] })

abbrev pub SpentHostsStop : {S G : Type 0} → Upper S G → Type 0
SpentHostsStop {S} U = (side : Side) (upper : S) (line : Line) → IsSeen side upper line → IsSpent U side upper line → line.out ≡ [] → IsStopped U side (seen upper line)
