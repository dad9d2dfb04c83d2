-- A host in code as the station that its octets tell of (this project's own).
use Rattle.std.specs.Prelude.{ℕ, ◌≡◌, ◌≤◌, ◌||◌, Bool, true, false, List, [], Some, None, length}
use Rattle.std.specs.List.{AllByRecursion, list_any}
use Rattle.radio_world.specs.bt_base.specs.Octets.{IsOctets}
use Rattle.radio_world.specs.acl_fragments.specs.Pieces.{Piece}
use Rattle.radio_world.specs.push_terms.specs.declared.word.Side.{Side}
use Rattle.radio_world.specs.host_link.specs.Calling.{may_end}
use Rattle.radio_world.specs.host_link.specs.HostCommands.{asks}
use Rattle.radio_world.specs.host_link.specs.Lines.{Line}
use Rattle.radio_world.specs.host_link.specs.PuttingOut.{can_take_pdu, put_pieces, put_command}
use Rattle.radio_world.specs.world_model.specs.Machines.{Upper}
use Rattle.radio_world.specs.world_model.specs.Stations.{Station}
use Rattle.radio_world.specs.station_laws.specs.Seen.{IsHostOf, station_of}
use Rattle.radio_world.specs.Hosts.{order_octets, IsSent, AreSent}
use Rattle.line_laws.specs.Reading.{orders_in}

-- the station with this machine above that line
abbrev pub seen : {S : Type 0} → S → Line → Station S
seen upper line = station_of upper (orders_in line.out) line

-- a machine says octets
abbrev pub SaysOctets : {S G : Type 0} → Upper S G → Type 0
SaysOctets {S} U = (s : S) (pdu : List ℕ) (after : S) → U.next s ≡ Some (pdu, after) → IsOctets pdu

-- a piece that a packet may carry
pub record IsCarried (piece : Piece) : Type 0 where
  pub octets : IsOctets piece.octets
  pub short : length piece.octets ≤ 1021

-- a host puts out packets that can be written
pub record MaySend {S : Type 0} (side : Side) (station : Station S) : Type 0 where
  pub out : AreSent side station.out
  pub waiting : AllByRecursion (IsSent side) station.waiting
  pub pieces : AllByRecursion IsCarried station.pieces
  pub link : (handle : ℕ) → station.link ≡ Some handle → handle ≤ 0x0EFF
  pub size : station.size ≤ 1021

-- a host in code of that side, whose octets are those of its orders
pub record IsSeen {S : Type 0} (side : Side) (upper : S) (line : Line) : Type 0 where
  pub host : IsHostOf side line
  pub octets : line.out ≡ order_octets side (orders_in line.out)
  pub sends : MaySend side (seen upper line)

-- it asks for a link: a Connection Complete is awaited, or a command from which it will be waits
abbrev pub is_asking : Line → Bool
is_asking line = line.asked || list_any asks line.commands.waiting

-- It has done all that it can: no piece and no command can be put out, its machine has nothing to say where a PDU can be taken, a link
-- that it ends may not be ended now, and one that it wants is asked for.
pub record IsSpent {S G : Type 0} (U : Upper S G) (side : Side) (upper : S) (line : Line) : Type 0 where
  pub pieces : put_pieces line ≡ line
  pub command : put_command line ≡ line
  pub none_next : can_take_pdu line ≡ true → U.next upper ≡ None
  pub ends : line.pieces ≡ [] → U.next upper ≡ None → U.leaves_link upper ≡ true → may_end line ≡ false
  pub calls : U.wants_link upper ≡ true → line.link ≡ None → is_asking line ≡ true
