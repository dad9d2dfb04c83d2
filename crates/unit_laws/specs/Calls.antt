-- What a host does by itself, and what it makes of a unit, as a run of it over units: behind the unit that comes in others go out, and the octets that
-- it puts out are those of these (Core 5.1, Volume 4 Part A, 2).
use Rattle.std.specs.Prelude.{ℕ, ◌≡◌, ◌≤◌, true, List, [], ◌∷◌, ◌++◌, map, length, Some, None}
use Rattle.std.specs.List.{AllByRecursion, flat_map}
use Rattle.scenario_laws.specs.bt_base.specs.Numbers.{IsHandle}
use Rattle.scenario_laws.specs.bt_base.specs.Octets.{IsOctets}
use Rattle.scenario_laws.specs.h4_framing.specs.Packets.{Packet, spellings, IsPacket}
use Rattle.scenario_laws.specs.acl_fragments.specs.Pieces.{Piece}
use Rattle.scenario_laws.specs.host_link.specs.declared.role.Role.{Role}
use Rattle.scenario_laws.specs.host_link.specs.declared.host_command.HostCommand.{HostCommand}
use Rattle.scenario_laws.specs.host_link.specs.Hearing.{fault_of, news_of}
use Rattle.scenario_laws.specs.host_link.specs.HostCommands.{command_packet, IsWhole}
use Rattle.scenario_laws.specs.host_link.specs.Lines.{Line}
use Rattle.scenario_laws.specs.host_link.specs.PuttingOut.{can_take_pdu, take_pdu, put_pieces, put_command, connecting, leaving}
use Rattle.scenario_laws.specs.host_link.specs.Stands.{into, out_of}
use Rattle.scenario_laws.specs.world_model.specs.Machines.{Upper}
use Rattle.unit_laws.specs.Laws.{FiresNone}
use Rattle.unit_laws.specs.Units.{Lined, starting, Occasion, Comes, Learns, Says, Puts, Commands, Waits, units, after_unit, Runs, IsToldInTurn, ComesInTurn}

-- ---- what waits can be written

pub record FitsPacket (piece : Piece) : Type 0 where
  pub octets : IsOctets piece.octets
  pub short : length piece.octets ≤ 1021

pub record CanGo (command : HostCommand) : Type 0 where
  pub whole : IsWhole command
  pub packet : IsPacket 1021 (command_packet command)

-- its pieces and commands are packets, the handle of its link is none of the reserved ones, and without a link no piece waits
pub record IsWritable (line : Line) : Type 0 where
  pub long : 27 ≤ line.size
  pub off : line.link ≡ None → line.pieces ≡ []
  pub low : (handle : ℕ) → line.link ≡ Some handle → IsHandle handle
  pub size : line.size ≤ 1021
  pub pieces : AllByRecursion FitsPacket line.pieces
  pub commands : AllByRecursion CanGo line.commands.waiting

-- ---- runs

-- what the ports are to answer behind each thing that the host is told
abbrev pub gifts_of : {G : Type 0} → Occasion G → List (List G)
gifts_of (Comes gifts unit) = gifts ∷ []
gifts_of (Learns gifts news) = gifts ∷ []
gifts_of (Says pdu) = []
gifts_of (Puts handle piece) = []
gifts_of (Commands command) = []
gifts_of Waits = []

abbrev pub gifts_in : {G : Type 0} → List (Occasion G) → List (List G)
gifts_in occasions = flat_map gifts_of occasions

-- From the one to the other, one thing at a time: these units came in, and behind them units went out, whose octets `out` gained. The ports were to
-- answer so, and no timer fired.
pub record GoesBy {S G : Type 0} (U : Upper S G) (gifts : List (List G)) (came : List Packet) (old new : Lined S) : Type 0 where
  pub occasions : List (Occasion G)
  pub runs : Runs U (ComesInTurn U) occasions old new
  pub given : gifts_in occasions ≡ gifts
  pub untimed : AllByRecursion FiresNone occasions
  pub went : List Packet
  pub each : AllByRecursion (IsPacket 1021) went
  pub units_are : units occasions ≡ map into came ++ map out_of went
  pub out : new.line.out ≡ old.line.out ++ spellings went
  pub writable : IsWritable new.line

-- a machine says octets
abbrev pub SaysInOctets : {S G : Type 0} → Upper S G → Type 0
SaysInOctets {S} U = (s : S) (pdu : List ℕ) (after : S) → U.next s ≡ Some (pdu, after) → IsOctets pdu

-- So does a host, whatever it does next: it puts out the pieces that wait, says a PDU, lets the end of its link or a call wait, puts out a command, or
-- hears a unit where it has said all.
pub record CallsGo {S G : Type 0} (U : Upper S G) (now : Lined S) : Type 0 where
  pub puts : GoesBy U [] [] now (record now { line = put_pieces now.line })
  pub says : (pdu : List ℕ) (after : S) → can_take_pdu now.line ≡ true → U.next now.upper ≡ Some (pdu, after) → GoesBy U [] [] now (record { line = take_pdu pdu now.line; upper = after })
  pub ends : GoesBy U [] [] now (record now { line = leaving now.line.link now.line })
  pub pages : (address : List ℕ) → length address ≡ 6 → IsOctets address → GoesBy U [] [] now (record now { line = connecting address now.line })
  pub commands : GoesBy U [] [] now (record now { line = put_command now.line })
  pub hears : (limit : ℕ) (gifts : List G) (unit : Packet) → IsPacket limit unit → fault_of unit now.line ≡ None → IsToldInTurn U now (news_of unit now.line) → GoesBy U (gifts ∷ []) (unit ∷ []) now (after_unit U gifts unit now)

pub record CallsAreRuns {S G : Type 0} (U : Upper S G) : Type 0 where
  pub fresh : (role : Role) → IsWritable (starting U role).line
  pub calls : (now : Lined S) → SaysInOctets U → IsWritable now.line → CallsGo U now
  -- one behind the other
  pub joined : (gifts : List (List G)) (came : List Packet) (old mid new : Lined S) → GoesBy U gifts came old mid → GoesBy U [] [] mid new → GoesBy U gifts came old new
