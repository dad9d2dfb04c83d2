-- What comes to a host in code, one thing after the other, and which units move between it and its controller with each (Core 5.1, Volume 4 Part A, 2).
use Rattle.std.specs.Prelude.{ℕ, ◌≡◌, List, [], ◌∷◌, ◌++◌, map, length, drop}
use Rattle.std.specs.List.{AllByRecursion, flat_map}
use Rattle.unit_laws.specs.scenario_laws.specs.bt_base.specs.Octets.{IsOctets}
use Rattle.unit_laws.specs.scenario_laws.specs.h4_framing.specs.Packets.{Packet, spellings, IsPacket}
use Rattle.bt_host.specs.capture.specs.Moves.{Move}
use Rattle.bt_host.specs.host_link.specs.declared.role.Role.{Role}
use Rattle.bt_host.specs.host_link.specs.PuttingOut.{started}
use Rattle.bt_host.specs.host_link.specs.Stands.{into, out_of}
use Rattle.unit_laws.specs.scenario_laws.specs.world_model.specs.Machines.{News}
use Rattle.bt_host.specs.host_model.specs.Circumstances.{Circumstance}
use Rattle.bt_host.specs.host_model.specs.Profiles.{Profile}
use Rattle.bt_host.specs.Refusals.{acl_limit}
use Rattle.bt_host.specs.Stacks as stacks
use Rattle.bt_host.specs.Stacks.{Stacked, Moment, HearsNews}
use Rattle.unit_laws.specs.Units.{IsOwnNews}

-- ---- what comes to it

pub data Impulse : Type 0 where
  -- a packet of its controller
  Hears : (packet : Packet) → Impulse
  -- news that no packet brings: its timer fires, a push begins or is given up
  Learns : (news : News) → Impulse
  -- it may put out what was held back
  GoesOn : Impulse
  -- its controller took so many octets of `out`
  Gives : (count : ℕ) → Impulse
  -- it pages another device from now on
  Pages : (address : List ℕ) → Impulse

-- the six octets of the address of a device (Core 5.1, Volume 2 Part B, 1.2)
pub record IsDevice (address : List ℕ) : Type 0 where
  pub six : length address ≡ 6
  pub octets : IsOctets address

module _ {E S P : Type 0} (A : Profile S) (Answers : P → List Circumstance → P → Type 0) (pushing : E → P → List Circumstance → S) where
  abbrev pub Happens : Impulse → (old new : Moment E P) → Type 0
  Happens (Hears packet) old new = IsPacket acl_limit packet × stacks.Hears A Answers pushing packet old new
  Happens (Learns news) old new = IsOwnNews news × HearsNews A Answers pushing news old new
  Happens GoesOn old new = stacks.GoesOn A Answers pushing old new
  Happens (Gives count) old new = new.stack ≡ record old.stack { line = record old.stack.line { out = drop count old.stack.line.out } }
  Happens (Pages address) old new = IsDevice address × (new.stack ≡ record old.stack { paged = address })

  -- One after the other; between them its port may change as it likes.
  abbrev pub HasImpulses : List Impulse → (old new : Stacked E) → Type 0
  HasImpulses [] old new = new ≡ old
  HasImpulses (impulse ∷ impulses) old new =
      (mid : Stacked E) × (port : P) × (port' : P) × Happens impulse (record { stack = old; port = port }) (record { stack = mid; port = port' }) × HasImpulses impulses mid new

-- ---- which units move

abbrev pub heard_of : Impulse → List Packet
heard_of (Hears packet) = packet ∷ []
heard_of (Learns news) = []
heard_of GoesOn = []
heard_of (Gives count) = []
heard_of (Pages address) = []

-- the packets that it hears
abbrev pub heard_in : List Impulse → List Packet
heard_in impulses = flat_map heard_of impulses

-- what is left of the octets that waited in `out`
abbrev pub left_of : Impulse → List ℕ → List ℕ
left_of (Gives count) out = drop count out
left_of (Hears packet) out = out
left_of (Learns news) out = out
left_of GoesOn out = out
left_of (Pages address) out = out

-- these packets have those octets, and none has more than 1,021 octets of data
pub record AreSpelled (octets : List ℕ) (packets : List Packet) : Type 0 where
  pub each : AllByRecursion (IsPacket 1021) packets
  pub octets_are : octets ≡ spellings packets

-- With an impulse the packet moves that is heard, and behind it packets go out, whose octets `out` gained.
pub record MovesWith {E : Type 0} (impulse : Impulse) (old new : Stacked E) (moves : List Move) : Type 0 where
  pub gained : List ℕ
  pub out : new.line.out ≡ left_of impulse old.line.out ++ gained
  pub went : List Packet
  pub spelled : AreSpelled gained went
  pub moves_are : moves ≡ map into (heard_of impulse) ++ map out_of went

module _ {E S P : Type 0} (A : Profile S) (Answers : P → List Circumstance → P → Type 0) (pushing : E → P → List Circumstance → S) where
  -- with one after the other
  abbrev pub MovesAlong : (impulses : List Impulse) (old new : Stacked E) → HasImpulses A Answers pushing impulses old new → List Move → Type 0
  MovesAlong [] old new has moves = moves ≡ []
  MovesAlong (impulse ∷ impulses) old new (mid, port, port', one, more) moves = (first rest : List Move) × MovesWith impulse old mid first × MovesAlong impulses mid new more rest × (moves ≡ first ++ rest)

  -- from the first moment on: a new host has put out its first command
  pub record MovesFromStart (role : Role) (impulses : List Impulse) (old new : Stacked E) (has : HasImpulses A Answers pushing impulses old new) (moves : List Move) : Type 0 where
    pub first : List Packet
    pub spelled : AreSpelled (started role).out first
    pub rest : List Move
    pub along : MovesAlong impulses old new has rest
    pub moves_are : moves ≡ map out_of first ++ rest
