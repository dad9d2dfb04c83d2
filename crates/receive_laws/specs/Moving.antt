-- What moves between a host that is fed a stream and its controller: each packet that the host hears, and behind it those that it puts out (Core 5.1,
-- Volume 4 Part A, 2).
use Rattle.std.specs.Prelude.{ℕ, ◌≡◌, List, [], ◌∷◌, ◌++◌, map, None, option_to_list}
use Rattle.std.specs.List.{AllByRecursion}
use Rattle.receiving.specs.h4_framing.specs.Packets.{Packet, spellings, IsPacket}
use Rattle.receiving.specs.capture.specs.Moves.{Move}
use Rattle.receiving.specs.host_link.specs.Stands.{into, out_of}
use Rattle.receiving.specs.Turns.{Turn}

-- these packets have those octets, and none has more than 1,021 octets of data
pub record ArePackets (octets : List ℕ) (packets : List Packet) : Type 0 where
  pub each : AllByRecursion (IsPacket 1021) packets
  pub octets_are : octets ≡ spellings packets

-- what moves in a turn
pub record MovesWith (turn : Turn) (moves : List Move) : Type 0 where
  pub went : List Packet
  pub said : ArePackets turn.said went
  pub moves_are : moves ≡ map into (option_to_list turn.packet) ++ map out_of went

-- in one after the other
abbrev pub MoveInTurns : List Turn → List Move → Type 0
MoveInTurns [] moves = moves ≡ []
MoveInTurns (turn ∷ turns) moves = (first rest : List Move) × MovesWith turn first × MoveInTurns turns rest × (moves ≡ first ++ rest)

-- before a host hears anything it puts these octets out
abbrev pub opening : List ℕ → Turn
opening said = record { packet = None; said = said }

-- all that moves from the beginning on
abbrev pub MoveFromStart : (said : List ℕ) → List Turn → List Move → Type 0
MoveFromStart said turns moves = MoveInTurns (opening said ∷ turns) moves
