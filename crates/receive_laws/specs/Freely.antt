-- Where the controller of a host that is fed a stream has a buffer free at each PDU that it brings, by the packets that move between the two alone: no
-- answer waits for one then (Core 5.1, Volume 2 Part E, 4.1.1).
use Rattle.std.specs.Prelude.{ℕ, ◌≡◌, ◌≢◌, true, List, [], ◌∷◌, ◌++◌, Option, Some, None}
use Rattle.receiving.specs.h4_framing.specs.Packets.{Packet, Event}
use Rattle.receiving.specs.capture.specs.Links.{Link, linking}
use Rattle.receiving.specs.capture.specs.Moves.{Move}
use Rattle.receiving.specs.capture.specs.Pdus.{completed}
use Rattle.receiving.specs.host_link.specs.Stands.{into}
use Rattle.orderly_laws.specs.unit_laws.specs.Capacity.{takes_more}
use Rattle.receiving.specs.Turns.{Turn}
use Rattle.receive_laws.specs.Moving.{MoveFromStart}

-- on a link that is up a packet ends a PDU, or is a Connection Complete
abbrev pub TellsOn : Link → Packet → Type 0
TellsOn link (Event code params) = code ≡ 0x03
TellsOn link packet = completed link.handle link.moves (into packet) ≢ []

abbrev pub IsFreeOn : Option Link → List Move → Packet → Type 0
IsFreeOn None moved packet = Unit {0}
IsFreeOn (Some link) moved packet = TellsOn link packet → takes_more moved ≡ true

-- behind these packets the controller takes one packet more, where such a packet comes
abbrev pub ComesFree : List Move → Option Packet → Type 0
ComesFree moved None = Unit {0}
ComesFree moved (Some packet) = IsFreeOn (linking moved).up moved packet

-- so it is in each turn of a stream, behind all that moved before it
abbrev pub IsFreeStream : (said : List ℕ) → List Turn → Type 0
IsFreeStream said turns =
    (ahead : List Turn) (turn : Turn) (behind : List Turn) → turns ≡ ahead ++ turn ∷ behind → (moved : List Move) → MoveFromStart said ahead moved → ComesFree moved turn.packet
