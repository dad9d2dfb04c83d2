use Rattle.std.proofs.Common.{◌≡◌, length}
use Rattle.h4_framing.specs.Packets.{spelling, IsPacket}
use Rattle.radio_world.specs.Hosts.{acl_limit, Coming, coming_packet, MayBeHeard}
use Rattle.radio_world.proofs.Fed.{IsFed}
use Rattle.radio_world.proofs.feeding.hand_over.Given as goal

abbrev pub invariant-loop-rest : goal.invariant-loop-rest
invariant-loop-rest g l =
    let host = g.H.Host in
    (coming : Coming) → MayBeHeard (host.station l.fn.host l.fn.port) coming → IsPacket acl_limit (coming_packet host.side coming) → l.octets ≡ spelling (coming_packet host.side coming)
    → IsFed host.machine host.side host.answers coming l.octets l.rest (host.held l.host) (host.station l.fn.host l.fn.port) (host.station l.host l.port) l.fn.port l.port (host.is_sound l.host l.port)

abbrev pub decreases-loop-rest : goal.decreases-loop-rest
decreases-loop-rest g l = length l.rest
