use Rattle.std.proofs.Common.{◌≡◌, ◌≤◌, List, length}
use Rattle.room_laws.specs.world_model.specs.Stations.{Order}
use Rattle.radio_world.specs.Hosts.{order_octets, AreSent}
use Rattle.radio_world.proofs.Leaving.{IsTaken}
use Rattle.radio_world.proofs.medium.Medium.take_all.Given as goal

abbrev pub invariant-loop-unit : goal.invariant-loop-unit
invariant-loop-unit g l =
    ((orders : List Order) → AreSent l.side orders → l.octets ≡ order_octets l.side orders → IsTaken l.side orders l.rest l.fn.self l.self (g.T.Sink.content l.fn.trace) (g.T.Sink.content l.trace))
    × (g.T.Sink.faults l.fn.trace ≤ g.T.Sink.faults l.trace)
    × (g.T.Sink.shortages l.fn.trace ≤ g.T.Sink.shortages l.trace)

abbrev pub decreases-loop-unit : goal.decreases-loop-unit
decreases-loop-unit g l = length l.rest
