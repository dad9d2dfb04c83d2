use Rattle.std.proofs.Common.{◌≡◌, ◌≤◌, false, []}
use Rattle.radio_world.specs.Halves.{comes_count}
use Rattle.radio_world.specs.Counting.{one_if, GoesBy}
use Rattle.radio_world.proofs.medium.Medium.move_all_into.Given as goal

abbrev pub invariant-loop-moved : goal.invariant-loop-moved
invariant-loop-moved g l =
    let host = g.H.Host in
    GoesBy (one_if l.moved) host.machine l.side host.answers l.fn.self l.self (host.station l.fn.host l.fn.port) (host.station l.host l.port) l.fn.port l.port (g.T.Sink.content l.fn.trace) (g.T.Sink.content l.trace)
    × (l.moved ≡ false → (l.self ≡ l.fn.self) × (host.station l.host l.port ≡ host.station l.fn.host l.fn.port))
    × (host.held l.host ≡ [])
    × host.is_sound l.host l.port
    × (g.T.Sink.faults l.fn.trace ≤ g.T.Sink.faults l.trace)
    × (g.T.Sink.shortages l.fn.trace ≤ g.T.Sink.shortages l.trace)

abbrev pub decreases-loop-moved : goal.decreases-loop-moved
decreases-loop-moved g l = comes_count l.side l.self
