use Rattle.std.proofs.Common.{◌≡◌, ◌≤◌, [], replicate}
use Rattle.radio_world.specs.Scenes.{stage, Advances}
use Rattle.radio_world.specs.Standing.{Stands}
use Rattle.radio_world.proofs.scene.Scene.turn_times.Given as goal

abbrev pub invariant-loop-done : goal.invariant-loop-done
invariant-loop-done g l =
    let one = g.A.Host in
    let two = g.B.Host in
    Advances one.machine two.machine one.answers two.answers (replicate l.done l.word) (stage l.fn.self (one.station l.fn.a l.fn.shelf) (two.station l.fn.b l.fn.inbox) l.fn.shelf l.fn.inbox (g.T.Sink.content l.fn.trace))
    (stage l.self (one.station l.a l.shelf) (two.station l.b l.inbox) l.shelf l.inbox (g.T.Sink.content l.trace))
    × Stands one.machine two.machine l.self (one.station l.a l.shelf) (two.station l.b l.inbox)
    × ((one.held l.a ≡ []) × (two.held l.b ≡ []))
    × (one.is_sound l.a l.shelf × two.is_sound l.b l.inbox)
    × (g.T.Sink.faults l.fn.trace ≤ g.T.Sink.faults l.trace)
    × (g.T.Sink.shortages l.fn.trace ≤ g.T.Sink.shortages l.trace)
