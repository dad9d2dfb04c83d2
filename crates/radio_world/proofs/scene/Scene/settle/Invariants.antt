use Rattle.std.proofs.Common.{◌≡◌, ◌+◌, ◌≤◌, []}
use Rattle.room_laws.specs.Rooms.{OwesNoneBack}
use Rattle.settling_laws.specs.Weights.{weight}
use Rattle.radio_world.specs.Hosts.{answering}
use Rattle.radio_world.specs.Scenes.{stage, moment, world_at, Advances}
use Rattle.radio_world.proofs.scene.Scene.settle.Given as goal

abbrev pub invariant-rounds : goal.invariant-rounds
invariant-rounds g l =
    let one = g.A.Host in
    let two = g.B.Host in
    Advances one.machine two.machine one.answers two.answers [] (stage l.fn.self (one.station l.fn.a l.fn.shelf) (two.station l.fn.b l.fn.inbox) l.fn.shelf l.fn.inbox (g.T.Sink.content l.fn.trace))
    (stage l.self (one.station l.a l.shelf) (two.station l.b l.inbox) l.shelf l.inbox (g.T.Sink.content l.trace))
    × ((one.held l.a ≡ []) × (two.held l.b ≡ []))
    × (one.is_sound l.a l.shelf × two.is_sound l.b l.inbox)
    × (g.T.Sink.faults l.fn.trace ≤ g.T.Sink.faults l.trace)
    × OwesNoneBack l.self.medium.radio
    × (g.T.Sink.shortages l.fn.trace ≤ g.T.Sink.shortages l.trace)

-- what is left to happen
abbrev pub decreases-rounds : goal.decreases-rounds
decreases-rounds g l =
    let one = g.A.Host in
    let two = g.B.Host in
    weight one.machine two.machine (one.most_more + two.most_more) (world_at (moment l.self (answering [] (one.station l.a l.shelf)) (answering [] (two.station l.b l.inbox))))
