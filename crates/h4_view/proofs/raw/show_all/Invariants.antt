use Rattle.std.proofs.Common.{◌≡◌, ◌-◌, []}
use Rattle.h4_view.specs.Standing.{Standing}
use Rattle.h4_view.proofs.raw.show_all.Given as goal

abbrev pub invariant-loop-view : goal.invariant-loop-view
invariant-loop-view g l =
    Standing (g.S.Source.content l.initial.source) (g.S.Source.content l.source) (g.K.Sink.content l.initial.sink) (g.K.Sink.content l.sink) l.view.framer l.view.links l.view.offset l.view.fed
    × (l.view.text.items ≡ [])
    × (g.S.Source.faults l.source ≡ g.S.Source.faults l.initial.source)
    × (g.K.Sink.faults l.sink ≡ g.K.Sink.faults l.initial.sink)
    × (g.S.Source.shortages l.source ≡ g.S.Source.shortages l.initial.source)
    × (g.K.Sink.shortages l.sink ≡ g.K.Sink.shortages l.initial.sink)

abbrev pub decreases-loop-view : goal.decreases-loop-view
decreases-loop-view g l = 67108864 - l.view.fed
