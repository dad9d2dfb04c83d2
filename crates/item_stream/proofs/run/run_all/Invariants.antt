use Rattle.std.proofs.Common.{◌≡◌, ◌-◌, ◌≤◌, ℕ, List, Option, [], length}
use Rattle.item_stream.specs.Running.{input_limit, Standing}
use Rattle.item_stream.proofs.run.run_all.Given as goal

-- each standing at the beginning has led to one here
abbrev pub invariant-loop-ending : goal.invariant-loop-ending
invariant-loop-ending g l =
    ((first : _) (input old : Option (List ℕ)) → Standing (g.T.Teller.has_told first) input (g.S.Source.content l.initial.source) old (g.K.Sink.content l.initial.sink) l.initial.teller l.initial.run.held.items l.initial.run.fed
    → Standing (g.T.Teller.has_told first) input (g.S.Source.content l.source) old (g.K.Sink.content l.sink) l.teller l.run.held.items l.run.fed)
    × (l.run.text.items ≡ [])
    × (l.run.fed ≤ input_limit)
    × (length l.run.held.items ≤ l.run.fed)
    × (g.S.Source.faults l.source ≡ g.S.Source.faults l.initial.source)
    × (g.K.Sink.faults l.sink ≡ g.K.Sink.faults l.initial.sink)
    × (g.S.Source.shortages l.source ≡ g.S.Source.shortages l.initial.source)
    × (g.K.Sink.shortages l.sink ≡ g.K.Sink.shortages l.initial.sink)

abbrev pub decreases-loop-ending : goal.decreases-loop-ending
decreases-loop-ending g l = 67108864 - l.run.fed
