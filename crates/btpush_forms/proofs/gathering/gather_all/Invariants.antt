use Rattle.std.proofs.Common.{◌-◌, ◌≡◌, ◌≤◌}
use Rattle.btpush_forms.specs.Gathering.{reading_limit}
use Rattle.btpush_forms.proofs.Kept.{Gathered}
use Rattle.btpush_forms.proofs.gathering.gather_all.Given as goal

abbrev pub invariant-loop-count : goal.invariant-loop-count
invariant-loop-count g l = record {
  gathered : Gathered (g.S.Source.content l.initial.source) (g.S.Source.content l.source) l.count l.text.items;
  below : l.count ≤ reading_limit;
  faults : g.S.Source.faults l.source ≡ g.S.Source.faults l.initial.source;
  shortages : g.S.Source.shortages l.source ≡ g.S.Source.shortages l.initial.source;
}

abbrev pub decreases-loop-count : goal.decreases-loop-count
decreases-loop-count g l = 18446744073709551615 - l.count
