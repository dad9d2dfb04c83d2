use Rattle.std.proofs.Common.{◌∙◌, ap, ℕ, ◌+◌}
use Rattle.std.specs.Prelude.{min}
use Rattle.making.specs.Counting.{most_octets}
use Rattle.making.proofs.Telling.{octets_next}
use Rattle.making.proofs.counting.octets_in.Goals as goal

pub loop-i-preserved : goal.loop-i-preserved
loop-i-preserved c =
    c.saturating_add-octets.ensures ∙ ap (λ (n : ℕ). min (c.loop-i.octets + n) most_octets) c.length_at.ensures
    ∙ octets_next c.args.inbox.now.contents.stored c.loop-i.i c.loop-i.octets c.loop-i.invariant
