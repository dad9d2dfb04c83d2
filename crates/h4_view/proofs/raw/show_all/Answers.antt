use Rattle.std.proofs.Common.{refl}
use Rattle.h4_view.proofs.Stands.{standing_none}
use Rattle.h4_view.proofs.Endings.{limit_shows}
use Rattle.h4_view.proofs.raw.show_all.Goals as goal

pub loop-view-init : goal.loop-view-init
loop-view-init g c = (standing_none _ _ _ _ _ _ _ c.requires.new, c.requires.new.untold, refl, refl, refl, refl)

pub returns-clause-shows : goal.returns-clause-shows
returns-clause-shows g c = limit_shows c.passes_limit.result _ _ _ _ _ _ _ _ _ c.loop-view.invariant.0 c.loop-view-test.false c.passes_limit.ensures.verdict c.passes_limit.ensures.of_port c.passes_limit.ensures.kept
