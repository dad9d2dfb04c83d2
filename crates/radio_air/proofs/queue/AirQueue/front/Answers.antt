use Rattle.std.proofs.Common.{sym, ◌∙◌}
use Rattle.radio_air.proofs.Splitting.{first_left}
use Rattle.radio_air.proofs.queue.AirQueue.front.Goals as goal

pub returns : goal.returns
returns c = let here = c.self.inside in rw (← c.self.view_is) (c.behind.ensures ∙ sym (first_left here.frames.frames here.leaving))
