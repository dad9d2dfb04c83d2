use Rattle.std.proofs.Common.{sym, ◌∙◌}
use Rattle.radio_air.proofs.Splitting.{length-split}
use Rattle.radio_air.proofs.frames.Frames.len.Goals as goal

pub returns : goal.returns
returns c = rw (← c.self.view_is) (c.len.ensures.len ∙ sym (length-split c.self.inside.lengths.items c.self.inside.octets.items))
