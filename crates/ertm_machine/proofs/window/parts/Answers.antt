use Rattle.ertm_machine.proofs.Rings.{part_of}
use Rattle.ertm_machine.proofs.window.parts.Goals as goal

pub returns : goal.returns
returns c =
    part_of c.as_slices.result.0.now c.as_slices.result.1.now c.args.ring.now.items c.args.place c.args.len c.min-start.result c.min-end.result
    c.as_slices.ensures c.min-start.ensures c.min-end.ensures
