use Rattle.std.proofs.Common.{arith, ap, ◌∙◌}
use Rattle.rfcomm_frames.specs.FrameReading.{is_empty}
use Rattle.push_client.proofs.OctetLaws.{none_between}
use Rattle.push_client.proofs.outgoing.Outgoing.is_empty.Goals as goal

pub returns : goal.returns
returns c =
    let s = c.self.inside in
    none_between s.start s.end s.room.items c.self.invariant.1 (let last = c.self.invariant.2 in let whole = c.self.invariant.0 in omega (arith, last, whole)) ∙ ap is_empty c.self.view_is
