use Rattle.std.proofs.Common.{refl}
use Rattle.h4_framing.specs.Packets.{packet}
use Rattle.h4_view.proofs.TaggedLines.{of_a, of_b}
use Rattle.h4_view.proofs.tagged.push_of_host.Goals as goal

pub returns-in_ok-push_moved-in-A : goal.returns-in_ok-push_moved-in-A
returns-in_ok-push_moved-in-A c =
    rw c.in-A.is (of_a c.args.flow (packet c.args.unit.now) c.mark-mark.result.now c.direction_of-direction.result c.args.view.now _ _ _ c.in_ok-push_moved-in-A.ensures (rw c.in-A.is at c.mark-mark.ensures) c.direction_of-direction.ensures refl refl refl)

pub returns-in_ok-push_moved-in-B : goal.returns-in_ok-push_moved-in-B
returns-in_ok-push_moved-in-B c =
    rw c.in-B.is (of_b c.args.flow (packet c.args.unit.now) c.mark-mark.result.now c.direction_of-direction.result c.args.view.now _ _ _ c.in_ok-push_moved-in-B.ensures (rw c.in-B.is at c.mark-mark.ensures) c.direction_of-direction.ensures refl refl refl)
