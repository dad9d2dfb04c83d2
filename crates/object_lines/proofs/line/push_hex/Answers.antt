use Rattle.std.proofs.Common.{ap}
use Rattle.std.specs.Prelude.{slice_index}
use Rattle.hex.specs.Hex.{upper_digits}
use Rattle.h4_view.proofs.Signalling.{parts_none, digits_step}
use Rattle.object_lines.proofs.line.push_hex.Goals as goal

pub loop-octet-init : goal.loop-octet-init
loop-octet-init c = parts_none c.args.text.now.items

pub loop-octet-preserved : goal.loop-octet-preserved
loop-octet-preserved c =
    digits_step c.args.octets.now c.loop-octet.octet-index _ _ _ _ _ _ c.loop-octet-test.true c.loop-octet.invariant c.in_ok-push.ensures.items c.in_ok-push-2.ensures.items (ap (slice_index upper_digits) c.from.ensures) (ap (slice_index upper_digits) c.from-in-loop-octet.ensures)
