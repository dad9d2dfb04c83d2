use Rattle.std.proofs.Common.{take, arith}
use Rattle.std.proofs.lemmas.List.{length-take-le}
use Rattle.rfcomm_frames.specs.Controls.{plain_control}
use Rattle.rfcomm_frames.proofs.OneControl.{control-no-longer}
use Rattle.codec_tests.proofs.rfcomm_frames_tests.put_control_again.Goals as goal

pub put_control-requires : goal.put_control-requires
put_control-requires c =
    let found = c.in-Ok.ensures in
    let octets = c.args.octets.now in
    let shorter = control-no-longer (plain_control c.in-Ok.control) (take c.in-Ok.field-0-1 octets) found.1 in
    record { fits = found.1.fits; few = shorter.1; room = omega (arith, shorter.0, length-take-le c.in-Ok.field-0-1 octets found.0) }
