use Rattle.std.proofs.Common.{arith}
use Rattle.rfcomm_frames.specs.Frames.{plain}
use Rattle.rfcomm_frames.proofs.OneAnswer.{no-longer}
use Rattle.codec_tests.proofs.rfcomm_frames_tests.put_frame_again.Goals as goal

pub put_frame-requires : goal.put_frame-requires
put_frame-requires c =
    let spelled = c.in-Ok.ensures in
    let shorter = no-longer (plain c.in-Ok.frame) c.args.octets.now spelled in
    record { fits = spelled.form.fits; few = shorter.1; room = omega (arith, shorter.0) }
