use Rattle.std.proofs.Common.{refl, arith}
use Rattle.codec_tests.proofs.ertm_frames_tests.put_information.Goals as goal

pub put_frame-requires-clause-fits : goal.put_frame-requires-clause-fits
put_frame-requires-clause-fits c = record {
  tx_fits = omega arith;
  req_fits = omega arith;
  sar_fits = omega arith;
  total_fits = omega arith;
  stated = λ other. refl;
  are_octets = λ i. omega (arith, c.type_inv.octets i);
}
