-- What an answer says of its frame or its message.
use Rattle.std.proofs.Common.{ℕ, zero, suc, ◌<◌, ◌≤◌, List, length, take, Result, Ok, Err, IfOk, arith}
use Rattle.rfcomm_frames.specs.declared.frame.MuxFrame.{MuxFrame}
use Rattle.rfcomm_frames.specs.declared.control.Control.{Control}
use Rattle.rfcomm_frames.specs.declared.refusal.MuxRefusal.{MuxRefusal}
use Rattle.rfcomm_frames.specs.Answers.{answer, IsAnswer}
use Rattle.rfcomm_frames.specs.Controls.{plain_control, IsControl, SpellsControl, PlainControl}
use Rattle.rfcomm_frames.specs.ControlAnswers.{control_answer, IsControlAnswer}

pub dlci_fits : (octets : List ℕ) (r : Result MuxFrame MuxRefusal) → IsAnswer octets (answer r) → IfOk r (λ frame. frame.dlci < 64)
dlci_fits octets (Ok frame) is = is.form.fits.dlci_fits
dlci_fits octets (Err refusal) is = tt

pub used_fits : (octets : List ℕ) (r : Result (Control × ℕ) MuxRefusal) → IsControlAnswer octets (control_answer r) → IfOk r (λ found. found.1 ≤ length octets)
used_fits octets (Ok found) is = is.0
used_fits octets (Err refusal) is = tt

spelled_some : (control : PlainControl) (used : ℕ) (octets : List ℕ) → SpellsControl control (take used octets) → 0 < used
spelled_some control zero octets s = let e = s.parts in cc
spelled_some control (suc used) octets s = omega arith

pub used_some : (octets : List ℕ) (r : Result (Control × ℕ) MuxRefusal) → IsControlAnswer octets (control_answer r) → IfOk r (λ found. 0 < found.1)
used_some octets (Ok found) is = spelled_some (plain_control found.0) found.1 octets is.1
used_some octets (Err refusal) is = tt

pub control_fits : (octets : List ℕ) (r : Result (Control × ℕ) MuxRefusal) → IsControlAnswer octets (control_answer r) → IfOk r (λ found. IsControl (plain_control found.0))
control_fits octets (Ok found) is = is.1.fits
control_fits octets (Err refusal) is = tt
