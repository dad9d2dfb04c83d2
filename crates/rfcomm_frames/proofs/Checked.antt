-- The check word of octets that have the form of a frame.
use Rattle.std.proofs.Common.{◌≡◌, ◌≢◌, ℕ, ◌-◌, ◌<◌, List, length, get_or, take, if◌then◌else◌, sym, ap, ◌∙◌}
use Rattle.check_words.specs.CheckWords.{low_bits, rfcomm_check, RfcommCheckHolds}
use Rattle.check_words.proofs.LowBits.{low_bits-same}
use Rattle.rfcomm_frames.specs.Frames.{PlainFrame, carries, covered, HasForm, Spells}
use Rattle.rfcomm_frames.proofs.Forms.{says, covered_is}

module _ (frame : PlainFrame) (octets : List ℕ) (form : HasForm frame octets) (size word : ℕ)
    (size_is : size ≡ (if carries frame.kind then 2 else length octets - 1)) where
  word_is : low_bits 8 word ≡ rfcomm_check (take size octets) → low_bits 8 word ≡ rfcomm_check (covered form.field frame)
  word_is made = made ∙ ap (λ (k : ℕ). rfcomm_check (take k octets)) size_is ∙ ap rfcomm_check (covered_is frame octets form)

  pub check_holds : low_bits 8 word ≡ rfcomm_check (take size octets) → word ≡ get_or octets (length octets - 1) 0 → Spells frame octets
  check_holds made same =
      let last : word ≡ form.check = same ∙ (says frame octets form).last in
      record { form = form; holds = ap (low_bits 8) (sym last) ∙ word_is made }

  pub check_fails : word < 256 → low_bits 8 word ≡ rfcomm_check (take size octets) → word ≢ get_or octets (length octets - 1) 0
      → (f : PlainFrame) × (other : HasForm f octets) × ¬ RfcommCheckHolds (covered other.field f) other.check
  check_fails small made differ =
      let fails : ¬ RfcommCheckHolds (covered form.field frame) form.check = λ holds.
      differ (low_bits-same 8 word form.check small form.check_fits (word_is made ∙ sym holds) ∙ sym (says frame octets form).last) in
      (frame, form, fails)
