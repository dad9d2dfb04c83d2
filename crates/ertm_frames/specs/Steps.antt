-- What the steps of reading answer: the check that goes first, then the control field and what follows it.
use Rattle.std.specs.Prelude.{ℕ, ◌/◌, ◌%◌, ◌<◌, ◌≤◌, ◌≡◌, ◌==◌, List, length, Result, Ok, Err}
use Rattle.check_words.specs.CheckWords.{L2capCheckHolds}
use Rattle.ertm_frames.specs.declared.refusal.FrameRefusal.{FrameRefusal}
use Rattle.ertm_frames.specs.declared.refusal.FrameRefusal.TheVariants.{Short, BadFcs, ReservedSet, BadStart, AboveMps}
use Rattle.ertm_frames.specs.Frames.{PlainFrame, information, control_of, body_of, IsFrame}
use Rattle.ertm_frames.specs.Answers.{Answer, word_at, IsWhole, IsWithin, Faults}

-- what is answered to a control field and what follows it
abbrev pub IsJudged : ℕ → ℕ → List ℕ → Answer → Type 0
IsJudged mps control body (Ok frame) = (control ≡ control_of frame) × (body ≡ body_of frame) × IsFrame frame × IsWithin mps frame
IsJudged mps control body (Err refusal) = Faults mps control body refusal

-- the control field of a PDU that is whole and whose check word holds
abbrev pub IsChecked : List ℕ → Result ℕ FrameRefusal → Type 0
IsChecked pdu (Ok control) = IsWhole pdu × L2capCheckHolds pdu × (control ≡ word_at 4 pdu)
IsChecked pdu (Err Short) = ¬ IsWhole pdu
IsChecked pdu (Err BadFcs) = IsWhole pdu × ¬ L2capCheckHolds pdu
IsChecked pdu (Err ReservedSet) = ⊥
IsChecked pdu (Err BadStart) = ⊥
IsChecked pdu (Err AboveMps) = ⊥

-- the I-frame of a control field, a length and octets
abbrev pub information_of : ℕ → ℕ → List ℕ → PlainFrame
information_of control total octets =
    information (control / 0x02 % 64) (control / 0x80 % 2 == 1) (control / 0x100 % 64) (control / 0x4000) total octets

-- and what is answered to them where the octets may be too many
abbrev pub IsMeasured : ℕ → ℕ → ℕ → List ℕ → Answer → Type 0
IsMeasured mps control total octets (Ok frame) = (frame ≡ information_of control total octets) × (length octets ≤ mps)
IsMeasured mps control total octets (Err Short) = ⊥
IsMeasured mps control total octets (Err BadFcs) = ⊥
IsMeasured mps control total octets (Err ReservedSet) = ⊥
IsMeasured mps control total octets (Err BadStart) = ⊥
IsMeasured mps control total octets (Err AboveMps) = mps < length octets
