-- What is answered to a PDU on a channel in enhanced retransmission mode.
use Rattle.std.specs.Prelude.{ℕ, ◌+◌, ◌-◌, ◌*◌, ◌/◌, ◌%◌, ◌<◌, ◌≤◌, ◌≡◌, ◌≢◌, ◌⊎◌, ⊤, List, length, slice_index, take, drop, Result, Ok, Err}
use Rattle.check_words.specs.CheckWords.{L2capCheckHolds}
use Rattle.ertm_frames.specs.declared.frame.Frame.{Frame}
use Rattle.ertm_frames.specs.declared.refusal.FrameRefusal.{FrameRefusal}
use Rattle.ertm_frames.specs.declared.refusal.FrameRefusal.TheVariants.{Short, BadFcs, ReservedSet, BadStart, AboveMps}
use Rattle.ertm_frames.specs.Frames.{PlainFrame, information, supervisory, plain, Spells}

abbrev pub Answer : Type 0
Answer = Result PlainFrame FrameRefusal

-- what code returns, apart from where its octets lie in memory
abbrev pub answer : Result Frame FrameRefusal → Answer
answer (Ok frame) = Ok (plain frame)
answer (Err refusal) = Err refusal

-- the number in the two octets from a place on
abbrev pub word_at : ℕ → List ℕ → ℕ
word_at place octets = slice_index octets place + 256 * slice_index octets (place + 1)

-- a basic header, a control field and a check word have room, and the length is that of what follows the header
abbrev pub IsWhole : List ℕ → Type 0
IsWhole pdu = (8 ≤ length pdu) × (word_at 0 pdu + 4 ≡ length pdu)

-- what stands between the control field and the check word
abbrev pub middle : List ℕ → List ℕ
middle pdu = take (length pdu - 8) (drop 6 pdu)

-- bits 1, 5, 6, 14 and 15 of the control field of an S-frame are reserved (Core 5.1, Volume 3 Part A, 3.3.2)
abbrev pub HasReservedBit : ℕ → Type 0
HasReservedBit control = (control / 0x02 % 2 ≢ 0) ⊎ (control / 0x20 % 4 ≢ 0) ⊎ (control / 0x4000 ≢ 0)

-- the control field is that of an S-frame, of the start of an SDU, of another I-frame
abbrev pub IsSupervisory : ℕ → Type 0
IsSupervisory control = control % 2 ≡ 1

abbrev pub IsStart : ℕ → Type 0
IsStart control = (control % 2 ≡ 0) × (control / 0x4000 ≡ 1)

abbrev pub IsNoStart : ℕ → Type 0
IsNoStart control = (control % 2 ≡ 0) × (control / 0x4000 ≢ 1)

-- why a control field and what follows it are no frame. An S-frame has no octets, a start has the length of its
-- SDU, and the octets of an I-frame, that length left out, are at most as many as the receiver takes.
abbrev pub Faults : ℕ → ℕ → List ℕ → FrameRefusal → Type 0
Faults mps control body Short = ⊥
Faults mps control body BadFcs = ⊥
Faults mps control body ReservedSet = IsSupervisory control × (HasReservedBit control ⊎ (0 < length body))
Faults mps control body BadStart = IsStart control × (length body < 2)
Faults mps control body AboveMps = (IsStart control × (mps + 2 < length body)) ⊎ (IsNoStart control × (mps < length body))

-- why a PDU is refused: it is not whole; else its check word does not hold; else what it holds is no frame
abbrev pub Refuses : ℕ → List ℕ → FrameRefusal → Type 0
Refuses mps pdu Short = ¬ IsWhole pdu
Refuses mps pdu BadFcs = IsWhole pdu × ¬ L2capCheckHolds pdu
Refuses mps pdu ReservedSet = IsWhole pdu × L2capCheckHolds pdu × Faults mps (word_at 4 pdu) (middle pdu) ReservedSet
Refuses mps pdu BadStart = IsWhole pdu × L2capCheckHolds pdu × Faults mps (word_at 4 pdu) (middle pdu) BadStart
Refuses mps pdu AboveMps = IsWhole pdu × L2capCheckHolds pdu × Faults mps (word_at 4 pdu) (middle pdu) AboveMps

-- a frame has no more octets than the receiver takes
abbrev pub IsWithin : ℕ → PlainFrame → Type 0
IsWithin mps (information tx final req sar total octets) = length octets ≤ mps
IsWithin mps (supervisory kind poll final req) = ⊤

-- what is answered: the frame that the PDU spells, on whatever channel, or why it is refused
abbrev pub IsAnswer : ℕ → List ℕ → Answer → Type 0
IsAnswer mps pdu (Ok frame) = ((cid : ℕ) × Spells cid frame pdu) × IsWithin mps frame
IsAnswer mps pdu (Err refusal) = Refuses mps pdu refusal
