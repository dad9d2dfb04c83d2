-- The answer to a PDU on a channel in enhanced retransmission mode, worked out (Core 5.1, Volume 3 Part A, 3.3).
use Rattle.std.specs.Prelude.{ℕ, ◌+◌, ◌/◌, ◌%◌, ◌==◌, Bool, true, false, not, ◌&&◌, ◌||◌, nat_lt, nat_le, List, [], ◌∷◌, length, drop, Option, Some, None, Ok, Err, if◌then◌else◌}
use Rattle.std.specs.List.{filter_map}
use Rattle.bt_base.specs.Octets.{IsOctets}
use Rattle.check_words.specs.Division.{remainder, zeros}
use Rattle.check_words.specs.CheckWords.{bits_of, l2cap_generator}
use Rattle.ertm_frames.specs.declared.frame.SKind.{SKind}
use Rattle.ertm_frames.specs.declared.frame.SKind.TheVariants.{Rr, Rej, Rnr, Srej}
use Rattle.ertm_frames.specs.declared.refusal.FrameRefusal.TheVariants.{Short, BadFcs, ReservedSet, BadStart, AboveMps}
use Rattle.ertm_frames.specs.Frames.{PlainFrame, supervisory}
use Rattle.ertm_frames.specs.Answers.{Answer, word_at, middle, IsAnswer}
use Rattle.ertm_frames.specs.Steps.{information_of}

abbrev pub same_bit : Bool → Bool → Bool
same_bit true b = b
same_bit false b = not b

abbrev pub same_bits : List Bool → List Bool → Bool
same_bits [] [] = true
same_bits [] (y ∷ ys) = false
same_bits (x ∷ xs) [] = false
same_bits (x ∷ xs) (y ∷ ys) = same_bit x y && same_bits xs ys

-- the check word holds
abbrev pub check_holds : List ℕ → Bool
check_holds pdu = same_bits (remainder l2cap_generator (bits_of pdu)) (zeros 16)

abbrev pub is_whole : List ℕ → Bool
is_whole pdu = nat_le 8 (length pdu) && (word_at 0 pdu + 4 == length pdu)

abbrev pub has_reserved_bit : ℕ → Bool
has_reserved_bit control = not (control / 0x02 % 2 == 0) || (not (control / 0x20 % 4 == 0) || not (control / 0x4000 == 0))

abbrev pub kind_of : ℕ → SKind
kind_of n = if n == 0 then Rr else (if n == 1 then Rej else (if n == 2 then Rnr else Srej))

abbrev pub supervisory_in : ℕ → List ℕ → Answer
supervisory_in control body =
    if has_reserved_bit control || nat_lt 0 (length body) then Err ReservedSet
    else Ok (supervisory (kind_of (control / 0x04 % 4)) (control / 0x10 % 2 == 1) (control / 0x80 % 2 == 1) (control / 0x100 % 64))

abbrev pub measured_in : ℕ → ℕ → ℕ → List ℕ → Answer
measured_in mps control total octets = if nat_lt mps (length octets) then Err AboveMps else Ok (information_of control total octets)

abbrev pub start_in : ℕ → ℕ → List ℕ → Answer
start_in mps control body = if nat_lt (length body) 2 then Err BadStart else measured_in mps control (word_at 0 body) (drop 2 body)

abbrev pub judged_in : ℕ → ℕ → List ℕ → Answer
judged_in mps control body =
    if control % 2 == 1 then supervisory_in control body
    else (if control / 0x4000 == 1 then start_in mps control body else measured_in mps control 0 body)

abbrev pub answer_in : ℕ → List ℕ → Answer
answer_in mps pdu =
    if not (is_whole pdu) then Err Short
    else (if not (check_holds pdu) then Err BadFcs else judged_in mps (word_at 4 pdu) (middle pdu))

abbrev pub frame_by : Answer → Option PlainFrame
frame_by (Ok frame) = Some frame
frame_by (Err refusal) = None

-- the frame that a PDU is, for a receiver that takes so many octets
abbrev pub frame_in : ℕ → List ℕ → Option PlainFrame
frame_in mps pdu = frame_by (answer_in mps pdu)

-- those of the PDUs that are frames
abbrev pub frames_in : ℕ → List (List ℕ) → List PlainFrame
frames_in mps pdus = filter_map (frame_in mps) pdus

-- it is the answer
abbrev pub AnswerIsWorkedOut : Type 0
AnswerIsWorkedOut = (mps : ℕ) (pdu : List ℕ) → IsOctets pdu → IsAnswer mps pdu (answer_in mps pdu)
