-- Which PDUs are picked by their numbers.
use Rattle.std.proofs.Common.{◌≡◌, ℕ, ◌+◌, ◌/◌, ◌%◌, ◌||◌, Bool, true, false, cond, not, eqb, List, [], ◌∷◌, drop, slice_index, nat_lt, length, Ok, Err, refl, sym, ap, ◌∙◌, arith, append-nil}
use Rattle.std.proofs.lemmas.Bool.{eq-eqb}
use Rattle.std.specs.Prelude.{Option, option_map}
use Rattle.bt_base.specs.Octets.{IsOctets}
use Rattle.ertm_frames.specs.declared.refusal.FrameRefusal.TheVariants.{Short, BadFcs, ReservedSet, BadStart, AboveMps}
use Rattle.ertm_frames.specs.Answers.{Answer, IsAnswer, word_at, middle}
use Rattle.ertm_frames.specs.Steps.{information_of}
use Rattle.ertm_frames.specs.Frames.{supervisory}
use Rattle.ertm_frames.specs.Reading.{is_whole, check_holds, has_reserved_bit, kind_of, judged_in, answer_in, frame_by, frame_in}
use Rattle.ertm_frames.proofs.Spelled.{one-answer}
use Rattle.ertm_frames.proofs.WorkedOut.{answer-is_worked_out}
use Rattle.ertm_frames.specs.Segments.{Segment}
use Rattle.ertm_frames.specs.Joining.{joint, joined_by, ended_by, Joining, joined, ended}
use Rattle.link_talk.specs.Picks.{pick_in}
use Rattle.link_readers.specs.talk_laws.specs.Sdus.{Ear, segment_of, ear_after}
use Rattle.object_lines.specs.declared.segments.Begun.{Begun as LentBegun}
use Rattle.object_lines.specs.Ears.{plain_begun, joining_by}
use Rattle.object_lines.specs.Matters.{short_ear}
use Rattle.object_lines.proofs.Mattering.{short_picks}

-- a frame that was read is the one that is defined
pub frame_is : (mps : ℕ) (pdu : List ℕ) (given : Answer) → IsOctets pdu → IsAnswer mps pdu given → frame_by given ≡ frame_in mps pdu
frame_is mps pdu given octets is = ap frame_by (one-answer mps pdu given (answer_in mps pdu) is (answer-is_worked_out mps pdu octets))

checked_none : (n : ℕ) (short bad : Bool) (judged : Answer) → pick_in n (frame_by judged) ≡ [] → pick_in n (frame_by (cond short (Err Short) (cond bad (Err BadFcs) judged))) ≡ []
checked_none n true bad judged none = refl
checked_none n false true judged none = refl
checked_none n false false judged none = none

supervisory_none : (n control : ℕ) (reserved : Bool)
    → pick_in n (frame_by (cond reserved (Err ReservedSet) (Ok (supervisory (kind_of (control / 4 % 4)) (eqb (control / 16 % 2) 1) (eqb (control / 128 % 2) 1) (control / 256 % 64))))) ≡ []
supervisory_none n control true = refl
supervisory_none n control false = refl

measured_none : (n control total : ℕ) (octets : List ℕ) (above : Bool) → eqb (control / 2 % 64) (n % 64) ≡ false → pick_in n (frame_by (cond above (Err AboveMps) (Ok (information_of control total octets)))) ≡ []
measured_none n control total octets true other = refl
measured_none n control total octets false other = ap (λ is. cond is (record { sar = control / 16384; total = total; octets = octets } ∷ []) []) other

judged_none : (n mps control : ℕ) (body : List ℕ) (odd starts bare : Bool) → (odd ≡ false → eqb (control / 2 % 64) (n % 64) ≡ false)
    → pick_in n (frame_by (cond odd (cond (has_reserved_bit control || nat_lt 0 (length body)) (Err ReservedSet) (Ok (supervisory (kind_of (control / 4 % 4)) (eqb (control / 16 % 2) 1) (eqb (control / 128 % 2) 1) (control / 256 % 64))))
    (cond starts (cond bare (Err BadStart) (cond (nat_lt mps (length (drop 2 body))) (Err AboveMps) (Ok (information_of control (word_at 0 body) (drop 2 body))))) (cond (nat_lt mps (length body)) (Err AboveMps) (Ok (information_of control 0 body)))))) ≡ []
judged_none n mps control body true starts bare other = supervisory_none n control (has_reserved_bit control || nat_lt 0 (length body))
judged_none n mps control body false true true other = refl
judged_none n mps control body false true false other = measured_none n control (word_at 0 body) (drop 2 body) (nat_lt mps (length (drop 2 body))) (other refl)
judged_none n mps control body false false bare other = measured_none n control 0 body (nat_lt mps (length body)) (other refl)

none_picked : (n mps : ℕ) (pdu : List ℕ) → (eqb (word_at 4 pdu % 2) 1 ≡ false → eqb (word_at 4 pdu / 2 % 64) (n % 64) ≡ false) → pick_in n (frame_in mps pdu) ≡ []
none_picked n mps pdu other =
    let control = word_at 4 pdu in
    let body = middle pdu in
    checked_none n (not (is_whole pdu)) (not (check_holds pdu)) (judged_in mps control body) (judged_none n mps control body (eqb (control % 2) 1) (eqb (control / 16384) 1) (nat_lt (length body) 2) other)

true_false : (b : Bool) → b ≡ true → b ≡ false → ⊥
true_false true is not = cc
true_false false is not = cc

-- the first octet of the control field tells that it is no I-frame
pub odd_none : (n mps : ℕ) (pdu : List ℕ) → slice_index pdu 4 % 2 ≡ 1 → pick_in n (frame_in mps pdu) ≡ []
odd_none n mps pdu odd = none_picked n mps pdu (λ even. absurd (true_false (eqb (word_at 4 pdu % 2) 1) (eq-eqb (word_at 4 pdu % 2) 1 (omega (arith, odd))) even))

-- or that its number is another
pub other_none : (n mps : ℕ) (pdu : List ℕ) → eqb (slice_index pdu 4 / 2 % 64) (n % 64) ≡ false → pick_in n (frame_in mps pdu) ≡ []
other_none n mps pdu other = none_picked n mps pdu (λ even. ap (λ m. eqb m (n % 64)) same ∙ other)
  where
    same : word_at 4 pdu / 2 % 64 ≡ slice_index pdu 4 / 2 % 64
    same = omega arith

-- ---- one PDU more

abbrev pub ear_at : ℕ → Joining → Ear
ear_at next joining = record { next = next; joining = joining }

-- what is held behind the segments of a PDU
pub heard_is : (most next later : ℕ) (joining after : Joining) (pdu : List ℕ) (segments : List Segment) → segments ≡ pick_in next (frame_in most pdu) → later % 64 ≡ (next % 64 + length segments) % 64 → after ≡ joined joining segments
    → ear_at (later % 64) after ≡ short_ear (ear_after most (ear_at (next % 64) joining) pdu)
heard_is most next later joining after pdu segments are numbers joins =
    ap (λ n. ear_at n after) numbers
    ∙ ap (ear_at ((next % 64 + length segments) % 64)) joins
    ∙ ap (λ (s : List Segment). ear_at ((next % 64 + length s) % 64) (joined joining s)) (are ∙ short_picks next (frame_in most pdu))

-- and the SDUs that end with them
pub ended_is : (most next : ℕ) (joining : Joining) (pdu : List ℕ) (segments : List Segment) → segments ≡ pick_in next (frame_in most pdu) → ended joining segments ≡ ended joining (segment_of most (ear_at (next % 64) joining) pdu)
ended_is most next joining pdu segments are = ap (ended joining) (are ∙ short_picks next (frame_in most pdu))

pub none_more : (n : ℕ) → n % 64 ≡ (n % 64 + 0) % 64
none_more n = omega arith

-- where a segment had no place no more counts
pub stopped_stays : (stopped : Bool) (begun : Option LentBegun) (segment : Segment) → stopped ≡ true → joining_by stopped begun ≡ joined (joining_by stopped begun) (segment ∷ [])
stopped_stays true begun segment is = refl
stopped_stays false begun segment is = cc

pub stopped_none : (stopped : Bool) (begun : Option LentBegun) (segment : Segment) → stopped ≡ true → [] ≡ ended (joining_by stopped begun) (segment ∷ [])
stopped_none true begun segment is = refl
stopped_none false begun segment is = cc

pub going_on : (stopped : Bool) (begun : Option LentBegun) (segment : Segment) → stopped ≡ false → joined_by (joint (option_map plain_begun begun) segment) ≡ joined (joining_by stopped begun) (segment ∷ [])
going_on false begun segment is = refl
going_on true begun segment is = cc

pub going_ends : (stopped : Bool) (begun : Option LentBegun) (segment : Segment) → stopped ≡ false → ended_by (joint (option_map plain_begun begun) segment) ≡ ended (joining_by stopped begun) (segment ∷ [])
going_ends false begun segment is = sym (append-nil (ended_by (joint (option_map plain_begun begun) segment)))
going_ends true begun segment is = cc
