-- The answer that is worked out is the answer.
use Rattle.std.proofs.Common.{◌≡◌, ◌≢◌, ℕ, zero, suc, ◌+◌, ◌-◌, ◌/◌, ◌%◌, ◌<◌, ◌≤◌, Bool, true, false, not, cond, List, [], ◌∷◌, ◌++◌, length, take, drop, get_or, leb, Ok, Err, refl, ap, arith, ◌⊎◌, inl, inr}
use Rattle.std.specs.Prelude.{nat_lt, nat_le, ◌^◌, ◌==◌, ◌&&◌, ◌||◌}
use Rattle.std.specs.List.{AllByRecursion, cons_option}
use Rattle.std.proofs.lemmas.Bool.{eqb-true, eqb-false}
use Rattle.std.proofs.lemmas.Bool.Decides.{leb_tells}
use Rattle.std.proofs.lemmas.List.{get_or-drop, length-take, get_or-take, get_or_past}
use Rattle.bt_base.specs.Octets.{IsOctets}
use Rattle.check_words.specs.Division.{remainder, zeros}
use Rattle.check_words.specs.CheckWords.{bits_of, l2cap_generator, L2capCheckHolds}
use Rattle.ertm_frames.specs.declared.refusal.FrameRefusal.TheVariants.{Short, BadFcs, ReservedSet, BadStart, AboveMps}
use Rattle.ertm_frames.specs.Frames.{PlainFrame, information, supervisory, function_of, IsFrame}
use Rattle.ertm_frames.specs.Answers.{Answer, word_at, middle, IsWhole, HasReservedBit, IsSupervisory, IsStart, IsAnswer}
use Rattle.ertm_frames.specs.Steps.{IsJudged, IsMeasured, information_of}
use Rattle.ertm_frames.specs.Segments.{Segment}
use Rattle.ertm_frames.specs.Joining.{IsSegment}
use Rattle.ertm_frames.specs.Picking.{segments_in, has_number, picked}
use Rattle.ertm_frames.specs.PickingLaws.{SdusAreSpelled}
use Rattle.ertm_frames.specs.Reading.{frame_by, frames_in, same_bit, same_bits, check_holds, is_whole, has_reserved_bit, kind_of, supervisory_in, measured_in, start_in, judged_in, answer_in, AnswerIsWorkedOut}
use Rattle.ertm_frames.proofs.Parts.{word_below}
use Rattle.ertm_frames.proofs.Longest.{joined-is_right}
use Rattle.ertm_frames.proofs.Judging.{bit_is, start_is, segment_is, answer_is}

-- ---- tests

abbrev Tells : Type 0 → Bool → Type 0
Tells P true = P
Tells P false = ¬ P

bits_tell : (x y : Bool) (xs ys : List Bool) (rest : Bool) → Tells (xs ≡ ys) rest → Tells (x ∷ xs ≡ y ∷ ys) (same_bit x y && rest)
bits_tell true true xs ys true e = ap (λ (l : List Bool). true ∷ l) e
bits_tell true true xs ys false e = λ h. e cc
bits_tell true false xs ys rest e = λ h. cc
bits_tell false true xs ys rest e = λ h. cc
bits_tell false false xs ys true e = ap (λ (l : List Bool). false ∷ l) e
bits_tell false false xs ys false e = λ h. e cc

same_tells : (xs ys : List Bool) → Tells (xs ≡ ys) (same_bits xs ys)
same_tells [] [] = refl
same_tells [] (y ∷ ys) = λ h. cc
same_tells (x ∷ xs) [] = λ h. cc
same_tells (x ∷ xs) (y ∷ ys) = bits_tell x y xs ys (same_bits xs ys) (same_tells xs ys)

le_tells : (a b : ℕ) → Tells (a ≤ b) (nat_le a b)
le_tells a b = elim (leb_tells a b) [
  | inl (e, le) ↦ rw e le
  | inr (e, lt) ↦ rw e (λ le. absurd (omega arith))
]

eq_by : (a b : ℕ) (same : Bool) → (a == b) ≡ same → Tells (a ≡ b) same
eq_by a b true e = eqb-true a b e
eq_by a b false e = eqb-false a b e

eq_tells : (a b : ℕ) → Tells (a ≡ b) (a == b)
eq_tells a b = eq_by a b (a == b) refl

and_tells : (P Q : Type 0) (p q : Bool) → Tells P p → Tells Q q → Tells (P × Q) (p && q)
and_tells P Q true true h k = (h, k)
and_tells P Q true false h k = λ both. k both.1
and_tells P Q false q h k = λ both. h both.0

or_tells : (P Q : Type 0) (p q : Bool) → Tells P p → Tells Q q → Tells (P ⊎ Q) (p || q)
or_tells P Q true q h k = inl h
or_tells P Q false true h k = inr k
or_tells P Q false false h k = λ one. elim one [ inl p ↦ h p | inr q ↦ k q ]

not_tells : (P : Type 0) (p : Bool) → Tells P p → Tells (¬ P) (not p)
not_tells P true h = λ none. none h
not_tells P false h = h

below : (a b : ℕ) → ¬ (a < b) → b ≤ a
below a b h = elim (leb_tells (suc a) b) [
  | inl (e, lt) ↦ absurd (h lt)
  | inr (e, le) ↦ omega arith
]

-- ---- an S-frame

kind_by : (n : ℕ) → n < 4 → function_of (kind_of n) ≡ n
kind_by zero h = refl
kind_by (suc zero) h = refl
kind_by (suc (suc zero)) h = refl
kind_by (suc (suc (suc zero))) h = refl
kind_by (suc (suc (suc (suc n)))) h = absurd (omega arith)

no_octets : (body : List ℕ) → ¬ (0 < length body) → body ≡ []
no_octets [] h = refl
no_octets (octet ∷ body) h = absurd (h (omega arith))

clear_is : (n : ℕ) → ¬ (n ≢ 0) → n ≡ 0
clear_is zero h = refl
clear_is (suc n) h = absurd (h (λ e. omega (arith, e)))

supervisory_by : (mps control : ℕ) (body : List ℕ) (bad : Bool) → IsSupervisory control → control < 2 ^ 16 → Tells (HasReservedBit control ⊎ (0 < length body)) bad
    → IsJudged mps control body (cond bad (Err ReservedSet) (Ok (supervisory (kind_of (control / 0x04 % 4)) (control / 0x10 % 2 == 1) (control / 0x80 % 2 == 1) (control / 0x100 % 64))))
supervisory_by mps control body true odd fits tells = (odd, tells)
supervisory_by mps control body false odd fits tells =
    let first : control / 0x02 % 2 ≡ 0 = clear_is (control / 0x02 % 2) (λ h. tells (inl (inl h))) in
    let second : control / 0x20 % 4 ≡ 0 = clear_is (control / 0x20 % 4) (λ h. tells (inl (inr (inl h)))) in
    let third : control / 0x4000 ≡ 0 = clear_is (control / 0x4000) (λ h. tells (inl (inr (inr h)))) in
    let kind = kind_by (control / 0x04 % 4) (omega arith) in
    let poll = bit_is (control / 0x10 % 2) (omega arith) in
    let final = bit_is (control / 0x80 % 2) (omega arith) in
    (omega arith, no_octets body (λ h. tells (inr h)), omega arith, tt)

reserved_tells : (control : ℕ) → Tells (HasReservedBit control) (has_reserved_bit control)
reserved_tells control =
    let first = control / 0x02 % 2 in
    let second = control / 0x20 % 4 in
    let third = control / 0x4000 in
    or_tells (first ≢ 0) ((second ≢ 0) ⊎ (third ≢ 0)) (not (first == 0)) (not (second == 0) || not (third == 0)) (not_tells (first ≡ 0) (first == 0) (eq_tells first 0))
    (or_tells (second ≢ 0) (third ≢ 0) (not (second == 0)) (not (third == 0)) (not_tells (second ≡ 0) (second == 0) (eq_tells second 0)) (not_tells (third ≡ 0) (third == 0) (eq_tells third 0)))

-- ---- an I-frame

even_is : (control : ℕ) → control % 2 ≢ 1 → control % 2 ≡ 0
even_is control h = omega (arith, h)

measured_by : (mps control total : ℕ) (octets : List ℕ) (long : Bool) → Tells (mps < length octets) long → IsMeasured mps control total octets (cond long (Err AboveMps) (Ok (information_of control total octets)))
measured_by mps control total octets true tells = tells
measured_by mps control total octets false tells = (refl, below mps (length octets) tells)

start_by : (mps control : ℕ) (body : List ℕ) (short : Bool) → IsStart control → control < 2 ^ 16 → IsOctets body → Tells (length body < 2) short
    → IsJudged mps control body (cond short (Err BadStart) (measured_in mps control (word_at 0 body) (drop 2 body)))
start_by mps control body true start fits octets tells = (start, tells)
start_by mps control body false start fits octets tells =
    start_is mps control (word_at 0 body) body (drop 2 body) (measured_in mps control (word_at 0 body) (drop 2 body)) octets (below (length body) 2 tells) start fits refl refl
    (measured_by mps control (word_at 0 body) (drop 2 body) (nat_lt mps (length (drop 2 body))) (le_tells (suc mps) (length (drop 2 body))))

data_by : (mps control : ℕ) (body : List ℕ) (starts : Bool) → control % 2 ≢ 1 → control < 2 ^ 16 → IsOctets body → Tells (control / 0x4000 ≡ 1) starts
    → IsJudged mps control body (cond starts (start_in mps control body) (measured_in mps control 0 body))
data_by mps control body true even fits octets tells =
    start_by mps control body (nat_lt (length body) 2) (even_is control even, tells) fits octets (le_tells (suc (length body)) 2)
data_by mps control body false even fits octets tells =
    segment_is mps control body (measured_in mps control 0 body) octets (even_is control even, tells) fits (measured_by mps control 0 body (nat_lt mps (length body)) (le_tells (suc mps) (length body)))

judged_by : (mps control : ℕ) (body : List ℕ) (odd : Bool) → control < 2 ^ 16 → IsOctets body → Tells (control % 2 ≡ 1) odd
    → IsJudged mps control body (cond odd (supervisory_in control body) (cond (control / 0x4000 == 1) (start_in mps control body) (measured_in mps control 0 body)))
judged_by mps control body true fits octets tells =
    supervisory_by mps control body (has_reserved_bit control || nat_lt 0 (length body)) tells fits
    (or_tells (HasReservedBit control) (0 < length body) (has_reserved_bit control) (nat_lt 0 (length body)) (reserved_tells control) (le_tells 1 (length body)))
judged_by mps control body false fits octets tells = data_by mps control body (control / 0x4000 == 1) tells fits octets (eq_tells (control / 0x4000) 1)

-- ---- a PDU

octet_inside : (n : ℕ) (octets : List ℕ) (i : ℕ) → get_or octets i 0 < 256 → ((leb (suc i) n ≡ true) × (suc i ≤ n)) ⊎ ((leb (suc i) n ≡ false) × (n < suc i)) → get_or (take n octets) i 0 < 256
octet_inside n octets i fits (inl (e, lt)) = rw get_or-take fits
octet_inside n octets i fits (inr (e, le)) = let none = get_or_past (take n octets) i 0 (let short = length-take n octets in omega arith) in rw none (omega arith)

octets_inside : (n : ℕ) (octets : List ℕ) → IsOctets octets → IsOctets (take n octets)
octets_inside n octets fits i = octet_inside n octets i (fits i) (leb_tells (suc i) n)

middle_octets : (pdu : List ℕ) → IsOctets pdu → IsOctets (middle pdu)
middle_octets pdu fits = octets_inside (length pdu - 8) (drop 6 pdu) (λ i. rw get_or-drop (fits (6 + i)))

answer_by : (mps : ℕ) (pdu : List ℕ) (all holds : Bool) → IsOctets pdu → Tells (IsWhole pdu) all → Tells (L2capCheckHolds pdu) holds
    → IsAnswer mps pdu (cond (not all) (Err Short) (cond (not holds) (Err BadFcs) (judged_in mps (word_at 4 pdu) (middle pdu))))
answer_by mps pdu false holds fits tells tells' = tells
answer_by mps pdu true false fits tells tells' = (tells, tells')
answer_by mps pdu true true fits tells tells' =
    answer_is mps (word_at 4 pdu) pdu (middle pdu) (judged_in mps (word_at 4 pdu) (middle pdu)) fits tells tells' refl refl
    (judged_by mps (word_at 4 pdu) (middle pdu) (word_at 4 pdu % 2 == 1) (word_below 4 pdu fits) (middle_octets pdu fits) (eq_tells (word_at 4 pdu % 2) 1))

pub answer-is_worked_out : AnswerIsWorkedOut
answer-is_worked_out mps pdu fits =
    answer_by mps pdu (is_whole pdu) (check_holds pdu) fits
    (and_tells (8 ≤ length pdu) (word_at 0 pdu + 4 ≡ length pdu) (nat_le 8 (length pdu)) (word_at 0 pdu + 4 == length pdu) (le_tells 8 (length pdu)) (eq_tells (word_at 0 pdu + 4) (length pdu)))
    (same_tells (remainder l2cap_generator (bits_of pdu)) (zeros 16))

-- ---- the segments that are picked of PDUs

-- ---- the segments that are picked of PDUs

abbrev IsRead : Answer → Type 0
IsRead (Ok frame) = IsFrame frame
IsRead (Err refusal) = Unit {0}

is_read : (mps : ℕ) (pdu : List ℕ) (a : Answer) → IsAnswer mps pdu a → IsRead a
is_read mps pdu (Ok frame) ((cid, spells), within) = spells.fits
is_read mps pdu (Err refusal) h = tt

more_read : (a : Answer) (frames : List PlainFrame) → IsRead a → AllByRecursion IsFrame frames → AllByRecursion IsFrame (cons_option (frame_by a) frames)
more_read (Ok frame) frames is all = (is, all)
more_read (Err refusal) frames is all = all

pub frames-are_frames : (mps : ℕ) (pdus : List (List ℕ)) → AllByRecursion IsOctets pdus → AllByRecursion IsFrame (frames_in mps pdus)
frames-are_frames mps [] octets = tt
frames-are_frames mps (pdu ∷ pdus) octets =
    more_read (answer_in mps pdu) (frames_in mps pdus) (is_read mps pdu (answer_in mps pdu) (answer-is_worked_out mps pdu octets.0)) (frames-are_frames mps pdus octets.1)

with_segments : (frame : PlainFrame) (segments : List Segment) → IsFrame frame → AllByRecursion IsSegment segments → AllByRecursion IsSegment (segments_in frame ++ segments)
with_segments (information tx final req sar total octets) segments is all = (record { sar_fits = is.sar_fits; stated = is.stated }, all)
with_segments (supervisory kind poll final req) segments is all = all

picked_by : (next : Bool) (frame : PlainFrame) (more same : List Segment) → IsFrame frame → AllByRecursion IsSegment more → AllByRecursion IsSegment same → AllByRecursion IsSegment (cond next (segments_in frame ++ more) same)
picked_by true frame more same is first second = with_segments frame more is first
picked_by false frame more same is first second = second

pub picked-are_segments : (n : ℕ) (frames : List PlainFrame) → AllByRecursion IsFrame frames → AllByRecursion IsSegment (picked n frames)
picked-are_segments n [] all = tt
picked-are_segments n (frame ∷ frames) all =
    picked_by (has_number n frame) frame (picked (n + 1) frames) (picked n frames) all.0 (picked-are_segments (n + 1) frames all.1) (picked-are_segments n frames all.1)

pub sdus-are_spelled : SdusAreSpelled
sdus-are_spelled mps pdus octets = joined-is_right (picked 0 (frames_in mps pdus)) (picked-are_segments 0 (frames_in mps pdus) (frames-are_frames mps pdus octets))
