-- From a control field and what follows it to the frame of a PDU.
use Rattle.std.proofs.Common.{◌≡◌, ℕ, zero, suc, ◌+◌, ◌-◌, ◌/◌, ◌%◌, ◌^◌, ◌<◌, ◌≤◌, false, ◌==◌, List, ◌++◌, length, drop, Ok, Err, refl, sym, ap, subst, ◌∙◌, arith, inl, inr}
use Rattle.std.proofs.lemmas.Bool.{ne_eqb}
use Rattle.std.proofs.lemmas.List.{get_or-drop, length-drop, length-take-le}
use Rattle.bt_base.specs.Octets.{IsOctets, le16}
use Rattle.check_words.specs.CheckWords.{L2capCheckHolds}
use Rattle.ertm_frames.specs.declared.refusal.FrameRefusal.TheVariants.{Short, BadFcs, ReservedSet, BadStart, AboveMps}
use Rattle.ertm_frames.specs.Frames.{PlainFrame, bit, control_of, body_of, covered, IsInformation, Spells}
use Rattle.ertm_frames.specs.Answers.{Answer, word_at, middle, IsWhole, IsStart, IsNoStart, IsAnswer}
use Rattle.ertm_frames.specs.Steps.{IsJudged, IsMeasured, information_of}
use Rattle.ertm_frames.proofs.Parts.{word_split, word_below, parts_are}

pub bit_is : (u : ℕ) → u < 2 → bit (u == 1) ≡ u
bit_is zero le = refl
bit_is (suc zero) le = refl
bit_is (suc (suc u)) le = absurd (omega arith)

octets_behind : (n : ℕ) (p : List ℕ) → IsOctets p → IsOctets (drop n p)
octets_behind n p fits i = rw get_or-drop (fits (n + i))

control_again : (control total : ℕ) (octets : List ℕ) → control % 2 ≡ 0 → control < 2 ^ 16 → control ≡ control_of (information_of control total octets)
control_again control total octets even fits =
    let final : bit (control / 0x80 % 2 == 1) ≡ control / 0x80 % 2 = bit_is (control / 0x80 % 2) (omega arith) in
    omega arith

-- the start of an SDU: its length stands before the octets
pub start_is : (mps control total : ℕ) (body octets : List ℕ) (a : Answer) → IsOctets body → 2 ≤ length body → IsStart control → control < 2 ^ 16
    → total ≡ word_at 0 body → octets ≡ drop 2 body → IsMeasured mps control total octets a → IsJudged mps control body a
start_is mps control total body octets (Ok frame) fits long start small total_is octets_are (is, within) =
    let even : control % 2 ≡ 0 = start.0 in
    let sar : control / 0x4000 ≡ 1 = start.1 in
    let numbers : IsInformation (control / 0x02 % 64) (control / 0x100 % 64) (control / 0x4000) total octets = record {
      tx_fits = omega arith;
      req_fits = omega arith;
      sar_fits = omega arith;
      total_fits = omega (arith, word_below 0 body fits);
      stated = λ other. absurd (other sar);
      are_octets = subst IsOctets (sym octets_are) (octets_behind 2 body fits);
    } in
    let spelled : body ≡ body_of (information_of control total octets) =
    word_split 0 2 body fits refl long ∙ rw (sar, total_is, octets_are) refl in
    let all : IsJudged mps control body (Ok (information_of control total octets)) = (control_again control total octets even small, spelled, numbers, within) in
    subst (λ (f : PlainFrame). IsJudged mps control body (Ok f)) (sym is) all
start_is mps control total body octets (Err Short) fits long start small total_is octets_are h = h
start_is mps control total body octets (Err BadFcs) fits long start small total_is octets_are h = h
start_is mps control total body octets (Err ReservedSet) fits long start small total_is octets_are h = absurd h
start_is mps control total body octets (Err BadStart) fits long start small total_is octets_are h = absurd h
start_is mps control total body octets (Err AboveMps) fits long start small total_is octets_are h =
    inl (start, omega (arith, ap length octets_are, length-drop 2 body))

-- another I-frame: nothing but octets
pub segment_is : (mps control : ℕ) (body : List ℕ) (a : Answer) → IsOctets body → IsNoStart control → control < 2 ^ 16
    → IsMeasured mps control 0 body a → IsJudged mps control body a
segment_is mps control body (Ok frame) fits other small (is, within) =
    let even : control % 2 ≡ 0 = other.0 in
    let numbers : IsInformation (control / 0x02 % 64) (control / 0x100 % 64) (control / 0x4000) 0 body = record {
      tx_fits = omega arith;
      req_fits = omega arith;
      sar_fits = omega arith;
      total_fits = omega arith;
      stated = λ none. refl;
      are_octets = fits;
    } in
    let sar : (control / 0x4000 == 1) ≡ false = ne_eqb (control / 0x4000) 1 other.1 in
    let all : IsJudged mps control body (Ok (information_of control 0 body)) = (control_again control 0 body even small, rw sar refl, numbers, within) in
    subst (λ (f : PlainFrame). IsJudged mps control body (Ok f)) (sym is) all
segment_is mps control body (Err Short) fits other small h = h
segment_is mps control body (Err BadFcs) fits other small h = h
segment_is mps control body (Err ReservedSet) fits other small h = absurd h
segment_is mps control body (Err BadStart) fits other small h = absurd h
segment_is mps control body (Err AboveMps) fits other small h = inr (other, h)

-- a PDU that is whole and whose check word holds is answered as its control field and what follows it are
pub answer_is : (mps control : ℕ) (pdu body : List ℕ) (a : Answer) → IsOctets pdu → IsWhole pdu → L2capCheckHolds pdu
    → control ≡ word_at 4 pdu → body ≡ middle pdu → IsJudged mps control body a → IsAnswer mps pdu a
answer_is mps control pdu body (Ok frame) fits all holds control_is body_is (same_control, same_body, is, within) =
    let m : ℕ = length pdu - 8 in
    let size : length (middle pdu) ≡ m = length-take-le m (drop 6 pdu) (omega (arith, length-drop 6 pdu)) in
    let field : control_of frame ≡ word_at 4 pdu = sym same_control ∙ control_is in
    let rest : body_of frame ≡ middle pdu = sym same_body ∙ body_is in
    let count : length (body_of frame) ≡ m = ap length rest ∙ size in
    let cid : ℕ = word_at 2 pdu in
    let check : List ℕ = le16 (word_at (length pdu - 2) pdu) in
    let spelled : Spells cid frame pdu = record {
      check = word_at (length pdu - 2) pdu;
      parts = parts_are pdu fits all
          ∙ ap (λ (k : ℕ). covered cid k (middle pdu) ++ check) (sym field)
          ∙ ap (λ (w : List ℕ). covered cid (control_of frame) w ++ check) (sym rest);
      holds = holds;
      cid_fits = word_below 2 pdu fits;
      length_fits = omega (arith, word_below 0 pdu fits);
      fits = is;
    } in
    ((cid, spelled), within)
answer_is mps control pdu body (Err Short) fits all holds control_is body_is h = absurd h
answer_is mps control pdu body (Err BadFcs) fits all holds control_is body_is h = absurd h
answer_is mps control pdu body (Err ReservedSet) fits all holds control_is body_is h = (all, holds, rw (← control_is, ← body_is) h)
answer_is mps control pdu body (Err BadStart) fits all holds control_is body_is h = (all, holds, rw (← control_is, ← body_is) h)
answer_is mps control pdu body (Err AboveMps) fits all holds control_is body_is h = (all, holds, rw (← control_is, ← body_is) h)
