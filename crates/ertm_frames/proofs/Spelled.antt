-- What is spelled is read as what it is, and as nothing else.
use Rattle.std.proofs.Common.{◌≡◌, ◌≢◌, ◌⊎◌, ℕ, ◌+◌, ◌*◌, ◌/◌, ◌%◌, ◌^◌, ◌<◌, Bool, true, false, ◌==◌, if◌then◌else◌, List, [], ◌∷◌, ◌++◌, length, Ok, Err, refl, sym, ap, subst, ◌∙◌, arith, inl, inr}
use Rattle.std.proofs.lemmas.Bool.{ne_eqb, cases_eq}
use Rattle.bt_base.specs.Octets.{le16}
use Rattle.bt_base.proofs.OctetLemmas.{le16-same}
use Rattle.check_words.specs.CheckWords.{L2capCheckHolds}
use Rattle.check_words.proofs.Octets.{changed-seen}
use Rattle.ertm_frames.specs.declared.frame.SKind.{SKind}
use Rattle.ertm_frames.specs.declared.frame.SKind.TheVariants.{Rr, Rej, Rnr, Srej}
use Rattle.ertm_frames.specs.declared.refusal.FrameRefusal.{FrameRefusal}
use Rattle.ertm_frames.specs.declared.refusal.FrameRefusal.TheVariants.{Short, BadFcs, ReservedSet, BadStart, AboveMps}
use Rattle.ertm_frames.specs.Frames.{PlainFrame, information, supervisory, bit, function_of, control_of, body_of, covered, IsFrame, Spells}
use Rattle.ertm_frames.specs.Answers.{Answer, word_at, middle, IsWhole, IsWithin, Faults, Refuses, IsAnswer}
use Rattle.ertm_frames.specs.Laws.{OneAnswer, OneFrame, WrittenIsRead, ChangedFramesAreSeen}
use Rattle.ertm_frames.proofs.Parts.{number, spelled_whole, spelled_middle}

bit_below : (b : Bool) → bit b < 2
bit_below true = omega arith
bit_below false = omega arith

bit_same : (a b : Bool) → bit a ≡ bit b → a ≡ b
bit_same true true e = refl
bit_same true false e = absurd (omega arith)
bit_same false true e = absurd (omega arith)
bit_same false false e = refl

function_below : (k : SKind) → function_of k < 4
function_below Rr = omega arith
function_below Rej = omega arith
function_below Rnr = omega arith
function_below Srej = omega arith

function_same : (k j : SKind) → function_of k ≡ function_of j → k ≡ j
function_same Rr Rr e = refl
function_same Rr Rej e = absurd (omega arith)
function_same Rr Rnr e = absurd (omega arith)
function_same Rr Srej e = absurd (omega arith)
function_same Rej Rr e = absurd (omega arith)
function_same Rej Rej e = refl
function_same Rej Rnr e = absurd (omega arith)
function_same Rej Srej e = absurd (omega arith)
function_same Rnr Rr e = absurd (omega arith)
function_same Rnr Rej e = absurd (omega arith)
function_same Rnr Rnr e = refl
function_same Rnr Srej e = absurd (omega arith)
function_same Srej Rr e = absurd (omega arith)
function_same Srej Rej e = absurd (omega arith)
function_same Srej Rnr e = absurd (omega arith)
function_same Srej Srej e = refl

pub control_below : (frame : PlainFrame) → IsFrame frame → control_of frame < 2 ^ 16
control_below (information tx final req sar total octets) is = omega (arith, is.tx_fits, is.req_fits, is.sar_fits, bit_below final)
control_below (supervisory kind poll final req) is = omega (arith, function_below kind, bit_below poll, bit_below final)

-- ---- a control field and what follows it are those of one frame

body_start : (total : ℕ) (octets : List ℕ) (sar : ℕ) → sar ≡ 1 → (if sar == 1 then le16 total else []) ++ octets ≡ le16 total ++ octets
body_start total octets sar e = rw e refl

body_other : (total : ℕ) (octets : List ℕ) (sar : ℕ) → sar ≢ 1 → (if sar == 1 then le16 total else []) ++ octets ≡ octets
body_other total octets sar ne = rw (ne_eqb sar 1 ne) refl

two_heads : (a b c d : ℕ) (xs ys : List ℕ) → a ∷ b ∷ xs ≡ c ∷ d ∷ ys → (a ∷ b ∷ [] ≡ c ∷ d ∷ []) × (xs ≡ ys)
two_heads a b c d xs ys e =
    let p : a ≡ c = cc in
    let q : b ≡ d = cc in
    let r : xs ≡ ys = cc in
    (rw (p, q) refl, r)

numbers_same : (tx req sar tx' req' sar' f f' : ℕ) → tx < 64 → req < 64 → sar < 4 → tx' < 64 → req' < 64 → sar' < 4 → f < 2 → f' < 2
    → 0x02 * tx + 0x80 * f + 0x100 * req + 0x4000 * sar ≡ 0x02 * tx' + 0x80 * f' + 0x100 * req' + 0x4000 * sar'
    → (tx ≡ tx') × (f ≡ f') × (req ≡ req') × (sar ≡ sar')
numbers_same tx req sar tx' req' sar' f f' a b c d e g h i same = (omega arith, omega arith, omega arith, omega arith)

bodies_same : (sar total total' : ℕ) (octets octets' : List ℕ) → total < 2 ^ 16 → total' < 2 ^ 16 → (sar ≢ 1 → total ≡ 0) → (sar ≢ 1 → total' ≡ 0)
    → (if sar == 1 then le16 total else []) ++ octets ≡ (if sar == 1 then le16 total' else []) ++ octets' → (total ≡ total') × (octets ≡ octets')
bodies_same sar total total' octets octets' fits fits' stated stated' same =
    elim (cases_eq sar 1) [
      | inl e ↦
          let both = two_heads (total % 256) (total / 256 % 256) (total' % 256) (total' / 256 % 256) octets octets' (sym (body_start total octets sar e) ∙ same ∙ body_start total' octets' sar e) in
          (le16-same total total' fits fits' both.0, both.1)
      | inr ne ↦ (stated ne ∙ sym (stated' ne), sym (body_other total octets sar ne) ∙ same ∙ body_other total' octets' sar ne)
    ]

frame_same : (frame frame' : PlainFrame) → IsFrame frame → IsFrame frame' → control_of frame ≡ control_of frame' → body_of frame ≡ body_of frame' → frame ≡ frame'
frame_same (information tx f req sar total octets) (information tx' f' req' sar' total' octets') is is' control body =
    let n = numbers_same tx req sar tx' req' sar' (bit f) (bit f') is.tx_fits is.req_fits is.sar_fits is'.tx_fits is'.req_fits is'.sar_fits (bit_below f) (bit_below f') control in
    let final : f ≡ f' = bit_same f f' n.1 in
    let back : sar' ≡ sar = sym n.3 in
    let stated' : sar ≢ 1 → total' ≡ 0 = λ ne. is'.stated (λ e. ne (n.3 ∙ e)) in
    let same : (if sar == 1 then le16 total else []) ++ octets ≡ (if sar == 1 then le16 total' else []) ++ octets' = body ∙ ap (λ (s : ℕ). (if s == 1 then le16 total' else []) ++ octets') back in
    let b = bodies_same sar total total' octets octets' is.total_fits is'.total_fits is.stated stated' same in
    rw (n.0, final, n.2, n.3, b.0, b.1) refl
frame_same (information tx f req sar total octets) (supervisory kind' poll' f' req') is is' control body = absurd (omega arith)
frame_same (supervisory kind poll f req) (information tx' f' req' sar' total' octets') is is' control body = absurd (omega arith)
frame_same (supervisory kind poll f req) (supervisory kind' poll' f' req') is is' control body =
    let k : function_of kind ≡ function_of kind' = omega (arith, function_below kind, function_below kind', bit_below poll, bit_below poll', bit_below f, bit_below f') in
    let p : bit poll ≡ bit poll' = omega (arith, function_below kind, function_below kind', bit_below poll, bit_below poll', bit_below f, bit_below f') in
    let l : bit f ≡ bit f' = omega (arith, function_below kind, function_below kind', bit_below poll, bit_below poll', bit_below f, bit_below f') in
    let r : req ≡ req' = omega (arith, function_below kind, function_below kind', bit_below poll, bit_below poll', bit_below f, bit_below f') in
    rw (function_same kind kind' k, bit_same poll poll' p, bit_same f f' l, r) refl

-- ---- what a spelling says

record Says (cid : ℕ) (frame : PlainFrame) (pdu : List ℕ) : Type 0 where
  all : IsWhole pdu
  channel : word_at 2 pdu ≡ cid
  control : word_at 4 pdu ≡ control_of frame
  body : middle pdu ≡ body_of frame

says : (cid : ℕ) (frame : PlainFrame) (pdu : List ℕ) → Spells cid frame pdu → Says cid frame pdu
says cid frame pdu s =
    let whole : List ℕ = covered cid (control_of frame) (body_of frame) ++ le16 s.check in
    let here : Says cid frame whole = record {
      all = spelled_whole cid (control_of frame) s.check (body_of frame) s.length_fits;
      channel = number cid s.cid_fits;
      control = number (control_of frame) (control_below frame s.fits);
      body = spelled_middle cid (control_of frame) s.check (body_of frame);
    } in
    subst (Says cid frame) (sym s.parts) here

pub one-frame : OneFrame
one-frame cid cid' frame frame' pdu s s' =
    let a = says cid frame pdu s in
    let b = says cid' frame' pdu s' in
    (sym a.channel ∙ b.channel, frame_same frame frame' s.fits s'.fits (sym a.control ∙ b.control) (sym a.body ∙ b.body))

-- ---- a frame is not refused

length-body : (tx req sar total : ℕ) (f : Bool) (octets : List ℕ) → sar ≡ 1 → length (body_of (information tx f req sar total octets)) ≡ 2 + length octets
length-body tx req sar total f octets e = ap length (body_start total octets sar e) ∙ omega arith

no_fault : (mps : ℕ) (frame : PlainFrame) (refusal : FrameRefusal) → IsFrame frame → IsWithin mps frame → Faults mps (control_of frame) (body_of frame) refusal → ⊥
no_fault mps frame Short is within h = h
no_fault mps frame BadFcs is within h = h
no_fault mps (information tx f req sar total octets) ReservedSet is within h = absurd (omega (arith, h.0))
no_fault mps (supervisory kind poll f req) ReservedSet is within h =
    elim h.1 [
      | inl reserved ↦ elim reserved [
        | inl low ↦ low (omega (arith, function_below kind, bit_below poll, bit_below f))
        | inr high ↦ elim high [
          | inl inner ↦ inner (omega (arith, function_below kind, bit_below poll, bit_below f))
          | inr top ↦ top (omega (arith, function_below kind, bit_below poll, bit_below f))
        ]
      ]
      | inr some ↦ absurd (omega arith)
    ]
no_fault mps (information tx f req sar total octets) BadStart is within h =
    let e : sar ≡ 1 = omega (arith, h.0.1, is.tx_fits, is.req_fits, is.sar_fits, bit_below f) in
    absurd (omega (arith, h.1, length-body tx req sar total f octets e))
no_fault mps (supervisory kind poll f req) BadStart is within h = absurd (omega (arith, h.0.0))
no_fault mps (information tx f req sar total octets) AboveMps is within h =
    elim h [
      | inl start ↦
          let e : sar ≡ 1 = omega (arith, start.0.1, is.tx_fits, is.req_fits, is.sar_fits, bit_below f) in
          absurd (omega (arith, start.1, within, length-body tx req sar total f octets e))
      | inr other ↦
          let ne : sar ≢ 1 = λ e. other.0.1 (omega (arith, is.tx_fits, is.req_fits, is.sar_fits, bit_below f)) in
          absurd (omega (arith, other.1, within, ap length (body_other total octets sar ne)))
    ]
no_fault mps (supervisory kind poll f req) AboveMps is within h =
    elim h [ inl start ↦ absurd (omega (arith, start.0.0)) | inr other ↦ absurd (omega (arith, other.0.0)) ]

accepted : (mps : ℕ) (frame : PlainFrame) (pdu : List ℕ) (refusal : FrameRefusal) → IsAnswer mps pdu (Ok frame) → Refuses mps pdu refusal → ⊥
accepted mps frame pdu Short ((cid, s), within) h = h (says cid frame pdu s).all
accepted mps frame pdu BadFcs ((cid, s), within) h = h.1 s.holds
accepted mps frame pdu ReservedSet ((cid, s), within) h = let a = says cid frame pdu s in no_fault mps frame ReservedSet s.fits within (rw (← a.control, ← a.body) h.2)
accepted mps frame pdu BadStart ((cid, s), within) h = let a = says cid frame pdu s in no_fault mps frame BadStart s.fits within (rw (← a.control, ← a.body) h.2)
accepted mps frame pdu AboveMps ((cid, s), within) h = let a = says cid frame pdu s in no_fault mps frame AboveMps s.fits within (rw (← a.control, ← a.body) h.2)

-- ---- one refusal

reserved_or_start : (mps control : ℕ) (body : List ℕ) → Faults mps control body ReservedSet → Faults mps control body BadStart → ⊥
reserved_or_start mps control body r s = omega (arith, r.0, s.0.0)

reserved_or_above : (mps control : ℕ) (body : List ℕ) → Faults mps control body ReservedSet → Faults mps control body AboveMps → ⊥
reserved_or_above mps control body r a = elim a [ inl start ↦ omega (arith, r.0, start.0.0) | inr other ↦ omega (arith, r.0, other.0.0) ]

start_or_above : (mps control : ℕ) (body : List ℕ) → Faults mps control body BadStart → Faults mps control body AboveMps → ⊥
start_or_above mps control body s a = elim a [ inl start ↦ omega (arith, s.1, start.1) | inr other ↦ other.0.1 s.0.1 ]

one_refusal : (mps : ℕ) (pdu : List ℕ) (r s : FrameRefusal) → Refuses mps pdu r → Refuses mps pdu s → r ≡ s
one_refusal mps pdu Short Short p q = refl
one_refusal mps pdu Short BadFcs p q = absurd (p q.0)
one_refusal mps pdu Short ReservedSet p q = absurd (p q.0)
one_refusal mps pdu Short BadStart p q = absurd (p q.0)
one_refusal mps pdu Short AboveMps p q = absurd (p q.0)
one_refusal mps pdu BadFcs Short p q = absurd (q p.0)
one_refusal mps pdu BadFcs BadFcs p q = refl
one_refusal mps pdu BadFcs ReservedSet p q = absurd (p.1 q.1)
one_refusal mps pdu BadFcs BadStart p q = absurd (p.1 q.1)
one_refusal mps pdu BadFcs AboveMps p q = absurd (p.1 q.1)
one_refusal mps pdu ReservedSet Short p q = absurd (q p.0)
one_refusal mps pdu ReservedSet BadFcs p q = absurd (q.1 p.1)
one_refusal mps pdu ReservedSet ReservedSet p q = refl
one_refusal mps pdu ReservedSet BadStart p q = absurd (reserved_or_start mps (word_at 4 pdu) (middle pdu) p.2 q.2)
one_refusal mps pdu ReservedSet AboveMps p q = absurd (reserved_or_above mps (word_at 4 pdu) (middle pdu) p.2 q.2)
one_refusal mps pdu BadStart Short p q = absurd (q p.0)
one_refusal mps pdu BadStart BadFcs p q = absurd (q.1 p.1)
one_refusal mps pdu BadStart ReservedSet p q = absurd (reserved_or_start mps (word_at 4 pdu) (middle pdu) q.2 p.2)
one_refusal mps pdu BadStart BadStart p q = refl
one_refusal mps pdu BadStart AboveMps p q = absurd (start_or_above mps (word_at 4 pdu) (middle pdu) p.2 q.2)
one_refusal mps pdu AboveMps Short p q = absurd (q p.0)
one_refusal mps pdu AboveMps BadFcs p q = absurd (q.1 p.1)
one_refusal mps pdu AboveMps ReservedSet p q = absurd (reserved_or_above mps (word_at 4 pdu) (middle pdu) q.2 p.2)
one_refusal mps pdu AboveMps BadStart p q = absurd (start_or_above mps (word_at 4 pdu) (middle pdu) q.2 p.2)
one_refusal mps pdu AboveMps AboveMps p q = refl

pub one-answer : OneAnswer
one-answer mps pdu (Ok frame) (Ok frame') ((cid, s), within) ((cid', s'), within') = ap Ok (one-frame cid cid' frame frame' pdu s s').1
one-answer mps pdu (Ok frame) (Err refusal) p q = absurd (accepted mps frame pdu refusal p q)
one-answer mps pdu (Err refusal) (Ok frame) p q = absurd (accepted mps frame pdu refusal q p)
one-answer mps pdu (Err refusal) (Err refusal') p q = ap Err (one_refusal mps pdu refusal refusal' p q)

pub written-read : WrittenIsRead
written-read cid mps frame pdu given s within is = one-answer mps pdu given (Ok frame) is ((cid, s), within)

pub changed-refused : ChangedFramesAreSeen
changed-refused cid mps frame front behind first second first' second' given f s f' s' differ spelled is = refused given is
  where
    other : L2capCheckHolds (front ++ first' ∷ second' ∷ behind) → ⊥
    other = changed-seen front behind first second first' second' f s f' s' differ spelled.holds

    refused : (a : Answer) → IsAnswer mps (front ++ first' ∷ second' ∷ behind) a → (a ≡ Err Short) ⊎ (a ≡ Err BadFcs)
    refused (Ok frame') h = absurd (other h.0.1.holds)
    refused (Err Short) h = inl refl
    refused (Err BadFcs) h = inr refl
    refused (Err ReservedSet) h = absurd (other h.1)
    refused (Err BadStart) h = absurd (other h.1)
    refused (Err AboveMps) h = absurd (other h.1)
