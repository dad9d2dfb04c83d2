-- Octets are read in one way.
use Rattle.std.proofs.Common.{◌≡◌, ℕ, ◌+◌, List, [], ◌∷◌, ◌++◌, length, get_or, Ok, Err, inl, inr, refl, sym, ap, ◌∙◌, arith, length-append}
use Rattle.check_words.specs.CheckWords.{low_bits, rfcomm_check}
use Rattle.check_words.proofs.RfcommChanges.{rfcomm_bursts-seen, rfcomm_changed-seen}
use Rattle.rfcomm_frames.specs.declared.refusal.MuxRefusal.{MuxRefusal}
use Rattle.rfcomm_frames.specs.declared.refusal.MuxRefusal.TheVariants.{Short, BadExtension, BadControl, LengthMismatch, BadFcs}
use Rattle.rfcomm_frames.specs.Frames.{PlainFrame, address_of, control_octet, carries, credit_octets, body_of, covered, HasForm, Spells}
use Rattle.rfcomm_frames.specs.Answers.{HasHead, Refuses}
use Rattle.rfcomm_frames.specs.Laws.{OneAnswer, OneFrame, WrittenIsRead, WrittenIsNoLonger, WrongLengthsAreRefused, ChangedFramesAreSeen, ChangedOctetsAreSeen}
use Rattle.rfcomm_frames.specs.Lengths.{shortest}
use Rattle.rfcomm_frames.proofs.Lengths.{shortest_no_longer}
use Rattle.rfcomm_frames.proofs.Heads.{address_parts}
use Rattle.rfcomm_frames.proofs.Forms.{Says, says_parts, says, same_parts, one_form, all_covered}

pub one-frame : OneFrame
one-frame frame frame' octets s s' = (one_form frame frame' octets s.form s'.form).frame_is

head_said : (frame : PlainFrame) (field octets : List ℕ) (check : ℕ) → Says frame field check octets → HasHead octets
head_said frame field octets check s =
    let address = address_parts frame (get_or octets 0 0) s.address in
    (s.room, address.2, (frame.kind, frame.pf, s.control))

head_of : (frame : PlainFrame) (octets : List ℕ) → HasForm frame octets → HasHead octets
head_of frame octets form = head_said frame form.field octets form.check (says frame octets form)

-- a frame is not refused
accepted : (frame : PlainFrame) (octets : List ℕ) (refusal : MuxRefusal) → Spells frame octets → Refuses octets refusal → ⊥
accepted frame octets Short s h = let head = head_of frame octets s.form in omega arith
accepted frame octets BadExtension s h = let head = head_of frame octets s.form in omega arith
accepted frame octets BadControl s h = let head = head_of frame octets s.form in h.2 head.2
accepted frame octets LengthMismatch s h = h.1 frame s.form
accepted frame octets BadFcs s (frame', form', fails) =
    let same = one_form frame' frame octets form' s.form in
    fails (ap (low_bits 8) same.check_is ∙ s.holds
    ∙ ap (λ (f : PlainFrame). rfcomm_check (covered s.form.field f)) (sym same.frame_is)
    ∙ ap (λ (field : List ℕ). rfcomm_check (covered field frame')) (sym same.field_is))

one_refusal : (octets : List ℕ) (r s : MuxRefusal) → Refuses octets r → Refuses octets s → r ≡ s
one_refusal octets Short Short p q = refl
one_refusal octets Short BadExtension p q = absurd (omega arith)
one_refusal octets Short BadControl p q = absurd (omega arith)
one_refusal octets Short LengthMismatch p q = absurd (let head = q.0 in omega arith)
one_refusal octets Short BadFcs p (frame, form, fails) = absurd (let head = head_of frame octets form in omega arith)
one_refusal octets BadExtension Short p q = absurd (omega arith)
one_refusal octets BadExtension BadExtension p q = refl
one_refusal octets BadExtension BadControl p q = absurd (omega arith)
one_refusal octets BadExtension LengthMismatch p q = absurd (let head = q.0 in omega arith)
one_refusal octets BadExtension BadFcs p (frame, form, fails) = absurd (let head = head_of frame octets form in omega arith)
one_refusal octets BadControl Short p q = absurd (omega arith)
one_refusal octets BadControl BadExtension p q = absurd (omega arith)
one_refusal octets BadControl BadControl p q = refl
one_refusal octets BadControl LengthMismatch p q = absurd (p.2 q.0.2)
one_refusal octets BadControl BadFcs p (frame, form, fails) = absurd (p.2 (head_of frame octets form).2)
one_refusal octets LengthMismatch Short p q = absurd (let head = p.0 in omega arith)
one_refusal octets LengthMismatch BadExtension p q = absurd (let head = p.0 in omega arith)
one_refusal octets LengthMismatch BadControl p q = absurd (q.2 p.0.2)
one_refusal octets LengthMismatch LengthMismatch p q = refl
one_refusal octets LengthMismatch BadFcs p (frame, form, fails) = absurd (p.1 frame form)
one_refusal octets BadFcs Short (frame, form, fails) q = absurd (let head = head_of frame octets form in omega arith)
one_refusal octets BadFcs BadExtension (frame, form, fails) q = absurd (let head = head_of frame octets form in omega arith)
one_refusal octets BadFcs BadControl (frame, form, fails) q = absurd (q.2 (head_of frame octets form).2)
one_refusal octets BadFcs LengthMismatch (frame, form, fails) q = absurd (q.1 frame form)
one_refusal octets BadFcs BadFcs p q = refl

pub one-answer : OneAnswer
one-answer octets (Ok frame) (Ok frame') p q = ap Ok (one-frame frame frame' octets p q)
one-answer octets (Ok frame) (Err refusal) p q = absurd (accepted frame octets refusal p q)
one-answer octets (Err refusal) (Ok frame) p q = absurd (accepted frame octets refusal q p)
one-answer octets (Err refusal) (Err refusal') p q = ap Err (one_refusal octets refusal refusal' p q)

pub written-read : WrittenIsRead
written-read frame octets given s is = one-answer octets given (Ok frame) is s

pub wrong_lengths-refused : WrongLengthsAreRefused
wrong_lengths-refused frame field n check given states grants wrong is =
    let octets : List ℕ = address_of frame ∷ control_octet frame.kind frame.pf ∷ (body_of field frame ++ check ∷ []) in
    let s = says_parts frame field octets n check states refl in
    let none : (frame' : PlainFrame) → ¬ HasForm frame' octets = λ frame' form.
    let same = same_parts frame frame' field form.field octets n (length frame'.octets) check form.check states form.states grants form.fits.granting s (says frame' octets form) in
    let info : frame'.octets ≡ frame.octets = ap (λ (f : PlainFrame). f.octets) (sym same.frame_is) in
    let kind : frame'.kind ≡ frame.kind = ap (λ (f : PlainFrame). f.kind) (sym same.frame_is) in
    elim wrong [ inl differ ↦ differ (same.number_is ∙ ap length info) | inr full ↦ full.1 (sym info ∙ form.fits.alone (ap carries kind ∙ full.0)) ] in
    one-answer octets given (Err LengthMismatch) is (head_said frame field octets check s, none)

pub changes-seen : ChangedFramesAreSeen
changes-seen frame frame' octets octets' s s' front burst other behind parts parts' size size' differ =
    rfcomm_bursts-seen (covered s.form.field frame) (covered s'.form.field frame') s.form.check s'.form.check front burst other behind parts parts' size size' differ s.holds s'.holds

pub octets-seen : ChangedOctetsAreSeen
octets-seen frame frame' front behind octet octet' small small' differ none none' s s' =
    rfcomm_changed-seen (covered s.form.field frame) (covered s'.form.field frame') front behind s.form.check s'.form.check octet octet'
    (sym (all_covered frame (front ++ octet ∷ behind) s.form none)) (sym (all_covered frame' (front ++ octet' ∷ behind) s'.form none'))
    small small' differ s.holds s'.holds

pub no-longer : WrittenIsNoLonger
no-longer frame octets s =
    let info : List ℕ = credit_octets frame.credits ++ frame.octets in
    let short = shortest_no_longer s.form.field (length frame.octets) s.form.states in
    let read : length octets ≡ 3 + (length s.form.field + length info) = omega (arith, ap length s.form.parts, length-append (s.form.field ++ info) (s.form.check ∷ []), length-append s.form.field info) in
    (omega (arith, length-append (shortest (length frame.octets)) info, short.0), short.1)
