-- What is answered to octets, as a function of them, is the one answer that they have.
use Rattle.std.proofs.Common.{◌≡◌, ◌≢◌, ◌⊎◌, inl, inr, ℕ, zero, suc, ◌+◌, ◌-◌, ◌*◌, ◌/◌, ◌%◌, ◌<◌, ◌≤◌, ◌==◌, ◌||◌, ◌&&◌, Bool, true, false, cond, if◌then◌else◌, List, [], ◌∷◌, ◌++◌, length, get_or, slice_index, take, drop, Option, Some, None, is_some, Ok, Err, refl, sym, ap, subst, ◌∙◌, arith}
use Rattle.std.proofs.lemmas.Bool.{cases_lt, lt-ltb, le-ltb, eqb-true, eqb-false}
use Rattle.std.proofs.lemmas.Bool.{ltb-true, ltb-false}
use Rattle.std.proofs.lemmas.List.{take-append-drop}
use Rattle.std.specs.Prelude.{nat_lt}
use Rattle.bt_base.specs.Octets.{IsOctets}
use Rattle.check_words.specs.CheckWords.{low_bits, rfcomm_check, RfcommCheckHolds}
use Rattle.rfcomm_frames.specs.declared.frame.MuxKind.{MuxKind}
use Rattle.rfcomm_frames.specs.declared.frame.MuxKind.TheVariants.{Sabm, Ua, Dm, Disc, Uih}
use Rattle.rfcomm_frames.specs.declared.refusal.MuxRefusal.TheVariants.{Short, BadExtension, BadControl, LengthMismatch, BadFcs}
use Rattle.rfcomm_frames.specs.Lengths.{States}
use Rattle.rfcomm_frames.specs.Frames.{PlainFrame, carries, has_credits, credit_octets, control_octet, covered, HasForm, Spells}
use Rattle.rfcomm_frames.specs.Answers.{Answer, IsAnswer, IsControlOctet, HasHead, Refuses}
use Rattle.rfcomm_frames.specs.Reading.{IsSplit, message}
use Rattle.rfcomm_frames.specs.Controls.{PlainControl}
use Rattle.rfcomm_frames.specs.ControlAnswers.{ControlAnswer, IsControlAnswer, HasFront}
use Rattle.rfcomm_frames.specs.FrameReading.{second_length, stated, kind_of, Body, credits_apart, of_length, body_behind, same_bits, is_checked, checked, is_empty, with_body, with_kind, frame_answer, with_message, with_value, message_answer, FrameIsAnswered, MessageIsAnswered, SpelledIsAnswered}
use Rattle.rfcomm_frames.proofs.Lengths.{one_split, two_split, field_same}
use Rattle.rfcomm_frames.proofs.Heads.{address_again}
use Rattle.rfcomm_frames.proofs.Forms.{Says, says, same_parts, covered_is}
use Rattle.rfcomm_frames.proofs.Formed.{formed, unformed, part_fits, prefix_fits}
use Rattle.rfcomm_frames.proofs.Checked.{check_holds}
use Rattle.rfcomm_frames.proofs.Found.{no_front, passes_end, other_length, found}
use Rattle.rfcomm_frames.proofs.OneAnswer.{one-answer}
use Rattle.rfcomm_frames.proofs.OneControl.{one-control-answer}

-- ---- length fields

record Stated (octets : List ℕ) (n : ℕ) (behind : List ℕ) : Type 0 where
  field : List ℕ
  states : States field n
  parts : octets ≡ field ++ behind

parts_are : (p q : ℕ × List ℕ) → Some p ≡ Some q → (p.0 ≡ q.0) × (p.1 ≡ q.1)
parts_are p q e = let same : p ≡ q = cc in (ap (λ (x : ℕ × List ℕ). x.0) same, ap (λ (x : ℕ × List ℕ). x.1) same)

stated_if : (first : ℕ) (rest : List ℕ) (odd : Bool) → (first % 2 == 1) ≡ odd → (n : ℕ) (behind : List ℕ) → IsOctets (first ∷ rest)
    → cond odd (Some (first / 2, rest)) (second_length first rest) ≡ Some (n, behind) → Stated (first ∷ rest) n behind
stated_if first rest true odd n behind fits is =
    let e = parts_are (first / 2, rest) (n, behind) is in
    let s = one_split (first ∷ rest) behind first n fits (ap (λ xs. first ∷ xs) e.1) (eqb-true (first % 2) 1 odd) (sym e.0) in
    record { field = s.0; states = s.1; parts = s.2 }
stated_if first [] false odd n behind fits is = cc
stated_if first (second ∷ rest) false odd n behind fits is =
    let e = parts_are (first / 2 + 128 * second, rest) (n, behind) is in
    let s = two_split (first ∷ second ∷ rest) (second ∷ rest) behind first second n fits refl (ap (λ xs. second ∷ xs) e.1) (eqb-false (first % 2) 1 odd) (sym e.0) in
    record { field = s.0; states = s.1; parts = s.2 }

stated_some : (octets : List ℕ) (n : ℕ) (behind : List ℕ) → IsOctets octets → stated octets ≡ Some (n, behind) → Stated octets n behind
stated_some [] n behind fits is = cc
stated_some (first ∷ rest) n behind fits is = stated_if first rest (first % 2 == 1) refl n behind fits is

pub heads : (x y : ℕ) (xs ys : List ℕ) → x ∷ xs ≡ y ∷ ys → (x ≡ y) × (xs ≡ ys)
heads x y xs ys e = (cc, cc)

stated_none_if : (first : ℕ) (rest : List ℕ) (odd : Bool) → (first % 2 == 1) ≡ odd → cond odd (Some (first / 2, rest)) (second_length first rest) ≡ None
    → (field behind : List ℕ) (n : ℕ) → States field n → first ∷ rest ≢ field ++ behind
stated_none_if first rest true odd is field behind n states parts = cc
stated_none_if first [] false odd is field behind n (inl (small, one)) parts =
    let e = heads first (0x01 + 2 * n) [] behind (parts ∙ ap (λ f. f ++ behind) one) in
    absurd (eqb-false (first % 2) 1 odd (omega arith))
stated_none_if first [] false odd is field behind n (inr (small, two)) parts =
    let e = heads first (2 * (n % 128)) [] ((n / 128) ∷ behind) (parts ∙ ap (λ f. f ++ behind) two) in
    let none : [] ≡ (n / 128) ∷ behind = e.1 in
    cc
stated_none_if first (second ∷ rest) false odd is field behind n states parts = cc

stated_none : (octets : List ℕ) → stated octets ≡ None → (field behind : List ℕ) (n : ℕ) → States field n → octets ≢ field ++ behind
stated_none [] is field behind n (inl (small, one)) parts = let e : [] ≡ (0x01 + 2 * n) ∷ behind = parts ∙ ap (λ f. f ++ behind) one in cc
stated_none [] is field behind n (inr (small, two)) parts = let e : [] ≡ (2 * (n % 128)) ∷ (n / 128) ∷ behind = parts ∙ ap (λ f. f ++ behind) two in cc
stated_none (first ∷ rest) is field behind n states parts = stated_none_if first rest (first % 2 == 1) refl is field behind n states parts

-- ---- the body of a frame

of_length_if : (count : ℕ) (body body' : Body) (same : Bool) → (length body.1 == count) ≡ same → cond same (Some body) None ≡ Some body' → (body ≡ body') × (length body.1 ≡ count)
of_length_if count body body' true is e = (cc, eqb-true (length body.1) count is)
of_length_if count body body' false is e = cc

split_apart : (granting : Bool) (octets field behind : List ℕ) (n : ℕ) (body : Body) → States field n → octets ≡ field ++ behind
    → of_length n (credits_apart granting behind) ≡ Some body → IsSplit granting octets body.0 body.1
split_apart false octets field behind n body states parts is =
    let e = of_length_if n (None, behind) body (length behind == n) refl is in
    subst (λ (b : Body). IsSplit false octets b.0 b.1) e.0 (field, subst (States field) (sym e.1) states, refl, parts)
split_apart true octets field [] n body states parts is = cc
split_apart true octets field (credits ∷ behind) n body states parts is =
    let e = of_length_if n (Some credits, behind) body (length behind == n) refl is in
    subst (λ (b : Body). IsSplit true octets b.0 b.1) e.0 (field, subst (States field) (sym e.1) states, refl, parts)

body_some : (granting : Bool) (octets : List ℕ) (read : Option (ℕ × List ℕ)) (body : Body) → IsOctets octets → stated octets ≡ read → body_behind granting read ≡ Some body → IsSplit granting octets body.0 body.1
body_some granting octets None body fits read is = cc
body_some granting octets (Some (n, behind)) body fits read is =
    let s = stated_some octets n behind fits read in
    split_apart granting octets s.field behind n body s.states s.parts is

body_none_if : (count : ℕ) (body : Body) (same : Bool) → (length body.1 == count) ≡ same → cond same (Some body) None ≡ None → length body.1 ≢ count
body_none_if count body true is e = cc
body_none_if count body false is e = eqb-false (length body.1) count is

-- what a split says of the octets behind a length field
split_behind : (granting : Bool) (field behind field' info : List ℕ) (n : ℕ) (credits : Option ℕ) → States field n → States field' (length info)
    → field ++ behind ≡ field' ++ (credit_octets credits ++ info) → is_some credits ≡ granting → of_length n (credits_apart granting behind) ≡ None → ⊥
split_behind false field behind field' info n None states states' e is none =
    let s = field_same field field' behind info n (length info) states states' e in
    body_none_if n (None, behind) (length behind == n) refl none (ap length s.2 ∙ sym s.0)
split_behind false field behind field' info n (Some credits) states states' e is none = cc
split_behind true field behind field' info n None states states' e is none = cc
split_behind true field [] field' info n (Some credits) states states' e is none =
    let s = field_same field field' [] (credits ∷ info) n (length info) states states' e in
    let never : [] ≡ credits ∷ info = s.2 in
    cc
split_behind true field (c ∷ behind) field' info n (Some credits) states states' e is none =
    let s = field_same field field' (c ∷ behind) (credits ∷ info) n (length info) states states' e in
    let h = heads c credits behind info s.2 in
    body_none_if n (Some c, behind) (length behind == n) refl none (ap length h.1 ∙ sym s.0)

body_none : (granting : Bool) (octets : List ℕ) (read : Option (ℕ × List ℕ)) → IsOctets octets → stated octets ≡ read → body_behind granting read ≡ None
    → (credits : Option ℕ) (info : List ℕ) → ¬ IsSplit granting octets credits info
body_none granting octets None fits read none credits info (field, states, is, parts) =
    stated_none octets read field (credit_octets credits ++ info) (length info) states parts
body_none granting octets (Some (n, behind)) fits read none credits info (field, states, is, parts) =
    let s = stated_some octets n behind fits read in
    split_behind granting s.field behind field info n credits s.states states (sym s.parts ∙ parts) is none

-- ---- control octets

kind_again : (kind : MuxKind) (pf : Bool) → kind_of (control_octet kind pf) ≡ Some kind
kind_again Sabm false = refl
kind_again Sabm true = refl
kind_again Ua false = refl
kind_again Ua true = refl
kind_again Dm false = refl
kind_again Dm true = refl
kind_again Disc false = refl
kind_again Disc true = refl
kind_again Uih false = refl
kind_again Uih true = refl

no_kind : (n : ℕ) → kind_of n ≡ None → ¬ IsControlOctet n
no_kind n none (kind, pf, is) = let e : Some kind ≡ None = sym (kind_again kind pf) ∙ ap kind_of (sym is) ∙ none in cc

either : (n a b : ℕ) (x y : Bool) → (n == a) ≡ x → (n == b) ≡ y → (x || y) ≡ true → (n ≡ a) ⊎ (n ≡ b)
either n a b true y is is' e = inl (eqb-true n a is)
either n a b false true is is' e = inr (eqb-true n b is')
either n a b false false is is' e = cc

abbrev Names : ℕ → MuxKind → Type 0
Names n kind = n ≡ control_octet kind (n / 0x10 % 2 == 1)

named : (kind : MuxKind) (pf : Bool) (n : ℕ) → (control_octet kind pf / 0x10 % 2 == 1) ≡ pf → n ≡ control_octet kind pf → Names n kind
named kind pf n again is = is ∙ ap (control_octet kind) (sym again ∙ ap (λ (k : ℕ). k / 0x10 % 2 == 1) (sym is))

one_of : (kind : MuxKind) (n : ℕ) → (control_octet kind false / 0x10 % 2 == 1) ≡ false → (control_octet kind true / 0x10 % 2 == 1) ≡ true
    → (n ≡ control_octet kind false) ⊎ (n ≡ control_octet kind true) → Names n kind
one_of kind n low high (inl is) = named kind false n low is
one_of kind n low high (inr is) = named kind true n high is

abbrev is_either : ℕ → ℕ → ℕ → Bool
is_either n a b = (n == a) || (n == b)

kind_some : (n : ℕ) (kind : MuxKind) (a b c d e : Bool) → is_either n 0x2F 0x3F ≡ a → is_either n 0x63 0x73 ≡ b → is_either n 0x0F 0x1F ≡ c → is_either n 0x43 0x53 ≡ d → is_either n 0xEF 0xFF ≡ e
    → (if a then Some Sabm else if b then Some Ua else if c then Some Dm else if d then Some Disc else if e then Some Uih else None) ≡ Some kind → Names n kind
kind_some n kind true b c d e ia ib ic id ie is = let k : Sabm ≡ kind = cc in subst (Names n) k (one_of Sabm n refl refl (either n 0x2F 0x3F (n == 0x2F) (n == 0x3F) refl refl ia))
kind_some n kind false true c d e ia ib ic id ie is = let k : Ua ≡ kind = cc in subst (Names n) k (one_of Ua n refl refl (either n 0x63 0x73 (n == 0x63) (n == 0x73) refl refl ib))
kind_some n kind false false true d e ia ib ic id ie is = let k : Dm ≡ kind = cc in subst (Names n) k (one_of Dm n refl refl (either n 0x0F 0x1F (n == 0x0F) (n == 0x1F) refl refl ic))
kind_some n kind false false false true e ia ib ic id ie is = let k : Disc ≡ kind = cc in subst (Names n) k (one_of Disc n refl refl (either n 0x43 0x53 (n == 0x43) (n == 0x53) refl refl id))
kind_some n kind false false false false true ia ib ic id ie is = let k : Uih ≡ kind = cc in subst (Names n) k (one_of Uih n refl refl (either n 0xEF 0xFF (n == 0xEF) (n == 0xFF) refl refl ie))
kind_some n kind false false false false false ia ib ic id ie is = cc

-- ---- the check word

same_true : (xs ys : List Bool) → same_bits xs ys ≡ true → xs ≡ ys
same_true [] [] e = refl
same_true [] (y ∷ ys) e = cc
same_true (x ∷ xs) [] e = cc
same_true (true ∷ xs) (true ∷ ys) e = ap (λ zs. true ∷ zs) (same_true xs ys e)
same_true (true ∷ xs) (false ∷ ys) e = cc
same_true (false ∷ xs) (true ∷ ys) e = cc
same_true (false ∷ xs) (false ∷ ys) e = ap (λ zs. false ∷ zs) (same_true xs ys e)

same_again : (xs : List Bool) → same_bits xs xs ≡ true
same_again [] = refl
same_again (true ∷ xs) = same_again xs
same_again (false ∷ xs) = same_again xs

judge : (octets : List ℕ) (frame : PlainFrame) (b : Bool) → is_checked frame.kind octets ≡ b → HasForm frame octets → IsAnswer octets (cond b (Ok frame) (Err BadFcs))
judge octets frame true is form = check_holds frame octets form (if carries frame.kind then 2 else length octets - 1) (slice_index octets (length octets - 1)) refl (same_true _ _ is) refl
judge octets frame false is form =
    let fails : ¬ RfcommCheckHolds (covered form.field frame) form.check = λ holds.
    let last : low_bits 8 (slice_index octets (length octets - 1)) ≡ rfcomm_check (take (if carries frame.kind then 2 else length octets - 1) octets) =
    ap (low_bits 8) (says frame octets form).last ∙ holds ∙ ap rfcomm_check (sym (covered_is frame octets form)) in
    let e : true ≡ false = sym (same_again (rfcomm_check (take (if carries frame.kind then 2 else length octets - 1) octets))) ∙ ap (λ bits. same_bits bits (rfcomm_check (take (if carries frame.kind then 2 else length octets - 1) octets))) (sym last) ∙ is in
    cc in
    (frame, form, fails)

-- ---- a frame

empty_is : (info : List ℕ) → is_empty info ≡ true → info ≡ []
empty_is [] e = refl
empty_is (x ∷ xs) e = cc

carried_if : (carries' empty : Bool) (info : List ℕ) → is_empty info ≡ empty → (carries' || empty) ≡ true → carries' ≡ false → info ≡ []
carried_if true empty info is e idle = let never : true ≡ false = idle in cc
carried_if false true info is e idle = empty_is info is
carried_if false false info is e idle = let never : false ≡ true = e in cc

carried_not : (carries' : Bool) (info : List ℕ) → (carries' || is_empty info) ≡ false → (carries' ≡ false) × (info ≢ [])
carried_not true info e = cc
carried_not false [] e = cc
carried_not false (x ∷ xs) e = (refl, λ never. cc)

middle_fits : (octets : List ℕ) → IsOctets octets → IsOctets (take (length octets - 3) (drop 2 octets))
middle_fits octets fits =
    let behind : IsOctets (drop 2 octets) = part_fits (take 2 octets) (drop 2 octets) octets (sym (take-append-drop 2 octets)) fits in
    prefix_fits (take (length octets - 3) (drop 2 octets)) (drop (length octets - 3) (drop 2 octets)) (subst IsOctets (sym (take-append-drop (length octets - 3) (drop 2 octets))) behind)

abbrev head_frame : List ℕ → MuxKind → Bool → Body → PlainFrame
head_frame octets kind pf body = record { dlci = slice_index octets 0 / 4; cr = slice_index octets 0 / 2 % 2 == 1; kind = kind; pf = pf; credits = body.0; octets = body.1 }

abbrev granting_of : List ℕ → MuxKind → Bool → Bool
granting_of octets kind pf = has_credits (slice_index octets 0 / 4) kind pf

module _ (octets : List ℕ) (fits : IsOctets octets) (room : 4 ≤ length octets) (ends : slice_index octets 0 % 2 ≡ 1) (kind : MuxKind) (pf : Bool) (control : slice_index octets 1 ≡ control_octet kind pf) where
  -- information in a frame that carries none
  idle : (body : Body) → IsSplit (granting_of octets kind pf) (take (length octets - 3) (drop 2 octets)) body.0 body.1 → (carries kind || is_empty body.1) ≡ false → Refuses octets LengthMismatch
  idle body (field, states, granting, parts) none =
      let apart = carried_not (carries kind) body.1 none in
      let here : Says (head_frame octets kind pf body) field (slice_index octets (length octets - 1)) octets =
      record { room = room; address = address_again (slice_index octets 0) ends; control = control; middle = parts; last = refl } in
      let head : HasHead octets = (room, ends, (kind, pf, control)) in (
        head,
        λ frame form.
            let same = same_parts (head_frame octets kind pf body) frame field form.field octets (length body.1) (length frame.octets) (slice_index octets (length octets - 1)) form.check
            states form.states granting form.fits.granting here (says frame octets form) in
            apart.1 (ap (λ (f : PlainFrame). f.octets) same.frame_is ∙ form.fits.alone (ap (λ (f : PlainFrame). carries f.kind) (sym same.frame_is) ∙ apart.0)),
      )

  whole : (body : Body) → IsSplit (granting_of octets kind pf) (take (length octets - 3) (drop 2 octets)) body.0 body.1 → (may : Bool) → (carries kind || is_empty body.1) ≡ may
      → IsAnswer octets (cond may (checked octets (head_frame octets kind pf body)) (Err LengthMismatch))
  whole body split false may = idle body split may
  whole body (field, states, granting, parts) true may =
      judge octets (head_frame octets kind pf body) (is_checked kind octets) refl
      (formed octets (take (length octets - 3) (drop 2 octets)) kind (slice_index octets 0 / 4) pf fits room ends refl control refl field body.1 body.0 (slice_index octets 0 / 2 % 2 == 1) refl states granting parts
      (carried_if (carries kind) (is_empty body.1) body.1 refl may))

  bodied : (read : Option Body) → body_behind (granting_of octets kind pf) (stated (take (length octets - 3) (drop 2 octets))) ≡ read → IsAnswer octets (with_body octets kind pf read)
  bodied None is =
      unformed octets (take (length octets - 3) (drop 2 octets)) kind (slice_index octets 0 / 4) pf fits room ends refl control refl (granting_of octets kind pf) refl
      (body_none (granting_of octets kind pf) (take (length octets - 3) (drop 2 octets)) (stated (take (length octets - 3) (drop 2 octets))) (middle_fits octets fits) refl is)
  bodied (Some body) is =
      whole body (body_some (granting_of octets kind pf) (take (length octets - 3) (drop 2 octets)) (stated (take (length octets - 3) (drop 2 octets))) body (middle_fits octets fits) refl is)
      (carries kind || is_empty body.1) refl

kinded : (octets : List ℕ) (fits : IsOctets octets) (room : 4 ≤ length octets) (ends : slice_index octets 0 % 2 ≡ 1) (kind : Option MuxKind) → kind_of (slice_index octets 1) ≡ kind → IsAnswer octets (with_kind octets kind)
kinded octets fits room ends None is = (room, ends, no_kind (slice_index octets 1) is)
kinded octets fits room ends (Some kind) is =
    let n : ℕ = slice_index octets 1 in
    let control : Names n kind = kind_some n kind (is_either n 0x2F 0x3F) (is_either n 0x63 0x73) (is_either n 0x0F 0x1F) (is_either n 0x43 0x53) (is_either n 0xEF 0xFF) refl refl refl refl refl is in
    bodied octets fits room ends kind (n / 0x10 % 2 == 1) control (body_behind (granting_of octets kind (n / 0x10 % 2 == 1)) (stated (take (length octets - 3) (drop 2 octets)))) refl

ended : (octets : List ℕ) (fits : IsOctets octets) (room : 4 ≤ length octets) (even : Bool) → (slice_index octets 0 % 2 == 0) ≡ even → IsAnswer octets (cond even (Err BadExtension) (with_kind octets (kind_of (slice_index octets 1))))
ended octets fits room true is = (room, eqb-true (slice_index octets 0 % 2) 0 is)
ended octets fits room false is =
    let odd = eqb-false (slice_index octets 0 % 2) 0 is in
    kinded octets fits room (omega arith) (kind_of (slice_index octets 1)) refl

pub frame_answered : FrameIsAnswered
unfolding frame_answer
frame_answered octets fits =
    elim (cases_lt (length octets) 4) [
      | inl less ↦ rw (lt-ltb (length octets) 4 less) less
      | inr more ↦ rw (le-ltb (length octets) 4 more) (ended octets fits more (slice_index octets 0 % 2 == 0) refl)
    ]

-- octets have no other answer
pub frame_answer-is : (octets : List ℕ) (a : Answer) → IsOctets octets → IsAnswer octets a → a ≡ frame_answer octets
frame_answer-is octets a fits is = one-answer octets a (frame_answer octets) is (frame_answered octets fits)

pub spelled_answered : SpelledIsAnswered
spelled_answered frame octets fits spelled = sym (frame_answer-is octets (Ok frame) fits spelled)

-- ---- control messages

module _ (kind : ℕ) (behind : List ℕ) (fits : IsOctets (kind ∷ behind)) (n : ℕ) (rest : List ℕ) (s : Stated behind n rest) where
  valued : (odd : kind % 2 ≡ 1) → n ≤ length rest → (control : Option PlainControl) → message kind (take n rest) ≡ control → IsControlAnswer (kind ∷ behind) (with_message (kind ∷ behind) (length (kind ∷ behind) - length rest + n) control)
  valued odd within None is = other_length (kind ∷ behind) behind s.field rest kind n refl s.states s.parts (omega arith) is
  valued odd within (Some control) is = found (kind ∷ behind) behind s.field rest kind n refl s.states s.parts control (length (kind ∷ behind) - length rest + n) fits odd within refl is

  front : HasFront (kind ∷ behind)
  front = record { kind = kind; field = s.field; behind = rest; count = n; parts = ap (λ xs. kind ∷ xs) s.parts; states = s.states }

  within_if : (odd : kind % 2 ≡ 1) (short : Bool) → nat_lt (length rest) n ≡ short
      → IsControlAnswer (kind ∷ behind) (cond short (Err LengthMismatch) (with_message (kind ∷ behind) (length (kind ∷ behind) - length rest + n) (message kind (take n rest))))
  within_if odd true is = passes_end (kind ∷ behind) behind s.field rest kind n refl s.states s.parts (omega arith) (ltb-true (length rest) n is)
  within_if odd false is = valued odd (ltb-false (length rest) n is) (message kind (take n rest)) refl

  ends_if : (even : Bool) → (kind % 2 == 0) ≡ even → IsControlAnswer (kind ∷ behind)
      (cond even (Err BadExtension) (cond (nat_lt (length rest) n) (Err LengthMismatch) (with_message (kind ∷ behind) (length (kind ∷ behind) - length rest + n) (message kind (take n rest)))))
  ends_if true is = (front, eqb-true (kind % 2) 0 is)
  ends_if false is = let odd = eqb-false (kind % 2) 0 is in within_if (omega arith) (nat_lt (length rest) n) refl

value_if : (kind : ℕ) (behind : List ℕ) → IsOctets (kind ∷ behind) → (read : Option (ℕ × List ℕ)) → stated behind ≡ read → IsControlAnswer (kind ∷ behind) (with_value (kind ∷ behind) kind read)
value_if kind behind fits None is = no_front (kind ∷ behind) behind kind refl (λ field rest n states. stated_none behind is field rest n states)
value_if kind behind fits (Some (n, rest)) is = ends_if kind behind fits n rest (stated_some behind n rest (part_fits (kind ∷ []) behind (kind ∷ behind) refl fits) is) (kind % 2 == 0) refl

no_octets : ¬ HasFront []
no_octets front = let e : [] ≡ front.kind ∷ (front.field ++ front.behind) = front.parts in cc

pub message_answered : MessageIsAnswered
unfolding message_answer
message_answered [] fits = no_octets
message_answered (kind ∷ behind) fits = value_if kind behind fits (stated behind) refl

pub message_answer-is : (octets : List ℕ) (a : ControlAnswer) → IsOctets octets → IsControlAnswer octets a → a ≡ message_answer octets
message_answer-is octets a fits is = one-control-answer octets a (message_answer octets) is (message_answered octets fits)
