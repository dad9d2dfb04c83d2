-- Control messages are read in one way.
use Rattle.std.proofs.Common.{◌≡◌, ◌⊎◌, ◌≤◌, ℕ, ◌%◌, inl, inr, List, ◌∷◌, ◌++◌, length, slice_index, take, drop, Some, Ok, Err, refl, sym, ap, subst, ◌∙◌, arith, append_assoc, length-append}
use Rattle.std.proofs.lemmas.List.{take_at, take-append-drop, length-take-le}
use Rattle.rfcomm_frames.specs.declared.refusal.MuxRefusal.{MuxRefusal}
use Rattle.rfcomm_frames.specs.declared.refusal.MuxRefusal.TheVariants.{Short, BadExtension, BadControl, LengthMismatch, BadFcs}
use Rattle.rfcomm_frames.specs.Lengths.{States, shortest}
use Rattle.rfcomm_frames.specs.Controls.{PlainControl, pn, msc, test, rpn, rls, nsc, other, type_of, value_of, IsControl, SpellsControl}
use Rattle.rfcomm_frames.specs.ControlAnswers.{HasFront, RefusesControl}
use Rattle.rfcomm_frames.specs.Reading.{exactly, message}
use Rattle.rfcomm_frames.specs.Laws.{OneControl, OneControlAnswer, WrittenControlIsRead, WrongValuesAreRefused, WrittenControlIsNoLonger}
use Rattle.rfcomm_frames.proofs.Lengths.{heads_are, field_same, shortest_no_longer}
use Rattle.rfcomm_frames.proofs.Messages.{message-spelled, exactly-some}

-- a type and a value are those of one message
control_same : (control control' : PlainControl) → IsControl control → IsControl control' → type_of control ≡ type_of control' → value_of control ≡ value_of control' → control ≡ control'
control_same control control' is is' types values =
    let e : Some control ≡ Some control' =
    sym (message-spelled control is) ∙ ap (λ (k : ℕ). message k (value_of control)) types ∙ ap (message (type_of control')) values ∙ message-spelled control' is' in
    cc

pub one-control : OneControl
one-control control control' octets octets' behind behind' s s' e =
    let value : List ℕ = value_of control in
    let value' : List ℕ = value_of control' in
    let whole : octets ++ behind ≡ type_of control ∷ (s.field ++ (value ++ behind)) =
    ap (λ (xs : List ℕ). xs ++ behind) s.parts ∙ ap (λ (xs : List ℕ). type_of control ∷ xs) (append_assoc s.field value behind) in
    let whole' : octets' ++ behind' ≡ type_of control' ∷ (s'.field ++ (value' ++ behind')) =
    ap (λ (xs : List ℕ). xs ++ behind') s'.parts ∙ ap (λ (xs : List ℕ). type_of control' ∷ xs) (append_assoc s'.field value' behind') in
    let heads = heads_are (type_of control) (type_of control') (s.field ++ (value ++ behind)) (s'.field ++ (value' ++ behind')) (sym whole ∙ e ∙ whole') in
    let f = field_same s.field s'.field (value ++ behind) (value' ++ behind') (length value) (length value') s.states s'.states heads.1 in
    let values : value ≡ value' =
    sym (take_at value behind (length value) refl) ∙ ap (take (length value)) f.2 ∙ take_at value' behind' (length value) (sym f.0) in (
      control_same control control' s.fits s'.fits heads.0 values,
      s.parts ∙ ap (λ (k : ℕ). k ∷ (s.field ++ value)) heads.0 ∙ ap (λ (xs : List ℕ). type_of control' ∷ (xs ++ value)) f.1 ∙ ap (λ (xs : List ℕ). type_of control' ∷ (s'.field ++ xs)) values ∙ sym s'.parts,
    )

type_ends : (control : PlainControl) → IsControl control → type_of control % 2 ≡ 1
type_ends (pn command dlci flow priority timer frame retransmissions credits) is = omega arith
type_ends (msc command dlci signals) is = omega arith
type_ends (test command octets) is = omega arith
type_ends (rpn command value) is = omega arith
type_ends (rls command value) is = omega arith
type_ends (nsc kind) is = omega arith
type_ends (other kind value) is = is.0.ends

-- octets that begin with a message, by its parts
whole_is : (control : PlainControl) (used : ℕ) (octets : List ℕ) (s : SpellsControl control (take used octets)) → octets ≡ type_of control ∷ (s.field ++ (value_of control ++ drop used octets))
whole_is control used octets s =
    sym (take-append-drop used octets) ∙ ap (λ (xs : List ℕ). xs ++ drop used octets) s.parts
    ∙ ap (λ (xs : List ℕ). type_of control ∷ xs) (append_assoc s.field (value_of control) (drop used octets))

-- a message is not refused
accepted : (control : PlainControl) (used : ℕ) (octets : List ℕ) (refusal : MuxRefusal) → SpellsControl control (take used octets) → RefusesControl octets refusal → ⊥
accepted control used octets Short s h =
    h (record { kind = type_of control; field = s.field; behind = value_of control ++ drop used octets; count = length (value_of control); parts = whole_is control used octets s; states = s.states })
accepted control used octets BadExtension s h =
    let first : slice_index octets 0 % 2 ≡ type_of control % 2 = ap (λ (xs : List ℕ). slice_index xs 0 % 2) (whole_is control used octets s) in
    omega (arith, first, type_ends control s.fits, h.1)
accepted control used octets BadControl s h = h
accepted control used octets LengthMismatch s h = h.2 control used s
accepted control used octets BadFcs s h = h

one_refusal : (octets : List ℕ) (r s : MuxRefusal) → RefusesControl octets r → RefusesControl octets s → r ≡ s
one_refusal octets BadControl s p q = absurd p
one_refusal octets BadFcs s p q = absurd p
one_refusal octets Short Short p q = refl
one_refusal octets Short BadExtension p q = absurd (p q.0)
one_refusal octets Short LengthMismatch p q = absurd (p q.0)
one_refusal octets Short BadControl p q = absurd q
one_refusal octets Short BadFcs p q = absurd q
one_refusal octets BadExtension Short p q = absurd (q p.0)
one_refusal octets BadExtension BadExtension p q = refl
one_refusal octets BadExtension LengthMismatch p q = absurd (omega (arith, p.1, q.1))
one_refusal octets BadExtension BadControl p q = absurd q
one_refusal octets BadExtension BadFcs p q = absurd q
one_refusal octets LengthMismatch Short p q = absurd (q p.0)
one_refusal octets LengthMismatch BadExtension p q = absurd (omega (arith, p.1, q.1))
one_refusal octets LengthMismatch LengthMismatch p q = refl
one_refusal octets LengthMismatch BadControl p q = absurd q
one_refusal octets LengthMismatch BadFcs p q = absurd q

pair_is : (control : PlainControl) (used : ℕ) (found : PlainControl × ℕ) → found.0 ≡ control → found.1 ≡ used → found ≡ (control, used)
pair_is control used found e f = rw (← e, ← f) refl

pub one-control-answer : OneControlAnswer
one-control-answer octets (Ok found) (Ok found') (within, s) (within', s') =
    let one = one-control found.0 found'.0 (take found.1 octets) (take found'.1 octets) (drop found.1 octets) (drop found'.1 octets) s s'
    (take-append-drop found.1 octets ∙ sym (take-append-drop found'.1 octets)) in
    let used : found.1 ≡ found'.1 = sym (length-take-le found.1 octets within) ∙ ap length one.1 ∙ length-take-le found'.1 octets within' in
    ap Ok (pair_is found'.0 found'.1 found one.0 used)
one-control-answer octets (Ok found) (Err refusal) (within, s) q = absurd (accepted found.0 found.1 octets refusal s q)
one-control-answer octets (Err refusal) (Ok found) p (within, s) = absurd (accepted found.0 found.1 octets refusal s p)
one-control-answer octets (Err refusal) (Err refusal') p q = ap Err (one_refusal octets refusal refusal' p q)

pub written-control-read : WrittenControlIsRead
written-control-read control octets behind given s is =
    let front : take (length octets) (octets ++ behind) ≡ octets = take_at octets behind (length octets) refl in
    one-control-answer (octets ++ behind) given (Ok (control, length octets)) is (omega (arith, length-append octets behind), subst (SpellsControl control) (sym front) s)

-- ---- wrong lengths

front_is : (kind n : ℕ) (field behind : List ℕ) → States field n → HasFront (kind ∷ (field ++ behind))
front_is kind n field behind states = record { kind = kind; field = field; behind = behind; count = n; parts = refl; states = states }

-- a message that begins such octets has the type, and the length that is stated
begins : (kind n : ℕ) (field behind : List ℕ) (control : PlainControl) (used : ℕ) → States field n → (s : SpellsControl control (take used (kind ∷ (field ++ behind))))
    → (kind ≡ type_of control) × (n ≡ length (value_of control)) × (length (value_of control) ≤ length behind)
begins kind n field behind control used states s =
    let value : List ℕ = value_of control in
    let more : List ℕ = drop used (kind ∷ (field ++ behind)) in
    let heads = heads_are kind (type_of control) (field ++ behind) (s.field ++ (value ++ more)) (whole_is control used (kind ∷ (field ++ behind)) s) in
    let f = field_same field s.field behind (value ++ more) n (length value) states s.states heads.1 in
    (heads.0, f.0, omega (arith, ap length f.2, length-append value more))

-- of these types a message has so many octets
message_is : (control : PlainControl) (kind : ℕ) → IsControl control → kind ≡ type_of control → message kind (value_of control) ≡ Some control
message_is control kind is e = ap (λ (k : ℕ). message k (value_of control)) e ∙ message-spelled control is

exact_length : (size : ℕ) (value : List ℕ) (what control : PlainControl) → exactly size value what ≡ Some control → length value ≡ size
exact_length size value what control e = (exactly-some size value what control e).0

module _ (kind : ℕ) (control : PlainControl) (read : message kind (value_of control) ≡ Some control) where
  at_kind : (known : ℕ) → kind ≡ known → message known (value_of control) ≡ Some control
  at_kind known is = ap (λ (k : ℕ). message k (value_of control)) (sym is) ∙ read

  pn_length : (kind ≡ 0x81) ⊎ (kind ≡ 0x83) → length (value_of control) ≡ 8
  pn_length (inl is) = exact_length 8 (value_of control) _ control (at_kind 0x81 is)
  pn_length (inr is) = exact_length 8 (value_of control) _ control (at_kind 0x83 is)

  msc_length : (kind ≡ 0xE1) ⊎ (kind ≡ 0xE3) → length (value_of control) ≡ 2
  msc_length (inl is) = exact_length 2 (value_of control) _ control (at_kind 0xE1 is)
  msc_length (inr is) = exact_length 2 (value_of control) _ control (at_kind 0xE3 is)

  nsc_length : kind ≡ 0x11 → length (value_of control) ≡ 1
  nsc_length is = exact_length 1 (value_of control) _ control (at_kind 0x11 is)

pub wrong_values-refused : WrongValuesAreRefused
wrong_values-refused kind n field behind given odd states wrong is =
    let octets : List ℕ = kind ∷ (field ++ behind) in
    let none : (control : PlainControl) (used : ℕ) → ¬ SpellsControl control (take used octets) = λ control used s.
    let b = begins kind n field behind control used states s in
    let read = message_is control kind s.fits b.0 in
    elim wrong [
      | inl short ↦ omega (arith, b.1, b.2)
      | inr fixed ↦ elim fixed [
        | inl eight ↦ eight.1 (b.1 ∙ pn_length kind control read eight.0)
        | inr rest ↦ elim rest [
          | inl two ↦ two.1 (b.1 ∙ msc_length kind control read two.0)
          | inr one ↦ one.1 (b.1 ∙ nsc_length kind control read one.0)
        ]
      ]
    ] in
    one-control-answer octets given (Err LengthMismatch) is (front_is kind n field behind states, odd, none)

pub control-no-longer : WrittenControlIsNoLonger
control-no-longer control octets s =
    let short = shortest_no_longer s.field (length (value_of control)) s.states in
    (omega (arith, ap length s.parts, length-append s.field (value_of control), length-append (shortest (length (value_of control))) (value_of control), short.0), short.1)
