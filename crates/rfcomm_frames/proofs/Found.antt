-- The control message at the front of octets.
use Rattle.std.proofs.Common.{◌≡◌, ◌≢◌, ℕ, suc, ◌+◌, ◌-◌, ◌%◌, ◌<◌, ◌≤◌, List, ◌∷◌, ◌++◌, length, slice_index, take, drop, Some, None, sym, ap, subst, ◌∙◌, arith, append_assoc, length-append}
use Rattle.std.proofs.lemmas.List.{take_at, take-append-drop, length-take-le}
use Rattle.bt_base.specs.Octets.{IsOctets}
use Rattle.rfcomm_frames.specs.Lengths.{States}
use Rattle.rfcomm_frames.specs.Controls.{PlainControl, type_of, value_of, SpellsControl}
use Rattle.rfcomm_frames.specs.ControlAnswers.{HasFront, RefusesControl}
use Rattle.rfcomm_frames.specs.declared.refusal.MuxRefusal.TheVariants.{LengthMismatch}
use Rattle.rfcomm_frames.specs.Reading.{message}
use Rattle.rfcomm_frames.proofs.Lengths.{heads_are, field_same}
use Rattle.rfcomm_frames.proofs.Formed.{part_fits, prefix_fits}
use Rattle.rfcomm_frames.proofs.Messages.{message-spelled, message-some}

pub no_front : (octets behind : List ℕ) (kind : ℕ) → octets ≡ kind ∷ behind
    → ((field rest : List ℕ) (n : ℕ) → States field n → behind ≢ field ++ rest) → ¬ HasFront octets
no_front octets behind kind is none front =
    none front.field front.behind front.count front.states (heads_are kind front.kind behind (front.field ++ front.behind) (sym is ∙ front.parts)).1

-- a type octet, the length field behind it and what stands behind that
module _ (octets behind field rest : List ℕ) (kind count : ℕ) (is : octets ≡ kind ∷ behind) (states : States field count) (parts : behind ≡ field ++ rest) where
  front : HasFront octets
  front = record { kind = kind; field = field; behind = rest; count = count; parts = is ∙ ap (λ (xs : List ℕ). kind ∷ xs) parts; states = states }

  -- what a message at the front says of them
  record Begins (control : PlainControl) (used : ℕ) : Type 0 where
    type_is : type_of control ≡ kind
    size : count ≡ length (value_of control)
    value_is : rest ≡ value_of control ++ drop used octets

  begins : (control : PlainControl) (used : ℕ) → SpellsControl control (take used octets) → Begins control used
  begins control used spelled =
      let value : List ℕ = value_of control in
      let more : List ℕ = drop used octets in
      let whole : octets ≡ type_of control ∷ (spelled.field ++ (value ++ more)) =
      sym (take-append-drop used octets) ∙ ap (λ (xs : List ℕ). xs ++ more) spelled.parts ∙ ap (λ (xs : List ℕ). type_of control ∷ xs) (append_assoc spelled.field value more) in
      let heads = heads_are kind (type_of control) behind (spelled.field ++ (value ++ more)) (sym is ∙ whole) in
      let same = field_same field spelled.field rest (value ++ more) count (length value) states spelled.states (sym parts ∙ heads.1) in
      record { type_is = sym heads.0; size = same.0; value_is = same.2 }

  type_ends : kind % 2 ≢ 0 → slice_index octets 0 % 2 ≡ 1
  type_ends odd = ap (λ (xs : List ℕ). slice_index xs 0 % 2) is ∙ omega arith

  too_long : length rest < count → (control : PlainControl) (used : ℕ) → ¬ SpellsControl control (take used octets)
  too_long short control used spelled =
      let b = begins control used spelled in
      absurd (omega (arith, b.size, ap length b.value_is, length-append (value_of control) (drop used octets)))

  no_message : message kind (take count rest) ≡ None → (control : PlainControl) (used : ℕ) → ¬ SpellsControl control (take used octets)
  no_message none control used spelled =
      let b = begins control used spelled in
      let value : take count rest ≡ value_of control = ap (take count) b.value_is ∙ take_at (value_of control) (drop used octets) count (sym b.size) in
      let e : None ≡ Some control = sym none ∙ ap (message kind) value ∙ ap (λ (k : ℕ). message k (value_of control)) (sym b.type_is) ∙ message-spelled control spelled.fits in
      cc

  pub passes_end : kind % 2 ≢ 0 → length rest < count → RefusesControl octets LengthMismatch
  passes_end odd short = (front, type_ends odd, too_long short)

  pub other_length : kind % 2 ≢ 0 → message kind (take count rest) ≡ None → RefusesControl octets LengthMismatch
  other_length odd none = (front, type_ends odd, no_message none)

  pub found : (control : PlainControl) (used : ℕ) → IsOctets octets → kind % 2 ≡ 1 → count ≤ length rest → used ≡ length octets - length rest + count
      → message kind (take count rest) ≡ Some control → (used ≤ length octets) × SpellsControl control (take used octets)
  found control used fits odd within used_is some =
      let value : List ℕ = take count rest in
      let size : length value ≡ count = length-take-le count rest within in
      let whole : octets ≡ (kind ∷ (field ++ value)) ++ drop count rest =
      is ∙ ap (λ (xs : List ℕ). kind ∷ xs) (parts ∙ ap (λ (xs : List ℕ). field ++ xs) (sym (take-append-drop count rest)) ∙ sym (append_assoc field value (drop count rest))) in
      let long : length octets ≡ suc (length field + length rest) = ap length is ∙ ap suc (ap length parts ∙ length-append field rest) in
      let end : length (kind ∷ (field ++ value)) ≡ used = omega (arith, length-append field value) in
      let front_is : take used octets ≡ kind ∷ (field ++ value) = ap (take used) whole ∙ take_at (kind ∷ (field ++ value)) (drop count rest) used end in
      let rest_fits : IsOctets rest = part_fits (kind ∷ field) rest octets (is ∙ ap (λ (xs : List ℕ). kind ∷ xs) parts) fits in
      let value_fits : IsOctets value = prefix_fits value (drop count rest) (subst IsOctets (sym (take-append-drop count rest)) rest_fits) in
      let small : kind < 256 = let all = subst IsOctets is fits in all 0 in
      let says = message-some kind value control small odd value_fits some in
      let spelled : SpellsControl control (kind ∷ (field ++ value)) = record {
        field = field;
        parts = ap (λ (k : ℕ). k ∷ (field ++ value)) (sym says.type_is) ∙ ap (λ (xs : List ℕ). type_of control ∷ (field ++ xs)) (sym says.value_is);
        states = subst (States field) (sym size ∙ ap length (sym says.value_is)) states;
        fits = says.fits;
      } in
      (omega arith, subst (SpellsControl control) (sym front_is) spelled)
