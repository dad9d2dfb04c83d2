-- Frames and control messages that were written.
use Rattle.std.proofs.Common.{◌≡◌, ℕ, ◌+◌, ◌-◌, ◌^◌, ◌<◌, ◌≤◌, Bool, true, false, List, [], ◌∷◌, ◌++◌, length, take, drop, if◌then◌else◌, refl, sym, ap, subst, ◌∙◌, append_assoc, arith, length-append}
use Rattle.std.proofs.lemmas.List.{take_at, drop_at, take-append-le}
use Rattle.check_words.specs.CheckWords.{low_bits, rfcomm_check}
use Rattle.rfcomm_frames.specs.Lengths.{shortest}
use Rattle.rfcomm_frames.specs.Frames.{PlainFrame, address_of, control_octet, carries, credit_octets, unchecked, HasForm, IsFrame, Spells}
use Rattle.rfcomm_frames.specs.Controls.{PlainControl, type_of, value_of, IsControl, SpellsControl, written}
use Rattle.rfcomm_frames.proofs.Lengths.{states-shortest}
use Rattle.rfcomm_frames.proofs.Forms.{covered_is}
use Rattle.rfcomm_frames.proofs.Puts.{IsWritten, piece_then}

-- the five parts of what stands before the check word
pub unchecked_is : (frame : PlainFrame) (old one two three new : List ℕ) (h f s e address control : ℕ)
    → address ≡ address_of frame → control ≡ control_octet frame.kind frame.pf → h ≡ 2
    → f ≡ h + length (shortest (length frame.octets)) → s ≡ f + length (credit_octets frame.credits) → e ≡ s + length frame.octets
    → IsWritten old one 0 (address ∷ control ∷ []) h → IsWritten one two h (shortest (length frame.octets)) f → IsWritten two three f (credit_octets frame.credits) s
    → IsWritten three new s frame.octets e → new ≡ unchecked frame ++ drop e old
unchecked_is frame old one two three new h f s e address control address_is control_is h_is f_is s_is e_is first second third fourth =
    let head : List ℕ = address ∷ control ∷ [] in
    let field : List ℕ = shortest (length frame.octets) in
    let credits : List ℕ = credit_octets frame.credits in
    let a = piece_then 0 h f head field old one two (omega arith) (omega arith) f_is first second in
    let b = piece_then 0 f s (head ++ field) credits old two three (omega arith) (omega (arith, length-append head field)) s_is a third in
    let c = piece_then 0 s e ((head ++ field) ++ credits) frame.octets old three new (omega arith)
    (omega (arith, length-append head field, length-append (head ++ field) credits)) e_is b fourth in
    c ∙ ap (λ (x : List ℕ). x ++ drop e old) (append_assoc (head ++ field) credits frame.octets ∙ append_assoc head field (credits ++ frame.octets)
    ∙ ap (λ (k : ℕ). k ∷ control ∷ (field ++ (credits ++ frame.octets))) address_is
    ∙ ap (λ (k : ℕ). address_of frame ∷ k ∷ (field ++ (credits ++ frame.octets))) control_is)

-- the check word behind what it is over
module _ (frame : PlainFrame) (old mid new : List ℕ) (end all size word : ℕ) (fits : IsFrame frame) (few : length frame.octets < 2 ^ 15)
    (end_is : 1 + end ≡ length (unchecked frame) + 1) (before : mid ≡ unchecked frame ++ drop end old)
    (size_is : size ≡ (if carries frame.kind then 2 else end)) (small : word < 256)
    (made : low_bits 8 word ≡ rfcomm_check (take size mid)) (all_is : all ≡ end + 1) (behind : IsWritten mid new end (word ∷ []) all) where
  part : List ℕ
  part = unchecked frame

  length-part : length part ≡ end
  unfolding part
  length-part = omega arith

  whole : List ℕ
  whole = part ++ word ∷ []

  length-whole : length whole ≡ all
  unfolding whole
  length-whole = omega (arith, length-append part (word ∷ []), length-part)

  new_is : new ≡ whole ++ drop all old
  unfolding whole part
  new_is = piece_then 0 end all part (word ∷ []) old mid new (omega arith) (omega (arith, length-part)) all_is before behind

  form : HasForm frame whole
  unfolding whole part
  form = record { field = shortest (length frame.octets); check = word; parts = refl; states = states-shortest (length frame.octets) few; check_fits = small; fits = fits }

  two_or_all : (b : Bool) → (if b then 2 else end) ≤ length part
  unfolding part
  two_or_all true = omega arith
  two_or_all false = omega (arith, length-part)

  covered_front : take size mid ≡ take (if carries frame.kind then 2 else length whole - 1) whole
  unfolding whole part
  covered_front =
      let within : size ≤ length part = omega (arith, two_or_all (carries frame.kind)) in
      let last : length whole - 1 ≡ end = omega (arith, length-whole) in
      ap (take size) before
      ∙ take-append-le size part (drop end old) within
      ∙ sym (take-append-le size part (word ∷ []) within)
      ∙ ap (λ (k : ℕ). take k whole) (size_is ∙ ap (λ (k : ℕ). if carries frame.kind then 2 else k) (sym last))

  pub frame_spells : Spells frame (take all new)
  unfolding form
  frame_spells =
      let here : Spells frame whole = record { form = form; holds = made ∙ ap rfcomm_check (covered_front ∙ covered_is frame whole form) } in
      subst (Spells frame) (sym (ap (take all) new_is ∙ take_at whole (drop all old) all length-whole)) here

  pub frame_rest : drop all new ≡ drop all old
  frame_rest = ap (drop all) new_is ∙ drop_at whole (drop all old) all length-whole

-- a type octet with the length field and the value behind it
pub control_spells : (control : PlainControl) (old mid new : List ℕ) (start all : ℕ) (fits : IsControl control) → length (value_of control) < 2 ^ 15
    → start ≡ 1 → all ≡ start + length (shortest (length (value_of control)) ++ value_of control)
    → IsWritten old mid 0 (type_of control ∷ []) start → IsWritten mid new start (shortest (length (value_of control)) ++ value_of control) all
    → SpellsControl control (take all new)
control_spells control old mid new start all fits few start_is all_is first second =
    let sized : List ℕ = shortest (length (value_of control)) ++ value_of control in
    let whole = piece_then 0 start all (type_of control ∷ []) sized old mid new (omega arith) start_is all_is first second in
    record {
      field = shortest (length (value_of control));
      parts = ap (take all) whole ∙ take_at (written control) (drop all old) all (omega arith);
      states = states-shortest (length (value_of control)) few;
      fits = fits;
    }
