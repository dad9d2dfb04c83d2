-- The control messages in the information of a frame, one after the other.
use Rattle.std.proofs.Common.{◌≡◌, ℕ, zero, suc, ◌+◌, ◌-◌, ◌<◌, ◌≤◌, List, [], ◌∷◌, length, take, drop, Ok, Err, refl, sym, ap, subst, ◌∙◌, arith}
use Rattle.std.proofs.lemmas.List.{length-drop, take-append-drop}
use Rattle.bt_base.specs.Octets.{IsOctets}
use Rattle.rfcomm_frames.specs.declared.refusal.MuxRefusal.{MuxRefusal}
use Rattle.rfcomm_frames.specs.Controls.{PlainControl, SpellsControl}
use Rattle.rfcomm_frames.specs.ControlAnswers.{ControlAnswer, IsControlAnswer}
use Rattle.rfcomm_frames.specs.FrameReading.{MessageAnswer, message_answer, messages_from, used_by, messages_within, messages}
use Rattle.rfcomm_frames.proofs.Formed.{part_fits}
use Rattle.rfcomm_frames.proofs.FrameReading.{message_answered}

spelled_some : (control : PlainControl) (used : ℕ) (octets : List ℕ) → SpellsControl control (take used octets) → 0 < used
spelled_some control zero octets s = let e = s.parts in cc
spelled_some control (suc used) octets s = omega arith

-- a message has octets
pub uses_some : (octets : List ℕ) (control : PlainControl) (used : ℕ) → IsOctets octets → message_answer octets ≡ Ok (control, used) → 0 < used
uses_some octets control used fits is =
    let answered : IsControlAnswer octets (Ok (control, used)) = subst (IsControlAnswer octets) is (message_answered octets fits) in
    spelled_some control used octets answered.1

pub behind_fits : (used : ℕ) (octets : List ℕ) → IsOctets octets → IsOctets (drop used octets)
behind_fits used octets fits = part_fits (take used octets) (drop used octets) octets (sym (take-append-drop used octets)) fits

after_one : (steps steps' x : ℕ) (xs : List ℕ) → IsOctets (x ∷ xs) → length (x ∷ xs) ≤ suc steps → length (x ∷ xs) ≤ suc steps' → (a : ControlAnswer) → message_answer (x ∷ xs) ≡ a
    → ((rest : List ℕ) → IsOctets rest → length rest ≤ steps → length rest ≤ steps' → messages_within steps rest ≡ messages_within steps' rest)
    → messages_from a (messages_within steps (drop (used_by a) (x ∷ xs))) ≡ messages_from a (messages_within steps' (drop (used_by a) (x ∷ xs)))
after_one steps steps' x xs fits long long' (Err refusal) is same = refl
after_one steps steps' x xs fits long long' (Ok found) is same =
    let some : 0 < found.1 = uses_some (x ∷ xs) found.0 found.1 fits is in
    let shorter = length-drop found.1 (x ∷ xs) in
    ap (λ (rest : List MessageAnswer). Ok found.0 ∷ rest) (same (drop found.1 (x ∷ xs)) (behind_fits found.1 (x ∷ xs) fits) (omega arith) (omega arith))

-- more steps than octets change nothing
enough : (steps steps' : ℕ) (octets : List ℕ) → IsOctets octets → length octets ≤ steps → length octets ≤ steps' → messages_within steps octets ≡ messages_within steps' octets
unfolding messages_within
enough zero zero octets fits long long' = refl
enough zero (suc steps') [] fits long long' = refl
enough zero (suc steps') (x ∷ xs) fits long long' = absurd (omega arith)
enough (suc steps) zero [] fits long long' = refl
enough (suc steps) zero (x ∷ xs) fits long long' = absurd (omega arith)
enough (suc steps) (suc steps') [] fits long long' = refl
enough (suc steps) (suc steps') (x ∷ xs) fits long long' =
    after_one steps steps' x xs fits long long' (message_answer (x ∷ xs)) refl (λ rest fits' short short'. enough steps steps' rest fits' short short')

-- a message, and those behind it
pub messages-ok : (octet : ℕ) (octets : List ℕ) (control : PlainControl) (used : ℕ) → IsOctets (octet ∷ octets) → message_answer (octet ∷ octets) ≡ Ok (control, used)
    → messages (octet ∷ octets) ≡ Ok control ∷ messages (drop used (octet ∷ octets))
unfolding messages messages_within
messages-ok octet octets control used fits is =
    let some : 0 < used = uses_some (octet ∷ octets) control used fits is in
    let shorter = length-drop used (octet ∷ octets) in
    ap (λ (a : ControlAnswer). messages_from a (messages_within (length octets) (drop (used_by a) (octet ∷ octets)))) is
    ∙ ap (λ (rest : List MessageAnswer). Ok control ∷ rest) (enough (length octets) (length (drop used (octet ∷ octets))) (drop used (octet ∷ octets)) (behind_fits used (octet ∷ octets) fits) (omega arith) (omega arith))

-- a refused one is the last
pub messages-err : (octet : ℕ) (octets : List ℕ) (refusal : MuxRefusal) → message_answer (octet ∷ octets) ≡ Err refusal → messages (octet ∷ octets) ≡ Err refusal ∷ []
unfolding messages messages_within
messages-err octet octets refusal is = ap (λ (a : ControlAnswer). messages_from a (messages_within (length octets) (drop (used_by a) (octet ∷ octets)))) is

pub messages-none : messages [] ≡ []
unfolding messages messages_within
messages-none = refl
