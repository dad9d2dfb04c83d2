-- Messages that a side writes are read again as they are.
use Rattle.std.proofs.Common.{arith, ◌≡◌, ◌<◌, ◌≤◌, ℕ, ◌==◌, ◌+◌, ◌*◌, ◌/◌, ◌%◌, ◌^◌, Bool, true, false, ◌&&◌, List, [], ◌∷◌, length, take, Some, Ok, refl, ap}
use Rattle.std.specs.Prelude.{nat_le}
use Rattle.std.proofs.lemmas.Bool.{cond_both, leb-true, and_parts}
use Rattle.std.proofs.lemmas.List.{length-append, take_all}
use Rattle.rfcomm_frames.specs.Controls.{PlainControl, pn, msc, test, rpn, rls, nsc, written}
use Rattle.rfcomm_frames.specs.FrameReading.{message_answer, messages, messages_within, MessageAnswer}
use Rattle.rfcomm_frames.specs.Lengths.{shortest, sized}
use Rattle.rfcomm_frames.specs.Reading.{message}
use Rattle.rfcomm_model.specs.Machine.{Mux}
use Rattle.rfcomm_model.specs.Written.{control_frame}
use Rattle.rfcomm_model.specs.Hearing.{has_room, answering, tells}
use Rattle.rfcomm_model.proofs.Loading.{one_message}

-- ---- PN and MSC

frame_again : (n : ℕ) → n < 2 ^ 16 → n % 256 + 256 * (n / 256 % 256 + 0) ≡ n
frame_again n fits = omega arith

pub msc_read : (command : Bool) (address signals : ℕ) → messages (written (msc command address signals)) ≡ Ok (msc command address signals) ∷ []
unfolding messages messages_within message_answer
msc_read true address signals = refl
msc_read false address signals = refl

pub pn_read : (command : Bool) (dlci flow priority timer frame retransmissions credits : ℕ) → frame < 2 ^ 16
    → messages (written (pn command dlci flow priority timer frame retransmissions credits)) ≡ Ok (pn command dlci flow priority timer frame retransmissions credits) ∷ []
unfolding messages messages_within message_answer
pn_read true dlci flow priority timer frame retransmissions credits fits =
    ap (λ (n : ℕ). let list : List MessageAnswer = Ok (pn true dlci flow priority timer n retransmissions credits) ∷ [] in list) (frame_again frame fits)
pn_read false dlci flow priority timer frame retransmissions credits fits =
    ap (λ (n : ℕ). let list : List MessageAnswer = Ok (pn false dlci flow priority timer n retransmissions credits) ∷ [] in list) (frame_again frame fits)

-- ---- what is told of other messages

-- it has 40 octets at most
abbrev pub IsRead : PlainControl → Type 0
IsRead control = length (written control) ≤ 40 → messages (written control) ≡ Ok control ∷ []

told_read : (kind : ℕ) (value : List ℕ) (control : PlainControl) → (kind % 2 == 0) ≡ false → message kind (take (length value) value) ≡ Some control → length (kind ∷ sized value) ≤ 40 → messages (kind ∷ sized value) ≡ Ok control ∷ []
told_read kind value control odd says few = let parts = length-append (shortest (length value)) value in one_message kind value control (omega (arith, few, parts)) odd says

pub test_read : (octets : List ℕ) → IsRead (test false octets)
test_read octets = told_read 0x21 octets (test false octets) refl (ap (λ (xs : List ℕ). Some (test false xs)) (take_all (length octets) octets (omega arith)))

pub rpn_read : (value : List ℕ) → IsRead (rpn false value)
rpn_read value = told_read 0x91 value (rpn false value) refl (ap (λ (xs : List ℕ). Some (rpn false xs)) (take_all (length value) value (omega arith)))

pub rls_read : (value : List ℕ) → IsRead (rls false value)
rls_read value = told_read 0x51 value (rls false value) refl (ap (λ (xs : List ℕ). Some (rls false xs)) (take_all (length value) value (omega arith)))

pub nsc_read : (kind : ℕ) → IsRead (nsc kind)
nsc_read kind = told_read 0x11 (kind ∷ []) (nsc kind) refl refl

-- what a side keeps, and keeps with one answer more, it keeps whatever it tells
pub tells_keeps : (P : Mux → Type 0) (control : PlainControl) (m : Mux) → IsRead control → P m → (messages (written control) ≡ Ok control ∷ [] → P (answering (control_frame m.role control) m)) → P (tells control m)
tells_keeps P control m read same more =
    cond_both (nat_le (length (written control)) 40 && has_room m) (answering (control_frame m.role control) m) m P
    (λ may. more (read (leb-true (length (written control)) 40 (and_parts (nat_le (length (written control)) 40) (has_room m) may).0)))
    (λ no. same)
