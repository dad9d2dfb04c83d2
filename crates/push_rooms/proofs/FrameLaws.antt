-- What a multiplexer says waits in its shortest form.
use Rattle.std.proofs.Common.{◌≡◌, ◌≤◌, ℕ, zero, suc, false, not, ◌==◌, List, [], ◌∷◌, ◌++◌, length, take, Option, Some, None, is_some, IfSome, IfNone, refl, sym, ap, subst, ◌∙◌, arith, inl, inr, length-take, length-take-le}
use Rattle.std.proofs.lemmas.List.{nil_from_length}
use Rattle.bt_base.specs.Octets.{IsOctets}
use Rattle.rfcomm_frames.specs.Frames.{PlainFrame}
use Rattle.rfcomm_frames.specs.FrameReading.{frame_answer}
use Rattle.rfcomm_frames.proofs.FrameReading.{spelled_answered}
use Rattle.rfcomm_frames.proofs.OneAnswer.{no-longer}
use Rattle.rfcomm_model.specs.Machine.{Mux}
use Rattle.rfcomm_model.specs.Saying.{Said}
use Rattle.rfcomm_mux.specs.Sent.{IsWritten, Sends}
use Rattle.push_model.specs.Payloads.{IsShortest}
use Rattle.push_rooms.specs.Frames.{frame_of, frame_in, IsWaiting, said_frame}

pub none_in : frame_in [] ≡ None
unfolding frame_answer
none_in = refl

written_fits : (frame : PlainFrame) (n : ℕ) (after : List ℕ) → IsWritten n (take n after) frame → n ≤ length after
written_fits frame n after written = let longer = no-longer frame (take n after) written.spelling in omega (arith, longer.0, written.size, length-take n after)

pub said_fits : (said : Option Said) (old new : Mux) (n : ℕ) (before after : List ℕ) → Sends said old new (Some n) before after → n ≤ length after
said_fits None old new n before after sends = absurd (let e : ⊥ = sends.some in e)
said_fits (Some said) old new n before after sends = written_fits said.frame n after sends.some

pub said_in : (said : Option Said) (old new : Mux) (n : ℕ) (before after : List ℕ) → Sends said old new (Some n) before after → IsOctets (take n after) → frame_in (take n after) ≡ said_frame said
said_in None old new n before after sends fits = absurd (let e : ⊥ = sends.some in e)
said_in (Some said) old new n before after sends fits = ap frame_of (spelled_answered said.frame (take n after) fits (let w : IsWritten n (take n after) said.frame = sends.some in w.spelling))

pub said_waits : (said : Option Said) (old new : Mux) (n : ℕ) (before after : List ℕ) → Sends said old new (Some n) before after → IsOctets (take n after) → IsWaiting n (take n after)
said_waits None old new n before after sends fits = absurd (let e : ⊥ = sends.some in e)
said_waits (Some said) old new n before after sends fits =
    let w : IsWritten n (take n after) said.frame = sends.some in
    let size = length-take-le n after (written_fits said.frame n after w) in
    inr (said.frame, said_in (Some said) old new n before after sends fits, record { spelling = w.spelling; size = size ∙ w.size }, size)

-- ---- what waits

-- a room that is written whole
front : (xs ys : List ℕ) → take (length xs) (xs ++ ys) ≡ xs
front [] ys = refl
front (x ∷ xs) ys = ap (λ (zs : List ℕ). x ∷ zs) (front xs ys)

pub whole_room : (n : ℕ) (xs ys : List ℕ) → length xs ≡ n → take n (xs ++ ys) ≡ xs
whole_room n xs ys e = ap (λ (m : ℕ). take m (xs ++ ys)) (sym e) ∙ front xs ys

some_size : (octets : List ℕ) (frame : PlainFrame) → frame_in octets ≡ Some frame → length octets ≡ 0 → ⊥
some_size octets frame is none = let e : None ≡ Some frame = sym none_in ∙ ap frame_in (sym (nil_from_length octets none)) ∙ is in cc

not_none : (size : ℕ) → (suc size == 0) ≡ false
not_none size = grind arith

pub is_there : (size : ℕ) (room : List ℕ) → IsWaiting size (take size room) → not (size == 0) ≡ is_some (frame_in (take size room))
is_there zero room waits = sym (ap is_some none_in)
is_there (suc size) room (inl none) = absurd (omega (arith, none))
is_there (suc size) room (inr (frame, is, shortest, len)) = ap not (not_none size) ∙ sym (ap is_some is)

pub shortest_by : (size : ℕ) (room : List ℕ) → IsWaiting size (take size room) → IfSome (frame_in (take size room)) (λ frame. IsShortest frame (take size room))
shortest_by zero room waits = subst (λ (o : Option PlainFrame). IfSome o (λ frame. IsShortest frame [])) (sym none_in) tt
shortest_by (suc size) room (inl none) = absurd (omega (arith, none))
shortest_by (suc size) room (inr (frame, is, shortest, len)) = subst (λ (o : Option PlainFrame). IfSome o (λ frame. IsShortest frame (take (suc size) room))) (sym is) shortest

pub none_by : (size : ℕ) (room : List ℕ) → IsWaiting size (take size room) → IfNone (frame_in (take size room)) (take size room ≡ [])
none_by zero room waits = subst (λ (o : Option PlainFrame). IfNone o (let e : List ℕ = [] in e ≡ [])) (sym none_in) refl
none_by (suc size) room (inl none) = absurd (omega (arith, none))
none_by (suc size) room (inr (frame, is, shortest, len)) = subst (λ (o : Option PlainFrame). IfNone o (take (suc size) room ≡ [])) (sym is) tt
