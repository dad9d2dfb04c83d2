-- What is picked, numbered and awaited, frame by frame.
use Rattle.std.proofs.Common.{◌≡◌, ℕ, ◌+◌, ◌%◌, max, Bool, true, false, cond, List, [], ◌∷◌, ◌++◌, refl, sym, ap, subst, ◌∙◌, arith, append-nil, ◌⊎◌, inl, inr}
use Rattle.std.specs.Prelude.{◌||◌}
use Rattle.std.specs.List.{AllByRecursion}
use Rattle.std.proofs.lemmas.Bool.{eqb-true, eqb-false, eq-eqb}
use Rattle.ertm_frames.specs.Frames.{PlainFrame, information, supervisory}
use Rattle.ertm_frames.specs.Segments.{Segment}
use Rattle.ertm_frames.specs.Picking.{HasNumber, segments_in, ArePicked, has_number, picked, IsNumber, number, numbers, Passage, Out, In, is_poll, is_final, IsNoAnswer, PollWaits, waits_after, poll_waits}
use Rattle.ertm_frames.specs.PickingLaws.{PickedIsRight, PickedIsOne, NumbersAreOne, PollWaitsIsRight}

-- ---- picking

lacks : (n : ℕ) (frame : PlainFrame) → has_number n frame ≡ false → ¬ HasNumber n frame
lacks n (information tx final req sar total octets) is has = eqb-false tx (n % 64) is has
lacks n (supervisory kind poll final req) is has = has

has : (n : ℕ) (frame : PlainFrame) → HasNumber n frame → has_number n frame ≡ true
has n (information tx final req sar total octets) is = eq-eqb tx (n % 64) is
has n (supervisory kind poll final req) is = absurd is

holds : (n : ℕ) (frame : PlainFrame) → has_number n frame ≡ true → HasNumber n frame
holds n (information tx final req sar total octets) is = eqb-true tx (n % 64) is
holds n (supervisory kind poll final req) is = cc

false_if : (b : Bool) → ¬ (b ≡ true) → b ≡ false
false_if true never = absurd (never refl)
false_if false never = refl

-- one frame more in front, which is not the next
behind_other : (n : ℕ) (frame : PlainFrame) (frames : List PlainFrame) (segments : List Segment) → ¬ HasNumber n frame → ArePicked n frames segments → ArePicked n (frame ∷ frames) segments
behind_other n frame frames [] other all = (other, all)
behind_other n frame frames (segment ∷ segments) other (front, one, behind, parts, none, is, carries, rest) =
    (frame ∷ front, one, behind, ap (λ (xs : List PlainFrame). frame ∷ xs) parts, (other, none), is, carries, rest)

-- the next one
behind_next : (n : ℕ) (frame : PlainFrame) (frames : List PlainFrame) (segments : List Segment) → HasNumber n frame → ArePicked (n + 1) frames segments → ArePicked n (frame ∷ frames) (segments_in frame ++ segments)
behind_next n (information tx final req sar total octets) frames segments is rest = ([], information tx final req sar total octets, frames, refl, tt, is, refl, rest)
behind_next n (supervisory kind poll final req) frames segments is rest = absurd is

picked_by : (n : ℕ) (frame : PlainFrame) (frames : List PlainFrame) (next : Bool) → has_number n frame ≡ next
    → ArePicked (n + 1) frames (picked (n + 1) frames) → ArePicked n frames (picked n frames)
    → ArePicked n (frame ∷ frames) (cond next (segments_in frame ++ picked (n + 1) frames) (picked n frames))
picked_by n frame frames true is first second = behind_next n frame frames (picked (n + 1) frames) (holds n frame is) first
picked_by n frame frames false is first second = behind_other n frame frames (picked n frames) (lacks n frame is) second

pub picked-is_right : PickedIsRight
picked-is_right n [] = tt
picked-is_right n (frame ∷ frames) = picked_by n frame frames (has_number n frame) refl (picked-is_right (n + 1) frames) (picked-is_right n frames)

-- what stands before the next one says nothing
pub passed_over : (n : ℕ) (front rest : List PlainFrame) → AllByRecursion (λ before. ¬ HasNumber n before) front → picked n (front ++ rest) ≡ picked n rest
passed_over n [] rest none = refl
passed_over n (frame ∷ front) rest (other, none) =
    let is : has_number n frame ≡ false = false_if (has_number n frame) (λ h. other (holds n frame h)) in
    rw is (passed_over n front rest none)

pub picked-is_one : PickedIsOne
picked-is_one n frames [] none = sym (ap (picked n) (sym (append-nil frames)) ∙ passed_over n frames [] none)
picked-is_one n frames (segment ∷ segments) (front, frame, behind, parts, none, is, carries, rest) =
    let later : segments ≡ picked (n + 1) behind = picked-is_one (n + 1) behind segments rest in
    let next : has_number n frame ≡ true = has n frame is in
    let here : picked n (frame ∷ behind) ≡ segment ∷ picked (n + 1) behind = rw (next, carries) refl in
    rw (parts, passed_over n front (frame ∷ behind) none, here, later) refl

-- ---- numbers

numbered : (bound tx n : ℕ) → IsNumber bound tx n → n ≡ number bound tx
numbered bound tx n is = let same = is.same in let low = is.low in let greatest = is.greatest in omega arith

pub numbers-are_one : NumbersAreOne
numbers-are_one bound [] given fits are = are
numbers-are_one bound (supervisory kind poll final req ∷ frames) given fits are = numbers-are_one bound frames given fits.1 are
numbers-are_one bound (information tx final req sar total octets ∷ frames) [] fits are = absurd are
numbers-are_one bound (information tx final req sar total octets ∷ frames) (n ∷ given) fits are =
    let first : n ≡ number bound tx = numbered bound tx n are.0 in
    let rest : given ≡ numbers (max bound (n + 1)) frames = numbers-are_one (max bound (n + 1)) frames given fits.1 are.1 in
    rw (rest, first) refl

-- ---- polls

-- there is a poll with no answer behind it, or one from before all these with none in them
abbrev Stays : Bool → List Passage → Type 0
Stays waits passages = ((waits ≡ true) × AllByRecursion IsNoAnswer passages) ⊎ PollWaits passages

more_waits : (passage : Passage) (passages : List Passage) → PollWaits passages → PollWaits (passage ∷ passages)
more_waits passage passages (front, frame, behind, parts, is, none) = (passage ∷ front, frame, behind, ap (λ (xs : List Passage). passage ∷ xs) parts, is, none)

or_true : (a b : Bool) → (a || b) ≡ true → (a ≡ true) ⊎ (b ≡ true)
or_true true b e = inl refl
or_true false b e = inr e

or_right : (a b : Bool) → b ≡ true → (a || b) ≡ true
or_right true b e = refl
or_right false b e = e

stays_in : (waits final : Bool) (frame : PlainFrame) (passages : List Passage) → is_final frame ≡ final → Stays (cond final false waits) passages → Stays waits (In frame ∷ passages)
stays_in waits true frame passages is (inl (held, none)) = cc
stays_in waits false frame passages is (inl (held, none)) = inl (held, (is, none))
stays_in waits final frame passages is (inr later) = inr (more_waits (In frame) passages later)

stays : (waits : Bool) (passages : List Passage) → poll_waits waits passages ≡ true → Stays waits passages
stays waits [] e = inl (e, tt)
stays waits (Out frame ∷ passages) e = elim (stays (waits || is_poll frame) passages e) [
  | inl (held, none) ↦ elim (or_true waits (is_poll frame) held) [
    | inl before ↦ inl (before, (tt, none))
    | inr here ↦ inr ([], frame, passages, refl, here, none)
  ]
  | inr later ↦ inr (more_waits (Out frame) passages later)
]
stays waits (In frame ∷ passages) e = stays_in waits (is_final frame) frame passages refl (stays (cond (is_final frame) false waits) passages e)

kept : (passages : List Passage) → AllByRecursion IsNoAnswer passages → poll_waits true passages ≡ true
kept [] none = refl
kept (Out frame ∷ passages) none = kept passages none.1
kept (In frame ∷ passages) (none, more) = rw none (kept passages more)

found : (waits : Bool) (front : List Passage) (frame : PlainFrame) (behind : List Passage) → is_poll frame ≡ true → AllByRecursion IsNoAnswer behind → poll_waits waits (front ++ Out frame ∷ behind) ≡ true
found waits [] frame behind is none = ap (λ (b : Bool). poll_waits b behind) (or_right waits (is_poll frame) is) ∙ kept behind none
found waits (passage ∷ front) frame behind is none = found (waits_after waits passage) front frame behind is none

waits_by : (passages : List Passage) → Stays false passages → PollWaits passages
waits_by passages (inl (held, none)) = cc
waits_by passages (inr waits) = waits

pub poll_waits-is_right : PollWaitsIsRight
poll_waits-is_right passages = (
  (λ e. waits_by passages (stays false passages e)),
  (λ (front, frame, behind, parts, is, none). subst (λ (xs : List Passage). poll_waits false xs ≡ true) (sym parts) (found false front frame behind is none)),
)
