-- One frame more, and its number.
use Rattle.std.proofs.Common.{◌≡◌, ℕ, ◌+◌, ◌%◌, ◌≤◌, ◌<◌, List, [], ◌∷◌, ◌++◌, length, take, drop, map, fold, Bool, cond, inl, inr, refl, sym, ap, subst, ◌∙◌, arith, length-append}
use Rattle.std.proofs.lemmas.Bool.Decides.{leb_tells}
use Rattle.std.proofs.lemmas.Bool.{cases_lt}
use Rattle.std.proofs.lemmas.List.{map-append, take_all, take-append-le, take-append-drop}
use Rattle.std.proofs.lemmas.List.Sums.{fold-append}
use Rattle.own_channel_laws.specs.talk_laws.specs.capture.specs.Histories.{AtEach}
use Rattle.own_channel_laws.specs.talk_laws.specs.capture.proofs.HistoryLaws.{at_each-whole}
use Rattle.own_channel_laws.specs.talk_laws.specs.ertm_frames.specs.Frames.{PlainFrame}
use Rattle.own_channel_laws.specs.talk_laws.specs.ertm_frames.specs.Picking.{Passage, Out, In, outs, ins, picked, last_req, req_of}
use Rattle.own_channel_laws.specs.talk_laws.specs.ertm_frames.proofs.Telling.{picked-more, outs-more, outs-same, req-more}
use Rattle.own_channel_laws.specs.talk_laws.specs.link_talk.specs.Picks.{pick}
use Rattle.own_channel_laws.specs.talk_laws.proofs.Passes.{from_end}
use Rattle.own_channel_laws.proofs.Passing.{ins_in, ins_out}
use Rattle.window_laws.specs.Numbers.{Numbers, none_given, acknowledged_with, numbers_after, numbers_of, HoldsAsTaken, LastIsTaken, NumbersAreRead}
use Rattle.window_laws.specs.Windows.{number_from, acknowledged_of, given_of, HoldsAbsolutely}

pub numbers-more : (passed : List Passage) (more : Passage) → numbers_of (passed ++ more ∷ []) ≡ numbers_after (numbers_of passed) more
numbers-more passed more = fold-append numbers_after none_given passed (more ∷ [])

-- ---- a ReqSeq

-- its number, where so many went out, and else nothing
pub acknowledged-with : (P : ℕ → Type 0) (acknowledged given number : ℕ) → (number ≤ given → P number) → (given < number → P acknowledged) → P (acknowledged_with acknowledged given number)
acknowledged-with P acknowledged given number taken refused =
    elim (leb_tells number given) [
      | inl (e, le) ↦ subst (λ (b : Bool). P (cond b number acknowledged)) (sym e) (taken le)
      | inr (e, lt) ↦ subst (λ (b : Bool). P (cond b number acknowledged)) (sym e) (refused lt)
    ]

-- what comes in acknowledges more, and none that did not go out
pub holds-in : (window : ℕ) (passed : List Passage) (frame : PlainFrame) → HoldsAsTaken window passed → HoldsAsTaken window (passed ++ In frame ∷ [])
holds-in window passed frame h =
    let a = (numbers_of passed).acknowledged in
    let n = (numbers_of passed).given in
    let x = number_from a (req_of frame) in
    let gone = h.gone in
    let within = h.within in
    let (high, low) = acknowledged-with (λ (k : ℕ). (k ≤ n) × (n ≤ k + window)) a n x (λ le. (le, omega (arith, le, within))) (λ lt. (gone, within)) in
    let more = numbers-more passed (In frame) in
    record { gone = subst (λ (m : Numbers). m.acknowledged ≤ m.given) (sym more) high; within = subst (λ (m : Numbers). m.given ≤ m.acknowledged + window) (sym more) low }

pub holds-none : (window : ℕ) → HoldsAsTaken window []
holds-none window = record { gone = omega arith; within = omega arith }

-- ---- as many as are picked

count_more : (frames : List PlainFrame) (frame : PlainFrame) → length (picked 0 (frames ++ frame ∷ [])) ≡ length (picked 0 frames) + length (pick (length (picked 0 frames)) frame)
count_more frames frame =
    let none : 0 + length (picked 0 frames) ≡ length (picked 0 frames) = omega arith in
    ap length (picked-more 0 frames frame ∙ ap (λ n. picked 0 frames ++ pick n frame) none) ∙ length-append (picked 0 frames) (pick (length (picked 0 frames)) frame)

picked_one : (passed : List Passage) (more : Passage) → (numbers_of passed).given ≡ length (picked 0 (outs passed)) → (numbers_of (passed ++ more ∷ [])).given ≡ length (picked 0 (outs (passed ++ more ∷ [])))
picked_one passed (Out frame) was =
    ap (λ (m : Numbers). m.given) (numbers-more passed (Out frame))
    ∙ (ap (λ n. n + length (pick n frame)) was
    ∙ (sym (count_more (outs passed) frame) ∙ ap (λ fs. length (picked 0 fs)) (sym (outs-more passed frame))))
picked_one passed (In frame) was =
    ap (λ (m : Numbers). m.given) (numbers-more passed (In frame))
    ∙ (was ∙ ap (λ fs. length (picked 0 fs)) (sym (outs-same passed frame)))

pub given-are_picked : (passed : List Passage) → (numbers_of passed).given ≡ given_of passed
given-are_picked passed = from_end (λ (past : List Passage). (numbers_of past).given ≡ length (picked 0 (outs past))) refl picked_one passed

-- ---- where no ReqSeq was refused

-- what holds at each moment of a history held at each moment of its front
pub each-front : {X : Type 0} (P : List X → Type 0) (front behind : List X) → AtEach P (front ++ behind) → AtEach P front
each-front P front behind each n =
    elim (cases_lt (length front) n) [
      | inl beyond ↦ subst P (take-append-le (length front) front behind (omega arith) ∙ (take_all (length front) front (omega arith) ∙ sym (take_all n front (omega (arith, beyond))))) (each (length front))
      | inr within ↦ subst P (take-append-le n front behind within) (each n)
    ]

stands_for : (passed : List Passage) (more : Passage) → ((numbers_of passed).acknowledged ≡ acknowledged_of passed) → LastIsTaken (passed ++ more ∷ []) → (numbers_of (passed ++ more ∷ [])).acknowledged ≡ acknowledged_of (passed ++ more ∷ [])
stands_for passed (Out frame) was taken = ap (λ (m : Numbers). m.acknowledged) (numbers-more passed (Out frame)) ∙ (was ∙ ap (λ fs. fold number_from 0 (map req_of fs)) (sym (ins_out passed frame)))
stands_for passed (In frame) was taken =
    now ∙ (acknowledged-with (λ (k : ℕ). k % 64 ≡ req_of frame → k ≡ y) a (numbers_of passed).given y (λ le is. refl) (λ lt is. omega (arith, is)) is
    ∙ (ap (λ k. number_from k (req_of frame)) was ∙ sym later))
  where
    a : ℕ
    a = (numbers_of passed).acknowledged

    y : ℕ
    y = number_from a (req_of frame)

    now : (numbers_of (passed ++ In frame ∷ [])).acknowledged ≡ acknowledged_with a (numbers_of passed).given y
    now = ap (λ (m : Numbers). m.acknowledged) (numbers-more passed (In frame))

    is : acknowledged_with a (numbers_of passed).given y % 64 ≡ req_of frame
    is = ap (λ k. k % 64) (sym now) ∙ (taken ∙ (ap (last_req 0) (ins_in passed frame) ∙ req-more 0 (ins passed) frame))

    later : acknowledged_of (passed ++ In frame ∷ []) ≡ number_from (acknowledged_of passed) (req_of frame)
    later = ap (λ fs. fold number_from 0 (map req_of fs)) (ins_in passed frame) ∙ (ap (fold number_from 0) (map-append req_of (ins passed) (frame ∷ [])) ∙ fold-append number_from 0 (map req_of (ins passed)) (req_of frame ∷ []))

pub acknowledged-stands : (passed : List Passage) → AtEach LastIsTaken passed → (numbers_of passed).acknowledged ≡ acknowledged_of passed
acknowledged-stands passed each = from_end (λ (past : List Passage). AtEach LastIsTaken past → (numbers_of past).acknowledged ≡ acknowledged_of past) (λ none. refl)
    (λ past more was all. stands_for past more (was (each-front LastIsTaken past (more ∷ []) all)) (at_each-whole LastIsTaken (past ++ more ∷ []) all)) passed each

pub numbers-are_read : NumbersAreRead
numbers-are_read = record { given = given-are_picked; acknowledged = acknowledged-stands }

-- so the window is held by what they stand for
pub holds-absolutely : (window : ℕ) (passed : List Passage) → AtEach LastIsTaken passed → AtEach (HoldsAsTaken window) passed → AtEach (HoldsAbsolutely window) passed
holds-absolutely window passed each holds n =
    let front = take n passed in
    let given = given-are_picked front in
    let acknowledged = acknowledged-stands front (each-front LastIsTaken front (drop n passed) (subst (AtEach LastIsTaken) (sym (take-append-drop n passed)) each)) in
    let gone = (holds n).gone in
    let within = (holds n).within in
    record { gone = omega (arith, given, acknowledged, gone); within = omega (arith, given, acknowledged, within) }
