-- Frames that are not acknowledged, and credits, in one pass.
use Rattle.std.proofs.Common.{◌≡◌, ℕ, ◌+◌, Bool, true, false, cond, List, [], ◌∷◌, ◌++◌, length, fold, refl, sym, ap, ◌∙◌, arith, length-append}
use Rattle.std.specs.Prelude.{pos, ◌-ℤ◌}
use Rattle.std.proofs.lemmas.List.Sums.{fold-append}
use Rattle.link_talk.specs.ertm_frames.specs.Frames.{PlainFrame}
use Rattle.link_talk.specs.ertm_frames.specs.Picking.{Passage, Out, In, outs, ins, picked, last_req}
use Rattle.link_talk.specs.ertm_frames.proofs.Telling.{picked-more, req-more, outs-more, outs-same}
use Rattle.link_talk.specs.rfcomm_frames.specs.declared.connection.Role.{Role}
use Rattle.link_talk.specs.rfcomm_frames.specs.Multiplexing.{Passed, Framed, frames, no_connections, granted_by, granted, spent_by}
use Rattle.link_talk.specs.rfcomm_frames.specs.Ending.{Course, no_course, course_after, is_last, to_closing}
use Rattle.link_talk.specs.rfcomm_frames.specs.UserChannel.{credits_held}
use Rattle.link_talk.specs.Picks.{pick}
use Rattle.talk_laws.specs.Accounts.{Window, nothing_given, window_after, window_of, used, Credits, no_credits, credits_after, credits_of, left, AccountsLookBack, AccountsGrow}
use Rattle.talk_laws.proofs.Passes.{from_end}

-- ---- I-frames

pub window-more : (past : List Passage) (more : Passage) → window_of (past ++ more ∷ []) ≡ window_after (window_of past) more
window-more past more = fold-append window_after nothing_given past (more ∷ [])

ins_more : (past : List Passage) (frame : PlainFrame) → ins (past ++ In frame ∷ []) ≡ ins past ++ frame ∷ []
ins_more [] frame = refl
ins_more (Out first ∷ past) frame = ins_more past frame
ins_more (In first ∷ past) frame = ap (λ fs. first ∷ fs) (ins_more past frame)

ins_same : (past : List Passage) (frame : PlainFrame) → ins (past ++ Out frame ∷ []) ≡ ins past
ins_same [] frame = refl
ins_same (Out first ∷ past) frame = ins_same past frame
ins_same (In first ∷ past) frame = ap (λ fs. first ∷ fs) (ins_same past frame)

abbrev window_by : (outs_ ins_ : List PlainFrame) → Window
window_by outs_ ins_ = record { given = length (picked 0 outs_); awaited = last_req 0 ins_ }

count_more : (frames_ : List PlainFrame) (frame : PlainFrame) → length (picked 0 (frames_ ++ frame ∷ [])) ≡ length (picked 0 frames_) + length (pick (length (picked 0 frames_)) frame)
count_more frames_ frame =
    let none : 0 + length (picked 0 frames_) ≡ length (picked 0 frames_) = omega arith in
    ap length (picked-more 0 frames_ frame ∙ ap (λ n. picked 0 frames_ ++ pick n frame) none) ∙ length-append (picked 0 frames_) (pick (length (picked 0 frames_)) frame)

abbrev Counted : List Passage → Type 0
Counted past = window_of past ≡ window_by (outs past) (ins past)

counted_more : (past : List Passage) (more : Passage) → Counted past → Counted (past ++ more ∷ [])
counted_more past (Out frame) held =
    window-more past (Out frame)
    ∙ (ap (λ w. window_after w (Out frame)) held
    ∙ (ap (λ n. let w : Window = record { given = n; awaited = last_req 0 (ins past) } in w) (sym (count_more (outs past) frame))
    ∙ (ap (λ fs. window_by fs (ins past)) (sym (outs-more past frame)) ∙ ap (window_by (outs (past ++ Out frame ∷ []))) (sym (ins_same past frame)))))
counted_more past (In frame) held =
    window-more past (In frame)
    ∙ (ap (λ w. window_after w (In frame)) held
    ∙ (ap (λ n. let w : Window = record { given = length (picked 0 (outs past)); awaited = n } in w) (sym (req-more 0 (ins past) frame))
    ∙ (ap (λ fs. window_by fs (ins past ++ frame ∷ [])) (sym (outs-same past frame)) ∙ ap (window_by (outs (past ++ In frame ∷ []))) (sym (ins_more past frame)))))

pub window-is : (passages : List Passage) → window_of passages ≡ window_by (outs passages) (ins passages)
window-is passages = from_end Counted refl counted_more passages

-- ---- credits

pub credits-more : (dlci : ℕ) (side : Role) (fs : List Framed) (more : Framed) → credits_of dlci side (fs ++ more ∷ []) ≡ credits_after dlci side (credits_of dlci side fs) more
credits-more dlci side fs more = fold-append (credits_after dlci side) no_credits fs (more ∷ [])

-- what counts of the frames to come
abbrev to_come : Bool → ℕ → Role → Course → List Framed → List Framed
to_come closed dlci side c fs = cond closed [] (to_closing dlci side c fs)

closed_stays : (dlci : ℕ) (side : Role) (c : Course) (fs : List Framed) (before spent_ : ℕ)
    → let credits : Credits = record { course = c; closed = true; granted = before; spent = spent_ } in fold (credits_after dlci side) credits fs ≡ credits
closed_stays dlci side c [] before spent_ = refl
closed_stays dlci side c (f ∷ fs) before spent_ = closed_stays dlci side c fs before spent_

none_before : (n : ℕ) → n + 0 ≡ n
none_before n = omega arith

none_to_come : (closed : Bool) → cond closed [] [] ≡ (let none : List Framed = [] in none)
none_to_come true = refl
none_to_come false = refl

together : (before now later : ℕ) → before + now + later ≡ before + (now + later)
together before now later = omega arith

granted_from : (dlci : ℕ) (side : Role) (c : Course) (closed : Bool) (fs : List Framed) (before spent_ : ℕ)
    → (fold (credits_after dlci side) (record { course = c; closed = closed; granted = before; spent = spent_ }) fs).granted ≡ before + granted dlci side c.lines (to_come closed dlci side c fs)
granted_from dlci side c true fs before spent_ = ap (λ (credits : Credits). credits.granted) (closed_stays dlci side c fs before spent_) ∙ sym (none_before before)
granted_from dlci side c false [] before spent_ = sym (none_before before)
granted_from dlci side c false (f ∷ fs) before spent_ =
    granted_from dlci side (course_after dlci side c f) (is_last dlci side c f) fs (before + granted_by dlci side c.lines f) (spent_ + spent_by dlci side f)
    ∙ together before (granted_by dlci side c.lines f) (granted dlci side (course_after dlci side c f).lines (to_come (is_last dlci side c f) dlci side (course_after dlci side c f) fs))

spent_from : (dlci : ℕ) (side : Role) (c : Course) (closed : Bool) (fs : List Framed) (before spent_ : ℕ)
    → (fold (credits_after dlci side) (record { course = c; closed = closed; granted = before; spent = spent_ }) fs).spent ≡ fold (λ a x. a + spent_by dlci side x) spent_ (to_come closed dlci side c fs)
spent_from dlci side c true fs before spent_ = ap (λ (credits : Credits). credits.spent) (closed_stays dlci side c fs before spent_)
spent_from dlci side c false [] before spent_ = refl
spent_from dlci side c false (f ∷ fs) before spent_ =
    spent_from dlci side (course_after dlci side c f) (is_last dlci side c f) fs (before + granted_by dlci side c.lines f) (spent_ + spent_by dlci side f)

granted_at_first : (n : ℕ) → 0 + n ≡ n
granted_at_first n = omega arith

pub credits_are : (dlci : ℕ) (side : Role) (passed : List Passed) → left (credits_of dlci side (frames passed)) ≡ credits_held dlci side passed
credits_are dlci side passed =
    let fs = frames passed in
    let live = to_closing dlci side no_course fs in
    ap (λ n. pos n -ℤ pos (credits_of dlci side fs).spent) (granted_from dlci side no_course false fs 0 0 ∙ granted_at_first (granted dlci side no_connections live))
    ∙ ap (λ n. pos (granted dlci side no_connections live) -ℤ pos n) (spent_from dlci side no_course false fs 0 0)

pub accounts-look_back : AccountsLookBack
accounts-look_back = record { window = λ passages. ap used (window-is passages); credits = credits_are }

pub accounts-grow : AccountsGrow
accounts-grow = record { window = window-more; credits = credits-more }
