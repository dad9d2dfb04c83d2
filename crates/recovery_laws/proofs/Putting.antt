-- What frames that an end gives do to the number of passes: one direction, frame by frame.
use Rattle.std.proofs.Common.{ℕ, ◌≡◌, ◌+◌, ◌-◌, ◌<◌, ◌≤◌, inl, inr, true, false, List, [], ◌∷◌, ◌++◌, refl, ap, sym, ◌∙◌, subst, arith}
use Rattle.std.specs.Prelude.{◌&&◌, ◌==◌}
use Rattle.std.proofs.lemmas.Bool.{ltb-true, eqb-false, or_parts, and_left, false_from_ne_true, both_ways}
use Rattle.std.proofs.lemmas.List.Folds.{list_any-append}
use Rattle.ertm_frames.specs.Picking.{is_poll, is_final}
use Rattle.ertm_model.specs.Hearing.{rejects_frames}
use Rattle.ertm_model.specs.Pair.{Sent}
use Rattle.recovery_laws.specs.Number.{Direction, rejections, number_in, numbers, is_past, is_among, is_rejected, sendings_left, firings_left, work_left}
use Rattle.recovery_laws.specs.Facts.{IsSound}
use Rattle.recovery_laws.proofs.Tests.{WantsAgain, WantsAnswer, bit, again-le, answer-le, answer-none, work-le, work-new}
use Rattle.recovery_laws.proofs.Runs.{numbers-on, numbers-same, rejections-on, none-before, none-on, run-new, tells-on}

-- ---- one direction goes on

pub not_none : (queue : List Sent) (sent : Sent) → queue ++ sent ∷ [] ≡ [] → ⊥
not_none [] sent e = cc
not_none (first ∷ queue) sent e = cc

-- From d to e: what holds is kept, and `owed` pays for the work that is there then and for `paid`
pub record Goes (paid owed : ℕ) (d e : Direction) : Type 0 where
  pub sound : IsSound e
  pub within : paid + work_left e ≤ owed + work_left d

abbrev pub gave : Sent → Direction → Direction
gave sent d = record d { going = d.going ++ sent ∷ [] }

abbrev pub told : Sent → Direction → Direction
told sent d = record d { coming = d.coming ++ sent ∷ [] }

-- ---- the sender gives an S-frame

gave_again : (sent : Sent) (d : Direction) → number_in sent.number sent.frame ≡ [] → WantsAgain (gave sent d) → WantsAgain d
gave_again sent d none (inl (free, past)) = inl (free, subst (λ (l : List ℕ). is_past d.accepted l ≡ true) (numbers-same d.going sent none) past)
gave_again sent d none (inr (quiet, unrejected, inl (less, missing))) =
    inr (quiet, unrejected, inl (less, subst (λ (l : List ℕ). is_among d.accepted l ≡ false) (numbers-same d.going sent none) missing))
gave_again sent d none (inr (quiet, unrejected, inr untold)) = inr (quiet, unrejected, inr untold)

gave_answer : (sent : Sent) (d : Direction) → WantsAnswer (gave sent d) → WantsAnswer d
gave_answer sent d (waits, unpolled, unanswered) = (waits, none-before (λ (s : Sent). is_poll s.frame) d.going (sent ∷ []) unpolled, unanswered)

pub gave-goes : (sent : Sent) (d : Direction) → number_in sent.number sent.frame ≡ [] → IsSound d → Goes 0 0 d (gave sent d)
gave-goes sent d none h =
    let e = gave sent d in
    let again = again-le e d (gave_again sent d none) in
    let answer = answer-le e d (gave_answer sent d) in
    record {
      sound = record {
        a_c = h.a_c;
        c_n = h.c_n;
        in_window = h.in_window;
        in_plan = h.in_plan;
        run = rw (numbers-same d.going sent none) h.run;
        tells = h.tells;
        outstanding = h.outstanding;
      };
      within = work-le d.window (d.planned - d.given) (d.planned - d.given) (sendings_left d) (sendings_left e) (firings_left d) (firings_left e) (omega arith) (omega arith) (omega arith);
    }

-- ---- it gives an I-frame that was never given

abbrev pub gave_new : Sent → Direction → Direction
gave_new sent d = record d { going = d.going ++ sent ∷ []; given = d.given + 1 }

new_skips : (d : Direction) (run : List ℕ) → numbers d.going ≡ run → d.waits ≡ false → d.rejecting ≡ false → (is_rejected d.accepted d.coming ≡ true → d.rejecting ≡ true)
    → is_past d.accepted (run ++ d.given ∷ []) ≡ true → WantsAgain d
new_skips d [] is quiet free outstanding past =
    inr (quiet, false_from_ne_true (is_rejected d.accepted d.coming) (λ e. both_ways d.rejecting free (outstanding e)), inl (ltb-true d.accepted d.given past, rw is refl))
new_skips d (m ∷ behind) is quiet free outstanding past = inl (free, rw is past)

new_below : (n c : ℕ) → c < n + 1 → (n ≡ c → ⊥) → c < n
new_below n c less other = omega arith

new_numbers : (sent : Sent) (d : Direction) → number_in sent.number sent.frame ≡ d.given ∷ [] → numbers (d.going ++ sent ∷ []) ≡ numbers d.going ++ d.given ∷ []
new_numbers sent d is = numbers-on d.going (sent ∷ []) ∙ ap (λ (l : List ℕ). numbers d.going ++ (l ++ [])) is

new_again : (sent : Sent) (d : Direction) → number_in sent.number sent.frame ≡ d.given ∷ [] → d.waits ≡ false → IsSound d → WantsAgain (gave_new sent d) → WantsAgain d
new_again sent d is quiet h (inl (free, past)) =
    new_skips d (numbers d.going) refl quiet free h.outstanding (subst (λ (l : List ℕ). is_past d.accepted l ≡ true) (new_numbers sent d is) past)
new_again sent d is quiet h (inr (silent, unrejected, inl (less, missing))) =
    let none = or_parts (is_among d.accepted (numbers d.going)) (is_among d.accepted (d.given ∷ []))
    (sym (list_any-append (λ (n : ℕ). n == d.accepted) (numbers d.going) (d.given ∷ [])) ∙ subst (λ (l : List ℕ). is_among d.accepted l ≡ false) (new_numbers sent d is) missing) in
    let other = eqb-false d.given d.accepted (or_parts (d.given == d.accepted) false none.1).0 in
    inr (quiet, unrejected, inl (new_below d.given d.accepted less other, none.0))
new_again sent d is quiet h (inr (silent, unrejected, inr (same, less, none))) = absurd (let e = h.c_n in omega arith)

pub new-goes : (sent : Sent) (d : Direction) → number_in sent.number sent.frame ≡ d.given ∷ [] → d.waits ≡ false → d.given < d.planned → d.given < d.acknowledged + d.window
    → IsSound d → Goes 2 0 d (gave_new sent d)
new-goes sent d is quiet some room h =
    let e = gave_new sent d in
    let again = again-le e d (new_again sent d is quiet h) in
    let answer = answer-none e (λ w. both_ways d.waits quiet w.0) in
    record {
      sound = record {
        a_c = h.a_c;
        c_n = let le = h.c_n in omega arith;
        in_window = omega arith;
        in_plan = omega arith;
        run = rw (new_numbers sent d is) (run-new d.acknowledged d.given (numbers d.going) h.run);
        tells = h.tells;
        outstanding = h.outstanding;
      };
      within = work-new d.window (d.planned - d.given) (d.planned - (d.given + 1)) (sendings_left d) (sendings_left e) (firings_left d) (firings_left e) (omega arith) (omega arith) (omega arith);
    }

-- ---- the other end gives a frame that is no REJ

told_again : (sent : Sent) (d : Direction) → WantsAgain (told sent d) → WantsAgain d
told_again sent d (inl skips) = inl skips
told_again sent d (inr (quiet, unrejected, inl missing)) =
    inr (quiet, none-before (λ (s : Sent). rejects_frames s.frame && (s.asks == d.accepted)) d.coming (sent ∷ []) unrejected, inl missing)
told_again sent d (inr (quiet, unrejected, inr (same, less, none))) = absurd (not_none d.coming sent none)

told_answer : (sent : Sent) (d : Direction) → WantsAnswer (told sent d) → WantsAnswer d
told_answer sent d (waits, unpolled, unanswered) = (waits, unpolled, none-before (λ (s : Sent). is_final s.frame) d.coming (sent ∷ []) unanswered)

pub rejections-same : (queue : List Sent) (sent : Sent) → rejects_frames sent.frame ≡ false → rejections (queue ++ sent ∷ []) ≡ rejections queue
rejections-same queue sent none = let e = rejections-on queue (sent ∷ []) in let f : bit (rejects_frames sent.frame) ≡ 0 = rw none refl in omega arith

pub told-goes : (sent : Sent) (d : Direction) → sent.asks ≡ d.accepted → rejects_frames sent.frame ≡ false → IsSound d → Goes 0 0 d (told sent d)
told-goes sent d is none h =
    let e = told sent d in
    let again = again-le e d (told_again sent d) in
    let answer = answer-le e d (told_answer sent d) in
    let same = rejections-same d.coming sent none in
    record {
      sound = record {
        a_c = h.a_c;
        c_n = h.c_n;
        in_window = h.in_window;
        in_plan = h.in_plan;
        run = h.run;
        tells = tells-on d.acknowledged d.accepted d.accepted d.coming sent (omega arith) is h.tells;
        outstanding = λ o. h.outstanding (sym (none-on (λ (s : Sent). rejects_frames s.frame && (s.asks == d.accepted)) d.coming sent (and_left (rejects_frames sent.frame) (sent.asks == d.accepted) none)) ∙ o);
      };
      within = work-le d.window (d.planned - d.given) (d.planned - d.given) (sendings_left d) (sendings_left e) (firings_left d) (firings_left e) (omega arith) (omega arith) (omega arith);
    }
