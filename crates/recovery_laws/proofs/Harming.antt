-- What a loss, a repeat and a timer do to the number of passes: one direction.
use Rattle.std.proofs.Common.{ℕ, ◌≡◌, ◌+◌, ◌-◌, ◌*◌, ◌<◌, ◌≤◌, ◌⊎◌, inl, inr, Bool, true, false, List, [], ◌∷◌, ◌++◌, refl, sym, ◌∙◌, subst, arith}
use Rattle.std.specs.Prelude.{◌&&◌, ◌||◌, ◌==◌}
use Rattle.std.proofs.lemmas.Bool.{or_parts, or_from, or_right, both_ways, cases_Bool, cases_order}
use Rattle.ertm_frames.specs.Picking.{is_poll, is_final}
use Rattle.ertm_model.specs.Hearing.{rejects_frames}
use Rattle.ertm_model.specs.Pair.{Sent}
use Rattle.recovery_laws.specs.Number.{Direction, number_in, numbers, is_past, is_among, is_rejected, has_poll, has_final, wants_again, wants_answer, sendings_left, firings_left}
use Rattle.recovery_laws.specs.Facts.{RunsToLast, IsSound}
use Rattle.recovery_laws.proofs.Tests.{Skips, WantsAgain, WantsAnswer, bit, bit-at_most, again-le, again-none, again-one, answer-le, answer-none, answer-one, work-le, work-fired, work-harmed, work-asked, work-sent}
use Rattle.recovery_laws.proofs.Runs.{numbers-same, any-on, run-behind, tells-lost}
use Rattle.std.proofs.lemmas.List.Folds.{list_any-append}
use Rattle.ertm_frames.specs.Frames.{PlainFrame, information, supervisory}
use Rattle.recovery_laws.proofs.Putting.{Goes}
use Rattle.recovery_laws.proofs.Hearing.{comes}
use Rattle.recovery_laws.proofs.Receiving.{goes, gone, passed-again, passed-sound, front_run}

-- ---- the front frame is lost

-- an I-frame: a sending again may be due
pub lost-goes : (sent : Sent) (queue : List Sent) (d : Direction) (number : ℕ) → number_in sent.number sent.frame ≡ number ∷ [] → is_poll sent.frame ≡ false → IsSound (goes sent queue d)
    → Goes 0 (2 * d.window + 3) (goes sent queue d) (gone queue d)
lost-goes sent queue d number is unpolling h =
    let c = goes sent queue d in
    let e = gone queue d in
    let some = bit-at_most (wants_again e) in
    let answers = answer-le e c (λ w. (w.0, or_from (is_poll sent.frame) (has_poll queue) unpolling w.1, w.2)) in
    record {
      sound = record {
        a_c = h.a_c;
        c_n = h.c_n;
        in_window = h.in_window;
        in_plan = h.in_plan;
        run = run-behind d.acknowledged d.given number (numbers queue) (front_run sent queue number d.acknowledged d.given is h.run);
        tells = h.tells;
        outstanding = h.outstanding;
      };
      within = work-harmed d.window (d.planned - d.given) (d.planned - d.given) (sendings_left c) (sendings_left e) (firings_left c) (firings_left e) (omega arith) (omega arith) (omega arith);
    }

-- an S-frame: a poll may be missing
pub lost-passes : (sent : Sent) (queue : List Sent) (d : Direction) → number_in sent.number sent.frame ≡ [] → IsSound (goes sent queue d) → Goes 0 3 (goes sent queue d) (gone queue d)
lost-passes sent queue d none h =
    let c = goes sent queue d in
    let e = gone queue d in
    let again = again-le e c (passed-again sent queue d none) in
    let some = bit-at_most (wants_answer e) in
    record {
      sound = passed-sound sent queue d none h;
      within = work-asked d.window (d.planned - d.given) (d.planned - d.given) (sendings_left c) (sendings_left e) (firings_left c) (firings_left e) (omega arith) (omega arith) (omega arith);
    }

-- and in the other direction what it acknowledged, rejected or answered

abbrev pub unheard : List Sent → Direction → Direction
unheard queue d = record d { coming = queue }

unheard_again : (sent : Sent) (queue : List Sent) (d : Direction) → d.waits ≡ true → WantsAgain (unheard queue d) → WantsAgain (comes sent queue d)
unheard_again sent queue d waits (inl skips) = inl skips
unheard_again sent queue d waits (inr stalls) = absurd (both_ways d.waits stalls.0 waits)

-- one of the two at most is wanted for it
unheard_wants : (sent : Sent) (queue : List Sent) (d : Direction) → (d.waits ≡ true) ⊎ (d.waits ≡ false)
    → bit (wants_again (unheard queue d)) + bit (wants_answer (unheard queue d)) ≤ bit (wants_again (comes sent queue d)) + bit (wants_answer (comes sent queue d)) + 1
unheard_wants sent queue d (inl waits) =
    let e = unheard queue d in
    let again = again-le e (comes sent queue d) (unheard_again sent queue d waits) in
    let some = bit-at_most (wants_answer e) in
    omega arith
unheard_wants sent queue d (inr quiet) =
    let e = unheard queue d in
    let none = answer-none e (λ w. both_ways d.waits quiet w.0) in
    let some = bit-at_most (wants_again e) in
    omega arith

pub unheard-goes : (sent : Sent) (queue : List Sent) (d : Direction) → IsSound (comes sent queue d) → Goes 0 (2 * d.window + 3) (comes sent queue d) (unheard queue d)
unheard-goes sent queue d h =
    let c = comes sent queue d in
    let e = unheard queue d in
    let some = bit-at_most (wants_again e) in
    let wants = unheard_wants sent queue d (cases_Bool d.waits) in
    record {
      sound = record {
        a_c = h.a_c;
        c_n = h.c_n;
        in_window = h.in_window;
        in_plan = h.in_plan;
        run = h.run;
        tells = tells-lost d.acknowledged d.accepted sent queue h.a_c h.tells;
        outstanding = λ o. h.outstanding (or_right (rejects_frames sent.frame && (sent.asks == d.accepted)) (is_rejected d.accepted queue) o);
      };
      within = work-harmed d.window (d.planned - d.given) (d.planned - d.given) (sendings_left c) (sendings_left e) (firings_left c) (firings_left e) (omega arith) (omega arith) (omega arith);
    }

-- ---- the front frame will come twice

twice_run : (a n : ℕ) (front run : List ℕ) → (front ≡ []) ⊎ ((number : ℕ) × (front ≡ number ∷ [])) → RunsToLast a n (front ++ run) → RunsToLast a n (front ++ (front ++ run))
twice_run a n front run (inl none) h = subst (λ (l : List ℕ). RunsToLast a n (l ++ (l ++ run))) (sym none) (subst (λ (l : List ℕ). RunsToLast a n (l ++ run)) none h)
twice_run a n front run (inr (number, is)) h =
    subst (λ (l : List ℕ). RunsToLast a n (l ++ (l ++ run))) (sym is) (inl (omega arith), subst (λ (l : List ℕ). RunsToLast a n (l ++ run)) is h)

one_number : (number : ℕ) (frame : PlainFrame) → (number_in number frame ≡ []) ⊎ ((m : ℕ) × (number_in number frame ≡ m ∷ []))
one_number number (information tx final req sar total octets) = inr (number, refl)
one_number number (supervisory kind poll final req) = inl refl

twice_past : (c : ℕ) (front run : List ℕ) → is_past c (front ++ (front ++ run)) ≡ true → is_past c (front ++ run) ≡ true
twice_past c [] run past = past
twice_past c (m ∷ front) run past = past

twice_among : (c : ℕ) (front run : List ℕ) → is_among c (front ++ (front ++ run)) ≡ false → is_among c (front ++ run) ≡ false
twice_among c front run none = (or_parts (is_among c front) (is_among c (front ++ run)) (sym (list_any-append (λ (n : ℕ). n == c) front (front ++ run)) ∙ none)).1

twice_again : (sent : Sent) (queue : List Sent) (d : Direction) → WantsAgain (goes sent (sent ∷ queue) d) → WantsAgain (goes sent queue d)
twice_again sent queue d (inl (free, past)) = inl (free, twice_past d.accepted (number_in sent.number sent.frame) (numbers queue) past)
twice_again sent queue d (inr (quiet, unrejected, inl (less, missing))) = inr (quiet, unrejected, inl (less, twice_among d.accepted (number_in sent.number sent.frame) (numbers queue) missing))
twice_again sent queue d (inr (quiet, unrejected, inr untold)) = inr (quiet, unrejected, inr untold)

pub twice-goes : (sent : Sent) (queue : List Sent) (d : Direction) → IsSound (goes sent queue d) → Goes 0 0 (goes sent queue d) (goes sent (sent ∷ queue) d)
twice-goes sent queue d h =
    let c = goes sent queue d in
    let e = goes sent (sent ∷ queue) d in
    let again = again-le e c (twice_again sent queue d) in
    let answers = answer-le e c (λ w. (w.0, (or_parts (is_poll sent.frame) (has_poll (sent ∷ queue)) w.1).1, w.2)) in
    record {
      sound = record {
        a_c = h.a_c;
        c_n = h.c_n;
        in_window = h.in_window;
        in_plan = h.in_plan;
        run = twice_run d.acknowledged d.given (number_in sent.number sent.frame) (numbers queue) (one_number sent.number sent.frame) h.run;
        tells = h.tells;
        outstanding = h.outstanding;
      };
      within = work-le d.window (d.planned - d.given) (d.planned - d.given) (sendings_left c) (sendings_left e) (firings_left c) (firings_left e) (omega arith) (omega arith) (omega arith);
    }

either_same : (b c : Bool) → (b || (b || c)) ≡ true → (b || c) ≡ true
either_same true c is = is
either_same false c is = is

twice_told : (sent : Sent) (queue : List Sent) (d : Direction) → WantsAgain (comes sent (sent ∷ queue) d) → WantsAgain (comes sent queue d)
twice_told sent queue d (inl skips) = inl skips
twice_told sent queue d (inr (quiet, unrejected, inl missing)) =
    inr (quiet, (or_parts (rejects_frames sent.frame && (sent.asks == d.accepted)) (is_rejected d.accepted (sent ∷ queue)) unrejected).1, inl missing)
twice_told sent queue d (inr (quiet, unrejected, inr (same, less, none))) = cc

pub twice-comes : (sent : Sent) (queue : List Sent) (d : Direction) → IsSound (comes sent queue d) → Goes 0 (2 * d.window) (comes sent queue d) (comes sent (sent ∷ queue) d)
twice-comes sent queue d h =
    let c = comes sent queue d in
    let e = comes sent (sent ∷ queue) d in
    let again = again-le e c (twice_told sent queue d) in
    let answers = answer-le e c (λ w. (w.0, w.1, (or_parts (is_final sent.frame) (has_final (sent ∷ queue)) w.2).1)) in
    let one = bit-at_most (rejects_frames sent.frame) in
    record {
      sound = record {
        a_c = h.a_c;
        c_n = h.c_n;
        in_window = h.in_window;
        in_plan = h.in_plan;
        run = h.run;
        tells = (h.tells.0, (omega arith, h.tells.1));
        outstanding = λ o. h.outstanding (either_same (rejects_frames sent.frame && (sent.asks == d.accepted)) (is_rejected d.accepted queue) o);
      };
      within = work-sent d.window (d.planned - d.given) (d.planned - d.given) (sendings_left c) (sendings_left e) (firings_left c) (firings_left e) (omega arith) (omega arith) (omega arith);
    }

-- ---- the timer fires, and the sender polls

abbrev pub polls : Sent → Direction → Direction
polls sent d = record d { waits = true; going = d.going ++ sent ∷ [] }

polls_again : (sent : Sent) (d : Direction) → number_in sent.number sent.frame ≡ [] → WantsAgain (polls sent d) → Skips d
polls_again sent d none (inl (free, past)) = (free, subst (λ (l : List ℕ). is_past d.accepted l ≡ true) (numbers-same d.going sent none) past)
polls_again sent d none (inr (quiet, unrejected, rest)) = cc

polls_answer : (sent : Sent) (d : Direction) → is_poll sent.frame ≡ true → WantsAnswer (polls sent d) → ⊥
polls_answer sent d polling (waits, unpolled, unanswered) = both_ways (has_poll (d.going ++ sent ∷ [])) unpolled (any-on (λ (s : Sent). is_poll s.frame) d.going sent polling)

polls_sound : (sent : Sent) (d : Direction) → number_in sent.number sent.frame ≡ [] → IsSound d → IsSound (polls sent d)
polls_sound sent d none h = record {
  a_c = h.a_c;
  c_n = h.c_n;
  in_window = h.in_window;
  in_plan = h.in_plan;
  run = rw (numbers-same d.going sent none) h.run;
  tells = h.tells;
  outstanding = h.outstanding;
}

-- out of turn
pub polls-goes : (sent : Sent) (d : Direction) → number_in sent.number sent.frame ≡ [] → is_poll sent.frame ≡ true → IsSound d → Goes 0 (2 * d.window) d (polls sent d)
polls-goes sent d none polling h =
    let e = polls sent d in
    let again = again-le e d (λ w. inl (polls_again sent d none w)) in
    let answers = answer-none e (polls_answer sent d polling) in
    record {
      sound = polls_sound sent d none h;
      within = work-sent d.window (d.planned - d.given) (d.planned - d.given) (sendings_left d) (sendings_left e) (firings_left d) (firings_left e) (omega arith) (omega arith) (omega arith);
    }

-- where nothing is on its way, and the sender waits or its frames are not acknowledged
rest_stalls : (d : Direction) → d.going ≡ [] → d.coming ≡ [] → d.waits ≡ false → d.acknowledged < d.given → IsSound d → (d.accepted ≡ d.given) ⊎ ((d.accepted < d.given) ⊎ (d.given < d.accepted)) → WantsAgain d
rest_stalls d none still quiet some h (inl same) = inr (quiet, rw still refl, inr (same, some, still))
rest_stalls d none still quiet some h (inr (inl less)) = inr (quiet, rw still refl, inl (less, rw none refl))
rest_stalls d none still quiet some h (inr (inr more)) = absurd (let le = h.c_n in omega arith)

-- one of them is due, and the other is not
rest_due : (d : Direction) → d.going ≡ [] → d.coming ≡ [] → (d.waits ≡ true) ⊎ ((d.waits ≡ false) × (d.acknowledged < d.given)) → IsSound d
    → (1 ≤ bit d.waits + bit (wants_again d)) × (1 ≤ bit (wants_again d) + bit (wants_answer d))
rest_due d none still (inl waits) h =
    let one : bit d.waits ≡ 1 = rw waits refl in
    let answer = answer-one d (waits, rw none refl, rw still refl) in
    (omega arith, omega arith)
rest_due d none still (inr (quiet, some)) h =
    let again = again-one d (rest_stalls d none still quiet some h (cases_order d.accepted d.given)) in
    (omega arith, omega arith)

pub rest-goes : (sent : Sent) (d : Direction) → number_in sent.number sent.frame ≡ [] → is_poll sent.frame ≡ true → d.going ≡ [] → d.coming ≡ []
    → (d.waits ≡ true) ⊎ ((d.waits ≡ false) × (d.acknowledged < d.given)) → IsSound d → Goes 3 0 d (polls sent d)
rest-goes sent d number polling none still armed h =
    let e = polls sent d in
    let due = rest_due d none still armed h in
    let again = again-none e (λ w. (let skips = polls_again sent d number w in let past = subst (λ (l : List Sent). is_past d.accepted (numbers l) ≡ true) none skips.1 in cc)) in
    let answers = answer-none e (polls_answer sent d polling) in
    let due_0 = due.0 in
    let due_1 = due.1 in
    record {
      sound = polls_sound sent d number h;
      within = work-fired d.window (d.planned - d.given) (d.planned - d.given) (sendings_left d) (sendings_left e) (firings_left d) (firings_left e) (omega arith) (omega arith) (omega arith);
    }
