-- What the front frame does to the direction in which it goes, at the receiver that hears it.
use Rattle.std.proofs.Common.{ℕ, ◌≡◌, ◌+◌, ◌-◌, ◌<◌, ◌≤◌, ◌⊎◌, inl, inr, true, false, List, [], ◌∷◌, ◌++◌, refl, ap, sym, ◌∙◌, subst, arith}
use Rattle.std.specs.Prelude.{◌&&◌, ◌==◌}
use Rattle.std.proofs.lemmas.Bool.{lt-ltb, eq-eqb, ne_eqb, or_from, and_left, and_from, both_ways}
use Rattle.ertm_frames.specs.Picking.{is_poll, is_final}
use Rattle.ertm_model.specs.Hearing.{rejects_frames}
use Rattle.ertm_model.specs.Pair.{Sent}
use Rattle.recovery_laws.specs.Number.{Direction, number_in, numbers, is_past, is_among, is_rejected, has_poll, has_final, sendings_left, firings_left}
use Rattle.recovery_laws.specs.Facts.{RisesTo, RunsToLast, IsSound}
use Rattle.recovery_laws.proofs.Tests.{Skips, Stalls, WantsAgain, WantsAnswer, bit, again-le, again-none, again-one, answer-le, answer-none, work-le}
use Rattle.recovery_laws.proofs.Runs.{between, not_past, rejections-on, any-on, none-before, none-on, run-behind, tells-on, unrejected}
use Rattle.recovery_laws.proofs.Putting.{not_none, rejections-same, Goes}

abbrev pub goes : Sent → List Sent → Direction → Direction
goes sent queue d = record d { going = sent ∷ queue }

abbrev pub gone : List Sent → Direction → Direction
gone queue d = record d { going = queue }

-- ---- the numbers, where the front frame has one

pub front_numbers : (sent : Sent) (queue : List Sent) (number : ℕ) → number_in sent.number sent.frame ≡ number ∷ [] → numbers (sent ∷ queue) ≡ number ∷ numbers queue
front_numbers sent queue number is = ap (λ (l : List ℕ). l ++ numbers queue) is

pub front_run : (sent : Sent) (queue : List Sent) (number a n : ℕ) → number_in sent.number sent.frame ≡ number ∷ [] → RunsToLast a n (numbers (sent ∷ queue)) → RisesTo a n number (numbers queue)
front_run sent queue number a n is h = subst (λ (l : List ℕ). RunsToLast a n l) (front_numbers sent queue number is) h

-- where it has none
front_same : (sent : Sent) (queue : List Sent) → number_in sent.number sent.frame ≡ [] → numbers (sent ∷ queue) ≡ numbers queue
front_same sent queue none = ap (λ (l : List ℕ). l ++ numbers queue) none

-- ---- the expected frame is accepted, and acknowledged

abbrev pub accepts : List Sent → Sent → Direction → Direction
accepts queue answer d = record d { going = queue; accepted = d.accepted + 1; rejecting = false; coming = d.coming ++ answer ∷ [] }

accepted_missing : (a n c : ℕ) (run : List ℕ) → a ≤ c → c + 1 < n → RisesTo a n c run → is_among (c + 1) run ≡ true
accepted_missing a n c [] low less h = absurd (omega arith)
accepted_missing a n c (k ∷ behind) low less (step, h) = between a n (c + 1) k behind (omega arith) (elim step [ inl e ↦ omega arith | inr e ↦ omega arith ]) less h

accepted_never : (sent : Sent) (queue : List Sent) (answer : Sent) (d : Direction) → number_in sent.number sent.frame ≡ d.accepted ∷ [] → IsSound (goes sent queue d) → WantsAgain (accepts queue answer d) → ⊥
accepted_never sent queue answer d is h (inl (free, past)) =
    let follows = front_run sent queue d.accepted d.acknowledged d.given is h.run in
    both_ways (is_past (d.accepted + 1) (numbers queue)) (not_past d.acknowledged d.given (d.accepted + 1) d.accepted (numbers queue) (let e = h.a_c in omega arith) (omega arith) follows) past
accepted_never sent queue answer d is h (inr (quiet, unrejected_, inl (less, missing))) =
    let follows = front_run sent queue d.accepted d.acknowledged d.given is h.run in
    both_ways (is_among (d.accepted + 1) (numbers queue)) missing (accepted_missing d.acknowledged d.given d.accepted (numbers queue) h.a_c less follows)
accepted_never sent queue answer d is h (inr (quiet, unrejected_, inr (same, less, none))) = not_none d.coming answer none

answer_gone : (sent : Sent) (queue : List Sent) (d : Direction) (coming : List Sent) → is_poll sent.frame ≡ false → (has_final coming ≡ false → has_final d.coming ≡ false)
    → WantsAnswer (record d { going = queue; coming = coming }) → WantsAnswer (goes sent queue d)
answer_gone sent queue d coming unpolling then (waits, unpolled, unanswered) = (waits, or_from (is_poll sent.frame) (has_poll queue) unpolling unpolled, then unanswered)

pub accepts-goes : (sent : Sent) (queue : List Sent) (answer : Sent) (d : Direction) → number_in sent.number sent.frame ≡ d.accepted ∷ [] → d.accepted < d.given → is_poll sent.frame ≡ false
    → answer.asks ≡ d.accepted + 1 → rejects_frames answer.frame ≡ false → IsSound (goes sent queue d) → Goes 0 0 (goes sent queue d) (accepts queue answer d)
accepts-goes sent queue answer d is less unpolling asks none h =
    let c = goes sent queue d in
    let e = accepts queue answer d in
    let again = again-none e (accepted_never sent queue answer d is h) in
    let answers = answer-le e c (λ w. answer_gone sent queue d (d.coming ++ answer ∷ []) unpolling (λ f. none-before (λ (s : Sent). is_final s.frame) d.coming (answer ∷ []) f) w) in
    let same = rejections-same d.coming answer none in
    let never = none-on (λ (s : Sent). rejects_frames s.frame && (s.asks == d.accepted + 1)) d.coming answer (and_left (rejects_frames answer.frame) (answer.asks == d.accepted + 1) none)
    ∙ unrejected d.acknowledged d.accepted (d.accepted + 1) d.coming (omega arith) h.tells in
    record {
      sound = record {
        a_c = let le = h.a_c in omega arith;
        c_n = omega arith;
        in_window = h.in_window;
        in_plan = h.in_plan;
        run = run-behind d.acknowledged d.given d.accepted (numbers queue) (front_run sent queue d.accepted d.acknowledged d.given is h.run);
        tells = tells-on d.acknowledged d.accepted (d.accepted + 1) d.coming answer (omega arith) asks h.tells;
        outstanding = λ o. absurd (both_ways (is_rejected (d.accepted + 1) (d.coming ++ answer ∷ [])) never o);
      };
      within = work-le d.window (d.planned - d.given) (d.planned - d.given) (sendings_left c) (sendings_left e) (firings_left c) (firings_left e) (omega arith) (omega arith) (omega arith);
    }

-- ---- a frame that is ahead is rejected

abbrev pub rejects : List Sent → Sent → Direction → Direction
rejects queue answer d = record d { going = queue; rejecting = true; coming = d.coming ++ answer ∷ [] }

names_it : (queue : List Sent) (answer : Sent) (c : ℕ) → answer.asks ≡ c → rejects_frames answer.frame ≡ true → is_rejected c (queue ++ answer ∷ []) ≡ true
names_it queue answer c is rejects_ = any-on (λ (s : Sent). rejects_frames s.frame && (s.asks == c)) queue answer (and_from (rejects_frames answer.frame) (answer.asks == c) rejects_ (eq-eqb answer.asks c is))

rejected_never : (queue : List Sent) (answer : Sent) (d : Direction) → answer.asks ≡ d.accepted → rejects_frames answer.frame ≡ true → WantsAgain (rejects queue answer d) → ⊥
rejected_never queue answer d asks rejects_ (inl (free, past)) = cc
rejected_never queue answer d asks rejects_ (inr (quiet, unrejected_, rest)) = both_ways (is_rejected d.accepted (d.coming ++ answer ∷ [])) unrejected_ (names_it d.coming answer d.accepted asks rejects_)

pub rejects-goes : (sent : Sent) (queue : List Sent) (answer : Sent) (d : Direction) (number : ℕ) → number_in sent.number sent.frame ≡ number ∷ [] → d.accepted < number → d.rejecting ≡ false → is_poll sent.frame ≡ false
    → answer.asks ≡ d.accepted → rejects_frames answer.frame ≡ true → IsSound (goes sent queue d) → Goes 0 0 (goes sent queue d) (rejects queue answer d)
rejects-goes sent queue answer d number is ahead free unpolling asks rejects_ h =
    let c = goes sent queue d in
    let e = rejects queue answer d in
    let before = again-one c (inl (free, ap (λ (l : List ℕ). is_past d.accepted l) (front_numbers sent queue number is) ∙ lt-ltb d.accepted number ahead)) in
    let after = again-none e (rejected_never queue answer d asks rejects_) in
    let answers = answer-le e c (λ w. answer_gone sent queue d (d.coming ++ answer ∷ []) unpolling (λ f. none-before (λ (s : Sent). is_final s.frame) d.coming (answer ∷ []) f) w) in
    let more = rejections-on d.coming (answer ∷ []) in
    let one : bit (rejects_frames answer.frame) ≡ 1 = rw rejects_ refl in
    record {
      sound = record {
        a_c = h.a_c;
        c_n = h.c_n;
        in_window = h.in_window;
        in_plan = h.in_plan;
        run = run-behind d.acknowledged d.given number (numbers queue) (front_run sent queue number d.acknowledged d.given is h.run);
        tells = tells-on d.acknowledged d.accepted d.accepted d.coming answer (omega arith) asks h.tells;
        outstanding = λ o. refl;
      };
      within = work-le d.window (d.planned - d.given) (d.planned - d.given) (sendings_left c) (sendings_left e) (firings_left c) (firings_left e) (omega arith) (omega arith) (omega arith);
    }

-- ---- any other that is not expected goes, and nothing else changes

gone_missing : (sent : Sent) (queue : List Sent) (d : Direction) (number : ℕ) → number_in sent.number sent.frame ≡ number ∷ [] → (number ≡ d.accepted → ⊥) → Stalls (gone queue d) → Stalls (goes sent queue d)
gone_missing sent queue d number is other (quiet, unrejected_, inl (less, missing)) =
    (quiet, unrejected_, inl (less, ap (λ (l : List ℕ). is_among d.accepted l) (front_numbers sent queue number is) ∙ or_from (number == d.accepted) (is_among d.accepted (numbers queue)) (ne_eqb number d.accepted other) missing))
gone_missing sent queue d number is other (quiet, unrejected_, inr untold) = (quiet, unrejected_, inr untold)

gone_skips : (sent : Sent) (queue : List Sent) (d : Direction) (number : ℕ) → number_in sent.number sent.frame ≡ number ∷ [] → (number < d.accepted) ⊎ (d.accepted < number) → IsSound (goes sent queue d)
    → Skips (gone queue d) → Skips (goes sent queue d)
gone_skips sent queue d number is (inl behind) h (free, past) =
    let follows = front_run sent queue number d.acknowledged d.given is h.run in
    absurd (both_ways (is_past d.accepted (numbers queue)) (not_past d.acknowledged d.given d.accepted number (numbers queue) h.a_c (omega arith) follows) past)
gone_skips sent queue d number is (inr ahead) h (free, past) = (free, ap (λ (l : List ℕ). is_past d.accepted l) (front_numbers sent queue number is) ∙ lt-ltb d.accepted number ahead)

unequal : (number c : ℕ) → (number < c) ⊎ (c < number) → number ≡ c → ⊥
unequal number c (inl lt) e = omega arith
unequal number c (inr lt) e = omega arith

gone_again : (sent : Sent) (queue : List Sent) (d : Direction) (number : ℕ) → number_in sent.number sent.frame ≡ number ∷ [] → (number < d.accepted) ⊎ (d.accepted < number) → IsSound (goes sent queue d)
    → WantsAgain (gone queue d) → WantsAgain (goes sent queue d)
gone_again sent queue d number is other h (inl skips) = inl (gone_skips sent queue d number is other h skips)
gone_again sent queue d number is other h (inr stalls) = inr (gone_missing sent queue d number is (unequal number d.accepted other) stalls)

pub gone-goes : (sent : Sent) (queue : List Sent) (d : Direction) (number : ℕ) → number_in sent.number sent.frame ≡ number ∷ [] → (number < d.accepted) ⊎ (d.accepted < number) → is_poll sent.frame ≡ false
    → IsSound (goes sent queue d) → Goes 0 0 (goes sent queue d) (gone queue d)
gone-goes sent queue d number is other unpolling h =
    let c = goes sent queue d in
    let e = gone queue d in
    let again = again-le e c (gone_again sent queue d number is other h) in
    let answers = answer-le e c (λ w. answer_gone sent queue d d.coming unpolling (λ f. f) w) in
    record {
      sound = record {
        a_c = h.a_c;
        c_n = h.c_n;
        in_window = h.in_window;
        in_plan = h.in_plan;
        run = run-behind d.acknowledged d.given number (numbers queue) (front_run sent queue number d.acknowledged d.given is h.run);
        tells = h.tells;
        outstanding = h.outstanding;
      };
      within = work-le d.window (d.planned - d.given) (d.planned - d.given) (sendings_left c) (sendings_left e) (firings_left c) (firings_left e) (omega arith) (omega arith) (omega arith);
    }

-- ---- an S-frame goes; a poll is answered

pub passed-again : (sent : Sent) (queue : List Sent) (d : Direction) → number_in sent.number sent.frame ≡ [] → WantsAgain (gone queue d) → WantsAgain (goes sent queue d)
passed-again sent queue d none (inl (free, past)) = inl (free, ap (λ (l : List ℕ). is_past d.accepted l) (front_same sent queue none) ∙ past)
passed-again sent queue d none (inr (quiet, unrejected_, inl (less, missing))) =
    inr (quiet, unrejected_, inl (less, ap (λ (l : List ℕ). is_among d.accepted l) (front_same sent queue none) ∙ missing))
passed-again sent queue d none (inr (quiet, unrejected_, inr untold)) = inr (quiet, unrejected_, inr untold)

pub passed-sound : (sent : Sent) (queue : List Sent) (d : Direction) → number_in sent.number sent.frame ≡ [] → IsSound (goes sent queue d) → IsSound (gone queue d)
passed-sound sent queue d none h = record {
  a_c = h.a_c;
  c_n = h.c_n;
  in_window = h.in_window;
  in_plan = h.in_plan;
  run = subst (λ (l : List ℕ). RunsToLast d.acknowledged d.given l) (front_same sent queue none) h.run;
  tells = h.tells;
  outstanding = h.outstanding;
}

pub passed-goes : (sent : Sent) (queue : List Sent) (d : Direction) → number_in sent.number sent.frame ≡ [] → is_poll sent.frame ≡ false → IsSound (goes sent queue d) → Goes 0 0 (goes sent queue d) (gone queue d)
passed-goes sent queue d none unpolling h =
    let c = goes sent queue d in
    let e = gone queue d in
    let again = again-le e c (passed-again sent queue d none) in
    let answers = answer-le e c (λ w. answer_gone sent queue d d.coming unpolling (λ f. f) w) in
    record {
      sound = passed-sound sent queue d none h;
      within = work-le d.window (d.planned - d.given) (d.planned - d.given) (sendings_left c) (sendings_left e) (firings_left c) (firings_left e) (omega arith) (omega arith) (omega arith);
    }

abbrev pub answers : List Sent → Sent → Direction → Direction
answers queue answer d = record d { going = queue; coming = d.coming ++ answer ∷ [] }

answered_again : (sent : Sent) (queue : List Sent) (answer : Sent) (d : Direction) → number_in sent.number sent.frame ≡ [] → WantsAgain (answers queue answer d) → WantsAgain (goes sent queue d)
answered_again sent queue answer d none (inl skips) = passed-again sent queue d none (inl skips)
answered_again sent queue answer d none (inr (quiet, unrejected_, inl missing)) =
    passed-again sent queue d none (inr (quiet, none-before (λ (s : Sent). rejects_frames s.frame && (s.asks == d.accepted)) d.coming (answer ∷ []) unrejected_, inl missing))
answered_again sent queue answer d none (inr (quiet, unrejected_, inr (same, less, empty))) = absurd (not_none d.coming answer empty)

pub answers-goes : (sent : Sent) (queue : List Sent) (answer : Sent) (d : Direction) → number_in sent.number sent.frame ≡ [] → answer.asks ≡ d.accepted → rejects_frames answer.frame ≡ false → is_final answer.frame ≡ true
    → IsSound (goes sent queue d) → Goes 0 0 (goes sent queue d) (answers queue answer d)
answers-goes sent queue answer d none asks mild final h =
    let c = goes sent queue d in
    let e = answers queue answer d in
    let s = passed-sound sent queue d none h in
    let again = again-le e c (answered_again sent queue answer d none) in
    let answered = answer-none e (λ w. both_ways (has_final (d.coming ++ answer ∷ [])) w.2 (any-on (λ (t : Sent). is_final t.frame) d.coming answer final)) in
    let same = rejections-same d.coming answer mild in
    record {
      sound = record {
        a_c = s.a_c;
        c_n = s.c_n;
        in_window = s.in_window;
        in_plan = s.in_plan;
        run = s.run;
        tells = tells-on d.acknowledged d.accepted d.accepted d.coming answer (omega arith) asks h.tells;
        outstanding = λ o. h.outstanding (sym (none-on (λ (t : Sent). rejects_frames t.frame && (t.asks == d.accepted)) d.coming answer (and_left (rejects_frames answer.frame) (answer.asks == d.accepted) mild)) ∙ o);
      };
      within = work-le d.window (d.planned - d.given) (d.planned - d.given) (sendings_left c) (sendings_left e) (firings_left c) (firings_left e) (omega arith) (omega arith) (omega arith);
    }
