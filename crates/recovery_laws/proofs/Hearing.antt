-- What the front frame does where it is heard: to the direction that it acknowledges, and to the one in which it goes.
use Rattle.std.proofs.Common.{ℕ, ◌≡◌, ◌+◌, ◌-◌, ◌*◌, ◌≤◌, ◌⊎◌, inl, inr, Bool, true, false, List, [], ◌∷◌, ◌++◌, refl, ap, sym, ◌∙◌, subst, arith}
use Rattle.std.specs.Prelude.{◌&&◌, ◌||◌, ◌==◌}
use Rattle.std.proofs.lemmas.List.Folds.{list_any-append}
use Rattle.std.proofs.lemmas.Bool.{or_from, or_right, and_left, both_ways}
use Rattle.ertm_frames.specs.Picking.{is_final}
use Rattle.ertm_model.specs.Hearing.{rejects_frames}
use Rattle.ertm_model.specs.Pair.{Sent}
use Rattle.recovery_laws.specs.Number.{Direction, rejections, numbers, is_past, is_among, is_rejected, has_final, sendings_left, firings_left}
use Rattle.recovery_laws.specs.Facts.{AcknowledgesUpTo, IsSound}
use Rattle.recovery_laws.proofs.Tests.{Skips, Untold, WantsAgain, WantsAnswer, bit, again-le, answer-le, answer-none, work-le, work-again}
use Rattle.recovery_laws.proofs.Runs.{ups, numbers-on, run-less, run-again, among-ups, past-ups, tells-heard, tells-below, unrejected}
use Rattle.recovery_laws.proofs.Putting.{Goes}

-- ---- the sender hears a frame, for which it does not give its frames again

abbrev pub comes : Sent → List Sent → Direction → Direction
comes sent queue d = record d { coming = sent ∷ queue }

abbrev pub heard : Sent → List Sent → Direction → Direction
heard sent queue d = record d { coming = queue; acknowledged = sent.asks }

-- a REJ comes only in a wait, and a frame with F only where there is none
pub record IsPlain (sent : Sent) (waits : Bool) : Type 0 where
  pub rejects : waits ≡ false → rejects_frames sent.frame ≡ false
  pub ends : waits ≡ true → is_final sent.frame ≡ false

untold_never : (sent : Sent) (queue : List Sent) (d : Direction) → AcknowledgesUpTo d.acknowledged d.accepted (sent ∷ queue) → Untold (heard sent queue d) → ⊥
untold_never sent [] d h (same, less, none) = let e = h.1 in omega arith
untold_never sent (next ∷ queue) d h (same, less, none) = cc

heard_again : (sent : Sent) (queue : List Sent) (d : Direction) → IsPlain sent d.waits → IsSound (comes sent queue d) → WantsAgain (heard sent queue d) → WantsAgain (comes sent queue d)
heard_again sent queue d plain h (inl skips) = inl skips
heard_again sent queue d plain h (inr (quiet, unrejected, inl missing)) =
    inr (quiet, or_from (rejects_frames sent.frame && (sent.asks == d.accepted)) (is_rejected d.accepted queue) (and_left (rejects_frames sent.frame) (sent.asks == d.accepted) (plain.rejects quiet)) unrejected, inl missing)
heard_again sent queue d plain h (inr (quiet, unrejected, inr untold)) = absurd (untold_never sent queue d h.tells untold)

heard_answer : (sent : Sent) (queue : List Sent) (d : Direction) → IsPlain sent d.waits → WantsAnswer (heard sent queue d) → WantsAnswer (comes sent queue d)
heard_answer sent queue d plain (waits, unpolled, unanswered) = (waits, unpolled, or_from (is_final sent.frame) (has_final queue) (plain.ends waits) unanswered)

-- what holds where the first that comes back is heard
heard_sound : (sent : Sent) (queue : List Sent) (d : Direction) → IsSound (comes sent queue d) → IsSound (heard sent queue d)
heard_sound sent queue d h =
    let below = tells-below d.acknowledged d.accepted sent queue h.tells in
    let low = h.tells.0 in
    record {
      a_c = below;
      c_n = h.c_n;
      in_window = let le = h.in_window in omega arith;
      in_plan = h.in_plan;
      run = run-less d.acknowledged sent.asks d.given (numbers d.going) low h.run;
      tells = tells-heard d.acknowledged d.accepted sent queue h.tells;
      outstanding = λ o. h.outstanding (or_right (rejects_frames sent.frame && (sent.asks == d.accepted)) (is_rejected d.accepted queue) o);
    }

pub heard-goes : (sent : Sent) (queue : List Sent) (d : Direction) → IsPlain sent d.waits → IsSound (comes sent queue d) → Goes 0 0 (comes sent queue d) (heard sent queue d)
heard-goes sent queue d plain h =
    let c = comes sent queue d in
    let e = heard sent queue d in
    let again = again-le e c (heard_again sent queue d plain h) in
    let answer = answer-le e c (heard_answer sent queue d plain) in
    record {
      sound = heard_sound sent queue d h;
      within = work-le d.window (d.planned - d.given) (d.planned - d.given) (sendings_left c) (sendings_left e) (firings_left c) (firings_left e) (omega arith) (omega arith) (omega arith);
    }

-- ---- it gives all its frames again

-- a REJ without a wait, or the answer to a poll
abbrev pub AsksAgain : Sent → Bool → Type 0
AsksAgain sent waits = ((waits ≡ false) × (rejects_frames sent.frame ≡ true)) ⊎ ((waits ≡ true) × (is_final sent.frame ≡ true))

abbrev pub heard_all : Sent → List Sent → List Sent → Direction → Direction
heard_all sent queue again d = record d { coming = queue; acknowledged = sent.asks; waits = false; going = d.going ++ again }

all_numbers : (d : Direction) (again : List Sent) (from k : ℕ) → numbers again ≡ ups from k → numbers (d.going ++ again) ≡ numbers d.going ++ ups from k
all_numbers d again from k is = numbers-on d.going again ∙ ap (λ (l : List ℕ). numbers d.going ++ l) is

all_skips : (d : Direction) (run : List ℕ) (from k : ℕ) → numbers d.going ≡ run → from ≤ d.accepted → d.rejecting ≡ false → is_past d.accepted (run ++ ups from k) ≡ true → Skips d
all_skips d [] from k is low free past = absurd (both_ways (is_past d.accepted (ups from k)) (past-ups from d.accepted k low) past)
all_skips d (m ∷ behind) from k is low free past = (free, rw is past)

all_again : (sent : Sent) (queue again : List Sent) (d : Direction) (k : ℕ) → numbers again ≡ ups sent.asks k → sent.asks + k ≡ d.given → IsSound (comes sent queue d) → WantsAgain (heard_all sent queue again d) → WantsAgain (comes sent queue d)
all_again sent queue again d k is many h (inl (free, past)) =
    inl (all_skips d (numbers d.going) sent.asks k refl (tells-below d.acknowledged d.accepted sent queue h.tells) free (subst (λ (l : List ℕ). is_past d.accepted l ≡ true) (all_numbers d again sent.asks k is) past))
all_again sent queue again d k is many h (inr (quiet, unrejected, inl (less, missing))) =
    let there = or_right (is_among d.accepted (numbers d.going)) (is_among d.accepted (ups sent.asks k)) (among-ups sent.asks d.accepted k (tells-below d.acknowledged d.accepted sent queue h.tells) (omega arith)) in
    absurd (both_ways (is_among d.accepted (numbers d.going) || is_among d.accepted (ups sent.asks k))
    (sym (list_any-append (λ (n : ℕ). n == d.accepted) (numbers d.going) (ups sent.asks k)) ∙ subst (λ (l : List ℕ). is_among d.accepted l ≡ false) (all_numbers d again sent.asks k is) missing) there)
all_again sent queue again d k is many h (inr (quiet, unrejected, inr untold)) = absurd (untold_never sent queue d h.tells untold)

one_less : (sent : Sent) (queue : List Sent) (waits : Bool) → AsksAgain sent waits → rejections queue + 1 ≤ rejections (sent ∷ queue) + bit waits
one_less sent queue waits (inl (quiet, rejects)) = let e : bit (rejects_frames sent.frame) ≡ 1 = rw rejects refl in omega arith
one_less sent queue waits (inr (waiting, final)) = let e : bit waits ≡ 1 = rw waiting refl in omega arith

pub all-goes : (sent : Sent) (queue again : List Sent) (d : Direction) (k : ℕ) → AsksAgain sent d.waits → numbers again ≡ ups sent.asks k → sent.asks + k ≡ d.given → IsSound (comes sent queue d)
    → Goes (2 * k) 0 (comes sent queue d) (heard_all sent queue again d)
all-goes sent queue again d k asks is many h =
    let c = comes sent queue d in
    let e = heard_all sent queue again d in
    let s = heard_sound sent queue d h in
    let due = again-le e c (all_again sent queue again d k is many h) in
    let answer = answer-none e (λ w. (let f = w.0 in cc)) in
    let less = one_less sent queue d.waits asks in
    let low = h.tells.0 in
    let in_window = h.in_window in
    record {
      sound = record {
        a_c = s.a_c;
        c_n = s.c_n;
        in_window = s.in_window;
        in_plan = s.in_plan;
        run = rw (all_numbers d again sent.asks k is) (run-again sent.asks d.given k (numbers d.going) many s.run);
        tells = s.tells;
        outstanding = s.outstanding;
      };
      within = work-again d.window k (d.planned - d.given) (d.planned - d.given) (sendings_left c) (sendings_left e) (firings_left c) (firings_left e) (omega arith) (omega arith) (omega arith) (omega arith);
    }
