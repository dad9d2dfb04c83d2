-- What timers and SDUs that are submitted do to two ends that have nothing to give.
use Rattle.std.proofs.Common.{ℕ, ◌≡◌, ◌+◌, ◌*◌, ◌<◌, ◌≤◌, ◌⊎◌, inl, inr, Bool, true, false, cond, List, [], ◌∷◌, ◌++◌, length, Some, None, refl, ap, sym, ◌∙◌, subst, arith, append-nil, length-append}
use Rattle.std.specs.Prelude.{nat_le, ◌||◌}
use Rattle.std.specs.List.{AllByRecursion}
use Rattle.ertm_model.specs.declared.reason.ErtmReason.TheVariants.{RetryLimit}
use Rattle.ertm_model.specs.Value.{Kept, NoPoll, Waits, Ertm, armed}
use Rattle.ertm_model.specs.Submitting.{cut, is_busy}
use Rattle.ertm_model.specs.Giving.{Polling, polling, timed}
use Rattle.ertm_model.specs.Pair.{Sent, End, acknowledged_by, given_by, accepted_by, took}
use Rattle.ertm_model.specs.Order.{Stands}
use Rattle.ertm_model.proofs.Sending.{put-length}
use Rattle.ertm_model.proofs.Standing.{no_fresh}
use Rattle.ertm_model.proofs.Resting.{at_rest, silent}
use Rattle.recovery_laws.specs.Number.{Direction, is_waiting, weights, work_left}
use Rattle.recovery_laws.specs.Facts.{IsSound, IsFit, IsSettled}
use Rattle.recovery_laws.proofs.Tests.{bit, bit-at_most}
use Rattle.recovery_laws.proofs.Runs.{weights-on}
use Rattle.recovery_laws.proofs.Putting.{Goes}
use Rattle.recovery_laws.proofs.Harming.{polls-goes, rest-goes}
use Rattle.recovery_laws.proofs.Due.{sent_by, under_way, due-quiet, took-due}
use Rattle.recovery_laws.proofs.Speaking.{under, Holds, settled-queue, holds-swapped}
use Rattle.recovery_laws.proofs.Repeating.{Says}
use Rattle.recovery_laws.proofs.Passing.{after-goes, told-many}
use Rattle.recovery_laws.proofs.Losing.{Does}

-- ---- what the timer of an end that has nothing to give does

abbrev pub timed_end : End → End
timed_end x = record x { machine = timed x.machine }

abbrev pub polling_end : End → End
polling_end x = record x { machine = polling x.machine }

-- It is not armed, and stays as it is; or it waits, or its frames are not acknowledged, and it polls; or it closes.
pub data Fires (x : End) : Type 0 where
  stays : timed_end x ≡ x → x.machine.sender.poll ≡ NoPoll → x.machine.sender.unacked ≡ [] → Fires x
  asks : timed_end x ≡ polling_end x → (x.machine.sender.poll ≡ Waits) ⊎ ((x.machine.sender.poll ≡ NoPoll) × (1 ≤ length x.machine.sender.unacked)) → Fires x
  closes : (timed x.machine).closed ≡ Some RetryLimit → Fires x

fires_late : (x : End) (late : Bool) → nat_le x.machine.agreed.tries x.machine.sender.polls ≡ late → x.machine.closed ≡ None → x.machine.sender.poll ≡ Waits → Fires x
fires_late x true is open_ waits = closes (rw (open_, waits, is) refl)
fires_late x false is open_ waits = asks (rw (open_, waits, is) refl) (inl waits)

fires_first : (x : End) (unacked : List Kept) → x.machine.sender.unacked ≡ unacked → x.machine.closed ≡ None → x.machine.sender.poll ≡ NoPoll → Fires x
fires_first x [] is open_ no_poll = stays (rw (open_, no_poll, is) refl) no_poll is
fires_first x (kept ∷ behind) is open_ no_poll = asks (rw (open_, no_poll, is) refl) (inr (no_poll, (let long = ap length is in omega arith)))

pub fires : (planned : ℕ) (x : End) → IsSettled x → IsFit planned x → Fires x
fires planned x settled fit =
    let rest = at_rest x.machine settled.is_open (silent x.machine settled.is_silent) in
    elim rest.rests [
      | inl waits ↦ fires_late x (nat_le x.machine.agreed.tries x.machine.sender.polls) refl settled.is_open waits
      | inr (no_poll, others) ↦ fires_first x x.machine.sender.unacked refl settled.is_open no_poll
    ]

-- ---- the poll

-- what is known of an end that fires, with what it gives for it, and of the direction in which it sends
pub record Fired (planned : ℕ) (x y after : End) (paid owed : ℕ) : Type 0 where
  pub sent : List Sent
  pub waits : Bool
  pub window_is : after.machine.agreed.send_window ≡ x.machine.agreed.send_window
  pub acknowledged_is : acknowledged_by after ≡ acknowledged_by x
  pub given_is : given_by after ≡ given_by x
  pub rejecting_is : after.machine.receiver.rejecting ≡ x.machine.receiver.rejecting
  pub accepted_is : accepted_by after ≡ accepted_by x
  pub waits_is : is_waiting after.machine.sender.poll ≡ waits
  pub queue : under_way after ≡ under_way x ++ sent
  pub says : AllByRecursion (Says (accepted_by x)) sent
  pub onward : Goes (weights sent + paid) owed (under planned x y) (record (under planned x y) { waits = waits; going = under_way x ++ sent })
  pub fit : IsFit planned after

poll_queue : (planned : ℕ) (x : End) → IsSettled x → IsFit planned x → under_way (polling_end x) ≡ under_way x ++ sent_by Polling (polling_end x) ∷ []
poll_queue planned x settled fit =
    let rest = at_rest x.machine settled.is_open (silent x.machine settled.is_silent) in
    let poll = sent_by Polling (polling_end x) in
    ap (λ (l : List Sent). x.queue ++ l) (due-quiet (polling_end x) rest.quiet.unpolled rest.quiet.unreplied) ∙ ap (λ (l : List Sent). l ++ poll ∷ []) (sym (settled-queue planned x fit settled))

-- out of turn
fired_late : (planned : ℕ) (x y : End) → IsSettled x → IsFit planned x → IsSound (under planned x y) → Fired planned x y (polling_end x) 0 (2 * x.machine.agreed.send_window + 2)
fired_late planned x y settled fit h =
    let poll = sent_by Polling (polling_end x) in
    let one = polls-goes poll (under planned x y) refl refl h in
    let within = one.within in
    record {
      sent = poll ∷ [];
      waits = true;
      window_is = refl;
      acknowledged_is = refl;
      given_is = refl;
      rejecting_is = refl;
      accepted_is = refl;
      waits_is = refl;
      queue = poll_queue planned x settled fit;
      says = ((refl, refl), tt);
      onward = record { sound = one.sound; within = omega arith };
      fit = record { fits = fit.fits; ready = fit.ready; unpolled = λ e. cc };
    }

-- an end that is not armed
pub fired_stays : (planned owed : ℕ) (x y : End) → IsFit planned x → IsSound (under planned x y) → Fired planned x y x 0 owed
fired_stays planned owed x y fit h =
    let e = append-nil (under_way x) in
    record {
      sent = [];
      waits = is_waiting x.machine.sender.poll;
      window_is = refl;
      acknowledged_is = refl;
      given_is = refl;
      rejecting_is = refl;
      accepted_is = refl;
      waits_is = refl;
      queue = sym e;
      says = tt;
      onward = rw e (record { sound = h; within = omega arith });
      fit = fit;
    }

-- where nothing is on its way
is_armed_so : (x y : End) → Stands x y → (x.machine.sender.poll ≡ Waits) ⊎ ((x.machine.sender.poll ≡ NoPoll) × (1 ≤ length x.machine.sender.unacked))
    → (is_waiting x.machine.sender.poll ≡ true) ⊎ ((is_waiting x.machine.sender.poll ≡ false) × (acknowledged_by x < given_by x))
is_armed_so x y h (inl waits) = inl (rw waits refl)
is_armed_so x y h (inr (no_poll, some)) = inr (rw no_poll refl, (let put = put-length h.there.sends in omega arith))

pub fired_rest : (planned other : ℕ) (x y : End) → IsSettled x → IsSettled y → x.queue ≡ [] → y.queue ≡ [] → Holds planned other x y → (x.machine.sender.poll ≡ Waits) ⊎ ((x.machine.sender.poll ≡ NoPoll) × (1 ≤ length x.machine.sender.unacked))
    → Fired planned x y (polling_end x) 1 0
fired_rest planned other x y settled_x settled_y none_x none_y h armed_ =
    let poll = sent_by Polling (polling_end x) in
    let one = rest-goes poll (under planned x y) refl refl (settled-queue planned x h.fit_x settled_x ∙ none_x) (settled-queue other y h.fit_y settled_y ∙ none_y) (is_armed_so x y h.stands armed_) h.there in
    let within = one.within in
    record {
      sent = poll ∷ [];
      waits = true;
      window_is = refl;
      acknowledged_is = refl;
      given_is = refl;
      rejecting_is = refl;
      accepted_is = refl;
      waits_is = refl;
      queue = poll_queue planned x settled_x h.fit_x;
      says = ((refl, refl), tt);
      onward = record { sound = one.sound; within = omega arith };
      fit = record { fits = h.fit_x.fits; ready = h.fit_x.ready; unpolled = λ e. cc };
    }

-- ---- both ends

same_direction : {planned w w' a a' n n' c c' : ℕ} {v v' j j' : Bool} {g g' r r' : List Sent} → w ≡ w' → a ≡ a' → n ≡ n' → v ≡ v' → g ≡ g' → c ≡ c' → j ≡ j' → r ≡ r'
    → ◌≡◌ {A = Direction} (record { window = w; planned = planned; acknowledged = a; given = n; waits = v; going = g; accepted = c; rejecting = j; coming = r })
    (record { window = w'; planned = planned; acknowledged = a'; given = n'; waits = v'; going = g'; accepted = c'; rejecting = j'; coming = r' })
same_direction same_w same_a same_n same_v same_g same_c same_j same_r = rw (same_w, same_a, same_n, same_v, same_g, same_c, same_j, same_r) refl

both_under : (planned_x planned_y : ℕ) (x y after other : End) {paid owed paid' owed' : ℕ} (f : Fired planned_x x y after paid owed) (g : Fired planned_y y x other paid' owed')
    → under planned_x after other ≡ record (under planned_x x y) { waits = f.waits; going = under_way x ++ f.sent; coming = under_way y ++ g.sent }
both_under planned_x planned_y x y after other f g = same_direction f.window_is f.acknowledged_is f.given_is f.waits_is f.queue g.accepted_is g.rejecting_is g.queue

pub fired_both : (planned_x planned_y : ℕ) (x y after other : End) {paid owed paid' owed' : ℕ} → Fired planned_x x y after paid owed → Fired planned_y y x other paid' owed' → Stands after other
    → Does planned_x planned_y (paid + paid') (owed + owed') x y after other
fired_both planned_x planned_y x y after other {paid} {owed} {paid'} {owed'} f g stands =
    let one = after-goes f.onward (told-many g.sent (record (under planned_x x y) { waits = f.waits; going = under_way x ++ f.sent }) g.says f.onward.sound) in
    let two = after-goes g.onward (told-many f.sent (record (under planned_y y x) { waits = g.waits; going = under_way y ++ g.sent }) f.says g.onward.sound) in
    let there = both_under planned_x planned_y x y after other f g in
    let back = both_under planned_y planned_x y x other after g f in
    let first = one.within in
    let second = two.within in
    let weigh = ap weights f.queue ∙ weights-on (under_way x) f.sent in
    let weigh' = ap weights g.queue ∙ weights-on (under_way y) g.sent in
    let work_there = ap work_left there in
    let work_back = ap work_left back in
    record {
      holds = record { stands = stands; there = rw there one.sound; back = rw back two.sound; fit_x = f.fit; fit_y = g.fit };
      falls = omega arith;
    }

pub does-more : {planned_x planned_y gain owed : ℕ} {x y after other : End} (less more : ℕ) → less ≤ gain → owed ≤ more → Does planned_x planned_y gain owed x y after other → Does planned_x planned_y less more x y after other
does-more less more le le' h = record { holds = h.holds; falls = let f = h.falls in omega arith }

pub same-does : (planned_x planned_y : ℕ) (x y : End) → Holds planned_x planned_y x y → Does planned_x planned_y 0 0 x y x y
same-does planned_x planned_y x y h = record { holds = h; falls = omega arith }

pub never_both : (m : Ertm) → m.closed ≡ None → m.closed ≡ Some RetryLimit → ⊥
never_both m open_ shut = let e : None ≡ Some RetryLimit = sym open_ ∙ shut in cc

-- a timer fires out of turn
fire_by : (planned_x planned_y : ℕ) (x y : End) → Fires x → IsSettled x → Holds planned_x planned_y x y → (timed x.machine).closed ≡ None → Stands (timed_end x) y
    → Does planned_x planned_y 0 (2 * x.machine.agreed.send_window + 2) x y (timed_end x) y
fire_by planned_x planned_y x y (stays is no_poll none) settled h open_ stands = rw is (does-more 0 (2 * x.machine.agreed.send_window + 2) (omega arith) (omega arith) (same-does planned_x planned_y x y h))
fire_by planned_x planned_y x y (asks is armed_) settled h open_ stands =
    let f = fired_late planned_x x y settled h.fit_x h.there in
    let g = fired_stays planned_y 0 y x h.fit_y h.back in
    subst (λ (e : End). Does planned_x planned_y 0 (2 * x.machine.agreed.send_window + 2) x y e y) (sym is)
    (does-more 0 (2 * x.machine.agreed.send_window + 2) (omega arith) (omega arith) (fired_both planned_x planned_y x y (polling_end x) y f g (subst (λ (e : End). Stands e y) is stands)))
fire_by planned_x planned_y x y (closes is) settled h open_ stands = absurd (never_both (timed x.machine) open_ is)

pub fire-does : (planned_x planned_y : ℕ) (x y : End) → IsSettled x → Holds planned_x planned_y x y → (timed x.machine).closed ≡ None → Stands (timed_end x) y
    → Does planned_x planned_y 0 (2 * x.machine.agreed.send_window + 2) x y (timed_end x) y
fire-does planned_x planned_y x y settled h open_ stands = fire_by planned_x planned_y x y (fires planned_x x settled h.fit_x) settled h open_ stands

-- ---- both timers fire where nothing is on its way

unarmed : (planned : ℕ) (x : End) → IsFit planned x → x.machine.sender.poll ≡ NoPoll → x.machine.sender.unacked ≡ [] → armed x.machine ≡ false
unarmed planned x fit no_poll none = let e = fit.unpolled no_poll in rw (none, e) refl

rest_by : (planned_x planned_y : ℕ) (x y : End) → Fires x → Fires y → IsSettled x → IsSettled y → x.queue ≡ [] → y.queue ≡ [] → Holds planned_x planned_y x y
    → (timed x.machine).closed ≡ None → (timed y.machine).closed ≡ None → Stands (timed_end x) (timed_end y)
    → Does planned_x planned_y (bit (armed x.machine || armed y.machine)) 0 x y (timed_end x) (timed_end y)
rest_by planned_x planned_y x y (closes is) fires_y settled_x settled_y none_x none_y h open_x open_y stands = absurd (never_both (timed x.machine) open_x is)
rest_by planned_x planned_y x y (stays is no_poll none) (closes is') settled_x settled_y none_x none_y h open_x open_y stands = absurd (never_both (timed y.machine) open_y is')
rest_by planned_x planned_y x y (asks is armed_) (closes is') settled_x settled_y none_x none_y h open_x open_y stands = absurd (never_both (timed y.machine) open_y is')
rest_by planned_x planned_y x y (stays is no_poll none) (stays is' no_poll' none') settled_x settled_y none_x none_y h open_x open_y stands =
    let e = unarmed planned_x x h.fit_x no_poll none in
    let f = unarmed planned_y y h.fit_y no_poll' none' in
    rw (is, is', e, f) (same-does planned_x planned_y x y h)
rest_by planned_x planned_y x y (stays is no_poll none) (asks is' armed') settled_x settled_y none_x none_y h open_x open_y stands =
    let f = fired_stays planned_x 0 x y h.fit_x h.there in
    let g = fired_rest planned_y planned_x y x settled_y settled_x none_y none_x (holds-swapped h) armed' in
    let s = subst (λ (e : End). Stands e (polling_end y)) is (subst (λ (e : End). Stands (timed_end x) e) is' stands) in
    let some = bit-at_most (armed x.machine || armed y.machine) in
    subst (λ (e : End). Does planned_x planned_y (bit (armed x.machine || armed y.machine)) 0 x y e (timed_end y)) (sym is)
    (subst (λ (e : End). Does planned_x planned_y (bit (armed x.machine || armed y.machine)) 0 x y x e) (sym is')
    (does-more (bit (armed x.machine || armed y.machine)) 0 (omega arith) (omega arith) (fired_both planned_x planned_y x y x (polling_end y) f g s)))
rest_by planned_x planned_y x y (asks is armed_) (stays is' no_poll' none') settled_x settled_y none_x none_y h open_x open_y stands =
    let f = fired_rest planned_x planned_y x y settled_x settled_y none_x none_y h armed_ in
    let g = fired_stays planned_y 0 y x h.fit_y h.back in
    let s = subst (λ (e : End). Stands e y) is (subst (λ (e : End). Stands (timed_end x) e) is' stands) in
    let some = bit-at_most (armed x.machine || armed y.machine) in
    subst (λ (e : End). Does planned_x planned_y (bit (armed x.machine || armed y.machine)) 0 x y e (timed_end y)) (sym is)
    (subst (λ (e : End). Does planned_x planned_y (bit (armed x.machine || armed y.machine)) 0 x y (polling_end x) e) (sym is')
    (does-more (bit (armed x.machine || armed y.machine)) 0 (omega arith) (omega arith) (fired_both planned_x planned_y x y (polling_end x) y f g s)))
rest_by planned_x planned_y x y (asks is armed_) (asks is' armed') settled_x settled_y none_x none_y h open_x open_y stands =
    let f = fired_rest planned_x planned_y x y settled_x settled_y none_x none_y h armed_ in
    let g = fired_rest planned_y planned_x y x settled_y settled_x none_y none_x (holds-swapped h) armed' in
    let s = subst (λ (e : End). Stands e (polling_end y)) is (subst (λ (e : End). Stands (timed_end x) e) is' stands) in
    let some = bit-at_most (armed x.machine || armed y.machine) in
    subst (λ (e : End). Does planned_x planned_y (bit (armed x.machine || armed y.machine)) 0 x y e (timed_end y)) (sym is)
    (subst (λ (e : End). Does planned_x planned_y (bit (armed x.machine || armed y.machine)) 0 x y (polling_end x) e) (sym is')
    (does-more (bit (armed x.machine || armed y.machine)) 0 (omega arith) (omega arith) (fired_both planned_x planned_y x y (polling_end x) (polling_end y) f g s)))

pub rest-does : (planned_x planned_y : ℕ) (x y : End) → IsSettled x → IsSettled y → x.queue ≡ [] → y.queue ≡ [] → Holds planned_x planned_y x y → (timed x.machine).closed ≡ None → (timed y.machine).closed ≡ None
    → Stands (timed_end x) (timed_end y) → Does planned_x planned_y (bit (armed x.machine || armed y.machine)) 0 x y (timed_end x) (timed_end y)
rest-does planned_x planned_y x y settled_x settled_y none_x none_y h open_x open_y stands =
    rest_by planned_x planned_y x y (fires planned_x x settled_x h.fit_x) (fires planned_y y settled_y h.fit_y) settled_x settled_y none_x none_y h open_x open_y stands

-- ---- an SDU is submitted

fired_took : (planned : ℕ) (x y : End) (sdu : List ℕ) → is_busy x.machine ≡ false → IsFit planned x → length (took sdu x).put ≤ planned → IsSound (under planned x y) → Fired planned x y (took sdu x) 0 0
fired_took planned x y sdu free fit fits h =
    let no_more = no_fresh x.machine.sender.fresh free in
    let none = ap length no_more in
    let long = length-append x.put (cut x.machine.agreed.send_mps sdu) in
    let e = append-nil (under_way x) in
    record {
      sent = [];
      waits = is_waiting x.machine.sender.poll;
      window_is = refl;
      acknowledged_is = omega arith;
      given_is = omega arith;
      rejecting_is = refl;
      accepted_is = refl;
      waits_is = refl;
      queue = ap (λ (l : List Sent). x.queue ++ l) (took-due x sdu no_more) ∙ sym e;
      says = tt;
      onward = rw e (record { sound = h; within = omega arith });
      fit = record { fits = fits; ready = fit.ready; unpolled = fit.unpolled };
    }

pub submit-does : (planned_x planned_y : ℕ) (x y : End) (sdu : List ℕ) (busy : Bool) → is_busy x.machine ≡ busy → length (cond busy x (took sdu x)).put ≤ planned_x → Holds planned_x planned_y x y → Stands (cond busy x (took sdu x)) y
    → Does planned_x planned_y 0 0 x y (cond busy x (took sdu x)) y
submit-does planned_x planned_y x y sdu true is fits h stands = same-does planned_x planned_y x y h
submit-does planned_x planned_y x y sdu false is fits h stands =
    does-more 0 0 (omega arith) (omega arith)
    (fired_both planned_x planned_y x y (took sdu x) y (fired_took planned_x x y sdu is h.fit_x fits h.there) (fired_stays planned_y 0 y x h.fit_y h.back) stands)
