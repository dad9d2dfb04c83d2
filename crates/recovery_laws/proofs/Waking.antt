-- Two ends that have nothing to give, where nothing is on its way: the timer of one of them fires, of both, or of none.
use Rattle.std.proofs.Common.{ℕ, ◌≡◌, ◌+◌, ◌≤◌, inl, inr, Bool, true, false, [], None, ap, sym, subst, arith}
use Rattle.std.specs.Prelude.{◌||◌}
use Rattle.ertm_model.specs.Giving.{timed}
use Rattle.ertm_model.specs.Pair.{End}
use Rattle.ertm_model.specs.Order.{Stands}
use Rattle.ertm_model.proofs.Resting.{at_rest, silent}
use Rattle.recovery_laws.specs.Number.{is_due}
use Rattle.recovery_laws.specs.Facts.{IsSettled}
use Rattle.recovery_laws.proofs.Tests.{bit, bit-at_most}
use Rattle.recovery_laws.proofs.Speaking.{Holds, holds-swapped}
use Rattle.recovery_laws.proofs.Losing.{Does}
use Rattle.recovery_laws.proofs.Firing.{timed_end, polling_end, Fires, stays, asks, closes, fires, Fired, fired_stays, fired_rest, fired_both, does-more, never_both}

abbrev pub woken : Bool → End → End
woken true x = timed_end x
woken false x = x

-- what it gives then, and that it has a poll to give only where its timer gained one pass
record Wakes (planned : ℕ) (x y after : End) : Type 0 where
  gain : ℕ
  few : bit (is_due after.machine.sender.poll) ≤ gain
  fired : Fired planned x y after gain 0

settled_due : (x : End) → IsSettled x → is_due x.machine.sender.poll ≡ false
settled_due x settled =
    let rest = at_rest x.machine settled.is_open (silent x.machine settled.is_silent) in
    elim rest.rests [
      | inl waits ↦ ap is_due waits
      | inr (no_poll, others) ↦ ap is_due no_poll
    ]

sleeps : (planned other : ℕ) (x y : End) → IsSettled x → Holds planned other x y → Wakes planned x y x
sleeps planned other x y settled h =
    let none = settled_due x settled in
    record { gain = 0; few = (let e = ap bit none in omega (arith, e)); fired = fired_stays planned 0 x y h.fit_x h.there }

wakes_by : (planned other : ℕ) (x y : End) → Fires x → IsSettled x → IsSettled y → x.queue ≡ [] → y.queue ≡ [] → Holds planned other x y → (timed x.machine).closed ≡ None → Wakes planned x y (timed_end x)
wakes_by planned other x y (stays is no_poll none) settled_x settled_y none_x none_y h open_ = subst (Wakes planned x y) (sym is) (sleeps planned other x y settled_x h)
wakes_by planned other x y (asks is armed_) settled_x settled_y none_x none_y h open_ =
    subst (Wakes planned x y) (sym is) (record { gain = 1; few = bit-at_most (is_due (polling_end x).machine.sender.poll); fired = fired_rest planned other x y settled_x settled_y none_x none_y h armed_ })
wakes_by planned other x y (closes is) settled_x settled_y none_x none_y h open_ = absurd (never_both (timed x.machine) open_ is)

wakes : (planned other : ℕ) (x y : End) (fired : Bool) → IsSettled x → IsSettled y → x.queue ≡ [] → y.queue ≡ [] → Holds planned other x y → (woken fired x).machine.closed ≡ None → Wakes planned x y (woken fired x)
wakes planned other x y true settled_x settled_y none_x none_y h open_ = wakes_by planned other x y (fires planned x settled_x h.fit_x) settled_x settled_y none_x none_y h open_
wakes planned other x y false settled_x settled_y none_x none_y h open_ = sleeps planned other x y settled_x h

bits : (a b : Bool) → bit (a || b) ≤ bit a + bit b
bits true b = omega arith
bits false b = omega arith

-- where either has a poll to give then, the number is less by one
pub waking-does : (planned_x planned_y : ℕ) (x y : End) (fired_x fired_y : Bool) → IsSettled x → IsSettled y → x.queue ≡ [] → y.queue ≡ [] → Holds planned_x planned_y x y
    → (woken fired_x x).machine.closed ≡ None → (woken fired_y y).machine.closed ≡ None → Stands (woken fired_x x) (woken fired_y y)
    → Does planned_x planned_y (bit (is_due (woken fired_x x).machine.sender.poll || is_due (woken fired_y y).machine.sender.poll)) 0 x y (woken fired_x x) (woken fired_y y)
waking-does planned_x planned_y x y fired_x fired_y settled_x settled_y none_x none_y h open_x open_y stands =
    let f = wakes planned_x planned_y x y fired_x settled_x settled_y none_x none_y h open_x in
    let g = wakes planned_y planned_x y x fired_y settled_y settled_x none_y none_x (holds-swapped h) open_y in
    let few = f.few in
    let few' = g.few in
    let both = bits (is_due (woken fired_x x).machine.sender.poll) (is_due (woken fired_y y).machine.sender.poll) in
    does-more (bit (is_due (woken fired_x x).machine.sender.poll || is_due (woken fired_y y).machine.sender.poll)) 0 (omega (arith, few, few', both)) (omega arith)
    (fired_both planned_x planned_y x y (woken fired_x x) (woken fired_y y) f.fired g.fired stands)
