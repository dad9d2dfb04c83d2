-- The passes that were found on a channel, with those that its ends may still need, are within what is owed; and what each deed makes of it.
use Rattle.std.proofs.Common.{◌≡◌, ℕ, ◌+◌, ◌*◌, ◌≤◌, List, [], ◌∷◌, length, Bool, true, false, Option, Some, None, refl, ap, arith, mul-le-mul_left}
use Rattle.std.specs.Prelude.{◌||◌}
use Rattle.ertm_frames.specs.Frames.{PlainFrame}
use Rattle.ertm_model.specs.declared.reason.ErtmReason.{ErtmReason}
use Rattle.ertm_model.specs.Hearing.{fault}
use Rattle.ertm_model.specs.Pair.{Sent, End, Deed, Give, Fire, Submit, Pass, Lose, Repeat, Damage, near, far, hearing_front, hearing_by, Pair, Turn, ByA, ByB, turned, MayDo, MayTurn}
use Rattle.ertm_model.specs.Order.{StandsBoth}
use Rattle.ertm_model.specs.Recovery.{adverse}
use Rattle.ertm_model.proofs.Standing.{does-stands, turns-stand, swapped}
use Rattle.recovery_laws.specs.Number.{is_due}
use Rattle.recovery_laws.specs.Facts.{IsSettled}
use Rattle.recovery_laws.specs.Words.{IsMildTurn, handed, harm}
use Rattle.recovery_laws.proofs.Tests.{bit}
use Rattle.recovery_laws.proofs.Speaking.{Holds, total, holds-swapped}
use Rattle.recovery_laws.proofs.Mild.{turns-like, turns-kept}
use Rattle.recovery_laws.proofs.Turning.{deed-does}
use Rattle.recovery_laws.proofs.Waking.{woken, waking-does}

abbrev pub swap : Pair → Pair
swap p = record { a = p.b; b = p.a }

-- ---- what is kept

pub record Bounded (found owed : ℕ) (p : Pair) (planned_a planned_b : ℕ) : Type 0 where
  pub holds : Holds planned_a planned_b p.a p.b
  pub within : found + total planned_a planned_b p.a p.b ≤ owed + (2 * planned_a + 2 * planned_b)

-- whatever is planned, besides what was put
abbrev pub Within : (found owed : ℕ) → Pair → Type 0
Within found owed p = (planned_a planned_b : ℕ) → length p.a.put ≤ planned_a → length p.b.put ≤ planned_b → Bounded found owed p planned_a planned_b

pub within-more : (found owed less more : ℕ) (p : Pair) → less ≤ found → owed ≤ more → Within found owed p → Within less more p
within-more found owed less more p low high h planned_a planned_b fits_a fits_b =
    let b = h planned_a planned_b fits_a fits_b in
    let le = b.within in
    record { holds = b.holds; within = omega (arith, low, high, le) }

pub within-swapped : (found owed : ℕ) (p : Pair) → Within found owed p → Within found owed (swap p)
within-swapped found owed p h planned_a planned_b fits_a fits_b =
    let b = h planned_b planned_a fits_b fits_a in
    let le = b.within in
    record { holds = holds-swapped b.holds; within = omega arith }

-- ---- a deed of one end

heard_put : (e : End) (frame : PlainFrame) (closed cause : Option ErtmReason) → (hearing_by closed cause frame e).put ≡ e.put
heard_put e frame (Some reason) cause = refl
heard_put e frame None (Some cause) = refl
heard_put e frame None None = refl

front_put : (queue : List Sent) (e : End) → (hearing_front queue e).put ≡ e.put
front_put [] e = refl
front_put (sent ∷ queue) e = heard_put e sent.frame e.machine.closed (fault sent.frame e.machine)

-- it puts nothing, and has nothing put
abbrev pub IsBare : Deed → Type 0
IsBare Give = ⊥
IsBare Fire = Unit {0}
IsBare (Submit sdu) = ⊥
IsBare Pass = Unit {0}
IsBare Lose = Unit {0}
IsBare Repeat = Unit {0}
IsBare (Damage refusal) = ⊥

near_put : (deed : Deed) (e : End) → IsBare deed → (near deed e).put ≡ e.put
near_put Give e bare = absurd bare
near_put Fire e bare = refl
near_put (Submit sdu) e bare = absurd bare
near_put Pass e bare = refl
near_put Lose e bare = refl
near_put Repeat e bare = refl
near_put (Damage refusal) e bare = absurd bare

far_put : (deed : Deed) (queue : List Sent) (e : End) → IsBare deed → (far deed queue e).put ≡ e.put
far_put Give queue e bare = absurd bare
far_put Fire queue e bare = refl
far_put (Submit sdu) queue e bare = absurd bare
far_put Pass queue e bare = front_put queue e
far_put Lose queue e bare = refl
far_put Repeat queue e bare = front_put queue e
far_put (Damage refusal) queue e bare = absurd bare

may_do : (deed : Deed) (e : End) → IsBare deed → MayDo deed e
may_do Give e bare = absurd bare
may_do Fire e bare = tt
may_do (Submit sdu) e bare = absurd bare
may_do Pass e bare = tt
may_do Lose e bare = tt
may_do Repeat e bare = tt
may_do (Damage refusal) e bare = absurd bare

small : (p : Pair) → StandsBoth p → harm p.a.machine.agreed.send_window p.b.machine.agreed.send_window ≤ 256
small p stands =
    let w = stands.meets.within in
    let x = stands.meets.most in
    let y = stands.met.within in
    let z = stands.met.most in
    omega arith

-- where both stay open
pub bare-a : (deed : Deed) (found owed : ℕ) (p : Pair) → IsBare deed → StandsBoth p → IsSettled p.a → IsSettled p.b → Within found owed p
    → (turned (ByA deed) p).a.machine.closed ≡ None → (turned (ByA deed) p).b.machine.closed ≡ None → Within (found + handed deed p.a.queue) (owed + 256 * adverse deed) (turned (ByA deed) p)
bare-a deed found owed p bare stands settled_a settled_b h open_a open_b planned_a planned_b fits_a fits_b =
    let same_a = ap length (near_put deed p.a bare) in
    let same_b = ap length (far_put deed p.a.queue p.b bare) in
    let may = may_do deed p.a bare in
    let b = h planned_a planned_b (omega (arith, same_a, fits_a)) (omega (arith, same_b, fits_b)) in
    let does = deed-does planned_a planned_b deed p.a p.b settled_a settled_b b.holds may open_a open_b fits_a (does-stands deed p.a p.b may stands) in
    let cost = mul-le-mul_left (adverse deed) (small p stands) in
    let le = b.within in
    let falls = does.falls in
    record { holds = does.holds; within = omega arith }

pub bare-b : (deed : Deed) (found owed : ℕ) (p : Pair) → IsBare deed → StandsBoth p → IsSettled p.a → IsSettled p.b → Within found owed p
    → (turned (ByB deed) p).a.machine.closed ≡ None → (turned (ByB deed) p).b.machine.closed ≡ None → Within (found + handed deed p.b.queue) (owed + 256 * adverse deed) (turned (ByB deed) p)
bare-b deed found owed p bare stands settled_a settled_b h open_a open_b =
    within-swapped (found + handed deed p.b.queue) (owed + 256 * adverse deed) (turned (ByA deed) (swap p))
    (bare-a deed found owed (swap p) bare (swapped stands) settled_b settled_a (within-swapped found owed p h) open_b open_a)

-- ---- of its own accord

pub mild-move : (found owed : ℕ) (turn : Turn) (p : Pair) → IsMildTurn turn → StandsBoth p → MayTurn turn p → Within found owed p → Within found owed (turned turn p)
mild-move found owed turn p mild stands may h planned_a planned_b fits_a fits_b =
    let like = turns-like (turn ∷ []) p (mild, tt) in
    let long_a = like.put_a in
    let long_b = like.put_b in
    let b = h planned_a planned_b (omega (arith, long_a, fits_a)) (omega (arith, long_b, fits_b)) in
    let kept = turns-kept planned_a planned_b (turn ∷ []) p (mild, tt) (may, tt) b.holds fits_a fits_b in
    let le = b.within in
    let less = kept.less in
    record { holds = kept.holds; within = omega (arith, le, less) }

-- ---- both timers, each of which fired or did not

pub record Rested (found owed : ℕ) (q : Pair) : Type 0 where
  pub within : Within found owed q
  pub stands : StandsBoth q
  pub settled_a : IsSettled q.a
  pub settled_b : IsSettled q.b
  pub none_a : q.a.queue ≡ []
  pub none_b : q.b.queue ≡ []

abbrev pub woken_ends : (fired_a fired_b : Bool) → Pair → Pair
woken_ends fired_a fired_b q = record { a = woken fired_a q.a; b = woken fired_b q.b }

woken_put : (fired : Bool) (e : End) → (woken fired e).put ≡ e.put
woken_put true e = refl
woken_put false e = refl

woken_stands : (fired_a fired_b : Bool) (q : Pair) → StandsBoth q → StandsBoth (woken_ends fired_a fired_b q)
woken_stands false false q stands = stands
woken_stands true false q stands = turns-stand (ByA Fire) q tt stands
woken_stands false true q stands = turns-stand (ByB Fire) q tt stands
woken_stands true true q stands = turns-stand (ByB Fire) (turned (ByA Fire) q) tt (turns-stand (ByA Fire) q tt stands)

pub wakes-within : (found owed : ℕ) (fired_a fired_b : Bool) (q : Pair) → Rested found owed q → (woken fired_a q.a).machine.closed ≡ None → (woken fired_b q.b).machine.closed ≡ None
    → Within (found + bit (is_due (woken fired_a q.a).machine.sender.poll || is_due (woken fired_b q.b).machine.sender.poll)) owed (woken_ends fired_a fired_b q)
wakes-within found owed fired_a fired_b q r open_a open_b planned_a planned_b fits_a fits_b =
    let same_a = ap length (woken_put fired_a q.a) in
    let same_b = ap length (woken_put fired_b q.b) in
    let b = r.within planned_a planned_b (omega (arith, same_a, fits_a)) (omega (arith, same_b, fits_b)) in
    let does = waking-does planned_a planned_b q.a q.b fired_a fired_b r.settled_a r.settled_b r.none_a r.none_b b.holds open_a open_b (woken_stands fired_a fired_b q r.stands) in
    let le = b.within in
    let falls = does.falls in
    record { holds = does.holds; within = omega arith }
