-- What is done behind what happens: ends give their frames and take SDUs, and the number of passes is no more.
use Rattle.std.proofs.Common.{ℕ, ◌≡◌, ◌≤◌, Bool, true, false, cond, List, [], ◌∷◌, length, refl, ap, ◌∙◌, arith, length-append}
use Rattle.std.specs.List.{AllByRecursion}
use Rattle.ertm_model.specs.Submitting.{cut, is_busy}
use Rattle.ertm_model.specs.Giving.{giving}
use Rattle.ertm_model.specs.Pair.{Sent, End, Deed, Give, Fire, Submit, Pass, Lose, Repeat, Damage, took, near, far, Pair, Turn, ByA, ByB, turned, all_turned, MayDo, MayTurn, AllMay}
use Rattle.ertm_model.proofs.Standing.{does-stands}
use Rattle.recovery_laws.specs.Words.{IsMild, IsMildTurn}
use Rattle.recovery_laws.proofs.Speaking.{Holds, total, StillHolds, give-kept, gave-closed, gave-put, holds-swapped}
use Rattle.recovery_laws.proofs.Firing.{submit-does}

-- ---- one deed

took_closed : (busy : Bool) (sdu : List ℕ) (e : End) → (cond busy e (took sdu e)).machine.closed ≡ e.machine.closed
took_closed true sdu e = refl
took_closed false sdu e = refl

took_put : (busy : Bool) (sdu : List ℕ) (e : End) → length e.put ≤ length (cond busy e (took sdu e)).put
took_put true sdu e = omega arith
took_put false sdu e = let long = length-append e.put (cut e.machine.agreed.send_mps sdu) in omega arith

near_closed : (deed : Deed) (e : End) → IsMild deed → (near deed e).machine.closed ≡ e.machine.closed
near_closed Give e mild = gave-closed (giving e.machine) e
near_closed Fire e mild = absurd mild
near_closed (Submit sdu) e mild = took_closed (is_busy e.machine) sdu e
near_closed Pass e mild = absurd mild
near_closed Lose e mild = absurd mild
near_closed Repeat e mild = absurd mild
near_closed (Damage refusal) e mild = absurd mild

near_put : (deed : Deed) (e : End) → IsMild deed → length e.put ≤ length (near deed e).put
near_put Give e mild = let same = ap length (gave-put (giving e.machine) e) in omega arith
near_put Fire e mild = absurd mild
near_put (Submit sdu) e mild = took_put (is_busy e.machine) sdu e
near_put Pass e mild = absurd mild
near_put Lose e mild = absurd mild
near_put Repeat e mild = absurd mild
near_put (Damage refusal) e mild = absurd mild

far_same : (deed : Deed) (queue : List Sent) (e : End) → IsMild deed → far deed queue e ≡ e
far_same Give queue e mild = refl
far_same Fire queue e mild = absurd mild
far_same (Submit sdu) queue e mild = refl
far_same Pass queue e mild = absurd mild
far_same Lose queue e mild = absurd mild
far_same Repeat queue e mild = absurd mild
far_same (Damage refusal) queue e mild = absurd mild

mild_kept : (planned_x planned_y : ℕ) (deed : Deed) (x y : End) → IsMild deed → MayDo deed x → Holds planned_x planned_y x y → length (near deed x).put ≤ planned_x
    → StillHolds planned_x planned_y (total planned_x planned_y x y) (near deed x) (far deed x.queue y)
mild_kept planned_x planned_y Give x y mild may h fits = give-kept planned_x planned_y x y h
mild_kept planned_x planned_y Fire x y mild may h fits = absurd mild
mild_kept planned_x planned_y (Submit sdu) x y mild may h fits =
    let does = submit-does planned_x planned_y x y sdu (is_busy x.machine) refl fits h (does-stands (Submit sdu) x y may h.stands) in
    let le = does.falls in
    record { holds = does.holds; less = omega arith }
mild_kept planned_x planned_y Pass x y mild may h fits = absurd mild
mild_kept planned_x planned_y Lose x y mild may h fits = absurd mild
mild_kept planned_x planned_y Repeat x y mild may h fits = absurd mild
mild_kept planned_x planned_y (Damage refusal) x y mild may h fits = absurd mild

-- ---- turns

pub record IsLike (p q : Pair) : Type 0 where
  pub closed_a : q.a.machine.closed ≡ p.a.machine.closed
  pub closed_b : q.b.machine.closed ≡ p.b.machine.closed
  pub put_a : length p.a.put ≤ length q.a.put
  pub put_b : length p.b.put ≤ length q.b.put

turn_like : (turn : Turn) (p : Pair) → IsMildTurn turn → IsLike p (turned turn p)
turn_like (ByA deed) p mild =
    let same = far_same deed p.a.queue p.b mild in
    let long = ap (λ (e : End). length e.put) same in
    record { closed_a = near_closed deed p.a mild; closed_b = ap (λ (e : End). e.machine.closed) same; put_a = near_put deed p.a mild; put_b = omega arith }
turn_like (ByB deed) p mild =
    let same = far_same deed p.b.queue p.a mild in
    let long = ap (λ (e : End). length e.put) same in
    record { closed_a = ap (λ (e : End). e.machine.closed) same; closed_b = near_closed deed p.b mild; put_a = omega arith; put_b = near_put deed p.b mild }

pub turns-like : (turns : List Turn) (p : Pair) → AllByRecursion IsMildTurn turns → IsLike p (all_turned turns p)
turns-like [] p mild = record { closed_a = refl; closed_b = refl; put_a = omega arith; put_b = omega arith }
turns-like (turn ∷ turns) p mild =
    let one = turn_like turn p mild.0 in
    let rest = turns-like turns (turned turn p) mild.1 in
    let a = one.put_a in
    let b = one.put_b in
    let a' = rest.put_a in
    let b' = rest.put_b in
    record { closed_a = rest.closed_a ∙ one.closed_a; closed_b = rest.closed_b ∙ one.closed_b; put_a = omega arith; put_b = omega arith }

turn_kept : (planned_a planned_b : ℕ) (turn : Turn) (p : Pair) → IsMildTurn turn → MayTurn turn p → Holds planned_a planned_b p.a p.b → length (turned turn p).a.put ≤ planned_a → length (turned turn p).b.put ≤ planned_b
    → StillHolds planned_a planned_b (total planned_a planned_b p.a p.b) (turned turn p).a (turned turn p).b
turn_kept planned_a planned_b (ByA deed) p mild may h fits_a fits_b = mild_kept planned_a planned_b deed p.a p.b mild may h fits_a
turn_kept planned_a planned_b (ByB deed) p mild may h fits_a fits_b =
    let kept = mild_kept planned_b planned_a deed p.b p.a mild may (holds-swapped h) fits_b in
    let le = kept.less in
    record { holds = holds-swapped kept.holds; less = omega arith }

pub turns-kept : (planned_a planned_b : ℕ) (turns : List Turn) (p : Pair) → AllByRecursion IsMildTurn turns → AllMay turns p → Holds planned_a planned_b p.a p.b
    → length (all_turned turns p).a.put ≤ planned_a → length (all_turned turns p).b.put ≤ planned_b
    → StillHolds planned_a planned_b (total planned_a planned_b p.a p.b) (all_turned turns p).a (all_turned turns p).b
turns-kept planned_a planned_b [] p mild may h fits_a fits_b = record { holds = h; less = omega arith }
turns-kept planned_a planned_b (turn ∷ turns) p mild may h fits_a fits_b =
    let like = turns-like turns (turned turn p) mild.1 in
    let a = like.put_a in
    let b = like.put_b in
    let one = turn_kept planned_a planned_b turn p mild.0 may.0 h (omega arith) (omega arith) in
    let rest = turns-kept planned_a planned_b turns (turned turn p) mild.1 may.1 one.holds fits_a fits_b in
    let le = one.less in
    let le' = rest.less in
    record { holds = rest.holds; less = omega arith }
