-- What a loss, a repeat and a timer out of turn do to two ends that have nothing to give.
use Rattle.std.proofs.Common.{ℕ, ◌≡◌, ◌+◌, ◌*◌, ◌≤◌, true, false, List, ◌∷◌, ◌++◌, None, refl, ap, ◌∙◌, subst, arith, append-nil}
use Rattle.ertm_frames.specs.Frames.{PlainFrame, information, supervisory}
use Rattle.ertm_model.specs.Pair.{Sent, End, hearing_by}
use Rattle.ertm_model.specs.Order.{Stands}
use Rattle.recovery_laws.specs.Number.{Direction, weight, weights, work_left}
use Rattle.recovery_laws.specs.Facts.{IsSound, IsSettled}
use Rattle.recovery_laws.proofs.Putting.{Goes}
use Rattle.recovery_laws.proofs.Hearing.{comes}
use Rattle.recovery_laws.proofs.Receiving.{goes, gone}
use Rattle.recovery_laws.proofs.Harming.{lost-goes, lost-passes, unheard, unheard-goes, twice-goes, twice-comes}
use Rattle.recovery_laws.proofs.Due.{under_way, silent-due}
use Rattle.recovery_laws.proofs.Speaking.{under, Holds, total, settled-queue}
use Rattle.recovery_laws.proofs.Passing.{passes}

-- what a deed makes of two ends
pub record Does (planned_x planned_y gain owed : ℕ) (x y after other : End) : Type 0 where
  pub holds : Holds planned_x planned_y after other
  pub falls : gain + total planned_x planned_y after other ≤ owed + total planned_x planned_y x y

-- ---- the front frame is at the front of all that is under way

record Fronts (planned_x planned_y : ℕ) (x y : End) (sent : Sent) (behind : List Sent) : Type 0 where
  queue : under_way x ≡ sent ∷ behind
  there : under planned_x x y ≡ goes sent behind (under planned_x x y)
  back : under planned_y y x ≡ comes sent behind (under planned_y y x)

fronts : (planned_x planned_y : ℕ) (x y : End) (sent : Sent) (behind : List Sent) → x.queue ≡ sent ∷ behind → IsSettled x → Holds planned_x planned_y x y → Fronts planned_x planned_y x y sent behind
fronts planned_x planned_y x y sent behind is settled h =
    let queue = settled-queue planned_x x h.fit_x settled ∙ is in
    record {
      queue = queue;
      there = ap (λ (l : List Sent). record (under planned_x x y) { going = l }) queue;
      back = ap (λ (l : List Sent). record (under planned_y y x) { coming = l }) queue;
    }

-- it is handed over and goes
pub pass-does : (planned_x planned_y : ℕ) (x y : End) (sent : Sent) (behind : List Sent) → x.queue ≡ sent ∷ behind → IsSettled x → IsSettled y → Holds planned_x planned_y x y
    → Stands (record x { queue = behind }) (hearing_by None None sent.frame y) → Does planned_x planned_y 1 0 x y (record x { queue = behind }) (hearing_by None None sent.frame y)
pass-does planned_x planned_y x y sent behind is settled_x settled_y h stands =
    let f = fronts planned_x planned_y x y sent behind is settled_x h in
    let p = passes planned_x planned_y x y sent behind behind is settled_x settled_y h stands (subst (λ (d : Direction). IsSound d) f.there h.there) (subst (λ (d : Direction). IsSound d) f.back h.back) in
    let falls = p.falls in
    let weigh = ap weights f.queue in
    let there = ap work_left f.there in
    let back = ap work_left f.back in
    record { holds = p.holds; falls = omega arith }

weight_small : (frame : PlainFrame) → weight frame ≤ 2
weight_small (information tx final req sar total octets) = omega arith
weight_small (supervisory kind true final req) = omega arith
weight_small (supervisory kind false final req) = omega arith

-- it is handed over and stays
pub repeat-does : (planned_x planned_y : ℕ) (x y : End) (sent : Sent) (behind : List Sent) → x.queue ≡ sent ∷ behind → IsSettled x → IsSettled y → Holds planned_x planned_y x y
    → Stands (record x { queue = sent ∷ behind }) (hearing_by None None sent.frame y)
    → Does planned_x planned_y 0 (2 * y.machine.agreed.send_window + 2) x y (record x { queue = sent ∷ behind }) (hearing_by None None sent.frame y)
repeat-does planned_x planned_y x y sent behind is settled_x settled_y h stands =
    let f = fronts planned_x planned_y x y sent behind is settled_x h in
    let one = twice-goes sent behind (under planned_x x y) (subst (λ (d : Direction). IsSound d) f.there h.there) in
    let other = twice-comes sent behind (under planned_y y x) (subst (λ (d : Direction). IsSound d) f.back h.back) in
    let p = passes planned_x planned_y x y sent behind (sent ∷ behind) is settled_x settled_y h stands one.sound other.sound in
    let falls = p.falls in
    let first = one.within in
    let second = other.within in
    let small = weight_small sent.frame in
    let weigh = ap weights f.queue in
    let there = ap work_left f.there in
    let back = ap work_left f.back in
    record { holds = p.holds; falls = omega arith }

-- ---- it is lost

-- what is owed in the direction in which it went
record Loses (d : Direction) (frame : PlainFrame) (c e : Direction) : Type 0 where
  owed : ℕ
  goes_on : Goes 0 owed c e
  few : owed ≤ weight frame + (2 * d.window + 1)

loses : (frame : PlainFrame) (number asks : ℕ) (behind : List Sent) (d : Direction) → 1 ≤ d.window → IsSound (goes (record { frame = frame; number = number; asks = asks }) behind d)
    → Loses d frame (goes (record { frame = frame; number = number; asks = asks }) behind d) (gone behind d)
loses (information tx final req sar total octets) number asks behind d some h =
    record { owed = 2 * d.window + 3; goes_on = lost-goes (record { frame = information tx final req sar total octets; number = number; asks = asks }) behind d number refl refl h; few = omega arith }
loses (supervisory kind true final req) number asks behind d some h =
    record { owed = 3; goes_on = lost-passes (record { frame = supervisory kind true final req; number = number; asks = asks }) behind d refl h; few = omega arith }
loses (supervisory kind false final req) number asks behind d some h =
    record { owed = 3; goes_on = lost-passes (record { frame = supervisory kind false final req; number = number; asks = asks }) behind d refl h; few = omega arith }

pub lose-does : (planned_x planned_y : ℕ) (x y : End) (sent : Sent) (behind : List Sent) → x.queue ≡ sent ∷ behind → IsSettled x → Holds planned_x planned_y x y → Stands (record x { queue = behind }) y
    → Does planned_x planned_y 0 (2 * x.machine.agreed.send_window + (2 * y.machine.agreed.send_window + 4)) x y (record x { queue = behind }) y
lose-does planned_x planned_y x y sent behind is settled h stands =
    let after : End = record x { queue = behind } in
    let f = fronts planned_x planned_y x y sent behind is settled h in
    let some = h.stands.meets.some in
    let one = loses sent.frame sent.number sent.asks behind (under planned_x x y) some (subst (λ (d : Direction). IsSound d) f.there h.there) in
    let other = unheard-goes sent behind (under planned_y y x) (subst (λ (d : Direction). IsSound d) f.back h.back) in
    let none = silent-due after settled.is_open h.fit_x.ready settled.is_silent in
    let queue : under_way after ≡ behind = ap (λ (l : List Sent). behind ++ l) none ∙ append-nil behind in
    let there_is : under planned_x after y ≡ gone behind (under planned_x x y) = rw queue refl in
    let back_is : under planned_y y after ≡ unheard behind (under planned_y y x) = rw queue refl in
    let first = one.goes_on.within in
    let few = one.few in
    let second = other.within in
    let weigh = ap weights f.queue in
    let weigh' = ap weights queue in
    let there = ap work_left f.there in
    let back = ap work_left f.back in
    let there' = ap work_left there_is in
    let back' = ap work_left back_is in
    record {
      holds = record {
        stands = stands;
        there = rw there_is one.goes_on.sound;
        back = rw back_is other.sound;
        fit_x = record { fits = h.fit_x.fits; ready = h.fit_x.ready; unpolled = h.fit_x.unpolled };
        fit_y = h.fit_y;
      };
      falls = omega arith;
    }
