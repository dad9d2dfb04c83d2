-- Every word keeps what the number of passes rests on, and a pass lowers it.
use Rattle.std.proofs.Common.{ℕ, ◌≡◌, ◌+◌, ◌-◌, ◌*◌, ◌≤◌, cond, List, [], ◌∷◌, length, Option, Some, None, refl, ap, sym, ◌∙◌, subst, arith}
use Rattle.std.specs.Prelude.{◌||◌}
use Rattle.l2cap_config.specs.declared.wish.Agreed.{Agreed}
use Rattle.ertm_frames.specs.Frames.{PlainFrame}
use Rattle.ertm_model.specs.declared.reason.ErtmReason.{ErtmReason}
use Rattle.ertm_model.specs.Value.{armed}
use Rattle.ertm_model.specs.Submitting.{is_busy}
use Rattle.ertm_model.specs.Hearing.{fault}
use Rattle.ertm_model.specs.Pair.{Sent, End, Deed, Give, Fire, Submit, Pass, Lose, Repeat, Damage, near, far, behind_front, hearing_front, hearing_by, Pair, ByA, ByB, turned, MayDo, new_pair}
use Rattle.ertm_model.specs.Order.{Stands}
use Rattle.ertm_model.specs.Recovery.{Happening, Usual, Rest, happened, MayHappen, adverse, cost}
use Rattle.ertm_model.proofs.Standing.{does-stands, turns-stand, new-stands, swapped, damages}
use Rattle.recovery_laws.specs.Number.{sendings_left, firings_left, Direction, direction, weights, work_left, passes_left}
use Rattle.recovery_laws.specs.Facts.{IsSound, IsFit, IsSettled, Recovers}
use Rattle.recovery_laws.specs.Words.{LessMayBePlanned, spoken, handed, passed, harm, NewRecovers, WordsGoOn}
use Rattle.recovery_laws.proofs.Speaking.{Holds, total, give-kept, holds-swapped, settled-queue, settled-direction}
use Rattle.recovery_laws.proofs.Mild.{turns-like, turns-kept}
use Rattle.recovery_laws.proofs.Losing.{Does, pass-does, repeat-does, lose-does}
use Rattle.recovery_laws.proofs.Firing.{does-more, same-does, fire-does, rest-does, submit-does}

-- ---- what an open end made of a frame

open_hearing : (e : End) (frame : PlainFrame) (closed cause : Option ErtmReason) → e.machine.closed ≡ closed → (hearing_by closed cause frame e).machine.closed ≡ None → hearing_by closed cause frame e ≡ hearing_by None None frame e
open_hearing e frame (Some reason) cause is open_ = let f : Some reason ≡ None = sym is ∙ open_ in cc
open_hearing e frame None (Some cause) is open_ = cc
open_hearing e frame None None is open_ = refl

-- ---- deeds

abbrev harm_of : (x y : End) → ℕ
harm_of x y = harm x.machine.agreed.send_window y.machine.agreed.send_window

pass_by : (planned_x planned_y : ℕ) (x y : End) (queue : List Sent) → x.queue ≡ queue → IsSettled x → IsSettled y → Holds planned_x planned_y x y → (hearing_front queue y).machine.closed ≡ None
    → Stands (record x { queue = behind_front queue }) (hearing_front queue y) → Does planned_x planned_y (handed Pass queue) 0 x y (record x { queue = behind_front queue }) (hearing_front queue y)
pass_by planned_x planned_y x y [] is settled_x settled_y h open_ stands =
    subst (λ (l : List Sent). Does planned_x planned_y 0 0 x y (record x { queue = l }) y) is (same-does planned_x planned_y x y h)
pass_by planned_x planned_y x y (sent ∷ behind) is settled_x settled_y h open_ stands =
    let heard = open_hearing y sent.frame y.machine.closed (fault sent.frame y.machine) refl open_ in
    subst (λ (e : End). Does planned_x planned_y 1 0 x y (record x { queue = behind }) e) (sym heard)
    (pass-does planned_x planned_y x y sent behind is settled_x settled_y h (subst (λ (e : End). Stands (record x { queue = behind }) e) heard stands))

repeat_by : (planned_x planned_y : ℕ) (x y : End) (queue : List Sent) → x.queue ≡ queue → IsSettled x → IsSettled y → Holds planned_x planned_y x y → (hearing_front queue y).machine.closed ≡ None
    → Stands x (hearing_front queue y) → Does planned_x planned_y 0 (harm_of x y) x y x (hearing_front queue y)
repeat_by planned_x planned_y x y [] is settled_x settled_y h open_ stands = does-more 0 (harm_of x y) (omega arith) (omega arith) (same-does planned_x planned_y x y h)
repeat_by planned_x planned_y x y (sent ∷ behind) is settled_x settled_y h open_ stands =
    let heard = open_hearing y sent.frame y.machine.closed (fault sent.frame y.machine) refl open_ in
    let there = subst (λ (l : List Sent). Stands (record x { queue = l }) (hearing_by None None sent.frame y)) is (subst (λ (e : End). Stands x e) heard stands) in
    let does = does-more 0 (harm_of x y) (omega arith) (omega arith) (repeat-does planned_x planned_y x y sent behind is settled_x settled_y h there) in
    subst (λ (e : End). Does planned_x planned_y 0 (harm_of x y) x y x e) (sym heard)
    (subst (λ (l : List Sent). Does planned_x planned_y 0 (harm_of x y) x y (record x { queue = l }) (hearing_by None None sent.frame y)) (sym is) does)

lose_by : (planned_x planned_y : ℕ) (x y : End) (queue : List Sent) → x.queue ≡ queue → IsSettled x → Holds planned_x planned_y x y → Stands (record x { queue = behind_front queue }) y
    → Does planned_x planned_y 0 (harm_of x y) x y (record x { queue = behind_front queue }) y
lose_by planned_x planned_y x y [] is settled h stands =
    subst (λ (l : List Sent). Does planned_x planned_y 0 (harm_of x y) x y (record x { queue = l }) y) is (does-more 0 (harm_of x y) (omega arith) (omega arith) (same-does planned_x planned_y x y h))
lose_by planned_x planned_y x y (sent ∷ behind) is settled h stands = lose-does planned_x planned_y x y sent behind is settled h stands

give_by : (planned_x planned_y : ℕ) (x y : End) → Holds planned_x planned_y x y → Does planned_x planned_y 0 0 x y (near Give x) y
give_by planned_x planned_y x y h =
    let k = give-kept planned_x planned_y x y h in
    let less = k.less in
    record { holds = k.holds; falls = omega arith }

pub deed-does : (planned_x planned_y : ℕ) (deed : Deed) (x y : End) → IsSettled x → IsSettled y → Holds planned_x planned_y x y → MayDo deed x → (near deed x).machine.closed ≡ None → (far deed x.queue y).machine.closed ≡ None
    → length (near deed x).put ≤ planned_x → Stands (near deed x) (far deed x.queue y)
    → Does planned_x planned_y (handed deed x.queue) (adverse deed * harm_of x y) x y (near deed x) (far deed x.queue y)
deed-does planned_x planned_y Give x y settled_x settled_y h may open_x open_y fits stands = does-more 0 (0 * harm_of x y) (omega arith) (omega arith) (give_by planned_x planned_y x y h)
deed-does planned_x planned_y Fire x y settled_x settled_y h may open_x open_y fits stands =
    does-more 0 (1 * harm_of x y) (omega arith) (omega arith) (fire-does planned_x planned_y x y settled_x h open_x stands)
deed-does planned_x planned_y (Submit sdu) x y settled_x settled_y h may open_x open_y fits stands =
    does-more 0 (0 * harm_of x y) (omega arith) (omega arith) (submit-does planned_x planned_y x y sdu (is_busy x.machine) refl fits h stands)
deed-does planned_x planned_y Pass x y settled_x settled_y h may open_x open_y fits stands =
    does-more (handed Pass x.queue) (0 * harm_of x y) (omega arith) (omega arith) (pass_by planned_x planned_y x y x.queue refl settled_x settled_y h open_y stands)
deed-does planned_x planned_y Lose x y settled_x settled_y h may open_x open_y fits stands =
    does-more 0 (1 * harm_of x y) (omega arith) (omega arith) (lose_by planned_x planned_y x y x.queue refl settled_x h stands)
deed-does planned_x planned_y Repeat x y settled_x settled_y h may open_x open_y fits stands =
    does-more 0 (1 * harm_of x y) (omega arith) (omega arith) (repeat_by planned_x planned_y x y x.queue refl settled_x settled_y h open_y stands)
deed-does planned_x planned_y (Damage refusal) x y settled_x settled_y h may open_x open_y fits stands =
    let same = damages refusal x.queue y may in
    does-more 0 (1 * harm_of x y) (omega arith) (omega arith)
    (subst (λ (e : End). Does planned_x planned_y 0 (harm_of x y) x y (near (Damage refusal) x) e) (sym same)
    (lose_by planned_x planned_y x y x.queue refl settled_x h (subst (λ (e : End). Stands (near (Damage refusal) x) e) same stands)))

-- ---- from ends that have nothing to give to all that is under way, and back

pub recovers-holds : (planned_a planned_b : ℕ) (p : Pair) → Recovers planned_a planned_b p → Holds planned_a planned_b p.a p.b
recovers-holds planned_a planned_b p h = record {
  stands = h.stands;
  there = rw (settled-direction planned_a planned_a planned_b p.a p.b h.fit_a h.fit_b h.settled_a h.settled_b) h.there;
  back = rw (settled-direction planned_b planned_b planned_a p.b p.a h.fit_b h.fit_a h.settled_b h.settled_a) h.back;
  fit_x = h.fit_a;
  fit_y = h.fit_b;
}

pub holds-recovers : (planned_a planned_b : ℕ) (p : Pair) → Holds planned_a planned_b p.a p.b → IsSettled p.a → IsSettled p.b → Recovers planned_a planned_b p
holds-recovers planned_a planned_b p h settled_a settled_b = record {
  stands = h.stands;
  settled_a = settled_a;
  settled_b = settled_b;
  there = subst (λ (d : Direction). IsSound d) (settled-direction planned_a planned_a planned_b p.a p.b h.fit_x h.fit_y settled_a settled_b) h.there;
  back = subst (λ (d : Direction). IsSound d) (settled-direction planned_b planned_b planned_a p.b p.a h.fit_y h.fit_x settled_b settled_a) h.back;
  fit_a = h.fit_x;
  fit_b = h.fit_y;
}

pub total-is : (planned_a planned_b : ℕ) (p : Pair) → IsFit planned_a p.a → IsFit planned_b p.b → IsSettled p.a → IsSettled p.b → total planned_a planned_b p.a p.b ≡ passes_left planned_a planned_b p
total-is planned_a planned_b p fit_a fit_b settled_a settled_b =
    let a = ap weights (settled-queue planned_a p.a fit_a settled_a) in
    let b = ap weights (settled-queue planned_b p.b fit_b settled_b) in
    let there = ap work_left (settled-direction planned_a planned_a planned_b p.a p.b fit_a fit_b settled_a settled_b) in
    let back = ap work_left (settled-direction planned_b planned_b planned_a p.b p.a fit_b fit_a settled_b settled_a) in
    omega arith

-- ---- what happens

does-swapped : {planned_x planned_y gain owed : ℕ} {x y after other : End} → Does planned_x planned_y gain owed x y after other → Does planned_y planned_x gain owed y x other after
does-swapped h = record { holds = holds-swapped h.holds; falls = let f = h.falls in omega arith }

record MayGoOn (planned_a planned_b : ℕ) (happening : Happening) (p : Pair) : Type 0 where
  may : MayHappen happening p
  open_a : (happened happening p).a.machine.closed ≡ None
  open_b : (happened happening p).b.machine.closed ≡ None
  fits_a : length (happened happening p).a.put ≤ planned_a
  fits_b : length (happened happening p).b.put ≤ planned_b

happening_does : (planned_a planned_b : ℕ) (happening : Happening) (p : Pair) → Recovers planned_a planned_b p → MayGoOn planned_a planned_b happening p
    → Does planned_a planned_b (passed happening p) (cost happening * harm_of p.a p.b) p.a p.b (happened happening p).a (happened happening p).b
happening_does planned_a planned_b (Usual (ByA deed)) p h m =
    deed-does planned_a planned_b deed p.a p.b h.settled_a h.settled_b (recovers-holds planned_a planned_b p h) m.may m.open_a m.open_b m.fits_a (does-stands deed p.a p.b m.may h.stands)
happening_does planned_a planned_b (Usual (ByB deed)) p h m =
    let other = deed-does planned_b planned_a deed p.b p.a h.settled_b h.settled_a (holds-swapped (recovers-holds planned_a planned_b p h)) m.may m.open_b m.open_a m.fits_b (does-stands deed p.b p.a m.may (swapped h.stands)) in
    let same : adverse deed * harm_of p.b p.a ≡ adverse deed * harm_of p.a p.b = ap (λ (n : ℕ). adverse deed * n) (omega arith) in
    does-more (handed deed p.b.queue) (adverse deed * harm_of p.a p.b) (omega arith) (omega arith) (does-swapped other)
happening_does planned_a planned_b Rest p h m =
    let stands = turns-stand (ByB Fire) (turned (ByA Fire) p) tt (turns-stand (ByA Fire) p tt h.stands) in
    let rest = m.may in
    does-more (cond (armed p.a.machine || armed p.b.machine) 1 0) (0 * harm_of p.a p.b) (omega arith) (omega arith)
    (rest-does planned_a planned_b p.a p.b h.settled_a h.settled_b rest.none_x rest.none_y (recovers-holds planned_a planned_b p h) m.open_a m.open_b stands)

pub words-go_on : WordsGoOn
words-go_on planned_a planned_b word p h m =
    let q : Pair = happened word.happening p in
    let like = turns-like word.behind q m.comes.mild in
    let a = like.put_a in
    let b = like.put_b in
    let fits_a = m.fits_a in
    let fits_b = m.fits_b in
    let go : MayGoOn planned_a planned_b word.happening p = record {
      may = m.comes.may;
      open_a = sym like.closed_a ∙ m.settled_a.is_open;
      open_b = sym like.closed_b ∙ m.settled_b.is_open;
      fits_a = omega arith;
      fits_b = omega arith;
    } in
    let does = happening_does planned_a planned_b word.happening p h go in
    let said = turns-kept planned_a planned_b word.behind q m.comes.mild m.comes.behind does.holds m.fits_a m.fits_b in
    let before = total-is planned_a planned_b p h.fit_a h.fit_b h.settled_a h.settled_b in
    let after = total-is planned_a planned_b (spoken word p) said.holds.fit_x said.holds.fit_y m.settled_a m.settled_b in
    let falls = does.falls in
    let less = said.less in
    record {
      recovers = holds-recovers planned_a planned_b (spoken word p) said.holds m.settled_a m.settled_b;
      falls = omega arith;
    }

-- ---- two new ends

new_sound : (planned : ℕ) (a b : Agreed) → IsSound (direction planned (new_pair a b).a (new_pair a b).b)
new_sound planned a b = record { a_c = omega arith; c_n = omega arith; in_window = omega arith; in_plan = omega arith; run = tt; tells = omega arith; outstanding = λ o. cc }

new_fit : (planned : ℕ) (a b : Agreed) → IsFit planned (new_pair a b).a
new_fit planned a b = record { fits = omega arith; ready = refl; unpolled = λ e. refl }

new_settled : (a b : Agreed) → IsSettled (new_pair a b).a
new_settled a b = record { is_open = refl; is_silent = refl }

pub new-recovers : NewRecovers
new-recovers a b planned_a planned_b meets met = (
  record {
    stands = new-stands a b meets met;
    settled_a = new_settled a b;
    settled_b = new_settled b a;
    there = new_sound planned_a a b;
    back = new_sound planned_b b a;
    fit_a = new_fit planned_a a b;
    fit_b = new_fit planned_b b a;
  },
  omega arith,
)

-- ---- less is planned

less_sound : (planned less : ℕ) (x y : End) → length x.put ≤ less → IsSound (direction planned x y) → IsSound (direction less x y)
less_sound planned less x y fits h =
    record { a_c = h.a_c; c_n = h.c_n; in_window = h.in_window; in_plan = omega arith; run = h.run; tells = h.tells; outstanding = h.outstanding }

less_by : (planned less given rest : ℕ) → less ≤ planned → 2 * (less - given) + rest ≤ 2 * (planned - given) + rest
less_by planned less given rest le = omega arith

less_work : (planned less : ℕ) (x y : End) → less ≤ planned → work_left (direction less x y) ≤ work_left (direction planned x y)
less_work planned less x y le =
    let d = direction planned x y in
    less_by planned less d.given (2 * d.window * sendings_left d + 3 * firings_left d) le

less_fit : (planned less : ℕ) (x : End) → length x.put ≤ less → IsFit planned x → IsFit less x
less_fit planned less x fits h = record { fits = fits; ready = h.ready; unpolled = h.unpolled }

pub less-may_be_planned : LessMayBePlanned
less-may_be_planned planned_a planned_b less_a less_b p h le_a le_b fits_a fits_b = (
  record {
    stands = h.stands;
    settled_a = h.settled_a;
    settled_b = h.settled_b;
    there = less_sound planned_a less_a p.a p.b fits_a h.there;
    back = less_sound planned_b less_b p.b p.a fits_b h.back;
    fit_a = less_fit planned_a less_a p.a fits_a h.fit_a;
    fit_b = less_fit planned_b less_b p.b fits_b h.fit_b;
  },
  (let there = less_work planned_a less_a p.a p.b le_a in let back = less_work planned_b less_b p.b p.a le_b in omega arith),
)
