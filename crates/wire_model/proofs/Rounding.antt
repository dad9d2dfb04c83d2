-- How many rounds there are.
use Rattle.std.proofs.Common.{◌≡◌, ◌≢◌, ◌⊎◌, ◌||◌, not, ℕ, ◌+◌, ◌*◌, ◌<◌, ◌≤◌, Bool, true, false, cond, List, [], ◌∷◌, ◌++◌, map, length, ltb, Option, Some, None, inl, inr, refl, sym, ap, subst, ◌∙◌, arith, length-append}
use Rattle.std.specs.List.{list_any}
use Rattle.std.proofs.lemmas.Bool.{cases_Bool, cases_lt, or_parts, and_cases, and_parts}
use Rattle.std.proofs.lemmas.List.{nil_from_length}
use Rattle.std.proofs.lemmas.List.Folds.{list_any-append}
use Rattle.std.proofs.lemmas.List.Elements.{filter_map-append}
use Rattle.wire_model.specs.declared.link.LinkMessage.{LinkMessage}
use Rattle.wire_model.specs.declared.link.LinkMessage.TheVariants.{Sync, Config}
use Rattle.wire_model.specs.declared.link.Stage.{Stage}
use Rattle.wire_model.specs.declared.link.Stage.TheVariants.{Uninitialized, Initialized, Active, Reset}
use Rattle.wire_model.specs.declared.link.Way.{Way}
use Rattle.wire_model.specs.declared.link.Way.TheVariants.{Forth, Back}
use Rattle.wire_model.specs.Machine.{Unit, Wire, Said, says, waits, ticked, ticked_at, is_active, most_waiting, flag}
use Rattle.wire_model.specs.Pair.{Pair, new_pair, Event, Took, Crossed, Rang, Runs, CrossesBy, AllGoBy, SaysAll, is_lost, is_some_event, is_calm, rings, ringing, taken_of, taken}
use Rattle.wire_model.specs.Rounds.{takings, IsRound, Rounds, joined, losses}
use Rattle.wire_model.proofs.Handshake.{IsFresh, IsOpen, tick_stage}
use Rattle.wire_model.proofs.Hearing.{stage_cases}
use Rattle.wire_model.proofs.Carrying.{stands_first}
use Rattle.wire_model.proofs.Telling.{asking, asking_then, load, burden, is_fresh, rank, asks}
use Rattle.wire_model.proofs.Halves.{Has, has_not, bounded}
use Rattle.wire_model.proofs.Establishing.{Ripe, Asked, Clear, ranks, ripe_on, asked_on, mild_on, ring_on}
use Rattle.wire_model.proofs.Establishing as est
use Rattle.wire_model.proofs.Numbering.{Stood, stood_on, stood_runs, speaks_forth, speaks_back, none_lost, silent_waiting, silent_active, active_silent, idle_silent}
use Rattle.wire_model.proofs.Emptying.{ahead_all, Behind, behind_all}

-- ---- how many messages wait between rounds

pub record Few (a b : Wire) : Type 0 where
  pub first : burden a ≤ 2
  pub second : load b ≤ 2
  pub other : burden b ≤ 2

pub record Fewer (a b : Wire) : Type 0 where
  pub first : burden a ≤ 1
  pub long : load a ≤ 3
  pub second : load b ≤ 1
  pub other : burden b ≤ 1

few_of : (a b : Wire) → Fewer a b → Few a b
few_of a b f = record { first = omega (arith, f.first); second = omega (arith, f.second); other = omega (arith, f.other) }

fresh_few : (s : Stage) → is_fresh s ≤ 1
fresh_few Uninitialized = omega arith
fresh_few Initialized = omega arith
fresh_few Active = omega arith
fresh_few Reset = omega arith

record Ticks (w w' : Wire) : Type 0 where
  pub load : load w' ≤ load w + 1
  pub burden : burden w' ≤ burden w + 1

waits_ticks : (m : LinkMessage) (w : Wire) → asks m ≤ 1 → Ticks w (waits m w)
waits_ticks m w one = elim (ltb (length w.waiting) most_waiting) as (λ b. Ticks w (cond b (record w { waiting = w.waiting ++ m ∷ [] }) w)) [
  | true ↦ record { load = omega (arith, length-append w.waiting (m ∷ [])); burden = omega (arith, asking_then w.waiting m, one) }
  | false ↦ record { load = omega arith; burden = omega arith }
]

ticks : (w : Wire) → Ticks w (ticked w)
ticks w = by w.stage
  where
    by : (s : Stage) → Ticks w (ticked_at s w)
    by Uninitialized = waits_ticks Sync w (omega arith)
    by Initialized = waits_ticks (Config w.own) w (omega arith)
    by Active = record { load = omega arith; burden = omega arith }
    by Reset = record { load = omega arith; burden = omega arith }

few_ticked : (a b : Wire) → Fewer a b → Few (ticked a) (ticked b)
few_ticked a b f = let s = ticks a in let t = ticks b in record { first = omega (arith, f.first, s.burden); second = omega (arith, f.second, t.load); other = omega (arith, f.other, t.burden) }

-- ---- the packets of a round

pub record Passing (p q : Pair) (forth back : List Event) : Type 0 where
  pub middle : Pair
  pub forth_said : SaysAll Forth p forth middle
  pub back_said : SaysAll Back middle back q

record Spoke (p q : Pair) (forth back : List Event) (x : Passing p q forth back) : Type 0 where
  pub stood : Stood q
  pub fewer : Fewer q.first q.second
  pub ranks : ranks q.first q.second ≤ ranks p.first p.second
  pub forth_few : load p.second + asking p.first.waiting ≤ 15
  pub forth_none : x.middle.first.waiting ≡ []
  pub back_few : load x.middle.first + asking x.middle.second.waiting ≤ 15
  pub back_none : q.second.waiting ≡ []
  pub stage : x.middle.first.stage ≡ p.first.stage
  pub second : q.second.stage ≡ x.middle.second.stage
  pub rank_second : rank q.second.stage ≤ rank p.second.stage

spoke : (p q : Pair) (forth back : List Event) (x : Passing p q forth back) → Stood p → Few p.first p.second → Spoke p q forth back x
spoke p q forth back x s f =
    let t = stood_runs p x.middle forth s x.forth_said.runs in
    let u = stood_runs x.middle q back t x.back_said.runs in
    let few : load p.second + asking p.first.waiting ≤ 15 = omega (arith, f.first, f.second) in
    let b = bounded p.first p.second (map is_lost forth) x.middle.first x.middle.second (speaks_forth p x.middle forth s x.forth_said.go x.forth_said.runs) few in
    let none = silent_waiting x.middle.first t.stands.there.stays x.forth_said.silent in
    let none_long = ap length none in let none_asks = ap asking none in
    let fresh = fresh_few x.middle.first.stage in
    let few' : load x.middle.first + asking x.middle.second.waiting ≤ 15 = omega (arith, b.burden, f.other, none_long, fresh) in
    let c = bounded x.middle.second x.middle.first (map is_lost back) q.second q.first (speaks_back x.middle q back t x.back_said.go x.back_said.runs) few' in
    let none' = silent_waiting q.second u.stands.back.stays x.back_said.silent in
    let long' = ap length none' in let asks' = ap asking none' in
    let fresh' = fresh_few q.second.stage in
    record {
      stood = u;
      fewer = record { first = omega (arith, c.burden, none_asks, fresh); long = omega (arith, c.load, none_long, fresh, b.burden, f.other, asks'); second = omega (arith, long', fresh'); other = omega (arith, asks', fresh') };
      ranks = omega (arith, b.rank, c.rank, ap rank b.stage, ap rank c.stage);
      forth_few = few;
      forth_none = none;
      back_few = few';
      back_none = none';
      stage = b.stage;
      second = c.stage;
      rank_second = omega (arith, b.rank, ap rank c.stage);
    }

-- where none of them is lost
clear_of : (p q : Pair) (forth back : List Event) (x : Passing p q forth back) → Stood p → Spoke p q forth back x → list_any is_lost forth ≡ false → list_any is_lost back ≡ false → Clear p.first p.second q.first q.second
clear_of p q forth back x s k e f = record {
  between = x.middle.first;
  between' = x.middle.second;
  forth = record { fates = map is_lost forth; none = none_lost forth e; speaks = speaks_forth p x.middle forth s x.forth_said.go x.forth_said.runs; few = k.forth_few; said = k.forth_none };
  back = record { fates = map is_lost back; none = none_lost back f; speaks = speaks_back x.middle q back (stood_runs p x.middle forth s x.forth_said.runs) x.back_said.go x.back_said.runs; few = k.back_few; said = k.back_none };
}

-- ---- how far a round begins

-- at most so many rounds of those that lose nothing and take nothing, before an end goes on or each unit is acknowledged
pub data Phase (a b : Wire) (n : ℕ) : Type 0 where
  ripe : 1 ≤ n → Ripe a b → Phase a b n
  asked : 2 ≤ n → Asked a b → Phase a b n
  still : 3 ≤ n → says a ≡ None → says b ≡ None → Phase a b n
  slack : 4 ≤ n → b.waiting ≡ [] → Phase a b n
  ready : 1 ≤ n → a.stage ≡ Active → b.stage ≡ Active → a.next ≡ 0 → Phase a b n
  clear : a.stage ≡ Active → b.stage ≡ Active → a.unacked ≡ [] → Phase a b n

pub record Left (p : Pair) (n : ℕ) : Type 0 where
  pub stood : Stood p
  pub few : Few p.first p.second
  pub step : ℕ
  pub phase : Phase p.first p.second step
  pub within : 4 * ranks p.first p.second + step ≤ n

-- ---- units are taken

record Takes (p q : Pair) (units : List Unit) : Type 0 where
  pub stood : Stood q
  pub stage : q.first.stage ≡ p.first.stage
  pub waiting : q.first.waiting ≡ p.first.waiting
  pub next : q.first.next ≡ p.first.next
  pub second : q.second ≡ p.second
  pub none : units ≡ [] → q ≡ p

takes_all : (p q : Pair) (units : List Unit) → Stood p → Runs p (takings units) q → Takes p q units
takes_all p q [] s r = record { stood = subst Stood (sym r) s; stage = ap (λ (x : Pair). x.first.stage) r; waiting = ap (λ (x : Pair). x.first.waiting) r; next = ap (λ (x : Pair). x.first.next) r; second = ap (λ (x : Pair). x.second) r; none = λ e. r }
takes_all p q (u ∷ units) s r =
    let x = takes_all r.0 q units (stood_on p r.0 (Took u) s r.1) r.2 in
    let b = r.1.becomes in
    record {
      stood = x.stood;
      stage = x.stage ∙ ap (λ (y : Pair). y.first.stage) b;
      waiting = x.waiting ∙ ap (λ (y : Pair). y.first.waiting) b;
      next = x.next ∙ ap (λ (y : Pair). y.first.next) b;
      second = x.second ∙ ap (λ (y : Pair). y.second) b;
      none = λ e. absurd cc;
    }

ripe_since : (a a' b : Wire) → a'.stage ≡ a.stage → a'.waiting ≡ a.waiting → Ripe a b → Ripe a' b
ripe_since a a' b s w (est.Ripe.syncs f h) = est.Ripe.syncs (subst IsFresh (sym s) f) (subst (Has _) (sym w) h)
ripe_since a a' b s w (est.Ripe.configs at o h) = est.Ripe.configs (s ∙ at) o (subst (Has _) (sym w) h)
ripe_since a a' b s w (est.Ripe.rises f h) = est.Ripe.rises f (subst (Has _) (sym w) h)
ripe_since a a' b s w (est.Ripe.opens at h) = est.Ripe.opens at (subst (Has _) (sym w) h)

asked_since : (a a' b : Wire) → a'.stage ≡ a.stage → Asked a b → Asked a' b
asked_since a a' b s (est.Asked.syncs f h) = est.Asked.syncs f h
asked_since a a' b s (est.Asked.configs at ata h) = est.Asked.configs at (s ∙ ata) h

-- the phase before packets go
data Mid (a b : Wire) (n : ℕ) (units : List Unit) : Type 0 where
  ripe : 1 ≤ n → Ripe a b → Mid a b n units
  asked : 2 ≤ n → Asked a b → Mid a b n units
  still : 3 ≤ n → b.waiting ≡ [] → (units ≡ [] → (says a ≡ None) × (says b ≡ None)) → Mid a b n units
  slack : 4 ≤ n → b.waiting ≡ [] → Mid a b n units
  ready : a.stage ≡ Active → b.stage ≡ Active → a.next ≡ 0 → (units ≡ [] → a.unacked ≢ [] → 1 ≤ n) → Mid a b n units

mid_of : (p q : Pair) (n : ℕ) (units : List Unit) → Stood p → Takes p q units → Phase p.first p.second n → Mid q.first q.second n units
mid_of p q n units s t (ripe le r) = ripe le (subst (Ripe q.first) (sym t.second) (ripe_since p.first q.first p.second t.stage t.waiting r))
mid_of p q n units s t (asked le r) = asked le (subst (Asked q.first) (sym t.second) (asked_since p.first q.first p.second t.stage r))
mid_of p q n units s t (still le e f) = still le (ap (λ (w : Wire). w.waiting) t.second ∙ silent_waiting p.second s.stands.back.stays f)
    (λ none. (ap (λ (x : Pair). says x.first) (t.none none) ∙ e, ap (λ (x : Pair). says x.second) (t.none none) ∙ f))
mid_of p q n units s t (slack le e) = slack le (ap (λ (w : Wire). w.waiting) t.second ∙ e)
mid_of p q n units s t (ready le on on' e) = ready (t.stage ∙ on) (ap (λ (w : Wire). w.stage) t.second ∙ on') (t.next ∙ e) (λ none some. le)
mid_of p q n units s t (clear on on' e) =
    ready (t.stage ∙ on) (ap (λ (w : Wire). w.stage) t.second ∙ on') (omega (arith, t.next, s.stands.sending.next, ap length e)) (λ none some. absurd (some (ap (λ (x : Pair). x.first.unacked) (t.none none) ∙ e)))

-- ---- a round that loses a packet, or in which none goes

rank_zero : (s : Stage) → IsOpen s → rank s ≡ 0 → s ≡ Active
rank_zero Uninitialized o e = absurd (omega (arith, e))
rank_zero Initialized o e = absurd (omega (arith, e))
rank_zero Active o e = refl
rank_zero Reset o e = absurd o

next_ticked : (w : Wire) → w.stage ≡ Active → (ticked w).next ≡ 0
next_ticked w at = ap (λ (s : Stage). (ticked_at s w).next) at

-- what is left behind the timers
rung : (p q : Pair) (n : ℕ) → Stood p → Stood q → Fewer p.first p.second → q ≡ rings false p → (0 < ranks p.first p.second → 4 * ranks p.first p.second + 2 ≤ n) → 1 ≤ n → Left q n
rung p q n s t f is some one =
    let ra = ap rank (tick_stage p.first) in let rb = ap rank (tick_stage p.second) in
    let few = few_ticked p.first p.second f in
    subst (λ (x : Pair). Stood x → Left x n) (sym is) (λ t'. elim (cases_lt 0 (ranks p.first p.second)) [
      | inl lt ↦ elim (ring_on p.first p.second s.stands.there s.stands.back (omega (arith, f.long)) (omega (arith, f.second)) lt) [
        | inl r ↦ record { stood = t'; few = few; step = 1; phase = ripe (omega arith) r; within = omega (arith, some lt, ra, rb) }
        | inr r ↦ record { stood = t'; few = few; step = 2; phase = asked (omega arith) r; within = omega (arith, some lt, ra, rb) }
      ]
      | inr none ↦
          let on = rank_zero p.first.stage s.stands.there.stays (omega (arith, none)) in
          let on' = rank_zero p.second.stage s.stands.back.stays (omega (arith, none)) in
          record { stood = t'; few = few; step = 1; phase = ready (omega arith) (tick_stage p.first ∙ on) (tick_stage p.second ∙ on') (next_ticked p.first on); within = omega (arith, one, ra, rb, none) }
    ]) t

-- ---- a round that loses nothing, in which packets go

rank_idle : (s : Stage) → IsOpen s → is_active s ≡ false → 1 ≤ rank s
rank_idle Uninitialized o e = omega arith
rank_idle Initialized o e = omega arith
rank_idle Active o e = absurd cc
rank_idle Reset o e = absurd o

-- the first end has nothing to say then, unless an end went on
silent_end : (p q : Pair) (forth back : List Event) (x : Passing p q forth back) → Stood p → Spoke p q forth back x → list_any is_lost back ≡ false → q.first.waiting ≡ [] → (ranks q.first q.second < ranks p.first p.second) ⊎ (says q.first ≡ None)
silent_end p q forth back x s k f empty = elim (stage_cases q.first.stage) [
  | inr idle ↦ inr (idle_silent q.first k.stood.stands.there.stays empty idle)
  | inl on ↦ elim (stage_cases p.first.stage) [
    | inr idle ↦ inl (let a = rank_idle p.first.stage s.stands.there.stays idle in omega (arith, a, ap rank on, k.rank_second))
    | inl was ↦
        let t = stood_runs p x.middle forth s x.forth_said.runs in
        let at = k.stage ∙ was in
        let m : Behind false x.middle = record { stood = t; first = at; silent = silent_active x.middle.first t.stands.there.stays at x.forth_said.silent; owed = tt } in
        let e = behind_all false x.middle q back x.back_said.go x.back_said.runs f m in
        inr (active_silent q.first empty on e.silent)
  ]
]

-- between active ends each unit is acknowledged then
pub record Emptied (q : Pair) : Type 0 where
  pub first : q.first.stage ≡ Active
  pub second : q.second.stage ≡ Active
  pub none : q.first.unacked ≡ []

emptied : (p q : Pair) (forth back : List Event) (x : Passing p q forth back) → Stood p → Spoke p q forth back x → list_any is_lost forth ≡ false → list_any is_lost back ≡ false → p.first.stage ≡ Active → p.second.stage ≡ Active → p.first.next ≡ 0 → Emptied q
emptied p q forth back x s k e f on on' zero' =
    let total = ap length s.stands.took_is ∙ length-append s.stands.done p.first.unacked in
    let a = ahead_all p x.middle forth x.forth_said.go x.forth_said.runs e (record { stood = s; first = on; second = on'; reach = omega (arith, total, s.stands.low, zero'); due = inl zero' }) in
    let silent = silent_active x.middle.first a.stood.stands.there.stays a.first x.forth_said.silent in
    let due : (x.middle.first.unacked ≡ []) ⊎ (x.middle.second.answers ≡ true) = elim a.due [ inl none ↦ inl (nil_from_length x.middle.first.unacked (omega (arith, none, silent.all))) | inr d ↦ inr d ] in
    let b = behind_all true x.middle q back x.back_said.go x.back_said.runs f (record { stood = a.stood; first = a.first; silent = silent; owed = (omega (arith, a.reach, silent.all), due) }) in
    let at = k.second ∙ a.second in
    let quiet = silent_active q.second k.stood.stands.back.stays at x.back_said.silent in
    record { first = b.first; second = at; none = elim b.owed.1 [ inl none ↦ none | inr d ↦ let y : true ≡ false = sym d ∙ quiet.none in absurd cc ] }

some_not : (a : Said) → (let o : Option Said = Some a in o) ≡ None → ⊥
some_not a e = cc

none_forth : (p q : Pair) (events : List Event) → AllGoBy Forth events → Runs p events q → says p.first ≡ None → events ≡ []
none_forth p q [] go r e = refl
none_forth p q (Took u ∷ events) go r e = absurd go.0
none_forth p q (Rang ∷ events) go r e = absurd go.0
none_forth p q (Crossed c g ∷ events) go r e = absurd (by c.way go.0 r.1)
  where
    by : (way : Way) → way ≡ Forth → CrossesBy way p c.lost c.packet g r.0 → ⊥
    by Forth is h = some_not (record { packet = c.packet; after = r.0.first }) (sym h.says ∙ e)
    by Back is h = absurd cc

none_back : (p q : Pair) (events : List Event) → AllGoBy Back events → Runs p events q → says p.second ≡ None → events ≡ []
none_back p q [] go r e = refl
none_back p q (Took u ∷ events) go r e = absurd go.0
none_back p q (Rang ∷ events) go r e = absurd go.0
none_back p q (Crossed c g ∷ events) go r e = absurd (by c.way go.0 r.1)
  where
    by : (way : Way) → way ≡ Back → CrossesBy way p c.lost c.packet g r.0 → ⊥
    by Back is h = some_not (record { packet = c.packet; after = r.0.second }) (sym h.says ∙ e)
    by Forth is h = absurd cc

none_go : (p q : Pair) (forth back : List Event) → Passing p q forth back → says p.first ≡ None → says p.second ≡ None → is_some_event (forth ++ back) ≡ true → ⊥
none_go p q forth back x e f some =
    let none = none_forth p x.middle forth x.forth_said.go x.forth_said.runs e in
    let same : x.middle ≡ p = subst (λ (es : List Event). Runs p es x.middle) none x.forth_said.runs in
    let none' = none_back x.middle q back x.back_said.go x.back_said.runs (ap (λ (y : Pair). says y.second) same ∙ f) in
    let y : false ≡ true = sym (ap (λ (es : List Event). is_some_event (es ++ back)) none ∙ ap is_some_event none') ∙ some in
    cc

-- what is left behind it
pub record Next (q : Pair) (n : ℕ) : Type 0 where
  pub rounds : ℕ
  pub left : Left q rounds
  pub fewer : 1 + rounds ≤ n

units_some : (units : List Unit) → (units ≡ [] → ⊥) → 1 ≤ length units
units_some [] some = absurd (some refl)
units_some (u ∷ units) some = omega arith

calm_mild : (p q : Pair) (forth back : List Event) (n : ℕ) (units : List Unit) (x : Passing p q forth back) → Stood p → (k : Spoke p q forth back x) → list_any is_lost forth ≡ false → list_any is_lost back ≡ false → p.second.waiting ≡ []
    → (ranks q.first q.second < ranks p.first p.second → 1 + (4 * ranks q.first q.second + 4) ≤ 4 * ranks p.first p.second + n + length units) → 4 ≤ n + length units → Next q (4 * ranks p.first p.second + n + length units)
calm_mild p q forth back n units x s k e f none falls four =
    let fallen : ranks q.first q.second < ranks p.first p.second → Next q (4 * ranks p.first p.second + n + length units) = λ lt. record {
      rounds = 4 * ranks q.first q.second + 4;
      left = record { stood = k.stood; few = few_of q.first q.second k.fewer; step = 4; phase = slack (omega arith) k.back_none; within = omega arith };
      fewer = falls lt;
    } in
    elim (mild_on p.first p.second q.first q.second (clear_of p q forth back x s k e f) (ap asking none)) [
      | inl lt ↦ fallen lt
      | inr empty ↦ elim (silent_end p q forth back x s k f empty) [
        | inl lt ↦ fallen lt
        | inr quiet ↦ record { rounds = 4 * ranks q.first q.second + 3; left = record { stood = k.stood; few = few_of q.first q.second k.fewer; step = 3; phase = still (omega arith) quiet x.back_said.silent; within = omega arith }; fewer = omega (arith, k.ranks, four) }
      ]
    ]

calm : (p q : Pair) (forth back : List Event) (n : ℕ) (units : List Unit) (x : Passing p q forth back) → Stood p → (k : Spoke p q forth back x) → list_any is_lost forth ≡ false → list_any is_lost back ≡ false → is_some_event (forth ++ back) ≡ true
    → (is_active p.first.stage ≡ true → p.first.unacked ≢ []) → Mid p.first p.second n units → Next q (4 * ranks p.first p.second + n + length units)
calm p q forth back n units x s k e f some cause (ripe le r) =
    let lt = ripe_on p.first p.second q.first q.second (clear_of p q forth back x s k e f) r in
    record { rounds = 4 * ranks q.first q.second + 4; left = record { stood = k.stood; few = few_of q.first q.second k.fewer; step = 4; phase = slack (omega arith) k.back_none; within = omega arith }; fewer = omega (arith, lt, le) }
calm p q forth back n units x s k e f some cause (asked le r) = elim (asked_on p.first p.second q.first q.second (clear_of p q forth back x s k e f) r) [
  | inl lt ↦ record { rounds = 4 * ranks q.first q.second + 4; left = record { stood = k.stood; few = few_of q.first q.second k.fewer; step = 4; phase = slack (omega arith) k.back_none; within = omega arith }; fewer = omega (arith, lt, le) }
  | inr r' ↦ record { rounds = 4 * ranks q.first q.second + 1; left = record { stood = k.stood; few = few_of q.first q.second k.fewer; step = 1; phase = ripe (omega arith) r'; within = omega arith }; fewer = omega (arith, k.ranks, le) }
]
calm p q forth back n units x s k e f some cause (still le none silent) =
    calm_mild p q forth back n units x s k e f none (λ lt. omega (arith, lt, le)) (omega (arith, le, units_some units (λ is. none_go p q forth back x (silent is).0 (silent is).1 some)))
calm p q forth back n units x s k e f some cause (slack le none) = calm_mild p q forth back n units x s k e f none (λ lt. omega (arith, lt, le)) (omega (arith, le))
calm p q forth back n units x s k e f some cause (ready on on' zero' rest) =
    let y = emptied p q forth back x s k e f on on' zero' in
    let one : 1 ≤ n + length units = elim (cases_lt 0 (length units)) [
      | inl lt ↦ omega (arith, lt)
      | inr none ↦ let r = rest (nil_from_length units (omega (arith, none))) (cause (ap is_active on)) in omega (arith, r)
    ] in
    record { rounds = 0; left = record { stood = k.stood; few = few_of q.first q.second k.fewer; step = 0; phase = clear y.first y.second y.none; within = omega (arith, ap rank y.first, ap rank y.second) }; fewer = omega (arith, one) }

-- ---- any round

few_since : (a a' b : Wire) → a'.stage ≡ a.stage → a'.waiting ≡ a.waiting → Few a b → Few a' b
few_since a a' b s w f = record { first = omega (arith, ap asking w, ap is_fresh s, f.first); second = f.second; other = f.other }

-- timers that fire behind packets of which one was lost
lossy : (p q : Pair) (forth back : List Event) (n : ℕ) (units : List Unit) (x : Passing p q forth back) → Stood p → (k : Spoke p q forth back x) → Mid p.first p.second n units → Left (rings false q) (4 * ranks p.first p.second + n + 1)
lossy p q forth back n units x s k mid =
    rung q (rings false q) (4 * ranks p.first p.second + n + 1) k.stood (stood_on q (rings false q) Rang k.stood refl) k.fewer refl (λ lt. some mid lt) (omega arith)
  where
    some : Mid p.first p.second n units → 0 < ranks q.first q.second → 4 * ranks q.first q.second + 2 ≤ 4 * ranks p.first p.second + n + 1
    some (ripe le r) lt = omega (arith, k.ranks, le)
    some (asked le r) lt = omega (arith, k.ranks, le)
    some (still le none e) lt = omega (arith, k.ranks, le)
    some (slack le none) lt = omega (arith, k.ranks, le)
    some (ready on on' e rest) lt = absurd (omega (arith, k.ranks, lt, ap rank on, ap rank on'))

-- timers that fire where no packet went
idle : (p q : Pair) (n : ℕ) (units : List Unit) (x : Passing p q [] []) → Stood p → (k : Spoke p q [] [] x) → (is_active p.first.stage ≡ true → p.first.unacked ≢ []) → Mid p.first p.second n units → Next (rings false q) (4 * ranks p.first p.second + n)
idle p q n units x s k cause mid =
    let same = x.forth_said.runs in
    let e : says p.first ≡ None = sym (ap (λ (y : Pair). says y.first) same) ∙ x.forth_said.silent in
    let f : says p.second ≡ None = sym (ap (λ (y : Pair). says y.second) same) ∙ sym (ap (λ (y : Pair). says y.second) x.back_said.runs) ∙ x.back_said.silent in
    by e f mid
  where
    three : 3 ≤ n → Next (rings false q) (4 * ranks p.first p.second + n)
    three le = record { rounds = 4 * ranks p.first p.second + 2; left = rung q (rings false q) (4 * ranks p.first p.second + 2) k.stood (stood_on q (rings false q) Rang k.stood refl) k.fewer refl (λ lt. omega (arith, k.ranks)) (omega arith); fewer = omega (arith, le) }

    by : says p.first ≡ None → says p.second ≡ None → Mid p.first p.second n units → Next (rings false q) (4 * ranks p.first p.second + n)
    by e f (ripe le r) = absurd (not_ripe (silent_waiting p.first s.stands.there.stays e) r)
      where
        not_ripe : p.first.waiting ≡ [] → Ripe p.first p.second → ⊥
        not_ripe none (est.Ripe.syncs g h) = has_not _ p.first.waiting none h
        not_ripe none (est.Ripe.configs at o h) = has_not _ p.first.waiting none h
        not_ripe none (est.Ripe.rises g h) = has_not _ p.first.waiting none h
        not_ripe none (est.Ripe.opens at h) = has_not _ p.first.waiting none h
    by e f (asked le r) = absurd (not_asked (silent_waiting p.second s.stands.back.stays f) r)
      where
        not_asked : p.second.waiting ≡ [] → Asked p.first p.second → ⊥
        not_asked none (est.Asked.syncs g h) = has_not _ p.second.waiting none h
        not_asked none (est.Asked.configs at ata h) = has_not _ p.second.waiting none h
    by e f (still le none g) = three le
    by e f (slack le none) = three (omega (arith, le))
    by e f (ready on on' zero' rest) =
        let silent = silent_active p.first s.stands.there.stays on e in
        absurd (cause (ap is_active on) (nil_from_length p.first.unacked (omega (arith, silent.all, zero'))))

pub losses_then : (a b : List Event) → losses (a ++ b) ≡ losses a + losses b
losses_then [] b = omega arith
losses_then (e ∷ a) b = let rest = losses_then a b in omega (arith, rest)

some_loss : (events : List Event) → list_any is_lost events ≡ true → 1 ≤ losses events
some_loss [] e = absurd cc
some_loss (x ∷ events) e = elim (cases_Bool (is_lost x)) [
  | inl lost ↦ omega (arith, ap flag lost)
  | inr not' ↦ let rest = some_loss events (sym (ap (λ (b : Bool). b || list_any is_lost events) not') ∙ e) in omega (arith, rest)
]

units_taken : (units : List Unit) (events : List Event) → length units ≤ length (taken (takings units ++ events))
units_taken [] events = omega arith
units_taken (u ∷ units) events = let rest = units_taken units events in omega (arith, rest)

not_some : (events : List Event) → is_some_event events ≡ false → events ≡ []
not_some [] e = refl
not_some (x ∷ events) e = absurd cc

both_nil : (a b : List Event) → a ++ b ≡ [] → (a ≡ []) × (b ≡ [])
both_nil [] b e = (refl, e)
both_nil (x ∷ a) b e = absurd cc

not_false : (b : Bool) → not b ≡ true → b ≡ false
not_false true e = absurd cc
not_false false e = refl

not_true : (b : Bool) → not b ≡ false → b ≡ true
not_true true e = refl
not_true false e = absurd cc

pub round_on : (p q : Pair) (events : List Event) (n : ℕ) → IsRound p events q → Left p n → Next q (n + length (taken events) + 2 * losses events)
round_on p q events n r l =
    let m = r.middle in
    let t = takes_all p m r.units l.stood r.takes in
    let mid = mid_of p m l.step r.units l.stood t l.phase in
    let few : Few m.first m.second = subst (Few m.first) (sym t.second) (few_since p.first m.first p.second t.stage t.waiting l.few) in
    let ps = r.passes in
    let x : Passing m ps.end ps.forth ps.back = record { middle = ps.middle; forth_said = ps.forth_said; back_said = ps.back_said } in
    let k = spoke m ps.end ps.forth ps.back x t.stood few in
    let same : ranks m.first m.second ≡ ranks p.first p.second = omega (arith, ap rank t.stage, ap (λ (w : Wire). rank w.stage) t.second) in
    let took : length r.units ≤ length (taken events) = subst (λ (es : List Event). length r.units ≤ length (taken es)) (sym r.all) (units_taken r.units r.passing) in
    let any = list_any-append is_lost ps.forth ps.back in
    elim (cases_Bool (is_calm (ps.forth ++ ps.back))) [
      | inl calm' ↦
          let b = and_parts (is_some_event (ps.forth ++ ps.back)) (not (list_any is_lost (ps.forth ++ ps.back))) calm' in
          let o = or_parts (list_any is_lost ps.forth) (list_any is_lost ps.back) (sym any ∙ not_false (list_any is_lost (ps.forth ++ ps.back)) b.1) in
          let z = calm m ps.end ps.forth ps.back l.step r.units x t.stood k o.0 o.1 b.0 r.cause mid in
          let end : q ≡ ps.end = ps.becomes ∙ ap (λ (c : Bool). rings c ps.end) calm' in
          record { rounds = z.rounds; left = subst (λ (y : Pair). Left y z.rounds) (sym end) z.left; fewer = omega (arith, z.fewer, l.within, same, took) }
      | inr rang ↦
          let end : q ≡ rings false ps.end = ps.becomes ∙ ap (λ (c : Bool). rings c ps.end) rang in
          elim (and_cases (is_some_event (ps.forth ++ ps.back)) (not (list_any is_lost (ps.forth ++ ps.back))) rang) [
            | inl none ↦
                let nil = both_nil ps.forth ps.back (not_some (ps.forth ++ ps.back) none) in
                let x' : Passing m ps.end [] [] = subst (λ (es : List Event). Passing m ps.end [] es) nil.1 (subst (λ (es : List Event). Passing m ps.end es ps.back) nil.0 x) in
                let z = idle m ps.end l.step r.units x' t.stood (spoke m ps.end [] [] x' t.stood few) r.cause mid in
                record { rounds = z.rounds; left = subst (λ (y : Pair). Left y z.rounds) (sym end) z.left; fewer = omega (arith, z.fewer, l.within, same) }
            | inr lost ↦
                let one = some_loss (ps.forth ++ ps.back) (not_true (list_any is_lost (ps.forth ++ ps.back)) lost) in
                let all = ap losses r.all ∙ losses_then (takings r.units) r.passing in
                let all' = ap losses ps.all ∙ losses_then ps.forth (ps.back ++ ringing (is_calm (ps.forth ++ ps.back))) in
                let both = losses_then ps.forth ps.back in
                let behind = losses_then ps.back (ringing (is_calm (ps.forth ++ ps.back))) in
                let z = lossy m ps.end ps.forth ps.back l.step r.units x t.stood k mid in
                record { rounds = 4 * ranks m.first m.second + l.step + 1; left = subst (λ (y : Pair). Left y (4 * ranks m.first m.second + l.step + 1)) (sym end) z; fewer = omega (arith, l.within, same, one, all, all', both, behind) }
          ]
    ]

left_first : (number : Option ℕ) → Left (new_pair number) 17
left_first number = record { stood = record { took = []; got = []; come = []; stands = stands_first }; few = record { first = omega arith; second = omega arith; other = omega arith }; step = 1; phase = ripe (omega arith) (est.Ripe.syncs tt (inl tt)); within = omega arith }

rounds_on : (p q : Pair) (rounds : List (List Event)) (n : ℕ) → Rounds p rounds q → Left p n → length rounds ≤ n + length (taken (joined rounds)) + 2 * losses (joined rounds)
rounds_on p q [] n r l = omega arith
rounds_on p q (round ∷ rounds) n r l =
    let z = round_on p r.0 round n r.1 l in
    let rest = rounds_on r.0 q rounds z.rounds r.2 z.left in
    let took = ap length (filter_map-append taken_of round (joined rounds)) ∙ length-append (taken round) (taken (joined rounds)) in
    omega (arith, z.fewer, rest, took, losses_then round (joined rounds))

pub rounds_few : (number : Option ℕ) (rounds : List (List Event)) (last : Pair) → Rounds (new_pair number) rounds last → length rounds ≤ 17 + length (taken (joined rounds)) + 2 * losses (joined rounds)
rounds_few number rounds last r = rounds_on (new_pair number) last rounds 17 r (left_first number)
