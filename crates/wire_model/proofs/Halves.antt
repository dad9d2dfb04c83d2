-- An end says all that it may, and the other one hears what is not lost.
use Rattle.std.proofs.Common.{◌≡◌, ◌⊎◌, ℕ, ◌+◌, ◌≤◌, All, ◌%◌, eqb, Bool, true, false, cond, List, [], ◌∷◌, ◌++◌, length, leb, Some, inl, inr, refl, sym, ap, subst, ◌∙◌, arith}
use Rattle.std.specs.Prelude.{⊤}
use Rattle.wire_model.specs.declared.link.LinkMessage.{LinkMessage}
use Rattle.wire_model.specs.declared.link.LinkMessage.TheVariants.{Sync, SyncResponse, Config, ConfigResponse}
use Rattle.wire_model.specs.Machine.{Unit, Wire, Heard, Said, says, hears, hears_message, hears_ack, takes_number, acknowledged, past, unit_packet, ack_packet}
use Rattle.wire_model.specs.Pair.{IsUnit, hears_over}
use Rattle.wire_model.proofs.Saying.{Saying, message, unit, answer, saying_of, says_message_of}
use Rattle.wire_model.proofs.Handshake.{Tame}
use Rattle.wire_model.proofs.Hearing.{unit_heard, unit_ignored, ack_heard, ack_ignored, stage_cases}
use Rattle.wire_model.proofs.Standing.{read, read_tame, link_heard}
use Rattle.wire_model.proofs.Delivering.{unit_at}
use Rattle.wire_model.proofs.Telling.{is_fresh, asks, asking, Outcome, passes, replies, rises, opens, outcome, load, burden, load_step, burden_step, rank, Goes, up, stays, goes_step}

-- ---- one packet

-- what two ends are before a packet of the first
pub record Fine (from to : Wire) : Type 0 where
  pub there : Tame from.stage to.stage from.waiting
  pub back : Tame to.stage from.stage to.waiting
  pub units : All IsUnit from.unacked

-- so many packets of an end, each lost or heard
abbrev pub Speaks : Wire → Wire → List Bool → Wire → Wire → Type 0
Speaks from to [] from' to' = (from' ≡ from) × (to' ≡ to)
Speaks from to (lost ∷ fates) from' to' = (said : Said) × (says from ≡ Some said) × Fine from to × Speaks said.after (hears_over lost said.packet to).after fates from' to'

abbrev over : Bool → LinkMessage → Wire → Wire
over true m w = w
over false m w = hears_message (Some m) w

data Spoken (from to : Wire) (lost : Bool) (from' to' : Wire) : Type 0 where
  told : (m : LinkMessage) (rest : List LinkMessage) → from.waiting ≡ m ∷ rest → from' ≡ record from { waiting = rest } → to' ≡ over lost (read m) to → Spoken from to lost from' to'
  given : from.waiting ≡ [] → from'.waiting ≡ [] → from'.stage ≡ from.stage → to'.stage ≡ to.stage → to'.waiting ≡ to.waiting → Spoken from to lost from' to'

abbrev Same : Wire → Wire → Type 0
Same w w' = (w'.stage ≡ w.stage) × (w'.waiting ≡ w.waiting)

acks_same : (ack : ℕ) (w : Wire) → Same w (hears_ack ack w)
acks_same ack w = elim (leb (past w.first ack) w.given) as (λ b. Same w (cond b (acknowledged (past w.first ack) w) w)) [ true ↦ (refl, refl) | false ↦ (refl, refl) ]

takes_same : (b : Bool) (u : Unit) (w : Wire) → Same w (takes_number b u w).after
takes_same true u w = (refl, refl)
takes_same false u w = (refl, refl)

unit_same : (lost : Bool) (seq ack : ℕ) (u : Unit) (w : Wire) → IsUnit u → Same w (hears_over lost (unit_packet seq ack u) w).after
unit_same true seq ack u w is = (refl, refl)
unit_same false seq ack u w is = elim (stage_cases w.stage) [
  | inl on ↦
      let b = eqb seq (hears_ack ack w).expected in
      let t = takes_same b u (hears_ack ack w) in let a = acks_same ack w in
      subst (λ (h : Heard). Same w h.after) (sym (unit_heard w seq ack u is on)) (t.0 ∙ a.0, t.1 ∙ a.1)
  | inr off ↦ subst (λ (h : Heard). Same w h.after) (sym (unit_ignored w seq ack u is off)) (refl, refl)
]

ack_same : (lost : Bool) (ack : ℕ) (w : Wire) → Same w (hears_over lost (ack_packet ack) w).after
ack_same true ack w = (refl, refl)
ack_same false ack w = elim (stage_cases w.stage) [
  | inl on ↦ subst (λ (h : Heard). Same w h.after) (sym (ack_heard w ack on)) (acks_same ack w)
  | inr off ↦ subst (λ (h : Heard). Same w h.after) (sym (ack_ignored w ack off)) (refl, refl)
]

over_link : (lost : Bool) (m : LinkMessage) (rest : List LinkMessage) (from to : Wire) (said : Said) → said ≡ says_message_of from m rest → (hears_over lost said.packet to).after ≡ over lost (read m) to
over_link true m rest from to said is = refl
over_link false m rest from to said is = ap (λ (x : Said). (hears x.packet to).after) is ∙ ap (λ (h : Heard). h.after) (link_heard m to)

spoken_by : (from to : Wire) (lost : Bool) (said : Said) → Fine from to → Saying from said → Spoken from to lost said.after (hears_over lost said.packet to).after
spoken_by from to lost said f (message m rest sound at is) = told m rest at (ap (λ (x : Said). x.after) is) (over_link lost m rest from to said is)
spoken_by from to lost said f (unit u active none at is) =
    let s = unit_same lost ((from.first + from.next) % 8) from.expected u to (unit_at from from.next u f.units at) in
    subst (λ (x : Said). Spoken from to lost x.after (hears_over lost x.packet to).after) (sym is) (given none none refl s.0 s.1)
spoken_by from to lost said f (answer active none past due is) =
    let s = ack_same lost from.expected to in
    subst (λ (x : Said). Spoken from to lost x.after (hears_over lost x.packet to).after) (sym is) (given none none refl s.0 s.1)

spoken : (from to : Wire) (lost : Bool) (said : Said) → says from ≡ Some said → Fine from to → Spoken from to lost said.after (hears_over lost said.packet to).after
spoken from to lost said is f = spoken_by from to lost said f (saying_of from said is)

-- ---- lists of messages

abbrev pub Has : (LinkMessage → Type 0) → List LinkMessage → Type 0
Has P [] = ⊥
Has P (m ∷ ms) = P m ⊎ Has P ms

has_then : (P : LinkMessage → Type 0) (ms : List LinkMessage) (m : LinkMessage) → Has P ms → Has P (ms ++ m ∷ [])
has_then P [] m h = absurd h
has_then P (x ∷ ms) m (inl p) = inl p
has_then P (x ∷ ms) m (inr h) = inr (has_then P ms m h)

pub has_last : (P : LinkMessage → Type 0) (ms : List LinkMessage) (m : LinkMessage) → P m → Has P (ms ++ m ∷ [])
has_last P [] m p = inl p
has_last P (x ∷ ms) m p = inr (has_last P ms m p)

pub has_at : (P : LinkMessage → Type 0) (ms ns : List LinkMessage) → ns ≡ ms → Has P ms → Has P ns
has_at P ms ns is h = subst (Has P) (sym is) h

pub has_not : (P : LinkMessage → Type 0) (ms : List LinkMessage) → ms ≡ [] → Has P ms → ⊥
has_not P ms none h = subst (Has P) none h

pub has_on : (P : LinkMessage → Type 0) (m : LinkMessage) (w w' : Wire) → Outcome m w w' → Has P w.waiting → Has P w'.waiting
has_on P m w w' (passes a b c d is) h = has_at P w.waiting w'.waiting (ap (λ (x : Wire). x.waiting) is) h
has_on P m w w' (replies reply one none a b is) h = has_at P (w.waiting ++ reply ∷ []) w'.waiting (ap (λ (x : Wire). x.waiting) is) (has_then P w.waiting reply h)
has_on P m w w' (rises request a fresh one is) h = has_at P (w.waiting ++ request ∷ []) w'.waiting (ap (λ (x : Wire). x.waiting) is) (has_then P w.waiting request h)
has_on P m w w' (opens window a at is) h = has_at P w.waiting w'.waiting (ap (λ (x : Wire). x.waiting) is) h

-- ---- all packets of an end

pub record Bounded (from to from' to' : Wire) : Type 0 where
  pub stage : from'.stage ≡ from.stage
  pub load : load to' + asking from'.waiting ≤ load to + asking from.waiting
  pub burden : burden to' ≤ burden to
  pub rank : rank to'.stage ≤ rank to.stage

pub asks_read : (m : LinkMessage) → asks (read m) ≡ asks m
asks_read Sync = refl
asks_read SyncResponse = refl
asks_read (Config w) = refl
asks_read (ConfigResponse w) = refl

rank_step : (m : LinkMessage) (w w' : Wire) → Goes m w w' → rank w'.stage ≤ rank w.stage
rank_step m w w' (up lt) = omega (arith, lt)
rank_step m w w' (stays is a b) = let same = ap rank is in omega (arith, same)

outcome_of : (from to : Wire) (m : LinkMessage) (rest : List LinkMessage) → Fine from to → from.waiting ≡ m ∷ rest → load to + asking from.waiting ≤ 15 → Outcome (read m) to (hears_message (Some (read m)) to)
outcome_of from to m rest f at few =
    outcome from.stage (read m) rest to (read_tame from.stage to.stage m rest (subst (Tame from.stage to.stage) at f.there)) f.back (omega (arith, few))

bounded_one : (from to : Wire) (lost : Bool) (from' to' : Wire) → Fine from to → load to + asking from.waiting ≤ 15 → Spoken from to lost from' to' → Bounded from to from' to'
bounded_one from to true from' to' f few (told m rest at is is') =
    let a = ap asking at in let s = ap (λ (x : Wire). x.waiting) is in let b = ap asking s in
    record { stage = ap (λ (x : Wire). x.stage) is; load = rw is' (omega (arith, a, b)); burden = rw is' (omega arith); rank = rw is' (omega arith) }
bounded_one from to false from' to' f few (told m rest at is is') =
    let o = outcome_of from to m rest f at few in
    let a = ap asking at in let s = ap (λ (x : Wire). x.waiting) is in let b = ap asking s in
    let w = hears_message (Some (read m)) to in
    let l = load_step (read m) to w o in let u = burden_step (read m) to w o in let r = rank_step (read m) to w (goes_step (read m) to w o) in let k = asks_read m in
    record { stage = ap (λ (x : Wire). x.stage) is; load = rw is' (omega (arith, a, b, l, k)); burden = rw is' u; rank = rw is' r }
bounded_one from to lost from' to' f few (given none none' stage stage' waiting) =
    let a = ap asking none in let b = ap asking none' in
    let c = ap is_fresh stage' in let d = ap length waiting in let e = ap asking waiting in let r = ap rank stage' in
    record { stage = stage; load = omega (arith, a, b, c, d); burden = omega (arith, c, e); rank = omega (arith, r) }

pub bounded : (from to : Wire) (fates : List Bool) (from' to' : Wire) → Speaks from to fates from' to' → load to + asking from.waiting ≤ 15 → Bounded from to from' to'
bounded from to [] from' to' s few = rw (s.0, s.1) (record { stage = refl; load = omega arith; burden = omega arith; rank = omega arith })
bounded from to (lost ∷ fates) from' to' s few =
    let mid = s.0.after in let mid' = (hears_over lost s.0.packet to).after in
    let one = bounded_one from to lost mid mid' s.2 few (spoken from to lost s.0 s.1 s.2) in
    let rest = bounded mid mid' fates from' to' s.3 (omega (arith, few, one.load)) in
    record { stage = rest.stage ∙ one.stage; load = omega (arith, rest.load, one.load); burden = omega (arith, rest.burden, one.burden); rank = omega (arith, rest.rank, one.rank) }

-- where none is lost each message is heard
abbrev pub NoneLost : List Bool → Type 0
NoneLost [] = ⊤
NoneLost (lost ∷ fates) = (lost ≡ false) × NoneLost fates

pub record Keeping (P : List LinkMessage → Wire → Type 0) : Type 0 where
  pub each : (m : LinkMessage) (rest : List LinkMessage) (w w' : Wire) → Outcome (read m) w w' → P (m ∷ rest) w → P rest w'
  pub calm : (w w' : Wire) → w'.stage ≡ w.stage → w'.waiting ≡ w.waiting → P [] w → P [] w'

follow_one : (P : List LinkMessage → Wire → Type 0) → Keeping P → (from to : Wire) (from' to' : Wire) → Fine from to → load to + asking from.waiting ≤ 15 → Spoken from to false from' to' → P from.waiting to → P from'.waiting to'
follow_one P k from to from' to' f few (told m rest at is is') p =
    subst (λ (w : Wire). P from'.waiting w) (sym is') (subst (λ (ms : List LinkMessage). P ms (hears_message (Some (read m)) to)) (sym (ap (λ (x : Wire). x.waiting) is))
    (k.each m rest to (hears_message (Some (read m)) to) (outcome_of from to m rest f at few) (subst (λ (ms : List LinkMessage). P ms to) at p)))
follow_one P k from to from' to' f few (given none none' stage stage' waiting) p =
    subst (λ (ms : List LinkMessage). P ms to') (sym none') (k.calm to to' stage' waiting (subst (λ (ms : List LinkMessage). P ms to) none p))

pub follow : (P : List LinkMessage → Wire → Type 0) → Keeping P → (from to : Wire) (fates : List Bool) (from' to' : Wire) → NoneLost fates → load to + asking from.waiting ≤ 15 → Speaks from to fates from' to' → P from.waiting to → P from'.waiting to'
follow P k from to [] from' to' all few s p = subst (λ (w : Wire). P from'.waiting w) (sym s.1) (subst (λ (w : Wire). P w.waiting to) (sym s.0) p)
follow P k from to (lost ∷ fates) from' to' all few s p =
    let mid = s.0.after in let mid' = (hears_over lost s.0.packet to).after in
    let sp = spoken from to lost s.0 s.1 s.2 in
    let one = bounded_one from to lost mid mid' s.2 few sp in
    follow P k mid mid' fates from' to' all.1 (omega (arith, few, one.load)) s.3 (follow_one P k from to mid mid' s.2 few (subst (λ (l : Bool). Spoken from to l mid mid') all.0 sp) p)
