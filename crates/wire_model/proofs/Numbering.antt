-- What a round in which no packet is lost does to the units of two ends that are active.
use Rattle.std.proofs.Common.{◌≡◌, ℕ, zero, suc, ◌<◌, ◌≤◌, All, Bool, true, false, cond, List, [], ◌∷◌, ◌++◌, map, length, slice_get, leb, ltb, Option, Some, None, inl, inr, refl, sym, ap, subst, ◌∙◌, arith}
use Rattle.std.specs.List.{list_any}
use Rattle.std.proofs.lemmas.Bool.{cases_lt, or_parts}
use Rattle.std.proofs.lemmas.List.Elements.{All-nil}
use Rattle.std.proofs.lemmas.Option.{slice_get_past}
use Rattle.wire_packets.specs.Packets.{Packet}
use Rattle.wire_model.specs.declared.link.LinkMessage.{LinkMessage}
use Rattle.wire_model.specs.declared.link.LinkMessage.TheVariants.{Sync, SyncResponse, Config, ConfigResponse}
use Rattle.wire_model.specs.declared.link.Stage.{Stage}
use Rattle.wire_model.specs.declared.link.Stage.TheVariants.{Uninitialized, Initialized, Active, Reset}
use Rattle.wire_model.specs.declared.link.Way.{Way}
use Rattle.wire_model.specs.declared.link.Way.TheVariants.{Forth, Back}
use Rattle.wire_model.specs.Machine.{Unit, Wire, says, says_link, says_active, says_unit, says_ack, hears_message, hears_sync, hears_sync_response, hears_config, hears_config_response, hears_ack, acknowledged, past, waits, is_active, lesser, most_waiting}
use Rattle.wire_model.specs.Pair.{Pair, IsUnit, Event, Took, Crossed, Rang, Happens, Runs, Crosses, CrossesBy, AllGoBy, is_lost, crossing_of}
use Rattle.wire_model.proofs.Saying.{says_message_of, says_unit_of, says_ack_of}
use Rattle.wire_model.proofs.Handshake.{IsOpen}
use Rattle.wire_model.proofs.Standing.{Stands}
use Rattle.wire_model.proofs.Carrying.{happened, tk, gt, arrived, open_not}
use Rattle.wire_model.proofs.Halves.{Fine, Speaks, NoneLost}

-- two ends stand
pub record Stood (p : Pair) : Type 0 where
  pub took : List Unit
  pub got : List Unit
  pub come : List Packet
  pub stands : Stands p.first p.second took got come

abbrev pub stood_on : (p q : Pair) (e : Event) → Stood p → Happens p e q → Stood q
stood_on p q e s h = record { took = s.took ++ tk e; got = s.got ++ gt e; come = s.come ++ arrived (crossing_of e); stands = (happened p q s.took s.got s.come e s.stands h).stands }

pub stood_runs : (p q : Pair) (events : List Event) → Stood p → Runs p events q → Stood q
stood_runs p q [] s r = subst Stood (sym r) s
stood_runs p q (e ∷ events) s r = stood_runs r.0 q events (stood_on p r.0 e s r.1) r.2

-- ---- the packets of one way

pub speaks_forth : (p q : Pair) (events : List Event) → Stood p → AllGoBy Forth events → Runs p events q → Speaks p.first p.second (map is_lost events) q.first q.second
speaks_forth p q [] s go r = (ap (λ (x : Pair). x.first) r, ap (λ (x : Pair). x.second) r)
speaks_forth p q (Took u ∷ events) s go r = absurd go.0
speaks_forth p q (Rang ∷ events) s go r = absurd go.0
speaks_forth p q (Crossed c g ∷ events) s go r =
    let x : Crosses p.first p.second r.0.first r.0.second p.draws r.0.draws c.lost c.packet g = subst (λ (w : Way). CrossesBy w p c.lost c.packet g r.0) go.0 r.1 in
    let f : Fine p.first p.second = record { there = s.stands.there; back = s.stands.back; units = s.stands.sending.units } in
    (record { packet = c.packet; after = r.0.first }, x.says, f, subst (λ (w : Wire). Speaks r.0.first w (map is_lost events) q.first q.second) x.hears (speaks_forth r.0 q events (stood_on p r.0 (Crossed c g) s r.1) go.1 r.2))

pub speaks_back : (p q : Pair) (events : List Event) → Stood p → AllGoBy Back events → Runs p events q → Speaks p.second p.first (map is_lost events) q.second q.first
speaks_back p q [] s go r = (ap (λ (x : Pair). x.second) r, ap (λ (x : Pair). x.first) r)
speaks_back p q (Took u ∷ events) s go r = absurd go.0
speaks_back p q (Rang ∷ events) s go r = absurd go.0
speaks_back p q (Crossed c g ∷ events) s go r =
    let x : Crosses p.second p.first r.0.second r.0.first p.draws r.0.draws c.lost c.packet g = subst (λ (w : Way). CrossesBy w p c.lost c.packet g r.0) go.0 r.1 in
    let f : Fine p.second p.first = record { there = s.stands.back; back = s.stands.there; units = subst (All IsUnit) (sym s.stands.none) (All-nil IsUnit) } in
    (record { packet = c.packet; after = r.0.second }, x.says, f, subst (λ (w : Wire). Speaks r.0.second w (map is_lost events) q.second q.first) x.hears (speaks_back r.0 q events (stood_on p r.0 (Crossed c g) s r.1) go.1 r.2))

pub none_lost : (events : List Event) → list_any is_lost events ≡ false → NoneLost (map is_lost events)
none_lost [] e = tt
none_lost (x ∷ events) e = let b = or_parts (is_lost x) (list_any is_lost events) e in (b.0, none_lost events b.1)

-- ---- an end that says nothing

some_none : {A : Type 0} (a : A) → (let o : Option A = Some a in o) ≡ None → ⊥
some_none a e = cc

link_none : (w : Wire) → IsOpen w.stage → says w ≡ None → says_link w.waiting w ≡ None
link_none w opened e = let r = open_not w.stage opened in rw r at e

pub silent_waiting : (w : Wire) → IsOpen w.stage → says w ≡ None → w.waiting ≡ []
silent_waiting w opened e = by w.waiting (link_none w opened e)
  where
    by : (ms : List LinkMessage) → says_link ms w ≡ None → ms ≡ []
    by [] e = refl
    by (m ∷ ms) e = absurd (some_none (says_message_of w m ms) e)

no_get : (us : List Unit) (i : ℕ) → i < length us → slice_get us i ≡ None → ⊥
no_get [] i lt e = omega (arith, lt)
no_get (u ∷ us) zero lt e = some_none u e
no_get (u ∷ us) (suc i) lt e = no_get us i (omega (arith, lt)) e

-- an active end says all its units, and answers
pub record Silent (w : Wire) : Type 0 where
  pub all : length w.unacked ≤ w.next
  pub none : w.answers ≡ false

pub silent_active : (w : Wire) → IsOpen w.stage → w.stage ≡ Active → says w ≡ None → Silent w
silent_active w opened at e = by (slice_get w.unacked w.next) refl says_of
  where
    says_of : says_unit (slice_get w.unacked w.next) w ≡ None
    says_of = subst (λ (st : Stage). says_active st w ≡ None) at (subst (λ (ms : List LinkMessage). says_link ms w ≡ None) (silent_waiting w opened e) (link_none w opened e))

    by_due : (b : Bool) → w.answers ≡ b → says_ack b w ≡ None → w.answers ≡ false
    by_due true is n = absurd (some_none (says_ack_of w) n)
    by_due false is n = is

    by : (o : Option Unit) → slice_get w.unacked w.next ≡ o → says_unit o w ≡ None → Silent w
    by (Some u) is n = absurd (some_none (says_unit_of w u) n)
    by None is n = record { all = elim (cases_lt w.next (length w.unacked)) [ inl lt ↦ absurd (no_get w.unacked w.next lt is) | inr le ↦ le ]; none = by_due w.answers refl n }

pub active_silent : (w : Wire) → w.waiting ≡ [] → w.stage ≡ Active → Silent w → says w ≡ None
active_silent w empty at s = rw (at, empty, slice_get_past w.unacked w.next s.all, s.none) refl

pub idle_silent : (w : Wire) → IsOpen w.stage → w.waiting ≡ [] → is_active w.stage ≡ false → says w ≡ None
idle_silent w opened empty idle = by w.stage refl
  where
    by : (s : Stage) → w.stage ≡ s → says w ≡ None
    by Uninitialized at = rw (at, empty) refl
    by Initialized at = rw (at, empty) refl
    by Active at = let x : true ≡ false = sym (ap is_active at) ∙ idle in absurd cc
    by Reset at = absurd (subst IsOpen at opened)

-- ---- a message keeps the numbers

abbrev pub SameNumbers : Wire → Wire → Type 0
SameNumbers w w' = (w'.unacked ≡ w.unacked) × (w'.next ≡ w.next) × (w'.answers ≡ w.answers)

waits_numbers : (m : LinkMessage) (w : Wire) → SameNumbers w (waits m w)
waits_numbers m w = elim (ltb (length w.waiting) most_waiting) as (λ b. SameNumbers w (cond b (record w { waiting = w.waiting ++ m ∷ [] }) w)) [ true ↦ (refl, refl, refl) | false ↦ (refl, refl, refl) ]

pub message_numbers : (m : LinkMessage) (w : Wire) → SameNumbers w (hears_message (Some m) w)
message_numbers m w = by m w.stage
  where
    at_sync : (s : Stage) → SameNumbers w (hears_sync s w)
    at_sync Uninitialized = waits_numbers SyncResponse w
    at_sync Initialized = waits_numbers SyncResponse w
    at_sync Active = (refl, refl, refl)
    at_sync Reset = (refl, refl, refl)

    at_response : (s : Stage) → SameNumbers w (hears_sync_response s w)
    at_response Uninitialized = waits_numbers (Config w.own) (record w { stage = Initialized })
    at_response Initialized = (refl, refl, refl)
    at_response Active = (refl, refl, refl)
    at_response Reset = (refl, refl, refl)

    at_config : (f : ℕ) (s : Stage) → SameNumbers w (hears_config s f w)
    at_config f Uninitialized = (refl, refl, refl)
    at_config f Initialized = waits_numbers (ConfigResponse (lesser w.own f)) w
    at_config f Active = waits_numbers (ConfigResponse (lesser w.own f)) w
    at_config f Reset = (refl, refl, refl)

    at_open : (f : ℕ) (s : Stage) → SameNumbers w (hears_config_response s f w)
    at_open f Uninitialized = (refl, refl, refl)
    at_open f Initialized = (refl, refl, refl)
    at_open f Active = (refl, refl, refl)
    at_open f Reset = (refl, refl, refl)

    by : (m : LinkMessage) (s : Stage) → SameNumbers w (hears_message (Some m) w)
    by Sync s = at_sync w.stage
    by SyncResponse s = at_response w.stage
    by (Config f) s = at_config f w.stage
    by (ConfigResponse f) s = at_open f w.stage

pub ack_answers : (ack : ℕ) (w : Wire) → (hears_ack ack w).answers ≡ w.answers
ack_answers ack w = elim (leb (past w.first ack) w.given) as (λ b. (let v : Wire = cond b (acknowledged (past w.first ack) w) w in v).answers ≡ w.answers) [ true ↦ refl | false ↦ refl ]
