-- What a frame that is no UIH frame leaves.
use Rattle.std.proofs.Common.{arith, ◌≡◌, ◌<◌, ℕ, ◌==◌, Bool, true, false, ◌&&◌, cond, List, [], ◌∷◌, ◌++◌, Option, Some, None, refl, sym, ap, subst, ◌∙◌}
use Rattle.std.specs.Prelude.{not}
use Rattle.std.specs.List.{AllByRecursion}
use Rattle.std.proofs.lemmas.Bool.{eqb-true, ne_eqb}
use Rattle.rfcomm_frames.specs.declared.frame.MuxKind.{MuxKind}
use Rattle.rfcomm_frames.specs.declared.frame.MuxKind.TheVariants.{Sabm, Ua, Dm, Disc, Uih}
use Rattle.rfcomm_frames.specs.declared.connection.Role.{Role}
use Rattle.rfcomm_frames.specs.declared.connection.Role.TheVariants.{Initiator, Responder}
use Rattle.rfcomm_frames.specs.declared.connection.Dlc.{Dlc}
use Rattle.rfcomm_frames.specs.declared.connection.Dlc.TheVariants.{Idle, Asked, Open, Ended}
use Rattle.rfcomm_frames.specs.Frames.{PlainFrame, carries}
use Rattle.rfcomm_frames.specs.Connections.{other_role, turned, is_ended, is_left}
use Rattle.rfcomm_model.specs.declared.state.MuxReason.{MuxReason}
use Rattle.rfcomm_model.specs.declared.state.MuxReason.TheVariants as reasons
use Rattle.rfcomm_model.specs.declared.state.Command.TheVariants.{OpenControl, Agree, OpenUser, Signal, LeaveUser, LeaveControl}
use Rattle.rfcomm_model.specs.declared.state.Asks.{Asks}
use Rattle.rfcomm_model.specs.declared.state.Asks.TheVariants.{Nothing, Due, Awaited}
use Rattle.rfcomm_model.specs.Machine.{Mux, closes}
use Rattle.rfcomm_model.specs.Written.{response_frame}
use Rattle.rfcomm_model.specs.Hearing.{has_room, answering, signals_next, says_dm, opens_control, opens_user, hears_sabm, hears_ua, hears_disc, hears_kind, control_answered, user_answered, control_refused, user_refused, ends}
use Rattle.rfcomm_model.specs.Sides.{FindsRoom}

-- it carries no information on the user channel
abbrev pub IsQuiet : ℕ → PlainFrame → Type 0
IsQuiet dlci frame = ((frame.dlci == dlci) && carries frame.kind) ≡ false

abbrev pub is_disc : MuxKind → Bool
is_disc Sabm = false
is_disc Ua = false
is_disc Dm = false
is_disc Disc = true
is_disc Uih = false

-- an answer: nor is it a DISC
abbrev pub IsReply : ℕ → PlainFrame → Type 0
IsReply dlci frame = IsQuiet dlci frame × (is_disc frame.kind ≡ false)

abbrev pub AllQuiet : ℕ → List PlainFrame → Type 0
AllQuiet dlci frames = AllByRecursion (IsReply dlci) frames

-- the connections become these, so many credits are held, and no answer carries information
pub record Turns (m : Mux) (control user : Dlc) (held : ℕ) (m' : Mux) : Type 0 where
  pub control_is : m'.control ≡ control
  pub user_is : m'.user ≡ user
  pub held_is : m'.account.held ≡ held
  pub quiet : AllQuiet m.dlci m.answers → AllQuiet m.dlci m'.answers

pub all_more : (P : PlainFrame → Type 0) (xs : List PlainFrame) (x : PlainFrame) → AllByRecursion P xs → P x → AllByRecursion P (xs ++ x ∷ [])
all_more P [] x all p = (p, tt)
all_more P (y ∷ ys) x all p = (all.0, all_more P ys x all.1 p)

pub and_false : (b : Bool) → (b && false) ≡ false
and_false true = refl
and_false false = refl

pub cond_same : {A : Type 0} → (b : Bool) (x : A) → cond b x x ≡ x
cond_same true x = refl
cond_same false x = refl

-- a branch that closes is none where it stands
pub unless_closed : (P : Mux → Type 0) (b : Bool) (reason : MuxReason) (m x : Mux) → (x.closed ≡ None → P x) → (cond b (closes reason m) x).closed ≡ None → P (cond b (closes reason m) x)
unless_closed P true reason m x p stands = cc
unless_closed P false reason m x p stands = p stands

pub unchanged : (m : Mux) → Turns m m.control m.user m.account.held m
unchanged m = record { control_is = refl; user_is = refl; held_is = refl; quiet = λ all. all }

-- an answer waits in addition
pub answered : (m x : Mux) (frame : PlainFrame) (control user : Dlc) (held : ℕ) → IsReply m.dlci frame → Turns m control user held x → Turns m control user held (answering frame x)
answered m x frame control user held silent t = record { control_is = t.control_is; user_is = t.user_is; held_is = t.held_is; quiet = λ all. all_more (IsReply m.dlci) x.answers frame (t.quiet all) silent }

pub turns_cond : (m : Mux) (control user : Dlc) (held : ℕ) (b : Bool) (x y : Mux) → Turns m control user held x → Turns m control user held y → Turns m control user held (cond b x y)
turns_cond m control user held true x y s t = s
turns_cond m control user held false x y s t = t

pub dm_turns : (m : Mux) (n : ℕ) → Turns m m.control m.user m.account.held (says_dm n m)
dm_turns m n =
    turns_cond m m.control m.user m.account.held (has_room m) (answering (response_frame m.role Dm n) m) m
    (answered m m (response_frame m.role Dm n) m.control m.user m.account.held (and_false (n == m.dlci), refl) (unchanged m)) (unchanged m)

pub apart : (n d : ℕ) → 0 < d → (n == 0) ≡ true → (n == d) ≡ false
apart n d some is = ne_eqb n d (λ e. omega (arith, eqb-true n 0 is))

ended_stays : (dlc : Dlc) → is_ended dlc ≡ true → turned Initiator Sabm dlc ≡ dlc
ended_stays Ended is = refl
ended_stays Idle is = let never : false ≡ true = is in cc
ended_stays Asked is = let never : false ≡ true = is in cc
ended_stays Open is = let never : false ≡ true = is in cc

-- what is done for the one channel, the other one, or neither
by_channel : (m : Mux) (a b : Bool) (c u : Dlc) (x y w : Mux) → (a ≡ true → b ≡ false)
    → (x.closed ≡ None → Turns m c m.user m.account.held x) → (y.closed ≡ None → Turns m m.control u m.account.held y) → (w.closed ≡ None → Turns m m.control m.user m.account.held w)
    → (cond a x (cond b y w)).closed ≡ None → Turns m (cond a c m.control) (cond b u m.user) m.account.held (cond a x (cond b y w))
by_channel m true true c u x y w one tx ty tw stands = let never : true ≡ false = one refl in cc
by_channel m true false c u x y w one tx ty tw stands = tx stands
by_channel m false true c u x y w one tx ty tw stands = ty stands
by_channel m false false c u x y w one tx ty tw stands = tw stands

-- ---- SABM

open_control_if : (m : Mux) (room over : Bool) → is_ended m.control ≡ over → room ≡ true
    → Turns m (turned Initiator Sabm m.control) m.user m.account.held
    (cond over (says_dm 0 m) (cond room (answering (response_frame m.role Ua 0) (record m { control = turned Initiator Sabm m.control })) m))
open_control_if m room true is has = subst (λ (dlc : Dlc). Turns m dlc m.user m.account.held (says_dm 0 m)) (sym (ended_stays m.control is)) (dm_turns m 0)
open_control_if m true false is has =
    answered m (record m { control = turned Initiator Sabm m.control }) (response_frame m.role Ua 0) (turned Initiator Sabm m.control) m.user m.account.held (and_false (0 == m.dlci), refl)
    (record { control_is = refl; user_is = refl; held_is = refl; quiet = λ all. all })
open_control_if m false false is has = let never : false ≡ true = has in cc

open_user_if : (m : Mux) (room over : Bool) → is_ended m.user ≡ over → room ≡ true
    → Turns m m.control (turned Initiator Sabm m.user) m.account.held
    (cond over (says_dm m.dlci m) (cond room (answering (response_frame m.role Ua m.dlci) (record m { user = turned Initiator Sabm m.user; asks = signals_next m.user m.asks })) m))
open_user_if m room true is has = subst (λ (dlc : Dlc). Turns m m.control dlc m.account.held (says_dm m.dlci m)) (sym (ended_stays m.user is)) (dm_turns m m.dlci)
open_user_if m true false is has =
    answered m (record m { user = turned Initiator Sabm m.user; asks = signals_next m.user m.asks }) (response_frame m.role Ua m.dlci) m.control (turned Initiator Sabm m.user) m.account.held (and_false (m.dlci == m.dlci), refl)
    (record { control_is = refl; user_is = refl; held_is = refl; quiet = λ all. all })
open_user_if m false false is has = let never : false ≡ true = has in cc

sabm_turns : (m : Mux) (role : Role) (n : ℕ) → 0 < m.dlci → has_room m ≡ true → (hears_sabm role n m).closed ≡ None
    → Turns m (cond (n == 0) (turned (other_role role) Sabm m.control) m.control) (cond (n == m.dlci) (turned (other_role role) Sabm m.user) m.user) m.account.held (hears_sabm role n m)
sabm_turns m Initiator n some has stands = rw (cond_same (n == 0) m.control, cond_same (n == m.dlci) m.user) (dm_turns m n)
sabm_turns m Responder n some has stands =
    by_channel m (n == 0) (n == m.dlci) (turned Initiator Sabm m.control) (turned Initiator Sabm m.user) (opens_control m) (opens_user m) (says_dm n m) (apart n m.dlci some)
    (λ s. open_control_if m (has_room m) (is_ended m.control) refl has)
    (unless_closed (Turns m m.control (turned Initiator Sabm m.user) m.account.held) (not m.agreed) reasons.NoCreditFlow m _ (λ s. open_user_if m (has_room m) (is_ended m.user) refl has))
    (λ s. dm_turns m n) stands

-- ---- UA

control_ua : (asks : Asks) (m x : Mux) (c u : Dlc) (h : ℕ) → Turns m c u h x → (control_answered asks x).closed ≡ None → Turns m c u h (control_answered asks x)
control_ua Nothing m x c u h t stands = t
control_ua (Due command) m x c u h t stands = t
control_ua (Awaited OpenControl) m x c u h t stands = record { control_is = t.control_is; user_is = t.user_is; held_is = t.held_is; quiet = t.quiet }
control_ua (Awaited Agree) m x c u h t stands = t
control_ua (Awaited OpenUser) m x c u h t stands = t
control_ua (Awaited Signal) m x c u h t stands = t
control_ua (Awaited LeaveUser) m x c u h t stands = t
control_ua (Awaited LeaveControl) m x c u h t stands = cc

ua_turns : (m : Mux) (from : Role) (n : ℕ) → 0 < m.dlci
    → (cond (n == 0) (control_answered m.asks (record m { control = turned from Ua m.control })) (cond (n == m.dlci) (record m { user = turned from Ua m.user; asks = user_answered m.asks }) m)).closed ≡ None
    → Turns m (cond (n == 0) (turned from Ua m.control) m.control) (cond (n == m.dlci) (turned from Ua m.user) m.user) m.account.held
    (cond (n == 0) (control_answered m.asks (record m { control = turned from Ua m.control })) (cond (n == m.dlci) (record m { user = turned from Ua m.user; asks = user_answered m.asks }) m))
ua_turns m from n some stands =
    by_channel m (n == 0) (n == m.dlci) (turned from Ua m.control) (turned from Ua m.user) (control_answered m.asks (record m { control = turned from Ua m.control }))
    (record m { user = turned from Ua m.user; asks = user_answered m.asks }) m (apart n m.dlci some)
    (control_ua m.asks m (record m { control = turned from Ua m.control }) (turned from Ua m.control) m.user m.account.held (record { control_is = refl; user_is = refl; held_is = refl; quiet = λ all. all }))
    (λ s. record { control_is = refl; user_is = refl; held_is = refl; quiet = λ all. all })
    (λ s. unchanged m) stands

-- ---- DM

no_turn : (from : Role) (dlc : Dlc) → turned from Dm dlc ≡ dlc
no_turn Initiator dlc = refl
no_turn Responder dlc = refl

control_dm : (asks : Asks) (m : Mux) → (control_refused asks m).closed ≡ None → Turns m m.control m.user m.account.held (control_refused asks m)
control_dm Nothing m stands = cc
control_dm (Due command) m stands = cc
control_dm (Awaited OpenControl) m stands = cc
control_dm (Awaited Agree) m stands = cc
control_dm (Awaited OpenUser) m stands = cc
control_dm (Awaited Signal) m stands = cc
control_dm (Awaited LeaveUser) m stands = cc
control_dm (Awaited LeaveControl) m stands = cc

user_dm : (asks : Asks) (m : Mux) → (user_refused asks m).closed ≡ None → Turns m m.control m.user m.account.held (user_refused asks m)
user_dm Nothing m stands = cc
user_dm (Due command) m stands = cc
user_dm (Awaited OpenControl) m stands = cc
user_dm (Awaited Agree) m stands = cc
user_dm (Awaited OpenUser) m stands = cc
user_dm (Awaited Signal) m stands = cc
user_dm (Awaited LeaveUser) m stands = record { control_is = refl; user_is = refl; held_is = refl; quiet = λ all. all }
user_dm (Awaited LeaveControl) m stands = cc

dm_by : (m : Mux) (a b : Bool) → (cond a (control_refused m.asks m) (cond b (user_refused m.asks m) m)).closed ≡ None → Turns m m.control m.user m.account.held (cond a (control_refused m.asks m) (cond b (user_refused m.asks m) m))
dm_by m true b stands = control_dm m.asks m stands
dm_by m false true stands = user_dm m.asks m stands
dm_by m false false stands = unchanged m

-- ---- DISC

left_stays : (from : Role) (dlc : Dlc) → is_left from dlc ≡ false → turned from Disc dlc ≡ dlc
left_stays Initiator Idle is = refl
left_stays Responder Idle is = refl
left_stays Initiator Asked is = let never : true ≡ false = is in cc
left_stays Responder Asked is = refl
left_stays Initiator Open is = let never : true ≡ false = is in cc
left_stays Responder Open is = let never : true ≡ false = is in cc
left_stays Initiator Ended is = refl
left_stays Responder Ended is = refl

ends_closes : (closed : Option MuxReason) (m : Mux) (frame : PlainFrame) → closed ≡ m.closed → (answering frame (ends closed m)).closed ≡ None → ⊥
ends_closes None m frame is stands = cc
ends_closes (Some reason) m frame is stands = let never : Some reason ≡ None = is ∙ stands in cc

disc_by : (m : Mux) (from : Role) (n : ℕ) (a b l0 l1 room : Bool) (x y : Mux) → (a ≡ true → b ≡ false) → is_left from m.control ≡ l0 → is_left from m.user ≡ l1 → room ≡ true
    → (x.closed ≡ None → ⊥) → (y.closed ≡ None → ⊥)
    → (cond (a && l0) (cond room x m) (cond (b && l1) (cond room y m) (says_dm n m))).closed ≡ None
    → Turns m (cond a (turned from Disc m.control) m.control) (cond b (turned from Disc m.user) m.user) m.account.held (cond (a && l0) (cond room x m) (cond (b && l1) (cond room y m) (says_dm n m)))
disc_by m from n a b l0 l1 false x y one i0 i1 has nx ny stands = let never : false ≡ true = has in cc
disc_by m from n true true l0 l1 true x y one i0 i1 has nx ny stands = let never : true ≡ false = one refl in cc
disc_by m from n true false true l1 true x y one i0 i1 has nx ny stands = absurd (nx stands)
disc_by m from n true false false l1 true x y one i0 i1 has nx ny stands = subst (λ (dlc : Dlc). Turns m dlc m.user m.account.held (says_dm n m)) (sym (left_stays from m.control i0)) (dm_turns m n)
disc_by m from n false true l0 true true x y one i0 i1 has nx ny stands = absurd (ny stands)
disc_by m from n false true l0 false true x y one i0 i1 has nx ny stands = subst (λ (dlc : Dlc). Turns m m.control dlc m.account.held (says_dm n m)) (sym (left_stays from m.user i1)) (dm_turns m n)
disc_by m from n false false l0 l1 true x y one i0 i1 has nx ny stands = dm_turns m n

disc_turns : (m : Mux) (n : ℕ) → 0 < m.dlci → has_room m ≡ true → (hears_disc n m).closed ≡ None
    → Turns m (cond (n == 0) (turned (other_role m.role) Disc m.control) m.control) (cond (n == m.dlci) (turned (other_role m.role) Disc m.user) m.user) m.account.held (hears_disc n m)
disc_turns m n some has stands =
    let from : Role = other_role m.role in
    let x : Mux = answering (response_frame m.role Ua 0) (ends m.closed (record m { control = Ended })) in
    let y : Mux = answering (response_frame m.role Ua m.dlci) (ends m.closed (record m { user = Ended })) in
    disc_by m from n (n == 0) (n == m.dlci) (is_left from m.control) (is_left from m.user) (has_room m) x y (apart n m.dlci some) refl refl has
    (ends_closes m.closed (record m { control = Ended }) (response_frame m.role Ua 0) refl) (ends_closes m.closed (record m { user = Ended }) (response_frame m.role Ua m.dlci) refl) stands

-- ---- all of them

-- what a connection is after a frame on a channel, as a test of the channel and of the P/F bit
abbrev pub turning : Role → MuxKind → (here pf : Bool) → Dlc → Dlc
turning from kind here pf dlc = cond here (cond pf (turned from kind dlc) dlc) dlc

with_pf : (m : Mux) (from : Role) (kind : MuxKind) (a b pf : Bool) (x : Mux)
    → (x.closed ≡ None → Turns m (cond a (turned from kind m.control) m.control) (cond b (turned from kind m.user) m.user) m.account.held x)
    → (cond pf x m).closed ≡ None → Turns m (turning from kind a pf m.control) (turning from kind b pf m.user) m.account.held (cond pf x m)
with_pf m from kind a b true x t stands = t stands
with_pf m from kind a b false x t stands = rw (cond_same a m.control, cond_same b m.user) (unchanged m)

pub frame_turns : (m : Mux) (f : PlainFrame) (kind : MuxKind) → carries kind ≡ false → 0 < m.dlci → FindsRoom kind f m → (hears_kind kind f m).closed ≡ None
    → Turns m (turning (other_role m.role) kind (f.dlci == 0) f.pf m.control) (turning (other_role m.role) kind (f.dlci == m.dlci) f.pf m.user) m.account.held (hears_kind kind f m)
frame_turns m f Sabm none some room stands = with_pf m (other_role m.role) Sabm (f.dlci == 0) (f.dlci == m.dlci) f.pf (hears_sabm m.role f.dlci m) (sabm_turns m m.role f.dlci some room) stands
frame_turns m f Ua none some room stands = with_pf m (other_role m.role) Ua (f.dlci == 0) (f.dlci == m.dlci) f.pf (hears_ua f.dlci m) (ua_turns m (other_role m.role) f.dlci some) stands
frame_turns m f Dm none some room stands =
    let same : (dlc : Dlc) → cond f.pf (turned (other_role m.role) Dm dlc) dlc ≡ dlc = λ dlc. ap (λ (d : Dlc). cond f.pf d dlc) (no_turn (other_role m.role) dlc) ∙ cond_same f.pf dlc in
    rw (same m.control, same m.user, cond_same (f.dlci == 0) m.control, cond_same (f.dlci == m.dlci) m.user) (dm_by m (f.dlci == 0) (f.dlci == m.dlci) stands)
frame_turns m f Disc none some room stands = with_pf m (other_role m.role) Disc (f.dlci == 0) (f.dlci == m.dlci) f.pf (hears_disc f.dlci m) (disc_turns m f.dlci some room) stands
frame_turns m f Uih none some room stands = let never : true ≡ false = none in cc
