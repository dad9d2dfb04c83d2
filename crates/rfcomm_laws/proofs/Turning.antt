-- Frames that turn connections, credits and information do a side no harm, whatever it has come to.
use Rattle.std.proofs.Common.{arith, ◌≡◌, ◌⊎◌, inl, inr, ◌<◌, ◌≤◌, ℕ, ◌==◌, ◌+◌, ◌-◌, ◌^◌, Bool, true, false, ◌&&◌, ◌||◌, cond, List, [], ◌∷◌, Option, Some, None, refl, sym, ap, subst, ◌∙◌}
use Rattle.std.specs.Prelude.{not, nat_lt, is_some}
use Rattle.std.proofs.lemmas.Bool.{ltb-true, eqb-true}
use Rattle.std.proofs.Math.Bool.{or-true}
use Rattle.rfcomm_frames.specs.declared.frame.MuxKind.TheVariants.{Ua, Dm}
use Rattle.rfcomm_frames.specs.declared.connection.Role.{Role}
use Rattle.rfcomm_frames.specs.declared.connection.Role.TheVariants.{Initiator, Responder}
use Rattle.rfcomm_frames.specs.declared.connection.Dlc.{Dlc}
use Rattle.rfcomm_frames.specs.declared.connection.Dlc.TheVariants.{Idle, Asked, Open, Ended}
use Rattle.rfcomm_frames.specs.Frames.{PlainFrame}
use Rattle.rfcomm_frames.specs.FrameReading.{is_empty}
use Rattle.rfcomm_frames.specs.Connections.{other_role, turned, asked, agreed, is_ended, is_left}
use Rattle.rfcomm_frames.specs.Multiplexing.{credit_octet}
use Rattle.rfcomm_model.specs.declared.state.MuxReason.{MuxReason}
use Rattle.rfcomm_model.specs.declared.state.MuxReason.TheVariants as reasons
use Rattle.rfcomm_model.specs.declared.state.Command.TheVariants.{OpenControl, Agree, OpenUser, Signal, LeaveUser, LeaveControl}
use Rattle.rfcomm_model.specs.declared.state.Asks.{Asks}
use Rattle.rfcomm_model.specs.declared.state.Asks.TheVariants.{Nothing, Due, Awaited}
use Rattle.rfcomm_model.specs.Machine.{Mux, closes}
use Rattle.rfcomm_model.specs.Written.{response_frame}
use Rattle.rfcomm_model.specs.Hearing.{has_room, answering, says_dm, signals_next, opens_control, opens_user, hears_sabm, control_answered, user_answered, hears_ua, control_refused, user_refused, hears_dm, ends, hears_disc, credited, charged, if_stands, with_credits, hears_data, own_credits}
use Rattle.rfcomm_laws.proofs.Harm.{bonuses_of, rank, SoundAsks, all_later, is_far, Word, Step, step_sets, step_same, step_then, step_more, step_if, step_closes, step_answers}

-- what never changes of a side
pub record Fit (d : ℕ) (m : Mux) : Type 0 where
  pub some : 0 < d
  pub dlci : m.dlci ≡ d
  pub least : 23 ≤ m.own
  pub most : m.own < 2 ^ 16

pub still_fit : (w : Word) (b c d : ℕ) (m x : Mux) → Step w b c m x → Fit d m → Fit d x
still_fit w b c d m x s fit = record { some = fit.some; dlci = s.dlci ∙ fit.dlci; least = omega (arith, s.own, fit.least); most = omega (arith, s.own, fit.most) }

pub over_more : (a b c b' c' : Bool) → (b ≡ true → b' ≡ true) → (c ≡ true → c' ≡ true) → (a || (b || c)) ≡ true → (a || (b' || c')) ≡ true
over_more true b c b' c' p q is = refl
over_more false true c b' c' p q is = ap (λ (x : Bool). x || c') (p refl)
over_more false false c b' c' p q is = ap (λ (x : Bool). b' || x) (q is) ∙ or-true b'

pub none_of : (a b c : Bool) → (a || (b || c)) ≡ false → b ≡ false
none_of true b c is = let never : true ≡ false = is in cc
none_of false true c is = let never : true ≡ false = is in cc
none_of false false c is = refl

-- connections that turned, and another wish
step_turns : (w : Word) (b c : ℕ) (m : Mux) (control user : Dlc) (asks : Asks) → (is_ended m.user ≡ true → is_ended user ≡ true) → (is_ended m.control ≡ true → is_ended control ≡ true) → rank m.user ≤ rank user
    → (SoundAsks w.terms m.asks → SoundAsks w.terms asks) → (m.user ≡ Idle → (user ≡ Idle) ⊎ (w.asks ≡ true)) → (is_ended user ≡ false → is_far user ≡ true → (is_far m.user ≡ true) ⊎ (w.opens ≡ true))
    → Step w b c m (record m { control = control; user = user; asks = asks })
step_turns w b c m control user asks p q rises sound idle far = record {
  role = refl;
  dlci = refl;
  own = refl;
  cap = refl;
  held = omega arith;
  peer = omega arith;
  less = omega arith;
  owed = omega arith;
  rises = rises;
  over = over_more (is_some m.closed) (is_ended m.user) (is_ended m.control) (is_ended user) (is_ended control) p q;
  idle = idle;
  far = λ o f. far (none_of (is_some m.closed) (is_ended user) (is_ended control) o) f;
  kept = λ e. (e, refl);
  agrees = λ a. a;
  waits = λ all. all_later m.agreed m.agreed (rank m.user) (rank user) m.dlci m.answers (λ a. a) rises all;
  asks = sound;
  orderly = λ fits paid o. o;
}

-- ---- answers

pub not_control : (d : ℕ) (m : Mux) → Fit d m → (0 == m.dlci) ≡ true → ⊥
not_control d m fit is = let zero_is = eqb-true 0 m.dlci is in let same = fit.dlci in let some = fit.some in omega arith

pub dm_step : (w : Word) (b c n : ℕ) (m : Mux) → Step w b c m (says_dm n m)
dm_step w b c n m =
    step_if w b c m (has_room m) (answering (response_frame m.role Dm n) m) m
    (λ t. step_answers w b c m m (response_frame m.role Dm n) (step_same w b c m) (omega arith) tt)
    (λ t. step_same w b c m)

-- ---- SABM

asked_ended : (dlc : Dlc) → is_ended dlc ≡ true → is_ended (asked dlc) ≡ true
asked_ended Ended is = refl
asked_ended Idle is = let never : false ≡ true = is in cc
asked_ended Asked is = is
asked_ended Open is = is

pub asked_rank : (dlc : Dlc) → (rank dlc ≤ rank (asked dlc)) × (1 ≤ rank (asked dlc))
asked_rank Idle = (omega arith, omega arith)
asked_rank Asked = (omega arith, omega arith)
asked_rank Open = (omega arith, omega arith)
asked_rank Ended = (omega arith, omega arith)

signals_sound : (w : Word) (dlc : Dlc) (asks : Asks) → SoundAsks w.terms asks → SoundAsks w.terms (signals_next dlc asks)
signals_sound w Idle Nothing sound = tt
signals_sound w Idle (Due command) sound = sound
signals_sound w Idle (Awaited command) sound = tt
signals_sound w Asked asks sound = sound
signals_sound w Open asks sound = sound
signals_sound w Ended asks sound = sound

opens_control_step : (w : Word) (b c d : ℕ) (m : Mux) → Fit d m → Step w b c m (opens_control m)
opens_control_step w b c d m fit =
    let x : Mux = record m { control = asked m.control } in
    let s : Step w b c m x = step_turns w b c m (asked m.control) m.user m.asks (λ e. e) (asked_ended m.control) (omega arith) (λ a. a) (λ e. inl e) (λ o f. inl f) in
    step_if w b c m (is_ended m.control) (says_dm 0 m) (cond (has_room m) (answering (response_frame m.role Ua 0) x) m) (λ t. dm_step w b c 0 m)
    (λ t. step_if w b c m (has_room m) (answering (response_frame m.role Ua 0) x) m
    (λ u. step_answers w b c m x (response_frame m.role Ua 0) s (omega arith) (λ here. absurd (not_control d m fit here)))
    (λ u. step_same w b c m))

asked_far : (dlc : Dlc) → is_far (asked dlc) ≡ true → is_far dlc ≡ true
asked_far Idle is = is
asked_far Asked is = is
asked_far Open is = refl
asked_far Ended is = refl

pub disagrees : (a : Bool) → a ≡ true → not a ≡ true → ⊥
disagrees true is denied = let never : false ≡ true = denied in cc
disagrees false is denied = let never : false ≡ true = is in cc

opens_user_step : (w : Word) (b c : ℕ) (m : Mux) → m.agreed ≡ true → w.asks ≡ true → Step w b c m (opens_user m)
opens_user_step w b c m agreed_is asks =
    let x : Mux = record m { user = asked m.user; asks = signals_next m.user m.asks } in
    let s : Step w b c m x = step_turns w b c m m.control (asked m.user) (signals_next m.user m.asks) (asked_ended m.user) (λ e. e) (asked_rank m.user).0 (signals_sound w m.user m.asks) (λ e. inr asks) (λ o f. inl (asked_far m.user f)) in
    let room : Mux = cond (has_room m) (answering (response_frame m.role Ua m.dlci) x) m in
    step_if w b c m (not m.agreed) (closes reasons.NoCreditFlow m) (cond (is_ended m.user) (says_dm m.dlci m) room) (λ t. absurd (disagrees m.agreed agreed_is t))
    (λ t. step_if w b c m (is_ended m.user) (says_dm m.dlci m) room (λ u. dm_step w b c m.dlci m)
    (λ u. step_if w b c m (has_room m) (answering (response_frame m.role Ua m.dlci) x) m
    (λ v. step_answers w b c m x (response_frame m.role Ua m.dlci) s (omega arith) (λ here. (asked_rank m.user).1))
    (λ v. step_same w b c m)))

pub sabm_step : (w : Word) (b c d : ℕ) (role : Role) (n : ℕ) (m : Mux) → Fit d m → ((n == m.dlci) ≡ true → (m.agreed ≡ true) × (w.asks ≡ true)) → Step w b c m (hears_sabm role n m)
sabm_step w b c d Initiator n m fit keeps = dm_step w b c n m
sabm_step w b c d Responder n m fit keeps =
    step_if w b c m (n == 0) (opens_control m) (cond (n == m.dlci) (opens_user m) (says_dm n m)) (λ t. opens_control_step w b c d m fit)
    (λ t. step_if w b c m (n == m.dlci) (opens_user m) (says_dm n m) (λ u. opens_user_step w b c m (keeps u).0 (keeps u).1) (λ u. dm_step w b c n m))

-- ---- UA and DM

agreed_ended : (dlc : Dlc) → is_ended dlc ≡ true → is_ended (agreed dlc) ≡ true
agreed_ended Ended is = refl
agreed_ended Idle is = is
agreed_ended Asked is = let never : false ≡ true = is in cc
agreed_ended Open is = is

pub agreed_rank : (dlc : Dlc) → rank dlc ≤ rank (agreed dlc)
agreed_rank Idle = omega arith
agreed_rank Asked = omega arith
agreed_rank Open = omega arith
agreed_rank Ended = omega arith

ua_ended : (from : Role) (dlc : Dlc) → is_ended dlc ≡ true → is_ended (turned from Ua dlc) ≡ true
ua_ended Initiator dlc is = is
ua_ended Responder dlc is = agreed_ended dlc is

ua_rank : (from : Role) (dlc : Dlc) → rank dlc ≤ rank (turned from Ua dlc)
ua_rank Initiator dlc = omega arith
ua_rank Responder dlc = agreed_rank dlc

-- a wish that is sound whatever the peer agreed to
step_asks : (w : Word) (b c : ℕ) (m : Mux) (asks : Asks) → (SoundAsks w.terms m.asks → SoundAsks w.terms asks) → Step w b c m (record m { asks = asks })
step_asks w b c m asks sound = step_turns w b c m m.control m.user asks (λ e. e) (λ e. e) (omega arith) sound (λ e. inl e) (λ o f. inl f)

control_ua_step : (w : Word) (b c : ℕ) (asks : Asks) (m : Mux) → Step w b c m (control_answered asks m)
control_ua_step w b c Nothing m = step_same w b c m
control_ua_step w b c (Due command) m = step_same w b c m
control_ua_step w b c (Awaited OpenControl) m = step_asks w b c m (Due Agree) (λ a. tt)
control_ua_step w b c (Awaited Agree) m = step_same w b c m
control_ua_step w b c (Awaited OpenUser) m = step_same w b c m
control_ua_step w b c (Awaited Signal) m = step_same w b c m
control_ua_step w b c (Awaited LeaveUser) m = step_same w b c m
control_ua_step w b c (Awaited LeaveControl) m = step_closes w b c reasons.Disc m (λ fits paid. tt)

user_ua_sound : (w : Word) (asks : Asks) → SoundAsks w.terms asks → SoundAsks w.terms (user_answered asks)
user_ua_sound w Nothing sound = tt
user_ua_sound w (Due command) sound = sound
user_ua_sound w (Awaited OpenControl) sound = tt
user_ua_sound w (Awaited Agree) sound = tt
user_ua_sound w (Awaited OpenUser) sound = tt
user_ua_sound w (Awaited Signal) sound = tt
user_ua_sound w (Awaited LeaveUser) sound = tt
user_ua_sound w (Awaited LeaveControl) sound = tt

ua_idle : (from : Role) (dlc : Dlc) → dlc ≡ Idle → turned from Ua dlc ≡ Idle
ua_idle Initiator dlc is = is
ua_idle Responder Idle is = refl
ua_idle Responder Asked is = cc
ua_idle Responder Open is = cc
ua_idle Responder Ended is = cc

ua_far : (from : Role) (dlc : Dlc) → is_far (turned from Ua dlc) ≡ true → (is_far dlc ≡ true) ⊎ (from ≡ Responder)
ua_far Initiator dlc is = inl is
ua_far Responder Idle is = inl is
ua_far Responder Asked is = inr refl
ua_far Responder Open is = inl refl
ua_far Responder Ended is = inl refl

pub ua_step : (w : Word) (n : ℕ) (m : Mux) → ((n == m.dlci) ≡ true → other_role m.role ≡ Responder → w.opens ≡ true) → Step w 0 0 m (hears_ua n m)
ua_step w n m opens =
    let from : Role = other_role m.role in
    let x : Mux = record m { control = turned from Ua m.control } in
    let y : Mux = record m { user = turned from Ua m.user; asks = user_answered m.asks } in
    let s : Step w 0 0 m x = step_turns w 0 0 m (turned from Ua m.control) m.user m.asks (λ e. e) (ua_ended from m.control) (omega arith) (λ a. a) (λ e. inl e) (λ o f. inl f) in
    step_if w 0 0 m (n == 0) (control_answered m.asks x) (cond (n == m.dlci) y m) (λ t. step_then w 0 0 0 0 m x (control_answered m.asks x) s (control_ua_step w 0 0 m.asks x))
    (λ t. step_if w 0 0 m (n == m.dlci) y m
    (λ u. step_turns w 0 0 m m.control (turned from Ua m.user) (user_answered m.asks) (ua_ended from m.user) (λ e. e) (ua_rank from m.user) (user_ua_sound w m.asks) (λ e. inl (ua_idle from m.user e))
    (λ o f. elim (ua_far from m.user f) [ inl before ↦ inl before | inr peer ↦ inr (opens u peer) ]))
    (λ u. step_same w 0 0 m))

control_dm_step : (w : Word) (b c : ℕ) (asks : Asks) (m : Mux) → Step w b c m (control_refused asks m)
control_dm_step w b c Nothing m = step_closes w b c reasons.Dm m (λ fits paid. tt)
control_dm_step w b c (Due command) m = step_closes w b c reasons.Dm m (λ fits paid. tt)
control_dm_step w b c (Awaited OpenControl) m = step_closes w b c reasons.Dm m (λ fits paid. tt)
control_dm_step w b c (Awaited Agree) m = step_closes w b c reasons.Dm m (λ fits paid. tt)
control_dm_step w b c (Awaited OpenUser) m = step_closes w b c reasons.Dm m (λ fits paid. tt)
control_dm_step w b c (Awaited Signal) m = step_closes w b c reasons.Dm m (λ fits paid. tt)
control_dm_step w b c (Awaited LeaveUser) m = step_closes w b c reasons.Dm m (λ fits paid. tt)
control_dm_step w b c (Awaited LeaveControl) m = step_closes w b c reasons.Disc m (λ fits paid. tt)

user_dm_step : (w : Word) (b c : ℕ) (asks : Asks) (m : Mux) → Step w b c m (user_refused asks m)
user_dm_step w b c Nothing m = step_closes w b c reasons.Dm m (λ fits paid. tt)
user_dm_step w b c (Due command) m = step_closes w b c reasons.Dm m (λ fits paid. tt)
user_dm_step w b c (Awaited OpenControl) m = step_closes w b c reasons.Dm m (λ fits paid. tt)
user_dm_step w b c (Awaited Agree) m = step_closes w b c reasons.Dm m (λ fits paid. tt)
user_dm_step w b c (Awaited OpenUser) m = step_closes w b c reasons.Dm m (λ fits paid. tt)
user_dm_step w b c (Awaited Signal) m = step_closes w b c reasons.Dm m (λ fits paid. tt)
user_dm_step w b c (Awaited LeaveUser) m = step_asks w b c m (Due LeaveControl) (λ a. tt)
user_dm_step w b c (Awaited LeaveControl) m = step_closes w b c reasons.Dm m (λ fits paid. tt)

pub heard_dm_step : (w : Word) (b c n : ℕ) (m : Mux) → Step w b c m (hears_dm n m)
heard_dm_step w b c n m =
    step_if w b c m (n == 0) (control_refused m.asks m) (cond (n == m.dlci) (user_refused m.asks m) m) (λ t. control_dm_step w b c m.asks m)
    (λ t. step_if w b c m (n == m.dlci) (user_refused m.asks m) m (λ u. user_dm_step w b c m.asks m) (λ u. step_same w b c m))

-- ---- DISC

ends_step : (w : Word) (closed : Option MuxReason) (m : Mux) → Step w 0 0 m (ends closed m)
ends_step w None m = step_closes w 0 0 reasons.Disc m (λ fits paid. tt)
ends_step w (Some reason) m = step_same w 0 0 m

-- ending leaves the parts that an answer depends on
ends_user : (closed : Option MuxReason) (m : Mux) → (ends closed m).user ≡ m.user
ends_user None m = refl
ends_user (Some reason) m = refl

ends_owes : (d : ℕ) (closed : Option MuxReason) (m : Mux) → bonuses_of d (ends closed m).answers + own_credits (ends closed m) ≡ bonuses_of d m.answers + own_credits m
ends_owes d None m = refl
ends_owes d (Some reason) m = refl

left_step : (w : Word) (n : ℕ) (m x : Mux) → Step w 0 0 m x → bonuses_of m.dlci x.answers + own_credits x ≡ bonuses_of m.dlci m.answers + own_credits m → ((n == m.dlci) ≡ true → 1 ≤ rank x.user)
    → Step w 0 0 m (cond (has_room m) (answering (response_frame m.role Ua n) (ends m.closed x)) m)
left_step w n m x s same far =
    let y : Mux = ends m.closed x in
    let owes = ends_owes m.dlci m.closed x in
    step_if w 0 0 m (has_room m) (answering (response_frame m.role Ua n) y) m
    (λ t. step_answers w 0 0 m y (response_frame m.role Ua n) (step_then w 0 0 0 0 m x y s (ends_step w m.closed x)) (omega (arith, owes, same))
    (λ here. subst (λ (dlc : Dlc). 1 ≤ rank dlc) (sym (ends_user m.closed x)) (far here)))
    (λ t. step_same w 0 0 m)

ended_rank : (dlc : Dlc) → rank dlc ≤ 3
ended_rank Idle = omega arith
ended_rank Asked = omega arith
ended_rank Open = omega arith
ended_rank Ended = omega arith

-- what is left was no idle channel
left_idle : (a : Bool) (from : Role) (dlc : Dlc) → (a && is_left from dlc) ≡ true → dlc ≡ Idle → ⊥
left_idle true from Idle is idle = let never : false ≡ true = is in cc
left_idle true from Asked is idle = cc
left_idle true from Open is idle = cc
left_idle true from Ended is idle = cc
left_idle false from dlc is idle = let never : false ≡ true = is in cc

user_ends : (w : Word) (m : Mux) → (m.user ≡ Idle → ⊥) → Step w 0 0 m (record m { user = Ended })
user_ends w m used =
    step_turns w 0 0 m m.control Ended m.asks (λ e. refl) (λ e. e) (ended_rank m.user) (λ a. a) (λ e. absurd (used e)) (λ o f. let never : true ≡ false = o in cc)

pub disc_step : (w : Word) (d n : ℕ) (m : Mux) → Fit d m → Step w 0 0 m (hears_disc n m)
disc_step w d n m fit =
    let from : Role = other_role m.role in
    let x : Mux = record m { control = Ended } in
    let y : Mux = record m { user = Ended } in
    let sx : Step w 0 0 m x = step_turns w 0 0 m Ended m.user m.asks (λ e. e) (λ e. refl) (omega arith) (λ a. a) (λ e. inl e) (λ o f. inl f) in
    let left_control : Mux = cond (has_room m) (answering (response_frame m.role Ua 0) (ends m.closed x)) m in
    let left_user : Mux = cond (has_room m) (answering (response_frame m.role Ua m.dlci) (ends m.closed y)) m in
    step_if w 0 0 m ((n == 0) && is_left from m.control) left_control (cond ((n == m.dlci) && is_left from m.user) left_user (says_dm n m))
    (λ t. left_step w 0 m x sx refl (λ here. absurd (not_control d m fit here)))
    (λ t. step_if w 0 0 m ((n == m.dlci) && is_left from m.user) left_user (says_dm n m) (λ u. left_step w m.dlci m y (user_ends w m (left_idle (n == m.dlci) from m.user u)) refl (λ here. omega arith)) (λ u. dm_step w 0 0 n m))

-- ---- credits and information

pub credited_step : (w : Word) (n : ℕ) (m : Mux) → Step w n 0 m (credited n m)
credited_step w n m =
    step_if w n 0 m (nat_lt 65535 (m.account.held + n)) (closes reasons.CreditOverflow m) (record m { account = record { cap = m.account.cap; held = m.account.held + n; peer = m.account.peer } })
    (λ t. step_closes w n 0 reasons.CreditOverflow m (λ fits paid. let above = ltb-true 65535 (m.account.held + n) t in absurd (omega arith)))
    (λ t. step_sets w n 0 m m.asks m.ready (m.account.held + n) m.account.peer m.frame m.agreed m.stated (omega arith) (omega arith) (omega arith) (λ a. a) (λ a. a) (λ s. s))

charged_step : (w : Word) (octets : List ℕ) (m : Mux) → Step w 0 (cond (is_empty octets) 0 1) m (charged octets m)
charged_step w [] m = step_same w 0 0 m
charged_step w (octet ∷ octets) m =
    step_if w 0 1 m (m.account.peer == 0) (closes reasons.Overdrawn m) (record m { account = record { cap = m.account.cap; held = m.account.held; peer = m.account.peer - 1 } })
    (λ t. step_closes w 0 1 reasons.Overdrawn m (λ fits paid. let none = eqb-true m.account.peer 0 t in absurd (omega arith)))
    (λ t. step_sets w 0 1 m m.asks m.ready m.account.held (m.account.peer - 1) m.frame m.agreed m.stated (omega arith) (omega arith) (omega arith) (λ a. a) (λ a. a) (λ s. s))

pub stands_step : (w : Word) (b c : ℕ) (f : Mux → Mux) (closed : Option MuxReason) (m : Mux) → Step w b c m (f m) → Step w b c m (if_stands f closed m)
stands_step w b c f None m s = s
stands_step w b c f (Some reason) m s = step_same w b c m

with_credits_step : (w : Word) (credits : Option ℕ) (m : Mux) → Step w (credit_octet credits) 0 m (with_credits credits m)
with_credits_step w None m = step_same w 0 0 m
with_credits_step w (Some n) m = credited_step w n m

pub data_step : (w : Word) (f : PlainFrame) (m : Mux) → Step w (credit_octet f.credits) (cond (is_empty f.octets) 0 1) m (hears_data f m)
data_step w f m =
    let granted : Mux = with_credits f.credits m in
    let cost : ℕ = cond (is_empty f.octets) 0 1 in
    step_more w (credit_octet f.credits + 0) (0 + cost) (credit_octet f.credits) cost m (hears_data f m) (omega arith) (omega arith)
    (step_then w (credit_octet f.credits) 0 0 cost m granted (hears_data f m) (with_credits_step w f.credits m)
    (stands_step w 0 cost (charged f.octets) granted.closed granted (charged_step w f.octets granted)))
