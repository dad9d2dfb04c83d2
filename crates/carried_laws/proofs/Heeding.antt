-- A responder that asks for its signal alone answers each SABM and DISC once, and by DM each PN for another channel, whatever comes: UA and DM, which it
-- asked for by nothing, too.
use Rattle.std.proofs.Common.{◌≡◌, ◌+◌, ℕ, Bool, true, false, cond, ◌==◌, Option, Some, None, refl, sym, subst, arith}
use Rattle.push_laws.specs.push_model.specs.rfcomm_frames.specs.declared.frame.MuxKind.{MuxKind}
use Rattle.push_laws.specs.push_model.specs.rfcomm_frames.specs.declared.frame.MuxKind.TheVariants.{Sabm, Ua, Dm, Disc, Uih}
use Rattle.push_laws.specs.push_model.specs.rfcomm_frames.specs.Connections.{other_role, turned}
use Rattle.push_laws.specs.push_model.specs.rfcomm_frames.specs.Frames.{PlainFrame}
use Rattle.push_laws.specs.push_model.specs.rfcomm_model.specs.declared.state.Asks.{Asks}
use Rattle.push_laws.specs.push_model.specs.rfcomm_model.specs.declared.state.Asks.TheVariants.{Nothing, Due, Awaited}
use Rattle.push_laws.specs.push_model.specs.rfcomm_model.specs.declared.state.Command.TheVariants.{OpenControl, Agree, OpenUser, Signal, LeaveUser, LeaveControl}
use Rattle.push_laws.specs.push_model.specs.rfcomm_model.specs.declared.state.MuxReason.{MuxReason}
use Rattle.push_laws.specs.push_model.specs.rfcomm_model.specs.declared.state.MuxReason.TheVariants as reasons
use Rattle.push_laws.specs.push_model.specs.rfcomm_model.specs.Hearing.{control_answered, user_answered, hears_ua, control_refused, user_refused, hears_dm, hears_kind, hears_settled, hears_frame}
use Rattle.push_laws.specs.push_model.specs.rfcomm_model.specs.Machine.{Mux, closes}
use Rattle.push_laws.proofs.Conceding.{R, r_frame, r_uih}
use Rattle.push_laws.proofs.Ordering.{command_of, Forth, IsSignal}
use Rattle.carried_laws.specs.Standing.{turns}

r_if : (t : ℕ) (b : Bool) (x y : Mux) → R t x → R t y → R t (cond b x y)
r_if t true x y p q = p
r_if t false x y p q = q

r_shut : (t : ℕ) (reason : MuxReason) (m : Mux) → R t m → R t (closes reason m)
r_shut t reason m s = record { role_is = s.role_is; dlci_is = s.dlci_is; answers = s.answers; few = s.few; wish = tt }

-- ---- UA

control_stays : (t : ℕ) (asks : Asks) (m : Mux) → IsSignal asks → R t m → R t (control_answered asks m)
control_stays t Nothing m w s = s
control_stays t (Due command) m w s = s
control_stays t (Awaited OpenControl) m w s = absurd w
control_stays t (Awaited Agree) m w s = s
control_stays t (Awaited OpenUser) m w s = s
control_stays t (Awaited Signal) m w s = s
control_stays t (Awaited LeaveUser) m w s = s
control_stays t (Awaited LeaveControl) m w s = absurd w

user_stays : (asks : Asks) → IsSignal asks → IsSignal (user_answered asks)
user_stays Nothing w = w
user_stays (Due command) w = w
user_stays (Awaited OpenControl) w = absurd w
user_stays (Awaited Agree) w = absurd w
user_stays (Awaited OpenUser) w = absurd w
user_stays (Awaited Signal) w = w
user_stays (Awaited LeaveUser) w = absurd w
user_stays (Awaited LeaveControl) w = absurd w

r_ua : (t n : ℕ) (m : Mux) → R t m → R t (hears_ua n m)
r_ua t n m s =
    let x : Mux = record m { control = turned (other_role m.role) Ua m.control } in
    let y : Mux = record m { user = turned (other_role m.role) Ua m.user; asks = user_answered m.asks } in
    r_if t (n == 0) (control_answered m.asks x) (cond (n == m.dlci) y m)
    (control_stays t m.asks x s.wish (record { role_is = s.role_is; dlci_is = s.dlci_is; answers = s.answers; few = s.few; wish = s.wish }))
    (r_if t (n == m.dlci) y m (record { role_is = s.role_is; dlci_is = s.dlci_is; answers = s.answers; few = s.few; wish = user_stays m.asks s.wish }) s)

-- ---- DM

control_ends : (t : ℕ) (asks : Asks) (m : Mux) → R t m → R t (control_refused asks m)
control_ends t Nothing m s = r_shut t reasons.Dm m s
control_ends t (Due command) m s = r_shut t reasons.Dm m s
control_ends t (Awaited OpenControl) m s = r_shut t reasons.Dm m s
control_ends t (Awaited Agree) m s = r_shut t reasons.Dm m s
control_ends t (Awaited OpenUser) m s = r_shut t reasons.Dm m s
control_ends t (Awaited Signal) m s = r_shut t reasons.Dm m s
control_ends t (Awaited LeaveUser) m s = r_shut t reasons.Dm m s
control_ends t (Awaited LeaveControl) m s = r_shut t reasons.Disc m s

user_ends : (t : ℕ) (asks : Asks) (m : Mux) → IsSignal asks → R t m → R t (user_refused asks m)
user_ends t Nothing m w s = r_shut t reasons.Dm m s
user_ends t (Due command) m w s = r_shut t reasons.Dm m s
user_ends t (Awaited OpenControl) m w s = r_shut t reasons.Dm m s
user_ends t (Awaited Agree) m w s = r_shut t reasons.Dm m s
user_ends t (Awaited OpenUser) m w s = r_shut t reasons.Dm m s
user_ends t (Awaited Signal) m w s = r_shut t reasons.Dm m s
user_ends t (Awaited LeaveUser) m w s = absurd w
user_ends t (Awaited LeaveControl) m w s = r_shut t reasons.Dm m s

r_dm : (t n : ℕ) (m : Mux) → R t m → R t (hears_dm n m)
r_dm t n m s = r_if t (n == 0) (control_refused m.asks m) (cond (n == m.dlci) (user_refused m.asks m) m) (control_ends t m.asks m s) (r_if t (n == m.dlci) (user_refused m.asks m) m (user_ends t m.asks m s.wish s) s)

-- ---- any frame

r_more : (t k : ℕ) (m : Mux) → R t m → R (t + k) m
r_more t k m s = let few = s.few in record { role_is = s.role_is; dlci_is = s.dlci_is; answers = s.answers; few = omega (arith, few); wish = s.wish }

r_kind : (t : ℕ) (kind : MuxKind) (f : PlainFrame) (m : Mux) → f.kind ≡ kind → R t m → R (t + turns kind f) (hears_kind kind f m)
r_kind t Ua f m is s = r_more t 0 _ (r_if t f.pf (hears_ua f.dlci m) m (r_ua t f.dlci m s) s)
r_kind t Dm f m is s = r_more t 0 _ (r_dm t f.dlci m s)
r_kind t Sabm f m is s = subst (λ (k : MuxKind). R (t + command_of k) (hears_kind k f m)) is (r_frame t None f m (subst (λ (k : MuxKind). Forth k f) (sym is) tt) s)
r_kind t Disc f m is s = subst (λ (k : MuxKind). R (t + command_of k) (hears_kind k f m)) is (r_frame t None f m (subst (λ (k : MuxKind). Forth k f) (sym is) tt) s)
r_kind t Uih f m is s = r_uih t f m s

-- closed by DM it hears as where it is closed by DISC
r_settled : (t : ℕ) (kind : MuxKind) (f : PlainFrame) (m : Mux) → f.kind ≡ kind → R t m → R (t + turns kind f) (hears_settled kind f m)
r_settled t Ua f m is s = r_more t 0 m s
r_settled t Dm f m is s = r_more t 0 m s
r_settled t Uih f m is s = r_more t (turns Uih f) m s
r_settled t Sabm f m is s = subst (λ (k : MuxKind). R (t + command_of k) (hears_settled k f m)) is (r_frame t (Some reasons.Disc) f m (subst (λ (k : MuxKind). Forth k f) (sym is) tt) s)
r_settled t Disc f m is s = subst (λ (k : MuxKind). R (t + command_of k) (hears_settled k f m)) is (r_frame t (Some reasons.Disc) f m (subst (λ (k : MuxKind). Forth k f) (sym is) tt) s)

pub r_heard : (t : ℕ) (closed : Option MuxReason) (f : PlainFrame) (m : Mux) → R t m → R (t + turns f.kind f) (hears_frame closed f m)
r_heard t None f m s = r_kind t f.kind f m refl s
r_heard t (Some reasons.Dm) f m s = r_settled t f.kind f m refl s
r_heard t (Some reasons.Disc) f m s = r_settled t f.kind f m refl s
r_heard t (Some reasons.NoCreditFlow) f m s = r_more t (turns f.kind f) m s
r_heard t (Some reasons.Overdrawn) f m s = r_more t (turns f.kind f) m s
r_heard t (Some reasons.BadFrame) f m s = r_more t (turns f.kind f) m s
r_heard t (Some reasons.CreditOverflow) f m s = r_more t (turns f.kind f) m s
