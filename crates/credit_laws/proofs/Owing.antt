-- A side owes no credit: what it spent and what it holds are together no more than what the frames grant it.
use Rattle.std.proofs.Common.{arith, ◌≡◌, ◌≤◌, ◌<◌, ◌⊎◌, inl, inr, ℕ, ◌==◌, ◌+◌, Bool, true, false, ◌&&◌, ◌||◌, cond, None, refl, sym, ap, subst, ◌∙◌}
use Rattle.std.specs.Prelude.{not, is_none, sum_by}
use Rattle.std.proofs.lemmas.Bool.{ne_eqb}
use Rattle.inbox_laws.specs.rfcomm_frames.specs.declared.frame.MuxKind.{MuxKind}
use Rattle.inbox_laws.specs.rfcomm_frames.specs.declared.frame.MuxKind.TheVariants.{Sabm, Ua, Dm, Disc, Uih}
use Rattle.inbox_laws.specs.rfcomm_frames.specs.declared.connection.Role.{Role}
use Rattle.inbox_laws.specs.rfcomm_frames.specs.declared.connection.Role.TheVariants.{Initiator, Responder}
use Rattle.inbox_laws.specs.rfcomm_frames.specs.declared.connection.Dlc.{Dlc}
use Rattle.inbox_laws.specs.rfcomm_frames.specs.declared.closing.Closing.{Closing}
use Rattle.inbox_laws.specs.rfcomm_frames.specs.Ending.{is_closed_by}
use Rattle.inbox_laws.specs.rfcomm_frames.specs.Frames.{PlainFrame, carries}
use Rattle.inbox_laws.specs.rfcomm_frames.specs.FrameReading.{messages}
use Rattle.inbox_laws.specs.rfcomm_frames.specs.Connections.{other_role, asked, turned, is_open, is_ended, is_left}
use Rattle.inbox_laws.specs.rfcomm_frames.specs.Multiplexing.{Connections, carries_on, is_over, is_data, stated_by, credit_octet, granted_by}
use Rattle.inbox_laws.specs.rfcomm_model.specs.Machine.{Mux, may_pass}
use Rattle.inbox_laws.specs.rfcomm_model.specs.Written.{response_frame}
use Rattle.inbox_laws.specs.rfcomm_model.specs.Hearing.{has_room, answering, says_dm, signals_next, opens_control, opens_user, hears_sabm, user_answered, hears_ua, hears_dm, control_answered, control_refused, user_refused, hears_disc, hears_kind, hears_uih}
use Rattle.inbox_laws.specs.rfcomm_model.specs.Machine.{closes}
use Rattle.inbox_laws.specs.rfcomm_model.specs.declared.state.MuxReason.TheVariants as reasons
use Rattle.inbox_laws.specs.rfcomm_model.proofs.Closing.{keep_cond}
use Rattle.inbox_laws.specs.rfcomm_model.proofs.Stepping.{apart, and_false, turning}
use Rattle.inbox_laws.specs.rfcomm_model.proofs.Talking.{same_role}
use Rattle.credit_laws.proofs.Granting.{is_idle, IsAwaited, AllAwaited, Bound, uih_bound}
use Rattle.credit_laws.proofs.Affording.{Near, peer_near, late_near, near_ended, near_if, near_left, stays, asked_some, not_idle, all_awaited, IsNear, After, kept, closed_after, answered, dm_after, control_ua, control_dm, user_dm, disc_after}

-- the connections that the frames say behind a frame of the peer
abbrev moved_lines : Role → MuxKind → (a b pf : Bool) → Connections → Connections
moved_lines peer kind a b pf c = record { control = turning peer kind a pf c.control; user = turning peer kind b pf c.user }

same_near : (role peer : Role) (kind : MuxKind) (here pf : Bool) (held read : Dlc) → turned peer kind read ≡ read → Near role held read → Near role held (turning peer kind here pf read)
same_near role peer kind true true held read same near = subst (Near role held) (sym same) near
same_near role peer kind true false held read same near = near
same_near role peer kind false pf held read same near = near

no_turn : (from : Role) (kind : MuxKind) (dlc : Dlc) → (kind ≡ Dm) ⊎ (kind ≡ Uih) → turned from kind dlc ≡ dlc
no_turn Initiator kind dlc (inl is) = ap (λ (k : MuxKind). turned Initiator k dlc) is
no_turn Responder kind dlc (inl is) = ap (λ (k : MuxKind). turned Responder k dlc) is
no_turn Initiator kind dlc (inr is) = ap (λ (k : MuxKind). turned Initiator k dlc) is
no_turn Responder kind dlc (inr is) = ap (λ (k : MuxKind). turned Responder k dlc) is

-- ---- SABM

opened_control : (m : Mux) (c : Connections) → 0 < m.dlci → IsNear Responder m.dlci c m → After Responder m.dlci (record { control = asked c.control; user = c.user }) m.account.held (opens_control m)
opened_control m c some near =
    let h : ℕ = m.account.held in
    let c' : Connections = record { control = asked c.control; user = c.user } in
    let x : Mux = record m { control = asked m.control } in
    let late : IsNear Responder m.dlci c' m = record { control = late_near m.control c.control near.control; user = near.user; awaited = near.awaited } in
    let ok : IsAwaited m.dlci (asked m.control) m.user (response_frame m.role Ua 0) =
    ap (λ (b : Bool). not b && not ((0 == m.dlci) && is_idle m.user)) (asked_some m.control) ∙ ap (λ (b : Bool). not (b && is_idle m.user)) (ne_eqb 0 m.dlci (λ e. omega (arith, some, e))) in
    let now : IsNear Responder m.dlci c' x = record {
      control = peer_near Responder Sabm m.control c.control (λ e. cc) near.control;
      user = near.user;
      awaited = all_awaited m.dlci m.control m.user (asked m.control) m.user m.answers (not_idle Initiator Sabm m.control) (λ is. is) near.awaited;
    } in
    keep_cond (After Responder m.dlci c' h) (is_ended m.control) (says_dm 0 m) (cond (has_room m) (answering (response_frame m.role Ua 0) x) m) (dm_after Responder m.dlci c' h 0 m (omega arith) late)
    (keep_cond (After Responder m.dlci c' h) (has_room m) (answering (response_frame m.role Ua 0) x) m (answered Responder m.dlci c' h (response_frame m.role Ua 0) x (omega arith) ok now) (kept Responder m.dlci c' h m (omega arith) late))

opened_user : (m : Mux) (c : Connections) → 0 < m.dlci → IsNear Responder m.dlci c m → After Responder m.dlci (record { control = c.control; user = asked c.user }) m.account.held (opens_user m)
opened_user m c some near =
    let h : ℕ = m.account.held in
    let c' : Connections = record { control = c.control; user = asked c.user } in
    let x : Mux = record m { user = asked m.user; asks = signals_next m.user m.asks } in
    let late : IsNear Responder m.dlci c' m = record { control = near.control; user = late_near m.user c.user near.user; awaited = near.awaited } in
    let ok : IsAwaited m.dlci m.control (asked m.user) (response_frame m.role Ua m.dlci) =
    ap (λ (b : Bool). not (b && is_idle m.control) && not ((m.dlci == m.dlci) && is_idle (asked m.user))) (ne_eqb m.dlci 0 (λ e. omega (arith, some, e)))
    ∙ ap (λ (b : Bool). not ((m.dlci == m.dlci) && b)) (asked_some m.user) ∙ ap not (and_false (m.dlci == m.dlci)) in
    let now : IsNear Responder m.dlci c' x = record {
      control = near.control;
      user = peer_near Responder Sabm m.user c.user (λ e. cc) near.user;
      awaited = all_awaited m.dlci m.control m.user m.control (asked m.user) m.answers (λ is. is) (not_idle Initiator Sabm m.user) near.awaited;
    } in
    let room : Mux = cond (has_room m) (answering (response_frame m.role Ua m.dlci) x) m in
    keep_cond (After Responder m.dlci c' h) (not m.agreed) (closes reasons.NoCreditFlow m) (cond (is_ended m.user) (says_dm m.dlci m) room) (closed_after Responder m.dlci c' h reasons.NoCreditFlow m (omega arith))
    (keep_cond (After Responder m.dlci c' h) (is_ended m.user) (says_dm m.dlci m) room (dm_after Responder m.dlci c' h m.dlci m (omega arith) late)
    (keep_cond (After Responder m.dlci c' h) (has_room m) (answering (response_frame m.role Ua m.dlci) x) m (answered Responder m.dlci c' h (response_frame m.role Ua m.dlci) x (omega arith) ok now) (kept Responder m.dlci c' h m (omega arith) late)))

sabm_after : (role : Role) (m : Mux) (n : ℕ) (c : Connections) → 0 < m.dlci → IsNear role m.dlci c m → After role m.dlci (moved_lines (other_role role) Sabm (n == 0) (n == m.dlci) true c) m.account.held (hears_sabm role n m)
sabm_after Initiator m n c some near = dm_after Initiator m.dlci (moved_lines Responder Sabm (n == 0) (n == m.dlci) true c) m.account.held n m (omega arith) (record {
  control = near_if Initiator (n == 0) m.control c.control c.control near.control near.control;
  user = near_if Initiator (n == m.dlci) m.user c.user c.user near.user near.user;
  awaited = near.awaited;
})
sabm_after Responder m n c some near = by (n == 0) (n == m.dlci) (apart n m.dlci some)
  where
    by : (a b : Bool) → (a ≡ true → b ≡ false) → After Responder m.dlci (moved_lines Initiator Sabm a b true c) m.account.held (cond a (opens_control m) (cond b (opens_user m) (says_dm n m)))
    by true true one = let never : true ≡ false = one refl in cc
    by true false one = opened_control m c some near
    by false true one = opened_user m c some near
    by false false one = dm_after Responder m.dlci c m.account.held n m (omega arith) near

-- ---- UA

ua_after : (m : Mux) (n : ℕ) (c : Connections) → 0 < m.dlci → IsNear m.role m.dlci c m → After m.role m.dlci (moved_lines (other_role m.role) Ua (n == 0) (n == m.dlci) true c) m.account.held (hears_ua n m)
ua_after m n c some near = by (n == 0) (n == m.dlci) (apart n m.dlci some)
  where
    by : (a b : Bool) → (a ≡ true → b ≡ false) → After m.role m.dlci (moved_lines (other_role m.role) Ua a b true c) m.account.held
        (cond a (control_answered m.asks (record m { control = turned (other_role m.role) Ua m.control })) (cond b (record m { user = turned (other_role m.role) Ua m.user; asks = user_answered m.asks }) m))
    by true true one = let never : true ≡ false = one refl in cc
    by true false one = control_ua m.role m.dlci (record { control = turned (other_role m.role) Ua c.control; user = c.user }) m.account.held m.asks (record m { control = turned (other_role m.role) Ua m.control }) (omega arith) (record {
      control = peer_near m.role Ua m.control c.control (λ e. cc) near.control;
      user = near.user;
      awaited = all_awaited m.dlci m.control m.user (turned (other_role m.role) Ua m.control) m.user m.answers (not_idle (other_role m.role) Ua m.control) (λ is. is) near.awaited;
    })
    by false true one = kept m.role m.dlci (record { control = c.control; user = turned (other_role m.role) Ua c.user }) m.account.held (record m { user = turned (other_role m.role) Ua m.user; asks = user_answered m.asks }) (omega arith) (record {
      control = near.control;
      user = peer_near m.role Ua m.user c.user (λ e. cc) near.user;
      awaited = all_awaited m.dlci m.control m.user m.control (turned (other_role m.role) Ua m.user) m.answers (λ is. is) (not_idle (other_role m.role) Ua m.user) near.awaited;
    })
    by false false one = kept m.role m.dlci c m.account.held m (omega arith) near

-- ---- DM

heard_dm_after : (m : Mux) (n : ℕ) (pf : Bool) (c : Connections) → IsNear m.role m.dlci c m → After m.role m.dlci (moved_lines (other_role m.role) Dm (n == 0) (n == m.dlci) pf c) m.account.held (hears_dm n m)
heard_dm_after m n pf c near =
    let c' : Connections = moved_lines (other_role m.role) Dm (n == 0) (n == m.dlci) pf c in
    let h : ℕ = m.account.held in
    let now : IsNear m.role m.dlci c' m = record {
      control = same_near m.role (other_role m.role) Dm (n == 0) pf m.control c.control (no_turn (other_role m.role) Dm c.control (inl refl)) near.control;
      user = same_near m.role (other_role m.role) Dm (n == m.dlci) pf m.user c.user (no_turn (other_role m.role) Dm c.user (inl refl)) near.user;
      awaited = near.awaited;
    } in
    keep_cond (After m.role m.dlci c' h) (n == 0) (control_refused m.asks m) (cond (n == m.dlci) (user_refused m.asks m) m) (control_dm m.role m.dlci c' h m.asks m (omega arith))
    (keep_cond (After m.role m.dlci c' h) (n == m.dlci) (user_refused m.asks m) m (user_dm m.role m.dlci c' h m.asks m (omega arith) now) (kept m.role m.dlci c' h m (omega arith) now))

-- ---- DISC

disc_near : (role : Role) (here : Bool) (held read : Dlc) → (here && is_left (other_role role) read) ≡ false → Near role held read → Near role held (turning (other_role role) Disc here true read)
disc_near role true held read none near = subst (Near role held) (sym (stays (other_role role) read none)) near
disc_near role false held read none near = near

not_left : (role : Role) (here : Bool) (held read : Dlc) → (here && is_left (other_role role) read) ≡ false → Near role held read → (here && is_left (other_role role) held) ≡ false
not_left role false held read none near = refl
not_left role true held read none near = by (is_left (other_role role) held) refl
  where
    by : (b : Bool) → is_left (other_role role) held ≡ b → b ≡ false
    by false is = refl
    by true is = let never : true ≡ false = sym (near_left role held read near is) ∙ none in cc

heard_disc_after : (m : Mux) (n : ℕ) (c : Connections) → m.closed ≡ None → ((n == 0) && is_left (other_role m.role) c.control) ≡ false → ((n == m.dlci) && is_left (other_role m.role) c.user) ≡ false → IsNear m.role m.dlci c m
    → After m.role m.dlci (moved_lines (other_role m.role) Disc (n == 0) (n == m.dlci) true c) m.account.held (hears_disc n m)
heard_disc_after m n c standing no_control no_user near =
    disc_after m.role m.dlci (moved_lines (other_role m.role) Disc (n == 0) (n == m.dlci) true c) m.account.held (other_role m.role) n m standing (omega arith)
    (not_left m.role (n == 0) m.control c.control no_control near.control) (not_left m.role (n == m.dlci) m.user c.user no_user near.user)
    (record { control = disc_near m.role (n == 0) m.control c.control no_control near.control; user = disc_near m.role (n == m.dlci) m.user c.user no_user near.user; awaited = near.awaited }) refl

-- ---- UIH

grant_less : (a b k k' p p' : Bool) (s n : ℕ) → (a ≡ true → b ≡ false) → k ≡ k' → (p ≡ true → p' ≡ true) → cond a (cond k s 0) (cond (b && p) n 0) ≤ cond (a && k') s 0 + cond (b && p') n 0
grant_less true true k k' p p' s n one same more = let never : true ≡ false = one refl in cc
grant_less true false k k' p p' s n one same more = subst (λ (x : Bool). cond k s 0 ≤ cond x s 0 + 0) same (omega arith)
grant_less false false k k' p p' s n one same more = omega arith
grant_less false true k k' false p' s n one same more = omega arith
grant_less false true k k' true p' s n one same more = subst (λ (x : Bool). n ≤ 0 + cond x n 0) (sym (more refl)) (omega arith)

-- what is granted, by the channel of the frame
granted_is : (d : ℕ) (role : Role) (c : Connections) (f : PlainFrame) → carries f.kind ≡ true
    → granted_by d role c (record { from = other_role role; frame = f }) ≡ cond ((f.dlci == 0) && not (is_over c)) (sum_by (stated_by d) (messages f.octets)) 0 + cond ((f.dlci == d) && carries_on c) (credit_octet f.credits) 0
granted_is d role c f carries_is =
    let here : (n : ℕ) → is_data n (other_role role) (record { from = other_role role; frame = f }) ≡ (f.dlci == n) = λ n.
    ap (λ (b : Bool). b && ((f.dlci == n) && carries f.kind)) (same_role (other_role role)) ∙ ap (λ (b : Bool). (f.dlci == n) && b) carries_is ∙ and_true (f.dlci == n) in
    ap (λ (b : Bool). cond (b && not (is_over c)) (sum_by (stated_by d) (messages f.octets)) 0 + cond (is_data d (other_role role) (record { from = other_role role; frame = f }) && carries_on c) (credit_octet f.credits) 0) (here 0)
    ∙ ap (λ (b : Bool). cond ((f.dlci == 0) && not (is_over c)) (sum_by (stated_by d) (messages f.octets)) 0 + cond (b && carries_on c) (credit_octet f.credits) 0) (here d)
  where
    and_true : (b : Bool) → (b && true) ≡ b
    and_true true = refl
    and_true false = refl

counted : (u c u' c' : Bool) → u' ≡ u → c' ≡ c → (not u && not c) ≡ not (u' || c')
counted true c u' c' su sc = sym (ap (λ (b : Bool). not (b || c')) su)
counted false c u' c' su sc = sym (ap (λ (b : Bool). not (b || c')) su ∙ ap not sc)

open_read : (role : Role) (held read : Dlc) → Near role held read → is_open held ≡ true → is_open read ≡ true
open_read role held read (inl same) is = ap is_open same ∙ is
open_read role held read (inr (r, h, a)) is = let never : false ≡ true = sym (ap is_open h) ∙ is in cc

passes : (n o e o' e' : Bool) → (o ≡ true → o' ≡ true) → e' ≡ e → (n && (o && not e)) ≡ true → (o' && not e') ≡ true
passes false o e o' e' more same is = let never : false ≡ true = is in cc
passes true false e o' e' more same is = let never : false ≡ true = is in cc
passes true true e o' e' more same is = ap (λ (b : Bool). b && not e') (more refl) ∙ ap not same ∙ is

uih_after : (m : Mux) (f : PlainFrame) (c : Connections) → 0 < m.dlci → carries f.kind ≡ true → IsNear m.role m.dlci c m
    → After m.role m.dlci (moved_lines (other_role m.role) Uih (f.dlci == 0) (f.dlci == m.dlci) f.pf c) (m.account.held + granted_by m.dlci m.role c (record { from = other_role m.role; frame = f })) (hears_uih f m)
uih_after m f c some carries_is near =
    let s : ℕ = sum_by (stated_by m.dlci) (messages f.octets) in
    let n : ℕ = credit_octet f.credits in
    let user_ended = near_ended m.role m.user c.user near.user in
    let control_ended = near_ended m.role m.control c.control near.control in
    let b : Bound m.dlci m.control m.user m.account.held m = record { dlci_is = refl; control_is = refl; user_is = refl; held_is = omega arith; awaited = near.awaited } in
    let bound = uih_bound m.dlci m.control m.user m.account.held f m b in
    let less = grant_less (f.dlci == 0) (f.dlci == m.dlci) (not (is_ended m.user) && not (is_ended m.control)) (not (is_over c)) (may_pass m) (carries_on c) s n (apart f.dlci m.dlci some)
    (counted (is_ended m.user) (is_ended m.control) (is_ended c.user) (is_ended c.control) user_ended control_ended)
    (passes (is_none m.closed) (is_open m.user) (is_ended m.control) (is_open c.user) (is_ended c.control) (open_read m.role m.user c.user near.user) control_ended) in
    let grants = granted_is m.dlci m.role c f carries_is in
    let held = bound.held_is in
    let x : Mux = hears_uih f m in
    record {
      held_is = omega (arith, less, grants, held);
      near = λ stands. record {
        control = subst (λ (dlc : Dlc). Near m.role dlc (turning (other_role m.role) Uih (f.dlci == 0) f.pf c.control)) (sym bound.control_is) (same_near m.role (other_role m.role) Uih (f.dlci == 0) f.pf m.control c.control (no_turn (other_role m.role) Uih c.control (inr refl)) near.control);
        user = subst (λ (dlc : Dlc). Near m.role dlc (turning (other_role m.role) Uih (f.dlci == m.dlci) f.pf c.user)) (sym bound.user_is) (same_near m.role (other_role m.role) Uih (f.dlci == m.dlci) f.pf m.user c.user (no_turn (other_role m.role) Uih c.user (inr refl)) near.user);
        awaited = subst (λ (dlc : Dlc). AllAwaited m.dlci dlc x.user x.answers) (sym bound.control_is) (subst (λ (dlc : Dlc). AllAwaited m.dlci m.control dlc x.answers) (sym bound.user_is) bound.awaited);
      };
    }

-- ---- a frame of each kind

grown : (role : Role) (d : ℕ) (c : Connections) (h g : ℕ) (x : Mux) → After role d c h x → After role d c (h + g) x
grown role d c h g x a = let held = a.held_is in record { held_is = omega (arith, held); near = a.near }

-- without the P/F bit nothing happens
with_pf : (m : Mux) (c : Connections) (kind : MuxKind) (a b pf : Bool) (x : Mux) → IsNear m.role m.dlci c m → (pf ≡ true → After m.role m.dlci (moved_lines (other_role m.role) kind a b true c) m.account.held x)
    → After m.role m.dlci (moved_lines (other_role m.role) kind a b pf c) m.account.held (cond pf x m)
with_pf m c kind a b true x near now = now refl
with_pf m c kind a b false x near now = kept m.role m.dlci (moved_lines (other_role m.role) kind a b false c) m.account.held m (omega arith) (record {
  control = near_if m.role a m.control c.control c.control near.control near.control;
  user = near_if m.role b m.user c.user c.user near.user near.user;
  awaited = near.awaited;
})

neither : (p a b : Bool) → p ≡ true → (p && (a || b)) ≡ false → (a ≡ false) × (b ≡ false)
neither p true b is none = let never : true ≡ false = sym (ap (λ (x : Bool). x && true) is) ∙ none in cc
neither p false b is none = (refl, sym (ap (λ (x : Bool). x && b) is) ∙ none)

-- a frame of the peer that does not close the multiplexer by the frames
pub kind_after : (m : Mux) (f : PlainFrame) (kind : MuxKind) (c : Connections) (closing : Closing) → f.kind ≡ kind → 0 < m.dlci → m.closed ≡ None → is_closed_by m.dlci (other_role m.role) c closing kind f.dlci f.pf ≡ false → IsNear m.role m.dlci c m
    → After m.role m.dlci (moved_lines (other_role m.role) kind (f.dlci == 0) (f.dlci == m.dlci) f.pf c) (m.account.held + granted_by m.dlci m.role c (record { from = other_role m.role; frame = f })) (hears_kind kind f m)
kind_after m f Sabm c closing is some standing last near =
    grown m.role m.dlci (moved_lines (other_role m.role) Sabm (f.dlci == 0) (f.dlci == m.dlci) f.pf c) m.account.held (granted_by m.dlci m.role c (record { from = other_role m.role; frame = f })) (hears_kind Sabm f m)
    (with_pf m c Sabm (f.dlci == 0) (f.dlci == m.dlci) f.pf (hears_sabm m.role f.dlci m) near (λ p. sabm_after m.role m f.dlci c some near))
kind_after m f Ua c closing is some standing last near =
    grown m.role m.dlci (moved_lines (other_role m.role) Ua (f.dlci == 0) (f.dlci == m.dlci) f.pf c) m.account.held (granted_by m.dlci m.role c (record { from = other_role m.role; frame = f })) (hears_kind Ua f m)
    (with_pf m c Ua (f.dlci == 0) (f.dlci == m.dlci) f.pf (hears_ua f.dlci m) near (λ p. ua_after m f.dlci c some near))
kind_after m f Dm c closing is some standing last near =
    grown m.role m.dlci (moved_lines (other_role m.role) Dm (f.dlci == 0) (f.dlci == m.dlci) f.pf c) m.account.held (granted_by m.dlci m.role c (record { from = other_role m.role; frame = f })) (hears_kind Dm f m)
    (heard_dm_after m f.dlci f.pf c near)
kind_after m f Disc c closing is some standing last near =
    grown m.role m.dlci (moved_lines (other_role m.role) Disc (f.dlci == 0) (f.dlci == m.dlci) f.pf c) m.account.held (granted_by m.dlci m.role c (record { from = other_role m.role; frame = f })) (hears_kind Disc f m)
    (with_pf m c Disc (f.dlci == 0) (f.dlci == m.dlci) f.pf (hears_disc f.dlci m) near (λ p.
    let none = neither f.pf ((f.dlci == 0) && is_left (other_role m.role) c.control) ((f.dlci == m.dlci) && is_left (other_role m.role) c.user) p last in
    heard_disc_after m f.dlci c standing none.0 none.1 near))
kind_after m f Uih c closing is some standing last near = uih_after m f c some (ap carries is) near
