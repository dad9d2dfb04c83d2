-- A responder that does not leave: it answers each SABM and DISC once, and says nothing else that opens or closes a connection.
use Rattle.std.proofs.Common.{arith, Bool, true, false, cond, ◌&&◌, ◌==◌, ◌≡◌, ◌≤◌, ◌+◌, ◌*◌, ◌-◌, ℕ, List, [], ◌∷◌, Option, Some, None, sym, ap, subst, ◌∙◌}
use Rattle.std.specs.Prelude.{not, nat_lt}
use Rattle.push_model.specs.rfcomm_frames.specs.declared.frame.MuxKind.{MuxKind}
use Rattle.push_model.specs.rfcomm_frames.specs.declared.frame.MuxKind.TheVariants.{Sabm, Ua, Dm, Disc, Uih}
use Rattle.push_model.specs.rfcomm_frames.specs.declared.connection.Role.{Role}
use Rattle.push_model.specs.rfcomm_frames.specs.declared.connection.Role.TheVariants.{Initiator, Responder}
use Rattle.push_model.specs.rfcomm_frames.specs.declared.connection.Dlc.{Dlc}
use Rattle.push_model.specs.rfcomm_frames.specs.declared.connection.Dlc.TheVariants.{Idle, Asked, Open, Ended}
use Rattle.push_model.specs.rfcomm_frames.specs.Frames.{PlainFrame}
use Rattle.push_model.specs.rfcomm_frames.specs.FrameReading.{messages, is_empty}
use Rattle.push_model.specs.rfcomm_frames.specs.Connections.{other_role, turned, is_left, is_ended}
use Rattle.push_model.specs.rfcomm_model.specs.declared.state.MuxReason.{MuxReason}
use Rattle.push_model.specs.rfcomm_model.specs.declared.state.MuxReason.TheVariants as reasons
use Rattle.push_model.specs.rfcomm_model.specs.declared.state.Command.TheVariants.{OpenControl, Agree, OpenUser, Signal, LeaveUser, LeaveControl}
use Rattle.push_model.specs.rfcomm_model.specs.declared.state.Asks.{Asks}
use Rattle.push_model.specs.rfcomm_model.specs.declared.state.Asks.TheVariants.{Nothing, Due, Awaited}
use Rattle.push_model.specs.rfcomm_model.specs.Machine.{Mux, may_pass, is_ready, closes}
use Rattle.push_model.specs.rfcomm_model.specs.Hearing.{has_room, answering, says_dm, signals_next, opens_control, opens_user, hears_sabm, ends, hears_disc, hears_uih, hears_kind, hears_settled, hears_frame}
use Rattle.push_model.specs.rfcomm_model.specs.Saying.{Said, says, says_data, says_grant, first_of, says_command, says_answer}
use Rattle.push_model.specs.rfcomm_model.specs.Written.{response_frame, grant_frame, data_frame}
use Rattle.push_laws.proofs.Ordering.{AllPlain, Back, Each, Forth, IsSignal, OfResponder, Side, Signals, answer_of, answers_in, answers_side, closes_side, command_of, counted_side, dm_side, elsewhere_in, more_room, msc_plain, side_if, signalling_only, uih_side}

-- ---- the responder hears

controls_r : (f : PlainFrame) → f.dlci ≡ 0 → AllPlain (messages f.octets) → OfResponder Uih f
controls_r f here plain = (here, plain)

abbrev pub R : ℕ → Mux → Type 0
R t m = Side OfResponder Signals Responder t m

r_if : (t : ℕ) (b : Bool) (x y : Mux) → R t x → R t y → R t (cond b x y)
r_if t b x y p q = side_if OfResponder Signals signalling_only controls_r Responder t b x y p q

r_more : (t k : ℕ) (m : Mux) → t ≤ k → R t m → R k m
r_more t k m less s = more_room OfResponder Signals signalling_only controls_r Responder t k m less s

r_closes : (t : ℕ) (reason : MuxReason) (m : Mux) → R t m → R t (closes reason m)
r_closes t reason m s = closes_side OfResponder Signals signalling_only controls_r Responder t reason m s

r_answers : (t : ℕ) (f : PlainFrame) (m : Mux) → OfResponder f.kind f → R t m → R (t + answer_of f.kind) (answering f m)
r_answers t f m q s = answers_side OfResponder Signals signalling_only controls_r Responder t f m q s

r_dm : (t n : ℕ) (m : Mux) → R t m → R (t + 1) (says_dm n m)
r_dm t n m s = dm_side OfResponder Signals signalling_only controls_r Responder t n m tt s

r_control : (t : ℕ) (m : Mux) → R t m → R (t + 1) (opens_control m)
r_control t m s =
    let x : Mux = record m { control = turned Initiator Sabm m.control } in
    let set : R t x = record { role_is = s.role_is; dlci_is = s.dlci_is; answers = s.answers; few = s.few; wish = s.wish } in
    r_if (t + 1) (is_ended m.control) (says_dm 0 m) (cond (has_room m) (answering (response_frame m.role Ua 0) x) m) (r_dm t 0 m s)
    (r_if (t + 1) (has_room m) (answering (response_frame m.role Ua 0) x) m (r_answers t (response_frame m.role Ua 0) x tt set) (r_more t (t + 1) m (omega arith) s))

signal_next : (dlc : Dlc) (asks : Asks) → IsSignal asks → IsSignal (signals_next dlc asks)
signal_next Idle Nothing w = tt
signal_next Idle (Due command) w = w
signal_next Idle (Awaited command) w = w
signal_next Asked asks w = w
signal_next Open asks w = w
signal_next Ended asks w = w

r_user : (t : ℕ) (m : Mux) → R t m → R (t + 1) (opens_user m)
r_user t m s =
    let x : Mux = record m { user = turned Initiator Sabm m.user; asks = signals_next m.user m.asks } in
    let set : R t x = record { role_is = s.role_is; dlci_is = s.dlci_is; answers = s.answers; few = s.few; wish = signal_next m.user m.asks s.wish } in
    r_if (t + 1) (not m.agreed) (closes reasons.NoCreditFlow m) (cond (is_ended m.user) (says_dm m.dlci m) (cond (has_room m) (answering (response_frame m.role Ua m.dlci) x) m))
    (r_more t (t + 1) (closes reasons.NoCreditFlow m) (omega arith) (r_closes t reasons.NoCreditFlow m s))
    (r_if (t + 1) (is_ended m.user) (says_dm m.dlci m) (cond (has_room m) (answering (response_frame m.role Ua m.dlci) x) m) (r_dm t m.dlci m s)
    (r_if (t + 1) (has_room m) (answering (response_frame m.role Ua m.dlci) x) m (r_answers t (response_frame m.role Ua m.dlci) x tt set) (r_more t (t + 1) m (omega arith) s)))

r_sabm : (t : ℕ) (role : Role) (n : ℕ) (m : Mux) → R t m → R (t + 1) (hears_sabm role n m)
r_sabm t Initiator n m s = r_dm t n m s
r_sabm t Responder n m s =
    r_if (t + 1) (n == 0) (opens_control m) (cond (n == m.dlci) (opens_user m) (says_dm n m)) (r_control t m s) (r_if (t + 1) (n == m.dlci) (opens_user m) (says_dm n m) (r_user t m s) (r_dm t n m s))

r_ends : (t : ℕ) (closed : Option MuxReason) (m : Mux) → R t m → R t (ends closed m)
r_ends t None m s = r_closes t reasons.Disc m s
r_ends t (Some reason) m s = s

r_left : (t n : ℕ) (m x : Mux) → R t m → R t x → R (t + 1) (cond (has_room m) (answering (response_frame m.role Ua n) (ends m.closed x)) m)
r_left t n m x s v = r_if (t + 1) (has_room m) (answering (response_frame m.role Ua n) (ends m.closed x)) m (r_answers t (response_frame m.role Ua n) (ends m.closed x) tt (r_ends t m.closed x v)) (r_more t (t + 1) m (omega arith) s)

r_disc : (t n : ℕ) (m : Mux) → R t m → R (t + 1) (hears_disc n m)
r_disc t n m s =
    let from : Role = other_role m.role in
    let x : Mux = record m { control = Ended } in
    let y : Mux = record m { user = Ended } in
    let left_control : Mux = cond (has_room m) (answering (response_frame m.role Ua 0) (ends m.closed x)) m in
    let left_user : Mux = cond (has_room m) (answering (response_frame m.role Ua m.dlci) (ends m.closed y)) m in
    r_if (t + 1) ((n == 0) && is_left from m.control) left_control (cond ((n == m.dlci) && is_left from m.user) left_user (says_dm n m))
    (r_left t 0 m x s (record { role_is = s.role_is; dlci_is = s.dlci_is; answers = s.answers; few = s.few; wish = s.wish }))
    (r_if (t + 1) ((n == m.dlci) && is_left from m.user) left_user (says_dm n m) (r_left t m.dlci m y s (record { role_is = s.role_is; dlci_is = s.dlci_is; answers = s.answers; few = s.few; wish = s.wish })) (r_dm t n m s))

-- it answers each PN for another channel by DM
pub r_uih : (t : ℕ) (f : PlainFrame) (m : Mux) → R t m → R (t + elsewhere_in f) (hears_uih f m)
r_uih t f m s = counted_side OfResponder Signals signalling_only controls_r Responder t f m (λ some g. tt) s

r_kind : (t : ℕ) (kind : MuxKind) (f : PlainFrame) (m : Mux) → Forth kind f → R t m → R (t + command_of kind) (hears_kind kind f m)
r_kind t Sabm f m forth s = r_if (t + 1) f.pf (hears_sabm m.role f.dlci m) m (r_sabm t m.role f.dlci m s) (r_more t (t + 1) m (omega arith) s)
r_kind t Ua f m forth s = absurd forth
r_kind t Dm f m forth s = absurd forth
r_kind t Disc f m forth s = r_if (t + 1) f.pf (hears_disc f.dlci m) m (r_disc t f.dlci m s) (r_more t (t + 1) m (omega arith) s)
r_kind t Uih f m forth s = r_more t (t + 0) (hears_uih f m) (omega arith) (uih_side OfResponder Signals signalling_only controls_r Responder t f m forth s)

r_settled : (t : ℕ) (kind : MuxKind) (f : PlainFrame) (m : Mux) → R t m → R (t + command_of kind) (hears_settled kind f m)
r_settled t Sabm f m s = r_if (t + 1) f.pf (says_dm f.dlci m) m (r_dm t f.dlci m s) (r_more t (t + 1) m (omega arith) s)
r_settled t Ua f m s = r_more t (t + 0) m (omega arith) s
r_settled t Dm f m s = r_more t (t + 0) m (omega arith) s
r_settled t Disc f m s = r_if (t + 1) f.pf (hears_disc f.dlci m) m (r_disc t f.dlci m s) (r_more t (t + 1) m (omega arith) s)
r_settled t Uih f m s = r_more t (t + 0) m (omega arith) s

pub r_frame : (t : ℕ) (closed : Option MuxReason) (f : PlainFrame) (m : Mux) → Forth f.kind f → R t m → R (t + command_of f.kind) (hears_frame closed f m)
r_frame t None f m forth s = r_kind t f.kind f m forth s
r_frame t (Some reasons.Dm) f m forth s = r_settled t f.kind f m s
r_frame t (Some reasons.Disc) f m forth s = r_settled t f.kind f m s
r_frame t (Some reasons.NoCreditFlow) f m forth s = r_more t (t + command_of f.kind) m (omega arith) s
r_frame t (Some reasons.Overdrawn) f m forth s = r_more t (t + command_of f.kind) m (omega arith) s
r_frame t (Some reasons.BadFrame) f m forth s = r_more t (t + command_of f.kind) m (omega arith) s
r_frame t (Some reasons.CreditOverflow) f m forth s = r_more t (t + command_of f.kind) m (omega arith) s

-- ---- the responder speaks

pub record SaidBack (t : ℕ) (said : Said) : Type 0 where
  pub back : Back said.frame.kind said.frame
  pub rest : ℕ
  pub after : R rest said.after
  pub sum : rest + answer_of said.frame.kind ≤ t

abbrev pub SaysBack : ℕ → Option Said → Type 0
SaysBack t None = Unit {0}
SaysBack t (Some said) = SaidBack t said

back_of : (kind : MuxKind) (f : PlainFrame) → OfResponder kind f → Back kind f
back_of Sabm f q = absurd q
back_of Ua f q = tt
back_of Dm f q = tt
back_of Disc f q = absurd q
back_of Uih f q = λ here. q.1

back_if : (t : ℕ) (b : Bool) (said : Said) → SaidBack t said → SaysBack t (cond b (Some said) None)
back_if t true said s = s
back_if t false said s = tt

back_first : (t : ℕ) (x y : Option Said) → SaysBack t x → SaysBack t y → SaysBack t (first_of x y)
back_first t None y p q = q
back_first t (Some said) y p q = p

not_control : (d : ℕ) → d ≡ 18 → (d == 0) ≡ true → ⊥
not_control d is here = let f : false ≡ true = sym (ap (λ (n : ℕ). n == 0) is) ∙ here in cc

back_grant : (t n : ℕ) (m : Mux) → R t m → SaysBack t (cond (may_pass m && nat_lt 0 n) (Some (says (grant_frame m.role m.dlci n) (record m { account = record { cap = m.account.cap; held = m.account.held; peer = m.account.peer + n } }))) None)
back_grant t n m s =
    back_if t (may_pass m && nat_lt 0 n) (says (grant_frame m.role m.dlci n) (record m { account = record { cap = m.account.cap; held = m.account.held; peer = m.account.peer + n } })) (record {
      back = λ here. absurd (not_control m.dlci s.dlci_is here);
      rest = t;
      after = record { role_is = s.role_is; dlci_is = s.dlci_is; answers = s.answers; few = s.few; wish = s.wish };
      sum = omega arith;
    })

back_free : (t : ℕ) (m : Mux) → R t m → SaysBack t (first_of (says_grant m) (says_data m))
back_free t m s =
    let y : Mux = record m { waiting = []; account = record { cap = m.account.cap; held = m.account.held - 1; peer = m.account.peer } } in
    back_first t (says_grant m) (says_data m) (back_grant t _ m s)
    (back_if t (is_ready m && (not (is_empty m.waiting) && nat_lt 0 m.account.held)) (says (data_frame m.role m.dlci m.waiting) y) (record {
      back = λ here. absurd (not_control m.dlci s.dlci_is here);
      rest = t;
      after = record { role_is = s.role_is; dlci_is = s.dlci_is; answers = s.answers; few = s.few; wish = s.wish };
      sum = omega arith;
    }))

back_asks : (t : ℕ) (asks : Asks) (m : Mux) → IsSignal asks → R t m → SaysBack t (says_command asks m)
back_asks t Nothing m w s = back_free t m s
back_asks t (Due OpenControl) m w s = absurd w
back_asks t (Due Agree) m w s = absurd w
back_asks t (Due OpenUser) m w s = absurd w
back_asks t (Due Signal) m w s = record {
  back = λ here. msc_plain true (4 * m.dlci + 3) 0x8D;
  rest = t;
  after = record { role_is = s.role_is; dlci_is = s.dlci_is; answers = s.answers; few = s.few; wish = tt };
  sum = omega arith;
}
back_asks t (Due LeaveUser) m w s = absurd w
back_asks t (Due LeaveControl) m w s = absurd w
back_asks t (Awaited command) m w s = back_free t m s

pub back_answers : (t : ℕ) (answers : List PlainFrame) (m : Mux) → m.answers ≡ answers → R t m → SaysBack t (says_answer answers m)
back_answers t [] m is s = back_asks t m.asks m s.wish s
back_answers t (answer ∷ rest) m is s =
    let each : Each OfResponder (answer ∷ rest) = subst (Each OfResponder) is s.answers in
    let counted = ap answers_in is in
    let few = s.few in
    record {
      back = back_of answer.kind answer each.0;
      rest = answers_in rest;
      after = record { role_is = s.role_is; dlci_is = s.dlci_is; answers = each.1; few = omega arith; wish = s.wish };
      sum = omega (arith, counted, few);
    }
