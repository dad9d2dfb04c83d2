-- An initiator: it says SABM, or a frame of the user channel, only where none of its commands and no answer to one is under way.
use Rattle.std.proofs.Common.{arith, Bool, true, false, cond, ◌&&◌, ◌==◌, ◌≡◌, ◌≤◌, ◌<◌, ◌+◌, ◌*◌, ◌-◌, ℕ, List, [], ◌∷◌, Option, Some, None, refl, sym, ap, ap₂, subst, ◌∙◌}
use Rattle.std.specs.Prelude.{not, nat_lt, is_none}
use Rattle.push_model.specs.rfcomm_frames.specs.declared.frame.MuxKind.{MuxKind}
use Rattle.push_model.specs.rfcomm_frames.specs.declared.frame.MuxKind.TheVariants.{Sabm, Ua, Dm, Disc, Uih}
use Rattle.push_model.specs.rfcomm_frames.specs.declared.connection.Role.{Role}
use Rattle.push_model.specs.rfcomm_frames.specs.declared.connection.Role.TheVariants.{Initiator}
use Rattle.push_model.specs.rfcomm_frames.specs.declared.connection.Dlc.{Dlc}
use Rattle.push_model.specs.rfcomm_frames.specs.declared.connection.Dlc.TheVariants.{Idle, Asked, Open, Ended}
use Rattle.push_model.specs.rfcomm_frames.specs.Frames.{PlainFrame}
use Rattle.push_model.specs.rfcomm_frames.specs.FrameReading.{messages, is_empty}
use Rattle.push_model.specs.rfcomm_frames.specs.Connections.{other_role, turned, asked, agreed, left, is_open, is_ended}
use Rattle.push_model.specs.rfcomm_model.specs.declared.state.MuxReason.{MuxReason}
use Rattle.push_model.specs.rfcomm_model.specs.declared.state.MuxReason.TheVariants as reasons
use Rattle.push_model.specs.rfcomm_model.specs.declared.state.Command.TheVariants.{OpenControl, Agree, OpenUser, Signal, LeaveUser, LeaveControl}
use Rattle.push_model.specs.rfcomm_model.specs.declared.state.Asks.{Asks}
use Rattle.push_model.specs.rfcomm_model.specs.declared.state.Asks.TheVariants.{Nothing, Due, Awaited}
use Rattle.push_model.specs.rfcomm_model.specs.Machine.{Mux, may_pass, is_ready, closes}
use Rattle.push_model.specs.rfcomm_model.specs.Hearing.{control_answered, user_answered, hears_ua, control_refused, user_refused, hears_dm, own_credits, hears_kind, hears_settled, hears_frame}
use Rattle.push_model.specs.rfcomm_model.specs.Saying.{Said, passed_on, says, says_data, says_grant, first_of, says_command, says_answer, next}
use Rattle.push_model.specs.rfcomm_model.specs.Written.{grant_frame, data_frame}
use Rattle.push_laws.specs.Premises.{leaves_or_controls}
use Rattle.push_laws.proofs.Ordering.{AllPlain, Back, Each, Forth, OfInitiator, Side, Wish, Wishes, answer_of, answers_in, closes_side, command_of, is_still, msc_plain, pn_plain, side_if, uih_side, wishing}

-- ---- the initiator hears

controls_i : (f : PlainFrame) → f.dlci ≡ 0 → AllPlain (messages f.octets) → OfInitiator Uih f
controls_i f here plain = (here, plain)

abbrev pub I : ℕ → ℕ → Mux → Type 0
I n t m = Side OfInitiator (Wishes n) Initiator t m

i_if : (n t : ℕ) (b : Bool) (x y : Mux) → I n t x → I n t y → I n t (cond b x y)
i_if n t b x y p q = side_if OfInitiator (Wishes n) (wishing n) controls_i Initiator t b x y p q

i_closes : (n t : ℕ) (reason : MuxReason) (m : Mux) → I n t m → I n t (closes reason m)
i_closes n t reason m s = closes_side OfInitiator (Wishes n) (wishing n) controls_i Initiator t reason m s

wish_less : (a b : ℕ) (asks : Asks) (u : Dlc) → b ≤ a → Wish a asks u → Wish b asks u
wish_less a b Nothing u less w = omega (arith, less, w)
wish_less a b (Due OpenControl) u less w = let few = w.0 in (omega (arith, less, few), w.1)
wish_less a b (Due Agree) u less w = let few = w.0 in (omega (arith, less, few), w.1)
wish_less a b (Due OpenUser) u less w = let few = w.0 in (omega (arith, less, few), w.1)
wish_less a b (Due Signal) u less w = omega (arith, less, w)
wish_less a b (Due LeaveUser) u less w = tt
wish_less a b (Due LeaveControl) u less w = w
wish_less a b (Awaited OpenControl) u less w = let few = w.0 in (omega (arith, less, few), w.1)
wish_less a b (Awaited Agree) u less w = let few = w.0 in (omega (arith, less, few), w.1)
wish_less a b (Awaited OpenUser) u less w = let few = w.0 in (omega (arith, less, few), w.1)
wish_less a b (Awaited Signal) u less w = omega (arith, less, w)
wish_less a b (Awaited LeaveUser) u less w = w
wish_less a b (Awaited LeaveControl) u less w = w

wishes_less : (a b : ℕ) (closed : Option MuxReason) (asks : Asks) (u : Dlc) → b ≤ a → Wishes a closed asks u → Wishes b closed asks u
wishes_less a b None asks u less w = wish_less a b asks u less w
wishes_less a b (Some reason) asks u less w = w

pub fewer : (a b t : ℕ) (m : Mux) → b ≤ a → I a t m → I b t m
fewer a b t m less s = record { role_is = s.role_is; dlci_is = s.dlci_is; answers = s.answers; few = s.few; wish = wishes_less a b m.closed m.asks m.user less s.wish }

pub standing_wish : (n : ℕ) (closed : Option MuxReason) (asks : Asks) (u : Dlc) → closed ≡ None → Wish n asks u → Wishes n closed asks u
standing_wish n closed asks u is w = subst (λ (c : Option MuxReason). Wishes n c asks u) (sym is) w

wish_of : (n : ℕ) (closed : Option MuxReason) (asks : Asks) (u : Dlc) → closed ≡ None → Wishes n closed asks u → Wish n asks u
wish_of n closed asks u is w = subst (λ (c : Option MuxReason). Wishes n c asks u) is w

still_agreed : (u : Dlc) → is_still u ≡ true → is_still (agreed u) ≡ true
still_agreed Idle s = refl
still_agreed Asked s = absurd (let f : false ≡ true = s in cc)
still_agreed Open s = absurd (let f : false ≡ true = s in cc)
still_agreed Ended s = refl

-- UA on the user channel
user_wish : (n : ℕ) (asks : Asks) (u : Dlc) → Wish (1 + n) asks u → Wish n (user_answered asks) (agreed u)
user_wish n Nothing u w = omega (arith, w)
user_wish n (Due OpenControl) u w = absurd (let few = w.0 in omega (arith, few))
user_wish n (Due Agree) u w = absurd (let few = w.0 in omega (arith, few))
user_wish n (Due OpenUser) u w = absurd (let few = w.0 in omega (arith, few))
user_wish n (Due Signal) u w = omega (arith, w)
user_wish n (Due LeaveUser) u w = tt
user_wish n (Due LeaveControl) u w = still_agreed u w
user_wish n (Awaited OpenControl) u w = let few = w.0 in (omega (arith, few), still_agreed u w.1)
user_wish n (Awaited Agree) u w = absurd (let few = w.0 in omega (arith, few))
user_wish n (Awaited OpenUser) u w = let few = w.0 in omega (arith, few)
user_wish n (Awaited Signal) u w = absurd (omega (arith, w))
user_wish n (Awaited LeaveUser) u w = still_agreed u w
user_wish n (Awaited LeaveControl) u w = still_agreed u w

-- UA on the control channel
control_side : (n t : ℕ) (asks : Asks) (m : Mux) → m.closed ≡ None → m.asks ≡ asks → I (1 + n) t m → I n t (control_answered asks m)
control_side n t Nothing m standing is s = fewer (1 + n) n t m (omega arith) s
control_side n t (Due command) m standing is s = fewer (1 + n) n t m (omega arith) s
control_side n t (Awaited OpenControl) m standing is s =
    let w : Wish (1 + n) (Awaited OpenControl) m.user = subst (λ (a : Asks). Wish (1 + n) a m.user) is (wish_of (1 + n) m.closed m.asks m.user standing s.wish) in
    let few = w.0 in
    record { role_is = s.role_is; dlci_is = s.dlci_is; answers = s.answers; few = s.few; wish = standing_wish n m.closed (Due Agree) m.user standing (omega (arith, few), w.1) }
control_side n t (Awaited Agree) m standing is s = fewer (1 + n) n t m (omega arith) s
control_side n t (Awaited OpenUser) m standing is s = fewer (1 + n) n t m (omega arith) s
control_side n t (Awaited Signal) m standing is s = fewer (1 + n) n t m (omega arith) s
control_side n t (Awaited LeaveUser) m standing is s = fewer (1 + n) n t m (omega arith) s
control_side n t (Awaited LeaveControl) m standing is s = i_closes n t reasons.Disc m (fewer (1 + n) n t m (omega arith) s)

i_ua : (n t d : ℕ) (m : Mux) → m.closed ≡ None → I (1 + n) t m → I n t (hears_ua d m)
i_ua n t d m standing s =
    let x : Mux = record m { control = turned (other_role m.role) Ua m.control } in
    let y : Mux = record m { user = turned (other_role m.role) Ua m.user; asks = user_answered m.asks } in
    let wish : Wish n (user_answered m.asks) (turned (other_role m.role) Ua m.user) =
    subst (λ (r : Role). Wish n (user_answered m.asks) (turned (other_role r) Ua m.user)) (sym s.role_is) (user_wish n m.asks m.user (wish_of (1 + n) m.closed m.asks m.user standing s.wish)) in
    i_if n t (d == 0) (control_answered m.asks x) (cond (d == m.dlci) y m) (control_side n t m.asks x standing refl (record { role_is = s.role_is; dlci_is = s.dlci_is; answers = s.answers; few = s.few; wish = s.wish }))
    (i_if n t (d == m.dlci) y m (record { role_is = s.role_is; dlci_is = s.dlci_is; answers = s.answers; few = s.few; wish = standing_wish n m.closed (user_answered m.asks) (turned (other_role m.role) Ua m.user) standing wish })
    (fewer (1 + n) n t m (omega arith) s))

-- DM
control_refused_side : (n t : ℕ) (asks : Asks) (m : Mux) → I n t m → I n t (control_refused asks m)
control_refused_side n t Nothing m s = i_closes n t reasons.Dm m s
control_refused_side n t (Due command) m s = i_closes n t reasons.Dm m s
control_refused_side n t (Awaited OpenControl) m s = i_closes n t reasons.Dm m s
control_refused_side n t (Awaited Agree) m s = i_closes n t reasons.Dm m s
control_refused_side n t (Awaited OpenUser) m s = i_closes n t reasons.Dm m s
control_refused_side n t (Awaited Signal) m s = i_closes n t reasons.Dm m s
control_refused_side n t (Awaited LeaveUser) m s = i_closes n t reasons.Dm m s
control_refused_side n t (Awaited LeaveControl) m s = i_closes n t reasons.Disc m s

user_refused_side : (n t : ℕ) (asks : Asks) (m : Mux) → m.closed ≡ None → m.asks ≡ asks → I n t m → I n t (user_refused asks m)
user_refused_side n t Nothing m standing is s = i_closes n t reasons.Dm m s
user_refused_side n t (Due command) m standing is s = i_closes n t reasons.Dm m s
user_refused_side n t (Awaited OpenControl) m standing is s = i_closes n t reasons.Dm m s
user_refused_side n t (Awaited Agree) m standing is s = i_closes n t reasons.Dm m s
user_refused_side n t (Awaited OpenUser) m standing is s = i_closes n t reasons.Dm m s
user_refused_side n t (Awaited Signal) m standing is s = i_closes n t reasons.Dm m s
user_refused_side n t (Awaited LeaveUser) m standing is s =
    let w : Wish n (Awaited LeaveUser) m.user = subst (λ (a : Asks). Wish n a m.user) is (wish_of n m.closed m.asks m.user standing s.wish) in
    record { role_is = s.role_is; dlci_is = s.dlci_is; answers = s.answers; few = s.few; wish = standing_wish n m.closed (Due LeaveControl) m.user standing w }
user_refused_side n t (Awaited LeaveControl) m standing is s = i_closes n t reasons.Dm m s

i_dm : (n t d : ℕ) (m : Mux) → m.closed ≡ None → I n t m → I n t (hears_dm d m)
i_dm n t d m standing s =
    i_if n t (d == 0) (control_refused m.asks m) (cond (d == m.dlci) (user_refused m.asks m) m) (control_refused_side n t m.asks m s)
    (i_if n t (d == m.dlci) (user_refused m.asks m) m (user_refused_side n t m.asks m standing refl s) s)

i_kind : (n t : ℕ) (kind : MuxKind) (f : PlainFrame) (m : Mux) → Back kind f → m.closed ≡ None → I (answer_of kind + n) t m → I n t (hears_kind kind f m)
i_kind n t Sabm f m back standing s = absurd back
i_kind n t Ua f m back standing s = i_if n t f.pf (hears_ua f.dlci m) m (i_ua n t f.dlci m standing s) (fewer (1 + n) n t m (omega arith) s)
i_kind n t Dm f m back standing s = i_dm n t f.dlci m standing (fewer (1 + n) n t m (omega arith) s)
i_kind n t Disc f m back standing s = absurd back
i_kind n t Uih f m back standing s = uih_side OfInitiator (Wishes n) (wishing n) controls_i Initiator t f m back (fewer (answer_of Uih + n) n t m (omega arith) s)

i_settled : (n t : ℕ) (kind : MuxKind) (f : PlainFrame) (m : Mux) → Back kind f → I n t m → I n t (hears_settled kind f m)
i_settled n t Sabm f m back s = absurd back
i_settled n t Ua f m back s = s
i_settled n t Dm f m back s = s
i_settled n t Disc f m back s = absurd back
i_settled n t Uih f m back s = s

pub i_frame : (n t : ℕ) (closed : Option MuxReason) (f : PlainFrame) (m : Mux) → m.closed ≡ closed → Back f.kind f → I (answer_of f.kind + n) t m → I n t (hears_frame closed f m)
i_frame n t None f m is back s = i_kind n t f.kind f m back is s
i_frame n t (Some reasons.Dm) f m is back s = i_settled n t f.kind f m back (fewer (answer_of f.kind + n) n t m (omega arith) s)
i_frame n t (Some reasons.Disc) f m is back s = i_settled n t f.kind f m back (fewer (answer_of f.kind + n) n t m (omega arith) s)
i_frame n t (Some reasons.NoCreditFlow) f m is back s = fewer (answer_of f.kind + n) n t m (omega arith) s
i_frame n t (Some reasons.Overdrawn) f m is back s = fewer (answer_of f.kind + n) n t m (omega arith) s
i_frame n t (Some reasons.BadFrame) f m is back s = fewer (answer_of f.kind + n) n t m (omega arith) s
i_frame n t (Some reasons.CreditOverflow) f m is back s = fewer (answer_of f.kind + n) n t m (omega arith) s

-- ---- the initiator speaks

pub record SaidForth (n t : ℕ) (said : Said) : Type 0 where
  pub forth : Forth said.frame.kind said.frame
  pub soft : 0 < n → leaves_or_controls said.frame ≡ true
  pub after : I (n + command_of said.frame.kind) t said.after

abbrev pub SaysForth : ℕ → ℕ → Option Said → Type 0
SaysForth n t None = Unit {0}
SaysForth n t (Some said) = SaidForth n t said

forth_if : (n t : ℕ) (b : Bool) (said : Said) → (b ≡ true → SaidForth n t said) → SaysForth n t (cond b (Some said) None)
forth_if n t true said s = s refl
forth_if n t false said s = tt

forth_first : (n t : ℕ) (x y : Option Said) → SaysForth n t x → SaysForth n t y → SaysForth n t (first_of x y)
forth_first n t None y p q = q
forth_first n t (Some said) y p q = p

same_user : (a pf : Bool) (u : Dlc) → cond a (cond pf u u) u ≡ u
same_user true true u = refl
same_user true false u = refl
same_user false pf u = refl

first_true : (a b : Bool) → (a && b) ≡ true → a ≡ true
first_true true b e = refl
first_true false b e = absurd (let f : false ≡ true = e in cc)

last_true : (a b : Bool) → (a && b) ≡ true → b ≡ true
last_true true b e = e
last_true false b e = absurd (let f : false ≡ true = e in cc)

pass_open : (c d e : Bool) → (c && (d && e)) ≡ true → d ≡ true
pass_open true true e is = refl
pass_open true false e is = absurd (let f : false ≡ true = is in cc)
pass_open false d e is = absurd (let f : false ≡ true = is in cc)

abbrev fixed : Mux → Mux
fixed m = record m { role = Initiator; dlci = 18 }

is_fixed : (m : Mux) → m.role ≡ Initiator → m.dlci ≡ 18 → m ≡ fixed m
is_fixed m r d = ap₂ (λ (x : Role) (n : ℕ). (let y : Mux = record m { role = x; dlci = n } in y)) r d

module _ (n t : ℕ) (m : Mux) (answers : Each OfInitiator m.answers) (few : answers_in m.answers ≤ t) where
  -- a frame of the user channel
  on_user : (credits : Option ℕ) (octets : List ℕ) (pf : Bool) (x : Mux) → x.role ≡ Initiator → x.dlci ≡ 18 → x.answers ≡ m.answers → x.closed ≡ m.closed → x.asks ≡ m.asks → x.user ≡ m.user → n ≤ 0 → Wishes n m.closed m.asks m.user
      → SaidForth n t (says (record { dlci = 18; cr = true; kind = Uih; pf = pf; credits = credits; octets = octets }) x)
  on_user credits octets pf x role dlci same closed asks user none w = record {
    forth = λ here. absurd (let f : false ≡ true = here in cc);
    soft = λ some. absurd (omega (arith, none, some));
    after = record {
      role_is = role;
      dlci_is = dlci;
      answers = subst (Each OfInitiator) (sym same) answers;
      few = let also = ap answers_in same in omega (arith, also, few);
      wish = wishes_less n (n + 0) x.closed x.asks (cond (18 == x.dlci) (passed_on x.role Uih pf x.user) x.user) (omega arith)
          (subst (λ (r : Role). Wishes n x.closed x.asks (cond (18 == x.dlci) (passed_on r Uih pf x.user) x.user)) (sym role)
          (subst (λ (u : Dlc). Wishes n x.closed x.asks u) (sym (same_user (18 == x.dlci) pf x.user))
          (subst (λ (u : Dlc). Wishes n x.closed x.asks u) (sym user) (subst (λ (a : Asks). Wishes n x.closed a m.user) (sym asks) (subst (λ (c : Option MuxReason). Wishes n c m.asks m.user) (sym closed) w)))));
    };
  }

  abbrev mux : Mux
  mux = fixed m

  grants_forth : (k : ℕ) → (may_pass mux ≡ true → n ≤ 0) → Wishes n m.closed m.asks m.user
      → SaysForth n t (cond (may_pass mux && nat_lt 0 k) (Some (says (grant_frame Initiator 18 k) (record mux { account = record { cap = m.account.cap; held = m.account.held; peer = m.account.peer + k } }))) None)
  grants_forth k free w =
      let x : Mux = record mux { account = record { cap = m.account.cap; held = m.account.held; peer = m.account.peer + k } } in
      forth_if n t (may_pass mux && nat_lt 0 k) (says (grant_frame Initiator 18 k) x) (λ may. on_user (Some k) [] true x refl refl refl refl refl refl (free (first_true (may_pass mux) (nat_lt 0 k) may)) w)

  free_forth : (may_pass mux ≡ true → n ≤ 0) → Wishes n m.closed m.asks m.user → SaysForth n t (first_of (says_grant mux) (says_data mux))
  free_forth free w =
      let y : Mux = record mux { waiting = []; account = record { cap = m.account.cap; held = m.account.held - 1; peer = m.account.peer } } in
      forth_first n t (says_grant mux) (says_data mux) (grants_forth _ free w)
      (forth_if n t (is_ready mux && (not (is_empty m.waiting) && nat_lt 0 m.account.held)) (says (data_frame Initiator 18 m.waiting) y)
      (λ may. on_user None m.waiting false y refl refl refl refl refl refl (free (last_true _ (may_pass mux) (first_true (is_ready mux) (not (is_empty m.waiting) && nat_lt 0 m.account.held) may))) w))

  is_opened : may_pass mux ≡ true → is_open m.user ≡ true
  is_opened may = pass_open (is_none m.closed) (is_open m.user) (not (is_ended m.control)) may

  still_shut : (u : Dlc) → is_still u ≡ true → is_open u ≡ true → ⊥
  still_shut Idle s o = let f : false ≡ true = o in cc
  still_shut Asked s o = let f : false ≡ true = o in cc
  still_shut Open s o = let f : false ≡ true = s in cc
  still_shut Ended s o = let f : false ≡ true = o in cc

  still_asked : (u : Dlc) → is_still u ≡ true → is_open (asked u) ≡ false
  still_asked Idle s = refl
  still_asked Asked s = refl
  still_asked Open s = absurd (let f : false ≡ true = s in cc)
  still_asked Ended s = refl

  left_still : (u : Dlc) → is_still (left Initiator u) ≡ true
  left_still Idle = refl
  left_still Asked = refl
  left_still Open = refl
  left_still Ended = refl

  module _ (standing : m.closed ≡ None) where
    wishes : (k : ℕ) (asks : Asks) (u : Dlc) → Wish k asks u → Wishes k m.closed asks u
    wishes k asks u w = standing_wish k m.closed asks u standing w

    asks_forth : (asks : Asks) → m.asks ≡ asks → Wish n asks m.user → Wishes n m.closed m.asks m.user → SaysForth n t (says_command asks mux)
    asks_forth Nothing is w v = free_forth (λ may. w) v
    asks_forth (Due OpenControl) is w v =
        let none = w.0 in
        record { forth = tt; soft = λ some. absurd (omega (arith, none, some)); after = record { role_is = refl; dlci_is = refl; answers = answers; few = few; wish = wishes (n + 1) (Awaited OpenControl) m.user (omega (arith, none), w.1) } }
    asks_forth (Due Agree) is w v =
        let none = w.0 in
        record {
          forth = λ here. (pn_plain 0xF0 0 0 m.own 0 (own_credits mux)).1;
          soft = λ some. refl;
          after = record { role_is = refl; dlci_is = refl; answers = answers; few = few; wish = wishes (n + 0) (Awaited Agree) m.user (omega (arith, none), w.1) };
        }
    asks_forth (Due OpenUser) is w v =
        let none = w.0 in
        record {
          forth = tt;
          soft = λ some. absurd (omega (arith, none, some));
          after = record { role_is = refl; dlci_is = refl; answers = answers; few = few; wish = wishes (n + 1) (Awaited OpenUser) (asked m.user) (omega (arith, none), still_asked m.user w.1) };
        }
    asks_forth (Due Signal) is w v = record {
      forth = λ here. msc_plain true (4 * 18 + 3) 0x8D;
      soft = λ some. refl;
      after = record { role_is = refl; dlci_is = refl; answers = answers; few = few; wish = wishes (n + 0) (Awaited Signal) m.user (omega (arith, w)) };
    }
    asks_forth (Due LeaveUser) is w v = record {
      forth = tt;
      soft = λ some. refl;
      after = record { role_is = refl; dlci_is = refl; answers = answers; few = few; wish = wishes (n + 1) (Awaited LeaveUser) (left Initiator m.user) (left_still m.user) };
    }
    asks_forth (Due LeaveControl) is w v = record {
      forth = tt;
      soft = λ some. refl;
      after = record { role_is = refl; dlci_is = refl; answers = answers; few = few; wish = wishes (n + 1) (Awaited LeaveControl) m.user w };
    }
    asks_forth (Awaited OpenControl) is w v = free_forth (λ may. absurd (still_shut m.user w.1 (is_opened may))) v
    asks_forth (Awaited Agree) is w v = free_forth (λ may. w.0) v
    asks_forth (Awaited OpenUser) is w v = free_forth (λ may. absurd (let never : true ≡ false = sym (is_opened may) ∙ w.1 in cc)) v
    asks_forth (Awaited Signal) is w v = free_forth (λ may. w) v
    asks_forth (Awaited LeaveUser) is w v = free_forth (λ may. absurd (still_shut m.user w (is_opened may))) v
    asks_forth (Awaited LeaveControl) is w v = free_forth (λ may. absurd (still_shut m.user w (is_opened may))) v

  command_forth : (closed : Option MuxReason) → m.closed ≡ closed → Wishes n m.closed m.asks m.user → SaysForth n t (says_command m.asks mux)
  command_forth None is v = asks_forth is m.asks refl (wish_of n m.closed m.asks m.user is v) v
  command_forth (Some reason) is v =
      let none : m.asks ≡ Nothing = subst (λ (c : Option MuxReason). Wishes n c m.asks m.user) is v in
      subst (λ (a : Asks). SaysForth n t (says_command a mux)) (sym none) (free_forth (λ may. absurd (shut (is_open m.user && not (is_ended m.control)) (ap (λ (c : Option MuxReason). is_none c && (is_open m.user && not (is_ended m.control))) (sym is) ∙ may))) v)
    where
      shut : (b : Bool) → (false && b) ≡ true → ⊥
      shut b e = let f : false ≡ true = e in cc

answer_forth : (n t : ℕ) (m : Mux) (answer : PlainFrame) (rest : List PlainFrame) → OfInitiator answer.kind answer → Each OfInitiator rest → answers_in rest ≤ t → Wishes n m.closed m.asks m.user → SaidForth n t (says answer (record (fixed m) { answers = rest }))
answer_forth n t m answer rest q each few w = by answer.kind refl q
  where
    by : (kind : MuxKind) → answer.kind ≡ kind → OfInitiator kind answer → SaidForth n t (says answer (record (fixed m) { answers = rest }))
    by Sabm is r = absurd r
    by Ua is r = absurd r
    by Dm is r = absurd r
    by Disc is r = absurd r
    by Uih is r = record {
      forth = subst (λ (k : MuxKind). Forth k answer) (sym is) (λ here. r.1);
      soft = λ some. ap₂ (λ (k : MuxKind) (d : ℕ). leaves_or_controls (record answer { kind = k; dlci = d })) is r.0;
      after = record {
        role_is = refl;
        dlci_is = refl;
        answers = each;
        few = few;
        wish = subst (λ (k : MuxKind). Wishes (n + command_of k) m.closed m.asks (cond (answer.dlci == 18) (passed_on Initiator k answer.pf m.user) m.user)) (sym is)
            (subst (λ (u : Dlc). Wishes (n + 0) m.closed m.asks u) (sym (same_user (answer.dlci == 18) answer.pf m.user)) (wishes_less n (n + 0) m.closed m.asks m.user (omega arith) w));
      };
    }

fixed_forth : (n t : ℕ) (m : Mux) (list : List PlainFrame) → m.answers ≡ list → Each OfInitiator m.answers → answers_in m.answers ≤ t → Wishes n m.closed m.asks m.user → SaysForth n t (says_answer list (fixed m))
fixed_forth n t m [] is answers few w = command_forth n t m answers few m.closed refl w
fixed_forth n t m (answer ∷ rest) is answers few w =
    let each : Each OfInitiator (answer ∷ rest) = subst (Each OfInitiator) is answers in
    let counted = ap answers_in is in
    answer_forth n t m answer rest each.0 each.1 (omega (arith, counted, few)) w

pub says_forth : (n t : ℕ) (m : Mux) → I n t m → SaysForth n t (next m)
says_forth n t m s = subst (λ (x : Mux). SaysForth n t (next x)) (sym (is_fixed m s.role_is s.dlci_is)) (fixed_forth n t m m.answers refl s.answers s.few s.wish)
