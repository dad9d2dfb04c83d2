-- What a side hears of a peer that keeps the rules does no harm: a step of a multiplexer, with what it owes.
use Rattle.std.proofs.Common.{arith, ◌≡◌, ◌⊎◌, inl, inr, ◌≤◌, ℕ, ◌==◌, ◌+◌, Bool, true, false, ◌||◌, cond, List, [], ◌∷◌, ◌++◌, Some, None, refl, sym, subst, ◌∙◌}
use Rattle.std.specs.Prelude.{is_some}
use Rattle.rfcomm_frames.specs.declared.frame.MuxKind.{MuxKind}
use Rattle.rfcomm_frames.specs.declared.frame.MuxKind.TheVariants.{Sabm, Ua, Dm, Disc, Uih}
use Rattle.rfcomm_frames.specs.declared.connection.Dlc.{Dlc}
use Rattle.rfcomm_frames.specs.declared.connection.Dlc.TheVariants.{Idle, Asked, Open, Ended}
use Rattle.rfcomm_frames.specs.Frames.{PlainFrame}
use Rattle.rfcomm_frames.specs.FrameReading.{MessageAnswer, messages}
use Rattle.rfcomm_frames.specs.Connections.{is_ended}
use Rattle.rfcomm_model.specs.declared.state.MuxReason.{MuxReason}
use Rattle.rfcomm_model.specs.declared.state.Command.TheVariants.{OpenControl, Agree, OpenUser, Signal, LeaveUser, LeaveControl}
use Rattle.rfcomm_model.specs.declared.state.Asks.{Asks}
use Rattle.rfcomm_model.specs.declared.state.Asks.TheVariants.{Nothing, Due, Awaited}
use Rattle.rfcomm_model.specs.declared.state.Readiness.{Readiness}
use Rattle.rfcomm_model.specs.Machine.{Mux, first_credits, closes}
use Rattle.rfcomm_model.specs.ClosedSides.{IsOrderly}
use Rattle.rfcomm_model.specs.Hearing.{answering, own_credits}
use Rattle.rfcomm_laws.specs.Messages.{IsAllowed, is_acceptance}
use Rattle.rfcomm_laws.specs.Totals.{bonus_of, cost_of}

-- ---- what frames bring and cost

abbrev pub bonuses_of : ℕ → List PlainFrame → ℕ
bonuses_of d [] = 0
bonuses_of d (f ∷ fs) = bonus_of d f + bonuses_of d fs

abbrev pub costs_of : List PlainFrame → ℕ
costs_of [] = 0
costs_of (f ∷ fs) = cost_of f + costs_of fs

pub bonuses_append : (d : ℕ) (fs : List PlainFrame) (f : PlainFrame) → bonuses_of d (fs ++ f ∷ []) ≡ bonuses_of d fs + bonus_of d f
bonuses_append d [] f = omega arith
bonuses_append d (g ∷ fs) f = omega (arith, bonuses_append d fs f)

pub costs_append : (fs : List PlainFrame) (f : PlainFrame) → costs_of (fs ++ f ∷ []) ≡ costs_of fs + cost_of f
costs_append [] f = omega arith
costs_append (g ∷ fs) f = omega (arith, costs_append fs f)

-- ---- how far a side is

abbrev pub rank : Dlc → ℕ
rank Idle = 0
rank Asked = 1
rank Open = 2
rank Ended = 3

-- no octets pass any more
abbrev pub is_over : Mux → Bool
is_over m = is_some m.closed || (is_ended m.user || is_ended m.control)

-- ---- messages and answers that keep the rules

-- what is not refused, by a speaker that agreed to the terms or not
abbrev pub SoundMessage : Bool → ℕ → MessageAnswer → Type 0
SoundMessage terms d message = IsAllowed d message × (is_acceptance message ≡ true → terms ≡ true)

-- what is no response to PN is sound whoever says it
pub whoever : (terms : Bool) → false ≡ true → terms ≡ true
whoever terms accepts = cc

abbrev pub SoundMessages : Bool → ℕ → List MessageAnswer → Type 0
SoundMessages terms d [] = Unit {0}
SoundMessages terms d (message ∷ rest) = SoundMessage terms d message × SoundMessages terms d rest

-- an answer that waits: UA for the user channel only where that was asked for
abbrev pub WaitsIn : Bool → ℕ → ℕ → MuxKind → PlainFrame → Type 0
WaitsIn terms k d Sabm f = ⊥
WaitsIn terms k d Ua f = (f.dlci == d) ≡ true → 1 ≤ k
WaitsIn terms k d Dm f = Unit {0}
WaitsIn terms k d Disc f = ⊥
WaitsIn terms k d Uih f = (f.dlci ≡ 0) × SoundMessages terms d (messages f.octets)

abbrev pub AllWait : Bool → ℕ → ℕ → List PlainFrame → Type 0
AllWait terms k d [] = Unit {0}
AllWait terms k d (f ∷ fs) = WaitsIn terms k d f.kind f × AllWait terms k d fs

-- the user channel is asked for once the peer agreed to the terms
abbrev pub SoundAsks : Bool → Asks → Type 0
SoundAsks terms Nothing = Unit {0}
SoundAsks terms (Due OpenControl) = Unit {0}
SoundAsks terms (Due Agree) = Unit {0}
SoundAsks terms (Due OpenUser) = terms ≡ true
SoundAsks terms (Due Signal) = Unit {0}
SoundAsks terms (Due LeaveUser) = Unit {0}
SoundAsks terms (Due LeaveControl) = Unit {0}
SoundAsks terms (Awaited command) = Unit {0}

-- ---- more is true later

pub messages_later : (a b : Bool) (d : ℕ) (list : List MessageAnswer) → (a ≡ true → b ≡ true) → SoundMessages a d list → SoundMessages b d list
messages_later a b d [] more s = tt
messages_later a b d (message ∷ rest) more s = ((s.0.0, λ accepts. more (s.0.1 accepts)), messages_later a b d rest more s.1)

waits_later : (a b : Bool) (k n d : ℕ) (kind : MuxKind) (f : PlainFrame) → (a ≡ true → b ≡ true) → k ≤ n → WaitsIn a k d kind f → WaitsIn b n d kind f
waits_later a b k n d Sabm f more most w = absurd w
waits_later a b k n d Ua f more most w = λ here. let some = w here in omega (arith, some)
waits_later a b k n d Dm f more most w = tt
waits_later a b k n d Disc f more most w = absurd w
waits_later a b k n d Uih f more most w = (w.0, messages_later a b d (messages f.octets) more w.1)

pub all_later : (a b : Bool) (k n d : ℕ) (fs : List PlainFrame) → (a ≡ true → b ≡ true) → k ≤ n → AllWait a k d fs → AllWait b n d fs
all_later a b k n d [] more most w = tt
all_later a b k n d (f ∷ fs) more most w = (waits_later a b k n d f.kind f more most w.0, all_later a b k n d fs more most w.1)

all_wait_more : (a : Bool) (k d : ℕ) (fs : List PlainFrame) (f : PlainFrame) → AllWait a k d fs → WaitsIn a k d f.kind f → AllWait a k d (fs ++ f ∷ [])
all_wait_more a k d [] f w v = (v, tt)
all_wait_more a k d (g ∷ fs) f w v = (w.0, all_wait_more a k d fs f w.1 v)

-- ---- a step

-- the user channel was agreed to, and may be closed
abbrev pub is_far : Dlc → Bool
is_far Idle = false
is_far Asked = false
is_far Open = true
is_far Ended = true

-- what is heard: whether the peer agreed to the terms, and whether this asks for the user channel or agrees to it
pub record Word : Type 0 where
  pub terms : Bool
  pub asks : Bool
  pub opens : Bool

-- What hearing does; `b` and `c` are what the frame brings and costs.
pub record Step (w : Word) (b c : ℕ) (m m' : Mux) : Type 0 where
  pub role : m'.role ≡ m.role
  pub dlci : m'.dlci ≡ m.dlci
  pub own : m'.own ≡ m.own
  pub cap : m'.account.cap ≡ m.account.cap
  pub held : m'.account.held ≤ m.account.held + b
  pub peer : m.account.peer ≤ m'.account.peer + c
  pub less : m'.account.peer ≤ m.account.peer
  pub owed : bonuses_of m.dlci m'.answers + own_credits m' ≤ bonuses_of m.dlci m.answers + own_credits m
  pub rises : rank m.user ≤ rank m'.user
  pub over : is_over m ≡ true → is_over m' ≡ true
  pub idle : m.user ≡ Idle → (m'.user ≡ Idle) ⊎ (w.asks ≡ true)
  pub far : is_over m' ≡ false → is_far m'.user ≡ true → (is_far m.user ≡ true) ⊎ (w.opens ≡ true)
  pub kept : m'.closed ≡ None → (m.closed ≡ None) × (m'.waiting ≡ m.waiting)
  pub agrees : m.agreed ≡ true → m'.agreed ≡ true
  pub waits : AllWait m.agreed (rank m.user) m.dlci m.answers → AllWait m'.agreed (rank m'.user) m.dlci m'.answers
  pub asks : SoundAsks w.terms m.asks → SoundAsks w.terms m'.asks
  pub orderly : m.account.held + b ≤ 65535 → c ≤ m.account.peer → IsOrderly m.closed → IsOrderly m'.closed

-- a wish, the terms and the credits change: the connections, the answers and what waits stay
pub step_sets : (w : Word) (b c : ℕ) (m : Mux) (asks : Asks) (ready : Readiness) (held peer frame : ℕ) (agreed stated : Bool) → held ≤ m.account.held + b → m.account.peer ≤ peer + c → peer ≤ m.account.peer
    → (SoundAsks w.terms m.asks → SoundAsks w.terms asks) → (m.agreed ≡ true → agreed ≡ true) → (m.stated ≡ true → stated ≡ true)
    → Step w b c m (record m { asks = asks; ready = ready; account = record { cap = m.account.cap; held = held; peer = peer }; frame = frame; agreed = agreed; stated = stated })
step_sets w b c m asks ready held peer frame agreed stated more most less sound agrees states = record {
  role = refl;
  dlci = refl;
  own = refl;
  cap = refl;
  held = more;
  peer = most;
  less = less;
  owed = let fewer = owes_less m.stated stated states in omega (arith, fewer);
  rises = omega arith;
  over = λ o. o;
  idle = λ e. inl e;
  far = λ o f. inl f;
  kept = λ e. (e, refl);
  agrees = agrees;
  waits = λ all. all_later m.agreed agreed (rank m.user) (rank m.user) m.dlci m.answers agrees (omega arith) all;
  asks = sound;
  orderly = λ fits paid o. o;
}
  where
    owes_less : (was is : Bool) → (was ≡ true → is ≡ true) → cond is 0 (first_credits m.account.cap) ≤ cond was 0 (first_credits m.account.cap)
    owes_less true true keep = omega arith
    owes_less true false keep = let never : false ≡ true = keep refl in cc
    owes_less false true keep = omega arith
    owes_less false false keep = omega arith

pub step_same : (w : Word) (b c : ℕ) (m : Mux) → Step w b c m m
step_same w b c m =
    step_sets w b c m m.asks m.ready m.account.held m.account.peer m.frame m.agreed m.stated (omega arith) (omega arith) (omega arith) (λ a. a) (λ a. a) (λ s. s)

pub not_before : (a b : Bool) → (a ≡ true → b ≡ true) → b ≡ false → a ≡ false
not_before true b more is = let never : true ≡ false = sym (more refl) ∙ is in cc
not_before false b more is = refl

pub step_then : (w : Word) (b c b' c' : ℕ) (m x y : Mux) → Step w b c m x → Step w b' c' x y → Step w (b + b') (c + c') m y
step_then w b c b' c' m x y s t =
    let same = s.dlci in
    let owed : bonuses_of m.dlci y.answers + own_credits y ≤ bonuses_of m.dlci x.answers + own_credits x = subst (λ (d : ℕ). bonuses_of d y.answers + own_credits y ≤ bonuses_of d x.answers + own_credits x) same t.owed in
    record {
      role = t.role ∙ s.role;
      dlci = t.dlci ∙ s.dlci;
      own = t.own ∙ s.own;
      cap = t.cap ∙ s.cap;
      held = omega (arith, s.held, t.held);
      peer = omega (arith, s.peer, t.peer);
      less = omega (arith, s.less, t.less);
      owed = omega (arith, s.owed, owed);
      rises = omega (arith, s.rises, t.rises);
      over = λ o. t.over (s.over o);
      idle = λ e. elim (s.idle e) [ inl still ↦ t.idle still | inr asks ↦ inr asks ];
      far = λ o f. elim (t.far o f) [ inl before ↦ s.far (not_before (is_over x) (is_over y) t.over o) before | inr opens ↦ inr opens ];
      kept = λ e. let later = t.kept e in let first = s.kept later.0 in (first.0, later.1 ∙ first.1);
      agrees = λ a. t.agrees (s.agrees a);
      waits = λ all. subst (λ (d : ℕ). AllWait y.agreed (rank y.user) d y.answers) same (t.waits (subst (λ (d : ℕ). AllWait x.agreed (rank x.user) d x.answers) (sym same) (s.waits all)));
      asks = λ a. t.asks (s.asks a);
      orderly = λ fits paid o. t.orderly (omega (arith, s.held, fits)) (omega (arith, s.peer, paid)) (s.orderly (omega (arith, fits)) (omega (arith, paid)) o);
    }

-- a frame may bring and cost more than what is counted
pub step_more : (w : Word) (b c b' c' : ℕ) (m x : Mux) → b ≤ b' → c ≤ c' → Step w b c m x → Step w b' c' m x
step_more w b c b' c' m x more most s = record {
  role = s.role;
  dlci = s.dlci;
  own = s.own;
  cap = s.cap;
  held = omega (arith, s.held, more);
  peer = omega (arith, s.peer, most);
  less = s.less;
  owed = s.owed;
  rises = s.rises;
  over = s.over;
  idle = s.idle;
  far = s.far;
  kept = s.kept;
  agrees = s.agrees;
  waits = s.waits;
  asks = s.asks;
  orderly = λ fits paid o. s.orderly (omega (arith, fits, more)) (omega (arith, paid, most)) o;
}

pub step_if : (w : Word) (b c : ℕ) (m : Mux) (t : Bool) (x y : Mux) → (t ≡ true → Step w b c m x) → (t ≡ false → Step w b c m y) → Step w b c m (cond t x y)
step_if w b c m true x y p q = p refl
step_if w b c m false x y p q = q refl

-- closed, for a reason that is in order or cannot come
pub step_closes : (w : Word) (b c : ℕ) (reason : MuxReason) (m : Mux) → (m.account.held + b ≤ 65535 → c ≤ m.account.peer → IsOrderly (Some reason)) → Step w b c m (closes reason m)
step_closes w b c reason m fine = record {
  role = refl;
  dlci = refl;
  own = refl;
  cap = refl;
  held = omega arith;
  peer = omega arith;
  less = omega arith;
  owed = omega arith;
  rises = omega arith;
  over = λ o. refl;
  idle = λ e. inl e;
  far = λ o f. inl f;
  kept = λ e. let never : Some reason ≡ None = e in cc;
  agrees = λ a. a;
  waits = λ all. all;
  asks = λ a. tt;
  orderly = λ fits paid o. fine fits paid;
}

-- an answer waits in addition
pub step_answers : (w : Word) (b c : ℕ) (m x : Mux) (f : PlainFrame) → Step w b c m x → bonuses_of m.dlci x.answers + (bonus_of m.dlci f + own_credits x) ≤ bonuses_of m.dlci m.answers + own_credits m
    → WaitsIn x.agreed (rank x.user) m.dlci f.kind f → Step w b c m (answering f x)
step_answers w b c m x f s owed waiting =
    let more = bonuses_append m.dlci x.answers f in
    record {
      role = s.role;
      dlci = s.dlci;
      own = s.own;
      cap = s.cap;
      held = s.held;
      peer = s.peer;
      less = s.less;
      owed = omega (arith, more, owed);
      rises = s.rises;
      over = s.over;
      idle = s.idle;
      far = s.far;
      kept = s.kept;
      agrees = s.agrees;
      waits = λ all. all_wait_more x.agreed (rank x.user) m.dlci x.answers f (s.waits all) waiting;
      asks = s.asks;
      orderly = s.orderly;
    }
