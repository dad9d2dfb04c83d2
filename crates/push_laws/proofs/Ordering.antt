-- One side of a multiplexer: what it answers to messages on the control channel, and what it asks for next.
use Rattle.std.proofs.Common.{arith, Bool, true, false, cond, ◌&&◌, ◌==◌, ◌≡◌, ◌≤◌, ◌<◌, ◌+◌, ◌/◌, ◌%◌, ◌-◌, ℕ, List, [], ◌∷◌, ◌++◌, Option, Some, None, Ok, Err, refl, sym, ap, subst, ◌∙◌}
use Rattle.std.specs.Prelude.{not, nat_lt}
use Rattle.push_model.specs.rfcomm_frames.specs.declared.frame.MuxKind.{MuxKind}
use Rattle.push_model.specs.rfcomm_frames.specs.declared.frame.MuxKind.TheVariants.{Sabm, Ua, Dm, Disc, Uih}
use Rattle.push_model.specs.rfcomm_frames.specs.declared.connection.Role.{Role}
use Rattle.push_model.specs.rfcomm_frames.specs.declared.connection.Dlc.{Dlc}
use Rattle.push_model.specs.rfcomm_frames.specs.declared.connection.Dlc.TheVariants.{Idle, Asked, Open, Ended}
use Rattle.push_model.specs.rfcomm_frames.specs.Frames.{PlainFrame}
use Rattle.push_model.specs.rfcomm_frames.specs.Controls.{PlainControl, pn, msc, test, rpn, rls, nsc, other, written}
use Rattle.push_model.specs.rfcomm_frames.specs.FrameReading.{MessageAnswer, messages, messages_within, message_answer}
use Rattle.push_model.specs.rfcomm_frames.specs.Connections.{is_open}
use Rattle.push_model.specs.rfcomm_model.specs.declared.state.MuxReason.{MuxReason}
use Rattle.push_model.specs.rfcomm_model.specs.declared.state.MuxReason.TheVariants as reasons
use Rattle.push_model.specs.rfcomm_model.specs.declared.state.Command.TheVariants.{OpenControl, Agree, OpenUser, Signal, LeaveUser, LeaveControl}
use Rattle.push_model.specs.rfcomm_model.specs.declared.state.Asks.{Asks}
use Rattle.push_model.specs.rfcomm_model.specs.declared.state.Asks.TheVariants.{Nothing, Due, Awaited}
use Rattle.push_model.specs.rfcomm_model.specs.Machine.{Mux, may_pass, closes}
use Rattle.push_model.specs.rfcomm_model.specs.Hearing.{has_room, answering, says_dm, tells, credited, charged, if_stands, with_credits, hears_data, counts, pn_credited, lesser, own_credits, hears_offer, terms_agreed, hears_acceptance, hears_other_offer, peer_answered, signals_answered, settings_of, hears_message, hears_messages, hears_uih}
use Rattle.push_model.specs.rfcomm_model.specs.Written.{response_frame, control_frame}
use Rattle.rfcomm_laws.specs.Messages.{asks_elsewhere, all_elsewhere}
use Rattle.rfcomm_laws.proofs.Opening.{IsRead, test_read, rpn_read, rls_read, nsc_read, tells_keeps}
use Rattle.push_laws.specs.Premises.{leaves_or_controls}

-- ---- what is counted

abbrev pub command_of : MuxKind → ℕ
command_of Sabm = 1
command_of Ua = 0
command_of Dm = 0
command_of Disc = 1
command_of Uih = 0

abbrev pub answer_of : MuxKind → ℕ
answer_of Sabm = 0
answer_of Ua = 1
answer_of Dm = 1
answer_of Disc = 0
answer_of Uih = 0

abbrev pub commands : List PlainFrame → ℕ
commands [] = 0
commands (f ∷ fs) = command_of f.kind + commands fs

abbrev pub answers_in : List PlainFrame → ℕ
answers_in [] = 0
answers_in (f ∷ fs) = answer_of f.kind + answers_in fs

pub commands_more : (fs : List PlainFrame) (f : PlainFrame) → commands (fs ++ f ∷ []) ≡ commands fs + command_of f.kind
commands_more [] f = omega arith
commands_more (g ∷ fs) f = omega (arith, commands_more fs f)

pub answers_more : (fs : List PlainFrame) (f : PlainFrame) → answers_in (fs ++ f ∷ []) ≡ answers_in fs + answer_of f.kind
answers_more [] f = omega arith
answers_more (g ∷ fs) f = omega (arith, answers_more fs f)

-- behind a command, or where so many answers are to come, there is nothing but DISC and messages on the control channel
abbrev pub Ordered : ℕ → List PlainFrame → Type 0
Ordered n [] = Unit {0}
Ordered n (f ∷ fs) = (0 < n → leaves_or_controls f ≡ true) × Ordered (n + command_of f.kind) fs

pub ordered_later : (a b : ℕ) (fs : List PlainFrame) → b ≤ a → Ordered a fs → Ordered b fs
ordered_later a b [] less o = tt
ordered_later a b (f ∷ fs) less o = ((λ some. o.0 (omega (arith, less, some))), ordered_later (a + command_of f.kind) (b + command_of f.kind) fs (omega (arith, less)) o.1)

pub ordered_more : (n : ℕ) (fs : List PlainFrame) (f : PlainFrame) → Ordered n fs → (0 < n + commands fs → leaves_or_controls f ≡ true) → Ordered n (fs ++ f ∷ [])
ordered_more n [] f o soft = ((λ some. soft (omega (arith, some))), tt)
ordered_more n (g ∷ fs) f o soft = (o.0, ordered_more (n + command_of g.kind) fs f o.1 (λ some. soft (omega (arith, some))))

-- ---- frames of a kind

-- no message asks for another channel than the user channel
abbrev pub AllPlain : List MessageAnswer → Type 0
AllPlain list = all_elsewhere 18 list ≡ 0

pub msc_plain : (command : Bool) (address signals : ℕ) → AllPlain (messages (written (msc command address signals)))
unfolding messages messages_within message_answer
msc_plain true address signals = refl
msc_plain false address signals = refl

pub pn_plain : (flow priority timer frame retransmissions credits : ℕ) → AllPlain (messages (written (pn false 18 flow priority timer frame retransmissions credits))) × AllPlain (messages (written (pn true 18 flow priority timer frame retransmissions credits)))
unfolding messages messages_within message_answer
pn_plain flow priority timer frame retransmissions credits = (refl, refl)

-- so many DM answer a UIH frame
abbrev pub elsewhere_in : PlainFrame → ℕ
elsewhere_in f = cond (f.dlci == 0) (all_elsewhere 18 (messages f.octets)) 0

none_in : (control : Bool) (n : ℕ) → (control ≡ true → n ≡ 0) → cond control n 0 ≡ 0
none_in true n none = none refl
none_in false n none = refl

-- on their way from the initiator, and from the responder; and answers of the two
abbrev pub Forth : MuxKind → PlainFrame → Type 0
Forth Sabm f = Unit {0}
Forth Ua f = ⊥
Forth Dm f = ⊥
Forth Disc f = Unit {0}
Forth Uih f = (f.dlci == 0) ≡ true → AllPlain (messages f.octets)

abbrev pub Back : MuxKind → PlainFrame → Type 0
Back Sabm f = ⊥
Back Ua f = Unit {0}
Back Dm f = Unit {0}
Back Disc f = ⊥
Back Uih f = (f.dlci == 0) ≡ true → AllPlain (messages f.octets)

abbrev pub OfInitiator : MuxKind → PlainFrame → Type 0
OfInitiator Sabm f = ⊥
OfInitiator Ua f = ⊥
OfInitiator Dm f = ⊥
OfInitiator Disc f = ⊥
OfInitiator Uih f = (f.dlci ≡ 0) × AllPlain (messages f.octets)

abbrev pub OfResponder : MuxKind → PlainFrame → Type 0
OfResponder Sabm f = ⊥
OfResponder Ua f = Unit {0}
OfResponder Dm f = Unit {0}
OfResponder Disc f = ⊥
OfResponder Uih f = (f.dlci ≡ 0) × AllPlain (messages f.octets)

abbrev pub Each : (MuxKind → PlainFrame → Type 0) → List PlainFrame → Type 0
Each Q [] = Unit {0}
Each Q (f ∷ fs) = Q f.kind f × Each Q fs

pub each_more : (Q : MuxKind → PlainFrame → Type 0) (fs : List PlainFrame) (f : PlainFrame) → Each Q fs → Q f.kind f → Each Q (fs ++ f ∷ [])
each_more Q [] f e q = (q, tt)
each_more Q (g ∷ fs) f e q = (e.0, each_more Q fs f e.1 q)

-- ---- what the two ask for

abbrev pub is_still : Dlc → Bool
is_still Idle = true
is_still Asked = false
is_still Open = false
is_still Ended = true

-- so many commands of the initiator, and answers to them, are under way
abbrev pub Wish : ℕ → Asks → Dlc → Type 0
Wish n Nothing u = n ≤ 0
Wish n (Due OpenControl) u = (n ≤ 0) × (is_still u ≡ true)
Wish n (Due Agree) u = (n ≤ 0) × (is_still u ≡ true)
Wish n (Due OpenUser) u = (n ≤ 0) × (is_still u ≡ true)
Wish n (Due Signal) u = n ≤ 0
Wish n (Due LeaveUser) u = Unit {0}
Wish n (Due LeaveControl) u = is_still u ≡ true
Wish n (Awaited OpenControl) u = (n ≤ 1) × (is_still u ≡ true)
Wish n (Awaited Agree) u = (n ≤ 0) × (is_still u ≡ true)
Wish n (Awaited OpenUser) u = (n ≤ 1) × (is_open u ≡ false)
Wish n (Awaited Signal) u = n ≤ 0
Wish n (Awaited LeaveUser) u = is_still u ≡ true
Wish n (Awaited LeaveControl) u = is_still u ≡ true

abbrev pub Wishes : ℕ → Option MuxReason → Asks → Dlc → Type 0
Wishes n None asks u = Wish n asks u
Wishes n (Some reason) asks u = asks ≡ Nothing

abbrev pub IsSignal : Asks → Type 0
IsSignal Nothing = Unit {0}
IsSignal (Due OpenControl) = ⊥
IsSignal (Due Agree) = ⊥
IsSignal (Due OpenUser) = ⊥
IsSignal (Due Signal) = Unit {0}
IsSignal (Due LeaveUser) = ⊥
IsSignal (Due LeaveControl) = ⊥
IsSignal (Awaited OpenControl) = ⊥
IsSignal (Awaited Agree) = ⊥
IsSignal (Awaited OpenUser) = ⊥
IsSignal (Awaited Signal) = Unit {0}
IsSignal (Awaited LeaveUser) = ⊥
IsSignal (Awaited LeaveControl) = ⊥

abbrev pub Signals : Option MuxReason → Asks → Dlc → Type 0
Signals closed asks u = IsSignal asks

pub record Asking (W : Option MuxReason → Asks → Dlc → Type 0) : Type 1 where
  pub closing : (reason : MuxReason) (closed : Option MuxReason) (asks : Asks) (u : Dlc) → W closed asks u → W (Some reason) Nothing u
  pub agreeing : (closed : Option MuxReason) (asks : Asks) (u : Dlc) → W closed asks u → W closed (terms_agreed asks) u
  pub signalling : (closed : Option MuxReason) (u : Dlc) → W closed (Awaited Signal) u → W closed Nothing u

pub wishing : (n : ℕ) → Asking (Wishes n)
wishing n = record { closing = λ reason closed asks u w. refl; agreeing = agree; signalling = signal }
  where
    agree_on : (asks : Asks) (u : Dlc) → Wish n asks u → Wish n (terms_agreed asks) u
    agree_on Nothing u w = w
    agree_on (Due command) u w = w
    agree_on (Awaited OpenControl) u w = w
    agree_on (Awaited Agree) u w = w
    agree_on (Awaited OpenUser) u w = w
    agree_on (Awaited Signal) u w = w
    agree_on (Awaited LeaveUser) u w = w
    agree_on (Awaited LeaveControl) u w = w

    agree : (closed : Option MuxReason) (asks : Asks) (u : Dlc) → Wishes n closed asks u → Wishes n closed (terms_agreed asks) u
    agree None asks u w = agree_on asks u w
    agree (Some reason) asks u w = ap terms_agreed w

    signal : (closed : Option MuxReason) (u : Dlc) → Wishes n closed (Awaited Signal) u → Wishes n closed Nothing u
    signal None u w = w
    signal (Some reason) u w = refl

pub signalling_only : Asking Signals
signalling_only = record { closing = λ reason closed asks u w. tt; agreeing = agree; signalling = λ closed u w. tt }
  where
    agree : (closed : Option MuxReason) (asks : Asks) (u : Dlc) → IsSignal asks → IsSignal (terms_agreed asks)
    agree closed Nothing u w = w
    agree closed (Due command) u w = w
    agree closed (Awaited OpenControl) u w = absurd w
    agree closed (Awaited Agree) u w = absurd w
    agree closed (Awaited OpenUser) u w = absurd w
    agree closed (Awaited Signal) u w = w
    agree closed (Awaited LeaveUser) u w = absurd w
    agree closed (Awaited LeaveControl) u w = absurd w

-- ---- a side

pub record Side (Q : MuxKind → PlainFrame → Type 0) (W : Option MuxReason → Asks → Dlc → Type 0) (role : Role) (t : ℕ) (m : Mux) : Type 0 where
  pub role_is : m.role ≡ role
  pub dlci_is : m.dlci ≡ 18
  pub answers : Each Q m.answers
  pub few : answers_in m.answers ≤ t
  pub wish : W m.closed m.asks m.user

module _ (Q : MuxKind → PlainFrame → Type 0) (W : Option MuxReason → Asks → Dlc → Type 0) (asking : Asking W) (controls : (f : PlainFrame) → f.dlci ≡ 0 → AllPlain (messages f.octets) → Q Uih f) (role : Role) where
  abbrev S : ℕ → Mux → Type 0
  S t m = Side Q W role t m

  pub side_if : (t : ℕ) (b : Bool) (x y : Mux) → S t x → S t y → S t (cond b x y)
  side_if t true x y p q = p
  side_if t false x y p q = q

  side_true : (t : ℕ) (b : Bool) (x y : Mux) → b ≡ true → S t x → S t (cond b x y)
  side_true t true x y is p = p
  side_true t false x y is p = absurd (let f : false ≡ true = is in cc)

  side_false : (t : ℕ) (b : Bool) (x y : Mux) → b ≡ false → S t y → S t (cond b x y)
  side_false t true x y is p = absurd (let f : true ≡ false = is in cc)
  side_false t false x y is p = p

  pub more_room : (t k : ℕ) (m : Mux) → t ≤ k → S t m → S k m
  more_room t k m less s = record { role_is = s.role_is; dlci_is = s.dlci_is; answers = s.answers; few = omega (arith, less, s.few); wish = s.wish }

  pub closes_side : (t : ℕ) (reason : MuxReason) (m : Mux) → S t m → S t (closes reason m)
  closes_side t reason m s = record { role_is = s.role_is; dlci_is = s.dlci_is; answers = s.answers; few = s.few; wish = asking.closing reason m.closed m.asks m.user s.wish }

  -- it answers
  pub answers_side : (t : ℕ) (f : PlainFrame) (m : Mux) → Q f.kind f → S t m → S (t + answer_of f.kind) (answering f m)
  answers_side t f m q s =
      let more = answers_more m.answers f in record { role_is = s.role_is; dlci_is = s.dlci_is; answers = each_more Q m.answers f s.answers q; few = omega (arith, more, s.few); wish = s.wish }

  tells_side : (t : ℕ) (control : PlainControl) (m : Mux) → AllPlain (messages (written control)) → S t m → S t (answering (control_frame m.role control) m)
  tells_side t control m plain s = more_room (t + 0) t (answering (control_frame m.role control) m) (omega arith) (answers_side t (control_frame m.role control) m (controls (control_frame m.role control) refl plain) s)

  credited_side : (t n : ℕ) (m : Mux) → S t m → S t (credited n m)
  credited_side t n m s =
      let x : Mux = record m { account = record { cap = m.account.cap; held = m.account.held + n; peer = m.account.peer } } in
      side_if t (nat_lt 65535 (m.account.held + n)) (closes reasons.CreditOverflow m) x (closes_side t reasons.CreditOverflow m s)
      (record { role_is = s.role_is; dlci_is = s.dlci_is; answers = s.answers; few = s.few; wish = s.wish })

  pn_side : (t n : ℕ) (m : Mux) → S t m → S t (pn_credited n m)
  pn_side t n m s = side_if t (counts m) (credited (n % 8) m) m (credited_side t (n % 8) m s) s

  charged_side : (t : ℕ) (octets : List ℕ) (m : Mux) → S t m → S t (charged octets m)
  charged_side t [] m s = s
  charged_side t (octet ∷ octets) m s =
      let x : Mux = record m { account = record { cap = m.account.cap; held = m.account.held; peer = m.account.peer - 1 } } in
      side_if t (m.account.peer == 0) (closes reasons.Overdrawn m) x (closes_side t reasons.Overdrawn m s) (record { role_is = s.role_is; dlci_is = s.dlci_is; answers = s.answers; few = s.few; wish = s.wish })

  stands_side : (t : ℕ) (f : Mux → Mux) (closed : Option MuxReason) (m : Mux) → S t (f m) → S t m → S t (if_stands f closed m)
  stands_side t f None m p q = p
  stands_side t f (Some reason) m p q = q

  credits_side : (t : ℕ) (credits : Option ℕ) (m : Mux) → S t m → S t (with_credits credits m)
  credits_side t None m s = s
  credits_side t (Some n) m s = credited_side t n m s

  data_side : (t : ℕ) (f : PlainFrame) (m : Mux) → S t m → S t (hears_data f m)
  data_side t f m s =
      let granted : Mux = with_credits f.credits m in
      let g = credits_side t f.credits m s in
      stands_side t (charged f.octets) granted.closed granted (charged_side t f.octets granted g) g

  -- ---- messages

  offer_side : (t flow priority frame credits : ℕ) (m : Mux) → S t m → S t (hears_offer flow priority frame credits m)
  offer_side t flow priority frame credits m s =
      let answer : PlainControl = pn false m.dlci 0xE0 priority 0 (lesser m.own frame) 0 (own_credits m) in
      let x : Mux = record m { frame = lesser m.own frame; agreed = true; stated = true } in
      let y : Mux = answering (control_frame m.role answer) x in
      let plain : AllPlain (messages (written answer)) =
      subst (λ (d : ℕ). AllPlain (messages (written (pn false d 0xE0 priority 0 (lesser m.own frame) 0 (own_credits m))))) (sym s.dlci_is) (pn_plain 0xE0 priority 0 (lesser m.own frame) 0 (own_credits m)).0 in
      let set : S t x = record { role_is = s.role_is; dlci_is = s.dlci_is; answers = s.answers; few = s.few; wish = s.wish } in
      side_if t (not (flow / 16 == 0xF)) (closes reasons.NoCreditFlow m) (cond (nat_lt frame 23) (closes reasons.BadFrame m) (cond (has_room m) (pn_credited credits y) m)) (closes_side t reasons.NoCreditFlow m s)
      (side_if t (nat_lt frame 23) (closes reasons.BadFrame m) (cond (has_room m) (pn_credited credits y) m) (closes_side t reasons.BadFrame m s)
      (side_if t (has_room m) (pn_credited credits y) m (pn_side t credits y (tells_side t answer x plain set)) s))

  acceptance_side : (t flow frame credits : ℕ) (m : Mux) → S t m → S t (hears_acceptance flow frame credits m)
  acceptance_side t flow frame credits m s =
      let x : Mux = record m { frame = lesser m.own frame; agreed = true; asks = terms_agreed m.asks } in
      let set : S t x = record { role_is = s.role_is; dlci_is = s.dlci_is; answers = s.answers; few = s.few; wish = asking.agreeing m.closed m.asks m.user s.wish } in
      side_if t (not (flow / 16 == 0xE)) (closes reasons.NoCreditFlow m) (cond (nat_lt frame 23) (closes reasons.BadFrame m) (pn_credited credits x)) (closes_side t reasons.NoCreditFlow m s)
      (side_if t (nat_lt frame 23) (closes reasons.BadFrame m) (pn_credited credits x) (closes_side t reasons.BadFrame m s) (pn_side t credits x set))

  signals_side : (t : ℕ) (asks : Asks) (m : Mux) → m.asks ≡ asks → S t m → S t (signals_answered asks m)
  signals_side t Nothing m is s = s
  signals_side t (Due command) m is s = s
  signals_side t (Awaited OpenControl) m is s = s
  signals_side t (Awaited Agree) m is s = s
  signals_side t (Awaited OpenUser) m is s = s
  signals_side t (Awaited LeaveUser) m is s = s
  signals_side t (Awaited LeaveControl) m is s = s
  signals_side t (Awaited Signal) m is s = record {
    role_is = s.role_is;
    dlci_is = s.dlci_is;
    answers = s.answers;
    few = s.few;
    wish = asking.signalling m.closed m.user (subst (λ (a : Asks). W m.closed a m.user) is s.wish);
  }

  same_side : (t : ℕ) (m : Mux) → S t m → S (t + 0) m
  same_side t m s = more_room t (t + 0) m (omega arith) s

  pub dm_side : (t n : ℕ) (m : Mux) → Q Dm (response_frame m.role Dm n) → S t m → S (t + 1) (says_dm n m)
  dm_side t n m q s = side_if (t + 1) (has_room m) (answering (response_frame m.role Dm n) m) m (answers_side t (response_frame m.role Dm n) m q s) (more_room t (t + 1) m (omega arith) s)

  -- TEST, RPN and RLS, and what is not understood
  told_side : (t : ℕ) (asked : Bool) (control : PlainControl) (m : Mux) → IsRead control → asks_elsewhere 18 (Ok control) ≡ 0 → S t m → S (t + 0) (cond asked (tells control m) m)
  told_side t asked control m read none s =
      same_side t (cond asked (tells control m) m)
      (side_if t asked (tells control m) m
      (tells_keeps (λ (x : Mux). S t x) control m read s
      (λ is. tells_side t control m (let sum : all_elsewhere 18 (messages (written control)) ≡ asks_elsewhere 18 (Ok control) + 0 = ap (all_elsewhere 18) is in omega (arith, sum, none)) s))
      s)

  -- a side that may answer by DM
  message_side : (t : ℕ) (message : MessageAnswer) (m : Mux) → (0 < asks_elsewhere 18 message → (f : PlainFrame) → Q Dm f) → S t m → S (t + asks_elsewhere 18 message) (hears_message message m)
  message_side t (Ok (pn true dlci flow priority timer frame retransmissions credits)) m dms s = by (dlci % 64 == 18) refl dms
    where
      offer : Mux
      offer = hears_offer flow priority frame credits m

      other_offer : Mux
      other_offer = hears_other_offer true (dlci % 64) frame m

      by : (here : Bool) → (dlci % 64 == 18) ≡ here → (0 < cond (not here) 1 0 → (f : PlainFrame) → Q Dm f) → S (t + cond (not here) 1 0) (cond (dlci % 64 == m.dlci) offer other_offer)
      by true is none = same_side t (cond (dlci % 64 == m.dlci) offer other_offer) (side_true t (dlci % 64 == m.dlci) offer other_offer (ap (λ (n : ℕ). dlci % 64 == n) s.dlci_is ∙ is) (offer_side t flow priority frame credits m s))
      by false is some =
          side_false (t + 1) (dlci % 64 == m.dlci) offer other_offer (ap (λ (n : ℕ). dlci % 64 == n) s.dlci_is ∙ is)
          (side_if (t + 1) (nat_lt frame 23) (closes reasons.BadFrame m) (says_dm (dlci % 64) m) (more_room t (t + 1) (closes reasons.BadFrame m) (omega arith) (closes_side t reasons.BadFrame m s))
          (dm_side t (dlci % 64) m (some (omega arith) (response_frame m.role Dm (dlci % 64))) s))
  message_side t (Ok (pn false dlci flow priority timer frame retransmissions credits)) m dms s =
      same_side t (cond (dlci % 64 == m.dlci) (hears_acceptance flow frame credits m) (hears_other_offer false (dlci % 64) frame m))
      (side_if t (dlci % 64 == m.dlci) (hears_acceptance flow frame credits m) (hears_other_offer false (dlci % 64) frame m) (acceptance_side t flow frame credits m s)
      (side_if t (nat_lt frame 23) (closes reasons.BadFrame m) m (closes_side t reasons.BadFrame m s) s))
  message_side t (Ok (msc true address signals)) m dms s =
      let x : Mux = cond (address / 4 == m.dlci) (record m { ready = peer_answered m.ready }) m in
      let set : S t x = side_if t (address / 4 == m.dlci) (record m { ready = peer_answered m.ready }) m (record { role_is = s.role_is; dlci_is = s.dlci_is; answers = s.answers; few = s.few; wish = s.wish }) s in
      side_if (t + 0) (has_room m) (answering (control_frame m.role (msc false address signals)) x) m
      (answers_side t (control_frame m.role (msc false address signals)) x (controls (control_frame m.role (msc false address signals)) refl (msc_plain false address signals)) set)
      (same_side t m s)
  message_side t (Ok (msc false address signals)) m dms s =
      same_side t (cond (address / 4 == m.dlci) (signals_answered m.asks m) m) (side_if t (address / 4 == m.dlci) (signals_answered m.asks m) m (signals_side t m.asks m refl s) s)
  message_side t (Ok (test command octets)) m dms s = told_side t command (test false octets) m (test_read octets) refl s
  message_side t (Ok (rpn command value)) m dms s = told_side t command (rpn false (settings_of value)) m (rpn_read (settings_of value)) refl s
  message_side t (Ok (rls command value)) m dms s = told_side t command (rls false value) m (rls_read value) refl s
  message_side t (Ok (nsc kind)) m dms s = same_side t m s
  message_side t (Ok (other kind value)) m dms s = told_side t (kind / 2 % 2 == 1) (nsc kind) m (nsc_read kind) refl s
  message_side t (Err refusal) m dms s = same_side t (closes reasons.BadFrame m) (closes_side t reasons.BadFrame m s)

  messages_side : (t : ℕ) (list : List MessageAnswer) (m : Mux) → (0 < all_elsewhere 18 list → (f : PlainFrame) → Q Dm f) → S t m → S (t + all_elsewhere 18 list) (hears_messages list m)
  messages_side t [] m dms s = same_side t m s
  messages_side t (message ∷ rest) m dms s =
      let n : ℕ = asks_elsewhere 18 message in
      let x : Mux = if_stands (hears_message message) m.closed m in
      let one : S (t + n) x = stands_side (t + n) (hears_message message) m.closed m (message_side t message m (λ some. dms (omega (arith, some))) s) (more_room t (t + n) m (omega arith) s) in
      more_room ((t + n) + all_elsewhere 18 rest) (t + (n + all_elsewhere 18 rest)) (hears_messages rest x) (omega arith) (messages_side (t + n) rest x (λ some. dms (omega (arith, some))) one)

  pub counted_side : (t : ℕ) (f : PlainFrame) (m : Mux) → (0 < elsewhere_in f → (g : PlainFrame) → Q Dm g) → S t m → S (t + elsewhere_in f) (hears_uih f m)
  counted_side t f m dms s = by (f.dlci == 0) dms
    where
      by : (control : Bool) → (0 < cond control (all_elsewhere 18 (messages f.octets)) 0 → (g : PlainFrame) → Q Dm g)
          → S (t + cond control (all_elsewhere 18 (messages f.octets)) 0) (cond control (hears_messages (messages f.octets) m) (cond ((f.dlci == m.dlci) && may_pass m) (hears_data f m) m))
      by true some = messages_side t (messages f.octets) m some s
      by false some = same_side t (cond ((f.dlci == m.dlci) && may_pass m) (hears_data f m) m) (side_if t ((f.dlci == m.dlci) && may_pass m) (hears_data f m) m (data_side t f m s) s)

  pub uih_side : (t : ℕ) (f : PlainFrame) (m : Mux) → ((f.dlci == 0) ≡ true → AllPlain (messages f.octets)) → S t m → S t (hears_uih f m)
  uih_side t f m plain s =
      let none : elsewhere_in f ≡ 0 = none_in (f.dlci == 0) (all_elsewhere 18 (messages f.octets)) plain in
      more_room (t + elsewhere_in f) t (hears_uih f m) (omega (arith, none)) (counted_side t f m (λ some. absurd (omega (arith, some, none))) s)
