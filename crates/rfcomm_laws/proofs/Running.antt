-- Two sides whose user channel was agreed to: what each sends, the other one takes.
use Rattle.std.proofs.Common.{arith, zero, suc, length, ◌≡◌, ◌<◌, ◌≤◌, ℕ, ◌==◌, ◌+◌, ◌-◌, ◌*◌, ◌/◌, Bool, true, false, ◌&&◌, cond, List, [], ◌∷◌, ◌++◌, Option, Some, None, Ok, refl, sym, ap, subst, ◌∙◌}
use Rattle.std.specs.Prelude.{not, nat_lt, nat_le}
use Rattle.std.proofs.lemmas.Bool.{lt-ltb, eq-eqb, ne_eqb, le-ltb, ltb-true, leb-true}
use Rattle.std.proofs.lemmas.List.{append-nil}
use Rattle.rfcomm_frames.specs.declared.frame.MuxKind.TheVariants.{Uih}
use Rattle.rfcomm_frames.specs.declared.connection.Role.{Role}
use Rattle.rfcomm_frames.specs.declared.connection.Role.TheVariants.{Initiator, Responder}
use Rattle.rfcomm_frames.specs.declared.connection.Dlc.{Dlc}
use Rattle.rfcomm_frames.specs.declared.connection.Dlc.TheVariants.{Asked, Open}
use Rattle.rfcomm_frames.specs.Connections.{turned}
use Rattle.rfcomm_frames.specs.Frames.{PlainFrame, bit}
use Rattle.rfcomm_frames.specs.Controls.{msc}
use Rattle.rfcomm_frames.specs.FrameReading.{is_empty, MessageAnswer, messages}
use Rattle.rfcomm_credits.specs.Accounts.{grant_of}
use Rattle.rfcomm_model.specs.declared.state.Command.TheVariants.{OpenUser, Signal}
use Rattle.rfcomm_model.specs.declared.state.Asks.{Asks}
use Rattle.rfcomm_model.specs.declared.state.Asks.TheVariants.{Nothing, Due, Awaited}
use Rattle.rfcomm_model.specs.declared.state.Readiness.{Readiness}
use Rattle.rfcomm_model.specs.declared.state.Readiness.TheVariants.{Neither, Own, Peer, Both}
use Rattle.rfcomm_model.specs.Machine.{Mux, may_pass, is_ready}
use Rattle.rfcomm_model.specs.Written.{control_frame, grant_frame, data_frame}
use Rattle.rfcomm_model.specs.Hearing.{has_room, answering, peer_answered, own_answered, signals_answered, hears_msc, hears_messages, hears_data, hears_answer, news, data_of}
use Rattle.rfcomm_model.specs.Saying.{Said, passes, says, says_grant, says_data, says_command, says_answer, first_of, next}
use Rattle.rfcomm_model.specs.Sides.{handed}
use Rattle.rfcomm_laws.specs.Pairs.{handed_by}
use Rattle.rfcomm_model.proofs.Stepping.{cond_same}
use Rattle.rfcomm_laws.proofs.Opening.{msc_read}

-- ---- what passes, and what the sides are

pub data Item : Type 0 where
  -- the MSC command for the user channel, or the answer to it
  signal : (command : Bool) → Item
  grant : (n : ℕ) → Item
  info : (octet : ℕ) (octets : List ℕ) → Item

abbrev pub frame_of : Role → ℕ → Item → PlainFrame
frame_of role d (signal command) = control_frame role (msc command (4 * d + 3) 0x8D)
frame_of role d (grant n) = grant_frame role d n
frame_of role d (info octet octets) = data_frame role d (octet ∷ octets)

-- what an item costs, what it brings to the credits, and its octets
abbrev pub cost : Item → ℕ
cost (signal command) = 0
cost (grant n) = 0
cost (info octet octets) = 1

abbrev pub bonus : Item → ℕ
bonus (signal command) = 0
bonus (grant n) = n
bonus (info octet octets) = 0

abbrev pub flow : Item → List ℕ
flow (signal command) = []
flow (grant n) = []
flow (info octet octets) = octet ∷ octets

-- an MSC command, and the answer to one
abbrev pub asking_by : Item → ℕ
asking_by (signal command) = bit command
asking_by (grant n) = 0
asking_by (info octet octets) = 0

abbrev pub telling_by : Item → ℕ
telling_by (signal command) = bit (not command)
telling_by (grant n) = 0
telling_by (info octet octets) = 0

abbrev pub costs : List Item → ℕ
costs [] = 0
costs (item ∷ items) = cost item + costs items

abbrev pub bonuses : List Item → ℕ
bonuses [] = 0
bonuses (item ∷ items) = bonus item + bonuses items

abbrev pub flows : List Item → List ℕ
flows [] = []
flows (item ∷ items) = flow item ++ flows items

abbrev pub askings : List Item → ℕ
askings [] = 0
askings (item ∷ items) = asking_by item + askings items

abbrev pub tellings : List Item → ℕ
tellings [] = 0
tellings (item ∷ items) = telling_by item + tellings items

-- answers to MSC that wait
abbrev pub answer_of : Role → ℕ → PlainFrame
answer_of role d = control_frame role (msc false (4 * d + 3) 0x8D)

abbrev pub copies : ℕ → PlainFrame → List PlainFrame
copies zero frame = []
copies (suc n) frame = frame ∷ copies n frame

-- what is asked once the channel is open
pub data Wish : Type 0 where
  none : Wish
  due : Wish
  awaited : Wish

-- the own MSC command is still to be sent, or its answer is awaited
abbrev pub is_due : Wish → ℕ
is_due none = 0
is_due due = 1
is_due awaited = 0

abbrev pub is_awaited : Wish → ℕ
is_awaited none = 0
is_awaited due = 0
is_awaited awaited = 1

-- the own MSC command was answered, and the peer's was
abbrev pub own_bit : Readiness → ℕ
own_bit Neither = 0
own_bit Own = 1
own_bit Peer = 0
own_bit Both = 1

abbrev pub peer_bit : Readiness → ℕ
peer_bit Neither = 0
peer_bit Own = 0
peer_bit Peer = 1
peer_bit Both = 1

abbrev pub asks_of : Wish → Asks
asks_of none = Nothing
asks_of due = Due Signal
asks_of awaited = Awaited Signal

pub record Body : Type 0 where
  pub largest : ℕ
  pub own : ℕ
  pub frame : ℕ
  pub agreed : Bool
  pub stated : Bool
  pub wish : Wish
  pub ready : Readiness
  pub cap : ℕ
  pub held : ℕ
  pub peer : ℕ
  pub answers : ℕ
  pub waiting : List ℕ

-- a side whose channel is open, or was asked for by it
abbrev pub user_of : Bool → Dlc
user_of true = Open
user_of false = Asked

abbrev pub asking : Bool → Wish → Asks
asking true wish = asks_of wish
asking false wish = Awaited OpenUser

abbrev pub mux_at : Role → ℕ → Bool → Body → Mux
mux_at role d is_open b = record {
  role = role;
  dlci = d;
  largest = b.largest;
  own = b.own;
  frame = b.frame;
  agreed = b.agreed;
  stated = b.stated;
  control = Open;
  user = user_of is_open;
  asks = asking is_open b.wish;
  ready = b.ready;
  account = record { cap = b.cap; held = b.held; peer = b.peer };
  answers = copies b.answers (answer_of role d);
  waiting = b.waiting;
  closed = None;
}

-- ---- a side speaks

-- what an item that goes leaves
pub record Goes (item : Item) (b b' : Body) : Type 0 where
  pub held : b.held ≡ cost item + b'.held
  pub peer : b'.peer ≡ b.peer + bonus item
  pub waiting : b.waiting ≡ flow item ++ b'.waiting
  pub cap : b'.cap ≡ b.cap
  pub within : b.peer ≤ 40 → b.cap ≤ 40 → b'.peer ≤ 40
  pub due_is : is_due b.wish ≡ asking_by item + is_due b'.wish
  pub awaited_is : is_awaited b'.wish ≡ is_awaited b.wish + asking_by item
  pub answers_are : b.answers ≡ telling_by item + b'.answers
  pub ready_is : b'.ready ≡ b.ready

pub record Speaks (role : Role) (d : ℕ) (is_open : Bool) (b : Body) (said : Said) : Type 0 where
  pub item : Item
  pub b' : Body
  pub said_is : said ≡ record { frame = frame_of role d item; after = mux_at role d is_open b' }
  pub goes : Goes item b b'
  -- nothing is asked before the channel is open
  pub early : is_open ≡ false → asking_by item ≡ 0

abbrev pub SaysItem : Role → ℕ → Bool → Body → Option Said → Type 0
SaysItem role d is_open b None = Unit {0}
SaysItem role d is_open b (Some said) = Speaks role d is_open b said

-- UIH frames leave the connections as they are
uih_same : (role : Role) (here pf : Bool) (dlc : Dlc) → cond here (cond pf (turned role Uih dlc) dlc) dlc ≡ dlc
uih_same Initiator here pf dlc = ap (λ (x : Dlc). cond here x dlc) (cond_same pf dlc) ∙ cond_same here dlc
uih_same Responder here pf dlc = ap (λ (x : Dlc). cond here x dlc) (cond_same pf dlc) ∙ cond_same here dlc

uih_passes : (n : ℕ) (pf : Bool) (m : Mux) → passes n Uih pf m ≡ m
uih_passes n pf m =
    ap (λ (dlc : Dlc). record m { control = dlc; user = cond (n == m.dlci) (cond pf (turned m.role Uih m.user) m.user) m.user }) (uih_same m.role (n == 0) pf m.control)
    ∙ ap (λ (dlc : Dlc). record m { control = m.control; user = dlc }) (uih_same m.role (n == m.dlci) pf m.user)

speaks : (role : Role) (d : ℕ) (is_open : Bool) (b b' : Body) (item : Item) (n : ℕ) (pf : Bool) → Goes item b b' → (is_open ≡ false → asking_by item ≡ 0)
    → Speaks role d is_open b (record { frame = frame_of role d item; after = passes n Uih pf (mux_at role d is_open b') })
speaks role d is_open b b' item n pf goes early = record {
  item = item;
  b' = b';
  said_is = ap (λ (m : Mux). record { frame = frame_of role d item; after = m }) (uih_passes n pf (mux_at role d is_open b'));
  goes = goes;
  early = early;
}

if_speaks : (role : Role) (d : ℕ) (is_open : Bool) (b : Body) (t : Bool) (said : Said) → (t ≡ true → Speaks role d is_open b said) → SaysItem role d is_open b (cond t (Some said) None)
if_speaks role d is_open b true said s = s refl
if_speaks role d is_open b false said s = tt

pub grant_if : (cap peer : ℕ) (low : Bool) → nat_le (2 * peer) cap ≡ low → peer ≤ 40 → cap ≤ 40 → peer + cond low (cap - peer) 0 ≤ 40
grant_if cap peer true is few most = let h = leb-true (2 * peer) cap is in omega arith
grant_if cap peer false is few most = omega arith

grant_speaks : (role : Role) (d : ℕ) (is_open : Bool) (b : Body) → SaysItem role d is_open b (says_grant (mux_at role d is_open b))
grant_speaks role d is_open b =
    let m : Mux = mux_at role d is_open b in
    let n : ℕ = grant_of m.account in
    if_speaks role d is_open b (may_pass m && nat_lt 0 n) (says (grant_frame role d n) (mux_at role d is_open (record b { peer = b.peer + n })))
    (λ t. speaks role d is_open b (record b { peer = b.peer + n }) (grant n) d true
    (record {
      held = omega arith;
      peer = refl;
      waiting = refl;
      cap = refl;
      within = λ few most. grant_if b.cap b.peer (nat_le (2 * b.peer) b.cap) refl few most;
      due_is = omega arith;
      awaited_is = omega arith;
      answers_are = omega arith;
      ready_is = refl;
    })
    (λ e. refl))

pub both_true : (a b : Bool) → (a && b) ≡ true → (a ≡ true) × (b ≡ true)
both_true true b is = (refl, is)
both_true false b is = let never : false ≡ true = is in cc

data_waits : (role : Role) (d : ℕ) (is_open : Bool) (b : Body) (w : List ℕ) → b.waiting ≡ w → (not (is_empty b.waiting) && nat_lt 0 b.held) ≡ true
    → Speaks role d is_open b (says (data_frame role d b.waiting) (mux_at role d is_open (record b { waiting = []; held = b.held - 1 })))
data_waits role d is_open b [] is test =
    let never : not (is_empty b.waiting) ≡ true = (both_true (not (is_empty b.waiting)) (nat_lt 0 b.held) test).0 in
    let other : false ≡ true = ap (λ (w : List ℕ). not (is_empty w)) (sym is) ∙ never in
    cc
data_waits role d is_open b (octet ∷ octets) is test =
    let some : 0 < b.held = ltb-true 0 b.held (both_true (not (is_empty b.waiting)) (nat_lt 0 b.held) test).1 in
    let b' : Body = record b { waiting = []; held = b.held - 1 } in
    let goes : Goes (info octet octets) b b' = record { held = omega arith; peer = omega arith; waiting = is ∙ sym (append-nil (octet ∷ octets)); cap = refl; within = λ few most. omega arith; due_is = omega arith; awaited_is = omega arith; answers_are = omega arith; ready_is = refl } in
    subst (λ (w : List ℕ). Speaks role d is_open b (record { frame = data_frame role d w; after = passes d Uih false (mux_at role d is_open b') })) (sym is) (speaks role d is_open b b' (info octet octets) d false goes (λ e. refl))

data_speaks : (role : Role) (d : ℕ) (is_open : Bool) (b : Body) → SaysItem role d is_open b (says_data (mux_at role d is_open b))
data_speaks role d is_open b =
    let m : Mux = mux_at role d is_open b in
    if_speaks role d is_open b (is_ready m && (not (is_empty b.waiting) && nat_lt 0 b.held)) (says (data_frame role d b.waiting) (mux_at role d is_open (record b { waiting = []; held = b.held - 1 })))
    (λ t. data_waits role d is_open b b.waiting refl (both_true (is_ready m) (not (is_empty b.waiting) && nat_lt 0 b.held) t).1)

first_speaks : (role : Role) (d : ℕ) (is_open : Bool) (b : Body) (x y : Option Said) → SaysItem role d is_open b x → SaysItem role d is_open b y → SaysItem role d is_open b (first_of x y)
first_speaks role d is_open b None y p q = q
first_speaks role d is_open b (Some said) y p q = p

free_speaks : (role : Role) (d : ℕ) (is_open : Bool) (b : Body) → SaysItem role d is_open b (first_of (says_grant (mux_at role d is_open b)) (says_data (mux_at role d is_open b)))
free_speaks role d is_open b = first_speaks role d is_open b (says_grant (mux_at role d is_open b)) (says_data (mux_at role d is_open b)) (grant_speaks role d is_open b) (data_speaks role d is_open b)

wish_speaks : (role : Role) (d : ℕ) (b : Body) (wish : Wish) → b.wish ≡ wish → SaysItem role d true b (says_command (asks_of wish) (mux_at role d true b))
wish_speaks role d b none is = free_speaks role d true b
wish_speaks role d b awaited is = free_speaks role d true b
wish_speaks role d b due is =
    speaks role d true b (record b { wish = awaited }) (signal true) 0 false
    (record {
      held = omega arith;
      peer = omega arith;
      waiting = refl;
      cap = refl;
      within = λ few most. few;
      due_is = ap is_due is;
      awaited_is = let none_yet = ap is_awaited is in omega (arith, none_yet);
      answers_are = omega arith;
      ready_is = refl;
    })
    (λ e. let never : true ≡ false = e in cc)

asking_speaks : (role : Role) (d : ℕ) (is_open : Bool) (b : Body) → SaysItem role d is_open b (says_command (asking is_open b.wish) (mux_at role d is_open b))
asking_speaks role d true b = wish_speaks role d b b.wish refl
asking_speaks role d false b = free_speaks role d false b

answers_speak : (role : Role) (d : ℕ) (is_open : Bool) (b : Body) (n : ℕ) → b.answers ≡ n → SaysItem role d is_open b (says_answer (copies n (answer_of role d)) (mux_at role d is_open b))
answers_speak role d is_open b zero is = asking_speaks role d is_open b
answers_speak role d is_open b (suc n) is =
    speaks role d is_open b (record b { answers = n }) (signal false) 0 false
    (record {
      held = omega arith;
      peer = omega arith;
      waiting = refl;
      cap = refl;
      within = λ few most. few;
      due_is = omega arith;
      awaited_is = omega arith;
      answers_are = omega (arith, is);
      ready_is = refl;
    })
    (λ e. refl)

pub side_speaks : (role : Role) (d : ℕ) (is_open : Bool) (b : Body) → SaysItem role d is_open b (next (mux_at role d is_open b))
side_speaks role d is_open b = answers_speak role d is_open b b.answers refl

-- ---- a side hears

-- what an item that comes leaves
pub record Comes (item : Item) (b b' : Body) : Type 0 where
  pub held : b'.held ≡ b.held + bonus item
  pub peer : b.peer ≡ cost item + b'.peer
  pub waiting : b'.waiting ≡ b.waiting
  pub cap : b'.cap ≡ b.cap
  pub due_is : is_due b'.wish ≡ is_due b.wish
  pub awaited_is : is_awaited b.wish ≡ telling_by item + is_awaited b'.wish
  pub answers_are : b'.answers ≡ b.answers + asking_by item
  pub own_is : own_bit b'.ready ≡ own_bit b.ready + telling_by item
  pub peer_is : peer_bit b'.ready ≡ peer_bit b.ready + asking_by item

-- what must be so for an item to be taken
pub record CanCome (item : Item) (b : Body) : Type 0 where
  pub fits : b.held + bonus item ≤ 65535
  pub paid : cost item ≤ b.peer
  pub room : b.answers < 16
  pub asked_once : asking_by item + peer_bit b.ready ≤ 1
  pub told_once : telling_by item + own_bit b.ready ≤ 1
  pub awaited : telling_by item ≤ is_awaited b.wish

pub record Heard (role : Role) (d : ℕ) (item : Item) (frame : PlainFrame) (b : Body) : Type 0 where
  pub b' : Body
  pub mux_is : hears_answer (Ok frame) (mux_at role d true b) ≡ mux_at role d true b'
  pub comes : Comes item b b'
  pub handed_is : handed_by frame (mux_at role d true b) ≡ flow item

handed_any : (flag : Bool) (octets : List ℕ) → (flag ≡ true → octets ≡ []) → handed (news None None flag octets) ≡ octets
handed_any true octets empty = sym (empty refl)
handed_any false [] empty = refl
handed_any false (x ∷ xs) empty = refl

-- what is handed up where the side stands afterwards
handed_at : (role : Role) (d : ℕ) (frame : PlainFrame) (b b' : Body) (octets : List ℕ) → hears_answer (Ok frame) (mux_at role d true b) ≡ mux_at role d true b' → data_of frame (mux_at role d true b) ≡ octets
    → ((is_ready (mux_at role d true b') && not (is_ready (mux_at role d true b))) ≡ true → octets ≡ []) → handed_by frame (mux_at role d true b) ≡ octets
handed_at role d frame b b' octets is brings rises =
    let m : Mux = mux_at role d true b in
    ap (λ (x : Mux). handed (news None x.closed (is_ready x && not (is_ready m)) (data_of frame m))) is
    ∙ ap (λ (xs : List ℕ). handed (news None None (is_ready (mux_at role d true b') && not (is_ready m)) xs)) brings
    ∙ handed_any (is_ready (mux_at role d true b') && not (is_ready m)) octets rises

-- MSC
copies_more : (n : ℕ) (frame : PlainFrame) → copies n frame ++ frame ∷ [] ≡ copies (suc n) frame
copies_more zero frame = refl
copies_more (suc n) frame = ap (λ (frames : List PlainFrame). frame ∷ frames) (copies_more n frame)

copies_length : (n : ℕ) (frame : PlainFrame) → length (copies n frame) ≡ n
copies_length zero frame = refl
copies_length (suc n) frame = ap suc (copies_length n frame)

peer_once : (ready : Readiness) → peer_bit ready ≡ 0 → (own_bit (peer_answered ready) ≡ own_bit ready) × (peer_bit (peer_answered ready) ≡ 1)
peer_once Neither is = (refl, refl)
peer_once Own is = (refl, refl)
peer_once Peer is = absurd (omega (arith, is))
peer_once Both is = absurd (omega (arith, is))

own_once : (ready : Readiness) → own_bit ready ≡ 0 → (own_bit (own_answered ready) ≡ 1) × (peer_bit (own_answered ready) ≡ peer_bit ready)
own_once Neither is = (refl, refl)
own_once Own is = absurd (omega (arith, is))
own_once Peer is = (refl, refl)
own_once Both is = absurd (omega (arith, is))

wish_awaited : (wish : Wish) → 1 ≤ is_awaited wish → wish ≡ awaited
wish_awaited none is = absurd (omega (arith, is))
wish_awaited due is = absurd (omega (arith, is))
wish_awaited awaited is = refl

own_address : (d : ℕ) → ((4 * d + 3) / 4 == d) ≡ true
own_address d = eq-eqb ((4 * d + 3) / 4) d (omega arith)

-- a message that hands nothing up
message_heard : (role from : Role) (d : ℕ) (b b' : Body) (command : Bool) → hears_msc command (4 * d + 3) 0x8D (mux_at role d true b) ≡ mux_at role d true b' → Comes (signal command) b b'
    → Heard role d (signal command) (frame_of from d (signal command)) b
message_heard role from d b b' command to comes =
    let m : Mux = mux_at role d true b in
    let is : hears_answer (Ok (control_frame from (msc command (4 * d + 3) 0x8D))) m ≡ mux_at role d true b' = ap (λ (list : List MessageAnswer). hears_messages list m) (msc_read command (4 * d + 3) 0x8D) ∙ to in
    record { b' = b'; mux_is = is; comes = comes; handed_is = handed_at role d (control_frame from (msc command (4 * d + 3) 0x8D)) b b' [] is refl (λ rises. refl) }

signal_heard : (role from : Role) (d : ℕ) (b : Body) (command : Bool) → CanCome (signal command) b → Heard role d (signal command) (frame_of from d (signal command)) b
signal_heard role from d b true can =
    let b' : Body = record b { ready = peer_answered b.ready; answers = suc b.answers } in
    let m : Mux = mux_at role d true b in
    let room : has_room m ≡ true = let long = copies_length b.answers (answer_of role d) in lt-ltb (length m.answers) 16 (omega (arith, long, can.room)) in
    let once = peer_once b.ready (omega (arith, can.asked_once)) in
    message_heard role from d b b' true
    (ap (λ (t : Bool). cond t (answering (answer_of role d) (cond ((4 * d + 3) / 4 == d) (record m { ready = peer_answered m.ready }) m)) m) room
    ∙ ap (λ (t : Bool). answering (answer_of role d) (cond t (record m { ready = peer_answered m.ready }) m)) (own_address d)
    ∙ ap (λ (frames : List PlainFrame). record m { ready = peer_answered m.ready; answers = frames }) (copies_more b.answers (answer_of role d)))
    (record {
      held = omega arith;
      peer = omega arith;
      waiting = refl;
      cap = refl;
      due_is = omega arith;
      awaited_is = omega arith;
      answers_are = omega arith;
      own_is = omega (arith, once.0);
      peer_is = omega (arith, once.1, can.asked_once);
    })
signal_heard role from d b false can =
    let b' : Body = record b { wish = none; ready = own_answered b.ready } in
    let m : Mux = mux_at role d true b in
    let is : b.wish ≡ awaited = wish_awaited b.wish (omega (arith, can.awaited)) in
    let once = own_once b.ready (omega (arith, can.told_once)) in
    message_heard role from d b b' false
    (ap (λ (t : Bool). cond t (signals_answered (asks_of b.wish) m) m) (own_address d)
    ∙ ap (λ (w : Wish). signals_answered (asks_of w) (mux_at role d true (record b { wish = w }))) is)
    (record {
      held = omega arith;
      peer = omega arith;
      waiting = refl;
      cap = refl;
      due_is = sym (ap is_due is);
      awaited_is = ap is_awaited is;
      answers_are = omega arith;
      own_is = omega (arith, once.0, can.told_once);
      peer_is = omega (arith, once.1);
    })

-- a grant, and information
uih_at : (role : Role) (d : ℕ) (b : Body) (frame : PlainFrame) (x : Mux) → (d == 0) ≡ false → (d == d) ≡ true → cond (d == 0) x (cond ((d == d) && true) (hears_data frame (mux_at role d true b)) (mux_at role d true b)) ≡ hears_data frame (mux_at role d true b)
uih_at role d b frame x zero_not same =
    ap (λ (t : Bool). cond t x (cond ((d == d) && true) (hears_data frame (mux_at role d true b)) (mux_at role d true b))) zero_not
    ∙ ap (λ (t : Bool). cond (t && true) (hears_data frame (mux_at role d true b)) (mux_at role d true b)) same

not_zero : (d : ℕ) → 0 < d → (d == 0) ≡ false
not_zero d some = ne_eqb d 0 (λ e. omega arith)

data_at : (role : Role) (d : ℕ) (octets : List ℕ) → (d == 0) ≡ false → (d == d) ≡ true → cond (not (d == 0) && ((d == d) && true)) octets [] ≡ octets
data_at role d octets zero_not same = ap (λ (t : Bool). cond (not t && ((d == d) && true)) octets []) zero_not ∙ ap (λ (t : Bool). cond (t && true) octets []) same

grant_heard : (role from : Role) (d : ℕ) (b : Body) (n : ℕ) → 0 < d → b.held + n ≤ 65535 → Heard role d (grant n) (frame_of from d (grant n)) b
grant_heard role from d b n some fits =
    let m : Mux = mux_at role d true b in
    let frame : PlainFrame = grant_frame from d n in
    let b' : Body = record b { held = b.held + n } in
    let takes : hears_data frame m ≡ mux_at role d true b' = rw (le-ltb 65535 (b.held + n) fits) refl in
    let is : hears_answer (Ok frame) m ≡ mux_at role d true b' = uih_at role d b frame (hears_messages (messages []) m) (not_zero d some) (eq-eqb d d refl) ∙ takes in
    record {
      b' = b';
      mux_is = is;
      comes = record { held = refl; peer = omega arith; waiting = refl; cap = refl; due_is = refl; awaited_is = omega arith; answers_are = omega arith; own_is = omega arith; peer_is = omega arith };
      handed_is = handed_at role d frame b b' [] is (cond_same (not (d == 0) && ((d == d) && true)) []) (λ rises. refl);
    }

no_rise : (a : Bool) → (a && not a) ≡ true → ⊥
no_rise true is = cc
no_rise false is = cc

info_heard : (role from : Role) (d : ℕ) (b : Body) (octet : ℕ) (octets : List ℕ) → 0 < d → 0 < b.peer → Heard role d (info octet octets) (frame_of from d (info octet octets)) b
info_heard role from d b octet octets some paid =
    let m : Mux = mux_at role d true b in
    let frame : PlainFrame = data_frame from d (octet ∷ octets) in
    let b' : Body = record b { peer = b.peer - 1 } in
    let owes : (b.peer == 0) ≡ false = ne_eqb b.peer 0 (λ e. omega arith) in
    let takes : hears_data frame m ≡ mux_at role d true b' = rw owes refl in
    let is : hears_answer (Ok frame) m ≡ mux_at role d true b' = uih_at role d b frame (hears_messages (messages (octet ∷ octets)) m) (not_zero d some) (eq-eqb d d refl) ∙ takes in
    record {
      b' = b';
      mux_is = is;
      comes = record { held = omega arith; peer = omega arith; waiting = refl; cap = refl; due_is = refl; awaited_is = omega arith; answers_are = omega arith; own_is = omega arith; peer_is = omega arith };
      handed_is = handed_at role d frame b b' (octet ∷ octets) is (data_at role d (octet ∷ octets) (not_zero d some) (eq-eqb d d refl)) (λ rises. absurd (no_rise (is_ready m) rises));
    }

pub item_heard : (role from : Role) (d : ℕ) (b : Body) (item : Item) → 0 < d → CanCome item b → Heard role d item (frame_of from d item) b
item_heard role from d b (signal command) some can = signal_heard role from d b command can
item_heard role from d b (grant n) some can = grant_heard role from d b n some can.fits
item_heard role from d b (info octet octets) some can = let paid = can.paid in info_heard role from d b octet octets some (omega (arith, paid))
