-- The frame that closes a multiplexer in order is the one that the reading says.
use Rattle.std.proofs.Common.{◌≡◌, ℕ, ◌==◌, ◌+◌, ◌-◌, ◌/◌, ◌%◌, Bool, true, false, ◌&&◌, ◌||◌, cond, List, [], ◌∷◌, Option, Some, None, Ok, Err, refl, sym, ap, subst, ◌∙◌}
use Rattle.std.specs.Prelude.{not, nat_lt, nat_le, length}
use Rattle.rfcomm_frames.specs.declared.frame.MuxKind.{MuxKind}
use Rattle.rfcomm_frames.specs.declared.frame.MuxKind.TheVariants.{Sabm, Ua, Dm, Disc, Uih}
use Rattle.rfcomm_frames.specs.declared.connection.Role.{Role}
use Rattle.rfcomm_frames.specs.declared.connection.Role.TheVariants.{Initiator, Responder}
use Rattle.rfcomm_frames.specs.declared.connection.Dlc.{Dlc}
use Rattle.rfcomm_frames.specs.declared.connection.Dlc.TheVariants.{Idle, Asked, Open, Ended}
use Rattle.rfcomm_frames.specs.Frames.{PlainFrame}
use Rattle.rfcomm_frames.specs.Controls.{PlainControl, pn, msc, test, rpn, rls, nsc, other, written}
use Rattle.rfcomm_frames.specs.FrameReading.{MessageAnswer, messages}
use Rattle.rfcomm_frames.specs.Connections.{other_role, turned, is_ended, is_left}
use Rattle.rfcomm_model.specs.declared.state.MuxReason.{MuxReason}
use Rattle.rfcomm_model.specs.declared.state.MuxReason.TheVariants as reasons
use Rattle.rfcomm_model.specs.declared.state.Command.TheVariants.{OpenControl, Agree, OpenUser, Signal, LeaveUser, LeaveControl}
use Rattle.rfcomm_model.specs.declared.state.Asks.{Asks}
use Rattle.rfcomm_model.specs.declared.state.Asks.TheVariants.{Nothing, Due, Awaited}
use Rattle.rfcomm_model.specs.Machine.{Mux, may_pass, closes}
use Rattle.rfcomm_model.specs.Written.{response_frame, control_frame}
use Rattle.rfcomm_model.specs.Hearing.{has_room, answering, says_dm, tells, signals_next, opens_control, opens_user, hears_sabm, control_answered, user_answered, control_refused, user_refused, ends, credited, charged, if_stands, with_credits, hears_data, counts, pn_credited, lesser, own_credits, hears_offer, terms_agreed, hears_acceptance, hears_other_offer, hears_pn, peer_answered, signals_answered, hears_msc, settings_of, hears_control, hears_message, hears_messages, hears_uih, hears_kind, hears_answer, hears_frame}
use Rattle.rfcomm_frames.specs.declared.closing.Closing.{Closing}
use Rattle.rfcomm_frames.specs.declared.closing.Closing.TheVariants.{NotBegun, LeavingUser, UserLeft, LeavingControl}
use Rattle.rfcomm_frames.specs.Ending.{once_answered, closing_heard, awaits_user, awaits_control, is_closed_by}
use Rattle.rfcomm_model.specs.Sides.{FindsRoom}
use Rattle.rfcomm_model.proofs.Closing.{keep_cond}
use Rattle.rfcomm_model.proofs.Talking.{lines_of}

-- how far a multiplexer is in closing
abbrev pub far_of : Asks → Closing
far_of Nothing = NotBegun
far_of (Due OpenControl) = NotBegun
far_of (Due Agree) = NotBegun
far_of (Due OpenUser) = NotBegun
far_of (Due Signal) = NotBegun
far_of (Due LeaveUser) = NotBegun
far_of (Due LeaveControl) = UserLeft
far_of (Awaited OpenControl) = NotBegun
far_of (Awaited Agree) = NotBegun
far_of (Awaited OpenUser) = NotBegun
far_of (Awaited Signal) = NotBegun
far_of (Awaited LeaveUser) = LeavingUser
far_of (Awaited LeaveControl) = LeavingControl

-- it is open and so far, or a frame of the peer was refused
abbrev MildAs : Option MuxReason → Closing → Closing → Type 0
MildAs None c now = now ≡ c
MildAs (Some reasons.Dm) c now = ⊥
MildAs (Some reasons.Disc) c now = ⊥
MildAs (Some reasons.NoCreditFlow) c now = Unit {0}
MildAs (Some reasons.Overdrawn) c now = Unit {0}
MildAs (Some reasons.BadFrame) c now = Unit {0}
MildAs (Some reasons.CreditOverflow) c now = Unit {0}

abbrev Mild : Closing → Mux → Type 0
Mild c m = MildAs m.closed c (far_of m.asks)

module _ (c : Closing) where
  abbrev M : Mux → Type 0
  M m = Mild c m

  dm_mild : (n : ℕ) (m : Mux) → M m → M (says_dm n m)
  dm_mild n m k = keep_cond M (has_room m) (answering (response_frame m.role Dm n) m) m k k

  tells_mild : (control : PlainControl) (m : Mux) → M m → M (tells control m)
  tells_mild control m k = keep_cond M (nat_le (length (written control)) 40 && has_room m) (answering (control_frame m.role control) m) m k k

  -- ---- SABM

  signals_far : (dlc : Dlc) (asks : Asks) → far_of (signals_next dlc asks) ≡ far_of asks
  signals_far Idle Nothing = refl
  signals_far Idle (Due command) = refl
  signals_far Idle (Awaited command) = refl
  signals_far Asked asks = refl
  signals_far Open asks = refl
  signals_far Ended asks = refl

  opens_control_mild : (m : Mux) → M m → M (opens_control m)
  opens_control_mild m k =
      let x : Mux = record m { control = turned Initiator Sabm m.control } in
      keep_cond M (is_ended m.control) (says_dm 0 m) (cond (has_room m) (answering (response_frame m.role Ua 0) x) m) (dm_mild 0 m k) (keep_cond M (has_room m) (answering (response_frame m.role Ua 0) x) m k k)

  opens_user_mild : (m : Mux) → M m → M (opens_user m)
  opens_user_mild m k =
      let x : Mux = record m { user = turned Initiator Sabm m.user; asks = signals_next m.user m.asks } in
      let opened : Mux = cond (has_room m) (answering (response_frame m.role Ua m.dlci) x) m in
      keep_cond M (not m.agreed) (closes reasons.NoCreditFlow m) (cond (is_ended m.user) (says_dm m.dlci m) opened) tt
      (keep_cond M (is_ended m.user) (says_dm m.dlci m) opened (dm_mild m.dlci m k)
      (keep_cond M (has_room m) (answering (response_frame m.role Ua m.dlci) x) m (subst (MildAs m.closed c) (sym (signals_far m.user m.asks)) k) k))

  sabm_mild : (role : Role) (n : ℕ) (m : Mux) → M m → M (hears_sabm role n m)
  sabm_mild Initiator n m k = dm_mild n m k
  sabm_mild Responder n m k =
      keep_cond M (n == 0) (opens_control m) (cond (n == m.dlci) (opens_user m) (says_dm n m)) (opens_control_mild m k) (keep_cond M (n == m.dlci) (opens_user m) (says_dm n m) (opens_user_mild m k) (dm_mild n m k))

  -- ---- UIH

  credited_mild : (n : ℕ) (m : Mux) → M m → M (credited n m)
  credited_mild n m k = keep_cond M (nat_lt 65535 (m.account.held + n)) (closes reasons.CreditOverflow m) (record m { account = record { cap = m.account.cap; held = m.account.held + n; peer = m.account.peer } }) tt k

  charged_mild : (octets : List ℕ) (m : Mux) → M m → M (charged octets m)
  charged_mild [] m k = k
  charged_mild (octet ∷ octets) m k = keep_cond M (m.account.peer == 0) (closes reasons.Overdrawn m) (record m { account = record { cap = m.account.cap; held = m.account.held; peer = m.account.peer - 1 } }) tt k

  with_credits_mild : (credits : Option ℕ) (m : Mux) → M m → M (with_credits credits m)
  with_credits_mild None m k = k
  with_credits_mild (Some n) m k = credited_mild n m k

  stands_mild : (f : Mux → Mux) (closed : Option MuxReason) (m : Mux) → M (f m) → M m → M (if_stands f closed m)
  stands_mild f None m p k = p
  stands_mild f (Some reason) m p k = k

  data_mild : (frame : PlainFrame) (m : Mux) → M m → M (hears_data frame m)
  data_mild frame m k =
      let granted : Mux = with_credits frame.credits m in
      let k' : M granted = with_credits_mild frame.credits m k in
      stands_mild (charged frame.octets) granted.closed granted (charged_mild frame.octets granted k') k'

  pn_credited_mild : (credits : ℕ) (m : Mux) → M m → M (pn_credited credits m)
  pn_credited_mild credits m k = keep_cond M (counts m) (credited (credits % 8) m) m (credited_mild (credits % 8) m k) k

  offer_mild : (flow priority frame credits : ℕ) (m : Mux) → M m → M (hears_offer flow priority frame credits m)
  offer_mild flow priority frame credits m k =
      let agreed : Mux = answering (control_frame m.role (pn false m.dlci 0xE0 priority 0 (lesser m.own frame) 0 (own_credits m))) (record m { frame = lesser m.own frame; agreed = true; stated = true }) in
      let room : Mux = cond (has_room m) (pn_credited credits agreed) m in
      keep_cond M (not (flow / 16 == 0xF)) (closes reasons.NoCreditFlow m) (cond (nat_lt frame 23) (closes reasons.BadFrame m) room) tt
      (keep_cond M (nat_lt frame 23) (closes reasons.BadFrame m) room tt (keep_cond M (has_room m) (pn_credited credits agreed) m (pn_credited_mild credits agreed k) k))

  terms_far : (asks : Asks) → far_of (terms_agreed asks) ≡ far_of asks
  terms_far Nothing = refl
  terms_far (Due command) = refl
  terms_far (Awaited OpenControl) = refl
  terms_far (Awaited Agree) = refl
  terms_far (Awaited OpenUser) = refl
  terms_far (Awaited Signal) = refl
  terms_far (Awaited LeaveUser) = refl
  terms_far (Awaited LeaveControl) = refl

  acceptance_mild : (flow frame credits : ℕ) (m : Mux) → M m → M (hears_acceptance flow frame credits m)
  acceptance_mild flow frame credits m k =
      let agreed : Mux = record m { frame = lesser m.own frame; agreed = true; asks = terms_agreed m.asks } in
      keep_cond M (not (flow / 16 == 0xE)) (closes reasons.NoCreditFlow m) (cond (nat_lt frame 23) (closes reasons.BadFrame m) (pn_credited credits agreed)) tt
      (keep_cond M (nat_lt frame 23) (closes reasons.BadFrame m) (pn_credited credits agreed) tt
      (pn_credited_mild credits agreed (subst (MildAs m.closed c) (sym (terms_far m.asks)) k)))

  other_mild : (command : Bool) (n frame : ℕ) (m : Mux) → M m → M (hears_other_offer command n frame m)
  other_mild command n frame m k = keep_cond M (nat_lt frame 23) (closes reasons.BadFrame m) (cond command (says_dm n m) m) tt (keep_cond M command (says_dm n m) m (dm_mild n m k) k)

  pn_mild : (command : Bool) (n flow priority frame credits : ℕ) (m : Mux) → M m → M (hears_pn command n flow priority frame credits m)
  pn_mild true n flow priority frame credits m k =
      keep_cond M (n % 64 == m.dlci) (hears_offer flow priority frame credits m) (hears_other_offer true (n % 64) frame m) (offer_mild flow priority frame credits m k) (other_mild true (n % 64) frame m k)
  pn_mild false n flow priority frame credits m k =
      keep_cond M (n % 64 == m.dlci) (hears_acceptance flow frame credits m) (hears_other_offer false (n % 64) frame m) (acceptance_mild flow frame credits m k) (other_mild false (n % 64) frame m k)

  signals_mild : (asks : Asks) (m : Mux) → m.asks ≡ asks → M m → M (signals_answered asks m)
  signals_mild Nothing m is k = k
  signals_mild (Due command) m is k = k
  signals_mild (Awaited OpenControl) m is k = k
  signals_mild (Awaited Agree) m is k = k
  signals_mild (Awaited OpenUser) m is k = k
  signals_mild (Awaited Signal) m is k = subst (λ (asks : Asks). MildAs m.closed c (far_of asks)) is k
  signals_mild (Awaited LeaveUser) m is k = k
  signals_mild (Awaited LeaveControl) m is k = k

  msc_mild : (command : Bool) (address signals : ℕ) (m : Mux) → M m → M (hears_msc command address signals m)
  msc_mild true address signals m k =
      let noted : Mux = cond (address / 4 == m.dlci) (record m { ready = peer_answered m.ready }) m in
      keep_cond M (has_room m) (answering (control_frame m.role (msc false address signals)) noted) m (keep_cond M (address / 4 == m.dlci) (record m { ready = peer_answered m.ready }) m k k) k
  msc_mild false address signals m k = keep_cond M (address / 4 == m.dlci) (signals_answered m.asks m) m (signals_mild m.asks m refl k) k

  control_mild : (control : PlainControl) (m : Mux) → M m → M (hears_control control m)
  control_mild (pn command n flow priority timer frame retransmissions credits) m k = pn_mild command n flow priority frame credits m k
  control_mild (msc command address signals) m k = msc_mild command address signals m k
  control_mild (test command octets) m k = keep_cond M command (tells (test false octets) m) m (tells_mild (test false octets) m k) k
  control_mild (rpn command value) m k = keep_cond M command (tells (rpn false (settings_of value)) m) m (tells_mild (rpn false (settings_of value)) m k) k
  control_mild (rls command value) m k = keep_cond M command (tells (rls false value) m) m (tells_mild (rls false value) m k) k
  control_mild (nsc kind) m k = k
  control_mild (other kind value) m k = keep_cond M (kind / 2 % 2 == 1) (tells (nsc kind) m) m (tells_mild (nsc kind) m k) k

  message_mild : (message : MessageAnswer) (m : Mux) → M m → M (hears_message message m)
  message_mild (Ok control) m k = control_mild control m k
  message_mild (Err refusal) m k = tt

  messages_mild : (list : List MessageAnswer) (m : Mux) → M m → M (hears_messages list m)
  messages_mild [] m k = k
  messages_mild (message ∷ rest) m k = messages_mild rest (if_stands (hears_message message) m.closed m) (stands_mild (hears_message message) m.closed m (message_mild message m k) k)

  uih_mild : (frame : PlainFrame) (m : Mux) → M m → M (hears_uih frame m)
  uih_mild frame m k =
      keep_cond M (frame.dlci == 0) (hears_messages (messages frame.octets) m) (cond ((frame.dlci == m.dlci) && may_pass m) (hears_data frame m) m) (messages_mild (messages frame.octets) m k)
      (keep_cond M ((frame.dlci == m.dlci) && may_pass m) (hears_data frame m) m (data_mild frame m k) k)

-- ---- what a frame makes of an open multiplexer: it is open and so far, or closed in order by this frame, or a frame was
-- refused

abbrev pub AfterAs : Option MuxReason → (last : Bool) → (c now : Closing) → (held held' : ℕ) → Type 0
AfterAs None last c now held held' = (last ≡ false) × (now ≡ c)
AfterAs (Some reasons.Dm) last c now held held' = (last ≡ true) × (held' ≡ held)
AfterAs (Some reasons.Disc) last c now held held' = (last ≡ true) × (held' ≡ held)
AfterAs (Some reasons.NoCreditFlow) last c now held held' = Unit {0}
AfterAs (Some reasons.Overdrawn) last c now held held' = Unit {0}
AfterAs (Some reasons.BadFrame) last c now held held' = Unit {0}
AfterAs (Some reasons.CreditOverflow) last c now held held' = Unit {0}

abbrev pub After : Bool → Closing → ℕ → Mux → Type 0
After last c held m = AfterAs m.closed last c (far_of m.asks) held m.account.held

mild_as : (closed : Option MuxReason) (c now : Closing) (held held' : ℕ) → MildAs closed c now → AfterAs closed false c now held held'
mild_as None c now held held' k = (refl, k)
mild_as (Some reasons.Dm) c now held held' k = absurd k
mild_as (Some reasons.Disc) c now held held' k = absurd k
mild_as (Some reasons.NoCreditFlow) c now held held' k = tt
mild_as (Some reasons.Overdrawn) c now held held' k = tt
mild_as (Some reasons.BadFrame) c now held held' k = tt
mild_as (Some reasons.CreditOverflow) c now held held' k = tt

mild_after : (c : Closing) (held : ℕ) (m : Mux) → Mild c m → After false c held m
mild_after c held m k = mild_as m.closed c (far_of m.asks) held m.account.held k

-- an open multiplexer with a wish
abbrev at : Asks → Mux → Mux
at asks m = record m { asks = asks; closed = None }

control_ua : (asks : Asks) (m : Mux) (dlc : Dlc) → After (awaits_control (far_of asks)) (far_of asks) m.account.held (control_answered asks (record (at asks m) { control = dlc }))
control_ua Nothing m dlc = (refl, refl)
control_ua (Due OpenControl) m dlc = (refl, refl)
control_ua (Due Agree) m dlc = (refl, refl)
control_ua (Due OpenUser) m dlc = (refl, refl)
control_ua (Due Signal) m dlc = (refl, refl)
control_ua (Due LeaveUser) m dlc = (refl, refl)
control_ua (Due LeaveControl) m dlc = (refl, refl)
control_ua (Awaited OpenControl) m dlc = (refl, refl)
control_ua (Awaited Agree) m dlc = (refl, refl)
control_ua (Awaited OpenUser) m dlc = (refl, refl)
control_ua (Awaited Signal) m dlc = (refl, refl)
control_ua (Awaited LeaveUser) m dlc = (refl, refl)
control_ua (Awaited LeaveControl) m dlc = (refl, refl)

user_ua : (asks : Asks) → far_of (user_answered asks) ≡ once_answered (far_of asks)
user_ua Nothing = refl
user_ua (Due OpenControl) = refl
user_ua (Due Agree) = refl
user_ua (Due OpenUser) = refl
user_ua (Due Signal) = refl
user_ua (Due LeaveUser) = refl
user_ua (Due LeaveControl) = refl
user_ua (Awaited OpenControl) = refl
user_ua (Awaited Agree) = refl
user_ua (Awaited OpenUser) = refl
user_ua (Awaited Signal) = refl
user_ua (Awaited LeaveUser) = refl
user_ua (Awaited LeaveControl) = refl

ua_after : (m : Mux) (asks : Asks) (pf a b : Bool) (control user : Dlc)
    → After (pf && (a && awaits_control (far_of asks))) (cond pf (cond a (far_of asks) (cond b (once_answered (far_of asks)) (far_of asks))) (far_of asks)) m.account.held
    (cond pf (cond a (control_answered asks (record (at asks m) { control = control })) (cond b (record (at asks m) { user = user; asks = user_answered asks }) (at asks m))) (at asks m))
ua_after m asks false a b control user = (refl, refl)
ua_after m asks true true b control user = control_ua asks m control
ua_after m asks true false true control user = (refl, user_ua asks)
ua_after m asks true false false control user = (refl, refl)

control_dm : (asks : Asks) (m : Mux) → After true (far_of asks) m.account.held (control_refused asks (at asks m))
control_dm Nothing m = (refl, refl)
control_dm (Due command) m = (refl, refl)
control_dm (Awaited OpenControl) m = (refl, refl)
control_dm (Awaited Agree) m = (refl, refl)
control_dm (Awaited OpenUser) m = (refl, refl)
control_dm (Awaited Signal) m = (refl, refl)
control_dm (Awaited LeaveUser) m = (refl, refl)
control_dm (Awaited LeaveControl) m = (refl, refl)

user_dm : (asks : Asks) (m : Mux) → After (not (awaits_user (far_of asks))) (once_answered (far_of asks)) m.account.held (user_refused asks (at asks m))
user_dm Nothing m = (refl, refl)
user_dm (Due OpenControl) m = (refl, refl)
user_dm (Due Agree) m = (refl, refl)
user_dm (Due OpenUser) m = (refl, refl)
user_dm (Due Signal) m = (refl, refl)
user_dm (Due LeaveUser) m = (refl, refl)
user_dm (Due LeaveControl) m = (refl, refl)
user_dm (Awaited OpenControl) m = (refl, refl)
user_dm (Awaited Agree) m = (refl, refl)
user_dm (Awaited OpenUser) m = (refl, refl)
user_dm (Awaited Signal) m = (refl, refl)
user_dm (Awaited LeaveUser) m = (refl, refl)
user_dm (Awaited LeaveControl) m = (refl, refl)

dm_after : (m : Mux) (asks : Asks) (a b : Bool)
    → After (cond a true (cond b (not (awaits_user (far_of asks))) false)) (cond a (far_of asks) (cond b (once_answered (far_of asks)) (far_of asks))) m.account.held
    (cond a (control_refused asks (at asks m)) (cond b (user_refused asks (at asks m)) (at asks m)))
dm_after m asks true b = control_dm asks m
dm_after m asks false true = user_dm asks m
dm_after m asks false false = (refl, refl)

disc_after : (m : Mux) (asks : Asks) (n : ℕ) (pf p q room : Bool) → room ≡ true
    → After (pf && (p || q)) (far_of asks) m.account.held
    (cond pf
    (cond p (cond room (answering (response_frame m.role Ua 0) (ends None (record (at asks m) { control = Ended }))) (at asks m))
    (cond q (cond room (answering (response_frame m.role Ua m.dlci) (ends None (record (at asks m) { user = Ended }))) (at asks m)) (says_dm n (at asks m))))
    (at asks m))
disc_after m asks n pf p q false has = let never : false ≡ true = has in cc
disc_after m asks n false p q true has = (refl, refl)
disc_after m asks n true true q true has = (refl, refl)
disc_after m asks n true false true true has = (refl, refl)
disc_after m asks n true false false true has = mild_after (far_of asks) m.account.held (says_dm n (at asks m)) (dm_mild (far_of asks) n (at asks m) refl)

kind_after : (kind : MuxKind) (f : PlainFrame) (m : Mux) (asks : Asks) → FindsRoom kind f m
    → After (is_closed_by m.dlci (other_role m.role) (lines_of m) (far_of asks) kind f.dlci f.pf) (closing_heard m.dlci kind f.dlci f.pf (far_of asks)) m.account.held (hears_kind kind f (at asks m))
kind_after Sabm f m asks room =
    mild_after (far_of asks) m.account.held (hears_kind Sabm f (at asks m))
    (keep_cond (Mild (far_of asks)) f.pf (hears_sabm m.role f.dlci (at asks m)) (at asks m) (sabm_mild (far_of asks) m.role f.dlci (at asks m) refl) refl)
kind_after Ua f m asks room = ua_after m asks f.pf (f.dlci == 0) (f.dlci == m.dlci) (turned (other_role m.role) Ua m.control) (turned (other_role m.role) Ua m.user)
kind_after Dm f m asks room = dm_after m asks (f.dlci == 0) (f.dlci == m.dlci)
kind_after Disc f m asks room = disc_after m asks f.dlci f.pf ((f.dlci == 0) && is_left (other_role m.role) m.control) ((f.dlci == m.dlci) && is_left (other_role m.role) m.user) (has_room m) room
kind_after Uih f m asks room = mild_after (far_of asks) m.account.held (hears_uih f (at asks m)) (uih_mild (far_of asks) f (at asks m) refl)

pub frame_after : (m : Mux) (f : PlainFrame) → m.closed ≡ None → FindsRoom f.kind f m
    → After (is_closed_by m.dlci (other_role m.role) (lines_of m) (far_of m.asks) f.kind f.dlci f.pf) (closing_heard m.dlci f.kind f.dlci f.pf (far_of m.asks)) m.account.held (hears_answer (Ok f) m)
frame_after m f standing room =
    let is : hears_kind f.kind f (at m.asks m) ≡ hears_frame m.closed f m =
    ap (λ (closed : Option MuxReason). hears_kind f.kind f (record m { closed = closed })) (sym standing) ∙ sym (ap (λ (closed : Option MuxReason). hears_frame closed f m) standing) in
    subst (After (is_closed_by m.dlci (other_role m.role) (lines_of m) (far_of m.asks) f.kind f.dlci f.pf) (closing_heard m.dlci f.kind f.dlci f.pf (far_of m.asks)) m.account.held) is (kind_after f.kind f m m.asks room)
