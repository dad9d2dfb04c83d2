-- What closing, answering and the turns of a multiplexer's parts keep, hearing keeps.
use Rattle.std.proofs.Common.{arith, ◌<◌, ℕ, ◌==◌, ◌+◌, ◌-◌, ◌/◌, ◌%◌, Bool, true, false, ◌&&◌, cond, List, [], ◌∷◌, Option, Some, None, Ok, Err, refl, ap}
use Rattle.std.specs.Prelude.{not, nat_lt, nat_le, length}
use Rattle.std.proofs.lemmas.Bool.{ne_eqb}
use Rattle.rfcomm_frames.specs.declared.frame.MuxKind.{MuxKind}
use Rattle.rfcomm_frames.specs.declared.frame.MuxKind.TheVariants.{Sabm, Ua, Dm, Disc, Uih}
use Rattle.rfcomm_frames.specs.declared.connection.Role.{Role}
use Rattle.rfcomm_frames.specs.declared.connection.Role.TheVariants.{Initiator, Responder}
use Rattle.rfcomm_frames.specs.declared.connection.Dlc.{Dlc}
use Rattle.rfcomm_frames.specs.declared.connection.Dlc.TheVariants.{Ended}
use Rattle.rfcomm_frames.specs.Frames.{PlainFrame}
use Rattle.rfcomm_frames.specs.Answers.{Answer}
use Rattle.rfcomm_frames.specs.Controls.{PlainControl, pn, msc, test, rpn, rls, nsc, other, written}
use Rattle.rfcomm_frames.specs.FrameReading.{MessageAnswer, messages}
use Rattle.rfcomm_frames.specs.Connections.{other_role, turned, is_ended, is_left}
use Rattle.rfcomm_credits.specs.Accounts.{Credits}
use Rattle.rfcomm_model.specs.declared.state.MuxReason.{MuxReason}
use Rattle.rfcomm_model.specs.declared.state.MuxReason.TheVariants as reasons
use Rattle.rfcomm_model.specs.declared.state.Command.TheVariants.{OpenControl, Agree, OpenUser, Signal, LeaveUser, LeaveControl}
use Rattle.rfcomm_model.specs.declared.state.Asks.{Asks}
use Rattle.rfcomm_model.specs.declared.state.Asks.TheVariants.{Nothing, Due, Awaited}
use Rattle.rfcomm_model.specs.declared.state.Readiness.{Readiness}
use Rattle.rfcomm_model.specs.Machine.{Mux, may_pass, closes}
use Rattle.rfcomm_model.specs.Written.{response_frame, control_frame}
use Rattle.rfcomm_model.specs.Hearing.{has_room, answering, says_dm, tells, signals_next, opens_control, opens_user, hears_sabm, control_answered, user_answered, hears_ua, control_refused, user_refused, hears_dm, ends, hears_disc, credited, charged, if_stands, with_credits, hears_data, counts, pn_credited, lesser, own_credits, hears_offer, terms_agreed, hears_acceptance, hears_other_offer, hears_pn, peer_answered, own_answered, signals_answered, hears_msc, settings_of, hears_control, hears_message, hears_messages, hears_uih, hears_kind, hears_settled, hears_frame, hears_answer}
use Rattle.rfcomm_model.proofs.Closing.{keep_cond}
use Rattle.rfcomm_model.proofs.Stepping.{IsReply, and_false}

-- a multiplexer with other parts
abbrev pub with_parts : Dlc → Dlc → Asks → Readiness → (held peer frame : ℕ) → (agreed stated : Bool) → Mux → Mux
with_parts control user asks ready held peer frame agreed stated m =
    record m { control = control; user = user; asks = asks; ready = ready; account = record { cap = m.account.cap; held = held; peer = peer }; frame = frame; agreed = agreed; stated = stated }

module _ (d : ℕ) (some : 0 < d) (P : Mux → Type 0)
    (shut : (reason : MuxReason) (m : Mux) → P m → P (closes reason m))
    (more : (f : PlainFrame) (m : Mux) → IsReply d f → P m → P (answering f m))
    (parts : (control user : Dlc) (asks : Asks) (ready : Readiness) (held peer frame : ℕ) (agreed stated : Bool) (m : Mux) → P m → P (with_parts control user asks ready held peer frame agreed stated m)) where
  message_reply : (role : Role) (control : PlainControl) → IsReply d (control_frame role control)
  message_reply role control = (ap (λ (b : Bool). b && true) (ne_eqb 0 d (λ e. omega (arith, some, e))), refl)

  lines : (control user : Dlc) (m : Mux) → P m → P (record m { control = control; user = user })
  lines control user m p = parts control user m.asks m.ready m.account.held m.account.peer m.frame m.agreed m.stated m p

  wish : (asks : Asks) (m : Mux) → P m → P (record m { asks = asks })
  wish asks m p = parts m.control m.user asks m.ready m.account.held m.account.peer m.frame m.agreed m.stated m p

  money : (held peer : ℕ) (m : Mux) → P m → P (record m { account = record { cap = m.account.cap; held = held; peer = peer } })
  money held peer m p = parts m.control m.user m.asks m.ready held peer m.frame m.agreed m.stated m p

  dm_walks : (n : ℕ) (m : Mux) → P m → P (says_dm n m)
  dm_walks n m p = keep_cond P (has_room m) (answering (response_frame m.role Dm n) m) m (more (response_frame m.role Dm n) m (and_false (n == d), refl) p) p

  tells_walks : (control : PlainControl) (m : Mux) → P m → P (tells control m)
  tells_walks control m p = keep_cond P (nat_le (length (written control)) 40 && has_room m) (answering (control_frame m.role control) m) m (more (control_frame m.role control) m (message_reply m.role control) p) p

  ua_more : (role : Role) (n : ℕ) (m : Mux) → P m → P (answering (response_frame role Ua n) m)
  ua_more role n m p = more (response_frame role Ua n) m (and_false (n == d), refl) p

  -- ---- SABM, UA, DM, DISC

  opens_control_walks : (m : Mux) → P m → P (opens_control m)
  opens_control_walks m p =
      let x : Mux = record m { control = turned Initiator Sabm m.control } in
      keep_cond P (is_ended m.control) (says_dm 0 m) (cond (has_room m) (answering (response_frame m.role Ua 0) x) m) (dm_walks 0 m p)
      (keep_cond P (has_room m) (answering (response_frame m.role Ua 0) x) m (ua_more m.role 0 x (lines (turned Initiator Sabm m.control) m.user m p)) p)

  opens_user_walks : (m : Mux) → P m → P (opens_user m)
  opens_user_walks m p =
      let x : Mux = record m { user = turned Initiator Sabm m.user; asks = signals_next m.user m.asks } in
      let opened : Mux = cond (has_room m) (answering (response_frame m.role Ua m.dlci) x) m in
      keep_cond P (not m.agreed) (closes reasons.NoCreditFlow m) (cond (is_ended m.user) (says_dm m.dlci m) opened) (shut reasons.NoCreditFlow m p)
      (keep_cond P (is_ended m.user) (says_dm m.dlci m) opened (dm_walks m.dlci m p)
      (keep_cond P (has_room m) (answering (response_frame m.role Ua m.dlci) x) m
      (ua_more m.role m.dlci x (parts m.control (turned Initiator Sabm m.user) (signals_next m.user m.asks) m.ready m.account.held m.account.peer m.frame m.agreed m.stated m p)) p))

  sabm_walks : (role : Role) (n : ℕ) (m : Mux) → P m → P (hears_sabm role n m)
  sabm_walks Initiator n m p = dm_walks n m p
  sabm_walks Responder n m p =
      keep_cond P (n == 0) (opens_control m) (cond (n == m.dlci) (opens_user m) (says_dm n m)) (opens_control_walks m p) (keep_cond P (n == m.dlci) (opens_user m) (says_dm n m) (opens_user_walks m p) (dm_walks n m p))

  control_ua_walks : (asks : Asks) (m : Mux) → P m → P (control_answered asks m)
  control_ua_walks Nothing m p = p
  control_ua_walks (Due command) m p = p
  control_ua_walks (Awaited OpenControl) m p = wish (Due Agree) m p
  control_ua_walks (Awaited Agree) m p = p
  control_ua_walks (Awaited OpenUser) m p = p
  control_ua_walks (Awaited Signal) m p = p
  control_ua_walks (Awaited LeaveUser) m p = p
  control_ua_walks (Awaited LeaveControl) m p = shut reasons.Disc m p

  ua_walks : (n : ℕ) (m : Mux) → P m → P (hears_ua n m)
  ua_walks n m p =
      let x : Mux = record m { control = turned (other_role m.role) Ua m.control } in
      let y : Mux = record m { user = turned (other_role m.role) Ua m.user; asks = user_answered m.asks } in
      keep_cond P (n == 0) (control_answered m.asks x) (cond (n == m.dlci) y m) (control_ua_walks m.asks x (lines (turned (other_role m.role) Ua m.control) m.user m p))
      (keep_cond P (n == m.dlci) y m (parts m.control (turned (other_role m.role) Ua m.user) (user_answered m.asks) m.ready m.account.held m.account.peer m.frame m.agreed m.stated m p) p)

  control_dm_walks : (asks : Asks) (m : Mux) → P m → P (control_refused asks m)
  control_dm_walks Nothing m p = shut reasons.Dm m p
  control_dm_walks (Due command) m p = shut reasons.Dm m p
  control_dm_walks (Awaited OpenControl) m p = shut reasons.Dm m p
  control_dm_walks (Awaited Agree) m p = shut reasons.Dm m p
  control_dm_walks (Awaited OpenUser) m p = shut reasons.Dm m p
  control_dm_walks (Awaited Signal) m p = shut reasons.Dm m p
  control_dm_walks (Awaited LeaveUser) m p = shut reasons.Dm m p
  control_dm_walks (Awaited LeaveControl) m p = shut reasons.Disc m p

  user_dm_walks : (asks : Asks) (m : Mux) → P m → P (user_refused asks m)
  user_dm_walks Nothing m p = shut reasons.Dm m p
  user_dm_walks (Due command) m p = shut reasons.Dm m p
  user_dm_walks (Awaited OpenControl) m p = shut reasons.Dm m p
  user_dm_walks (Awaited Agree) m p = shut reasons.Dm m p
  user_dm_walks (Awaited OpenUser) m p = shut reasons.Dm m p
  user_dm_walks (Awaited Signal) m p = shut reasons.Dm m p
  user_dm_walks (Awaited LeaveUser) m p = wish (Due LeaveControl) m p
  user_dm_walks (Awaited LeaveControl) m p = shut reasons.Dm m p

  heard_dm_walks : (n : ℕ) (m : Mux) → P m → P (hears_dm n m)
  heard_dm_walks n m p =
      keep_cond P (n == 0) (control_refused m.asks m) (cond (n == m.dlci) (user_refused m.asks m) m) (control_dm_walks m.asks m p) (keep_cond P (n == m.dlci) (user_refused m.asks m) m (user_dm_walks m.asks m p) p)

  ends_walks : (closed : Option MuxReason) (m : Mux) → P m → P (ends closed m)
  ends_walks None m p = shut reasons.Disc m p
  ends_walks (Some reason) m p = p

  disc_walks : (n : ℕ) (m : Mux) → P m → P (hears_disc n m)
  disc_walks n m p =
      let from : Role = other_role m.role in
      let first : Mux = record m { control = Ended } in
      let second : Mux = record m { user = Ended } in
      let left_control : Mux = cond (has_room m) (answering (response_frame m.role Ua 0) (ends m.closed first)) m in
      let left_user : Mux = cond (has_room m) (answering (response_frame m.role Ua m.dlci) (ends m.closed second)) m in
      keep_cond P ((n == 0) && is_left from m.control) left_control (cond ((n == m.dlci) && is_left from m.user) left_user (says_dm n m))
      (keep_cond P (has_room m) (answering (response_frame m.role Ua 0) (ends m.closed first)) m (ua_more m.role 0 (ends m.closed first) (ends_walks m.closed first (lines Ended m.user m p))) p)
      (keep_cond P ((n == m.dlci) && is_left from m.user) left_user (says_dm n m)
      (keep_cond P (has_room m) (answering (response_frame m.role Ua m.dlci) (ends m.closed second)) m (ua_more m.role m.dlci (ends m.closed second) (ends_walks m.closed second (lines m.control Ended m p))) p)
      (dm_walks n m p))

  -- ---- UIH

  credited_walks : (n : ℕ) (m : Mux) → P m → P (credited n m)
  credited_walks n m p =
      let account : Credits = record { cap = m.account.cap; held = m.account.held + n; peer = m.account.peer } in
      keep_cond P (nat_lt 65535 (m.account.held + n)) (closes reasons.CreditOverflow m) (record m { account = account }) (shut reasons.CreditOverflow m p) (money (m.account.held + n) m.account.peer m p)

  charged_walks : (octets : List ℕ) (m : Mux) → P m → P (charged octets m)
  charged_walks [] m p = p
  charged_walks (octet ∷ octets) m p =
      let account : Credits = record { cap = m.account.cap; held = m.account.held; peer = m.account.peer - 1 } in
      keep_cond P (m.account.peer == 0) (closes reasons.Overdrawn m) (record m { account = account }) (shut reasons.Overdrawn m p) (money m.account.held (m.account.peer - 1) m p)

  with_credits_walks : (credits : Option ℕ) (m : Mux) → P m → P (with_credits credits m)
  with_credits_walks None m p = p
  with_credits_walks (Some n) m p = credited_walks n m p

  stands_walks : (f : Mux → Mux) (closed : Option MuxReason) (m : Mux) → P (f m) → P m → P (if_stands f closed m)
  stands_walks f None m q p = q
  stands_walks f (Some reason) m q p = p

  data_walks : (frame : PlainFrame) (m : Mux) → P m → P (hears_data frame m)
  data_walks frame m p =
      let granted : Mux = with_credits frame.credits m in
      let q : P granted = with_credits_walks frame.credits m p in
      stands_walks (charged frame.octets) granted.closed granted (charged_walks frame.octets granted q) q

  pn_credited_walks : (credits : ℕ) (m : Mux) → P m → P (pn_credited credits m)
  pn_credited_walks credits m p = keep_cond P (counts m) (credited (credits % 8) m) m (credited_walks (credits % 8) m p) p

  offer_walks : (flow priority frame credits : ℕ) (m : Mux) → P m → P (hears_offer flow priority frame credits m)
  offer_walks flow priority frame credits m p =
      let control : PlainControl = pn false m.dlci 0xE0 priority 0 (lesser m.own frame) 0 (own_credits m) in
      let agreed : Mux = record m { frame = lesser m.own frame; agreed = true; stated = true } in
      let room : Mux = cond (has_room m) (pn_credited credits (answering (control_frame m.role control) agreed)) m in
      keep_cond P (not (flow / 16 == 0xF)) (closes reasons.NoCreditFlow m) (cond (nat_lt frame 23) (closes reasons.BadFrame m) room) (shut reasons.NoCreditFlow m p)
      (keep_cond P (nat_lt frame 23) (closes reasons.BadFrame m) room (shut reasons.BadFrame m p)
      (keep_cond P (has_room m) (pn_credited credits (answering (control_frame m.role control) agreed)) m
      (pn_credited_walks credits (answering (control_frame m.role control) agreed)
      (more (control_frame m.role control) agreed (message_reply m.role control) (parts m.control m.user m.asks m.ready m.account.held m.account.peer (lesser m.own frame) true true m p))) p))

  acceptance_walks : (flow frame credits : ℕ) (m : Mux) → P m → P (hears_acceptance flow frame credits m)
  acceptance_walks flow frame credits m p =
      let agreed : Mux = record m { frame = lesser m.own frame; agreed = true; asks = terms_agreed m.asks } in
      keep_cond P (not (flow / 16 == 0xE)) (closes reasons.NoCreditFlow m) (cond (nat_lt frame 23) (closes reasons.BadFrame m) (pn_credited credits agreed)) (shut reasons.NoCreditFlow m p)
      (keep_cond P (nat_lt frame 23) (closes reasons.BadFrame m) (pn_credited credits agreed) (shut reasons.BadFrame m p)
      (pn_credited_walks credits agreed (parts m.control m.user (terms_agreed m.asks) m.ready m.account.held m.account.peer (lesser m.own frame) true m.stated m p)))

  other_walks : (command : Bool) (n frame : ℕ) (m : Mux) → P m → P (hears_other_offer command n frame m)
  other_walks command n frame m p =
      keep_cond P (nat_lt frame 23) (closes reasons.BadFrame m) (cond command (says_dm n m) m) (shut reasons.BadFrame m p) (keep_cond P command (says_dm n m) m (dm_walks n m p) p)

  pn_walks : (command : Bool) (n flow priority frame credits : ℕ) (m : Mux) → P m → P (hears_pn command n flow priority frame credits m)
  pn_walks true n flow priority frame credits m p =
      keep_cond P (n % 64 == m.dlci) (hears_offer flow priority frame credits m) (hears_other_offer true (n % 64) frame m) (offer_walks flow priority frame credits m p) (other_walks true (n % 64) frame m p)
  pn_walks false n flow priority frame credits m p =
      keep_cond P (n % 64 == m.dlci) (hears_acceptance flow frame credits m) (hears_other_offer false (n % 64) frame m) (acceptance_walks flow frame credits m p) (other_walks false (n % 64) frame m p)

  signals_walks : (asks : Asks) (m : Mux) → P m → P (signals_answered asks m)
  signals_walks Nothing m p = p
  signals_walks (Due command) m p = p
  signals_walks (Awaited OpenControl) m p = p
  signals_walks (Awaited Agree) m p = p
  signals_walks (Awaited OpenUser) m p = p
  signals_walks (Awaited Signal) m p = parts m.control m.user Nothing (own_answered m.ready) m.account.held m.account.peer m.frame m.agreed m.stated m p
  signals_walks (Awaited LeaveUser) m p = p
  signals_walks (Awaited LeaveControl) m p = p

  msc_walks : (command : Bool) (address signals : ℕ) (m : Mux) → P m → P (hears_msc command address signals m)
  msc_walks true address signals m p =
      let x : Mux = record m { ready = peer_answered m.ready } in
      let noted : Mux = cond (address / 4 == m.dlci) x m in
      keep_cond P (has_room m) (answering (control_frame m.role (msc false address signals)) noted) m
      (more (control_frame m.role (msc false address signals)) noted (message_reply m.role (msc false address signals))
      (keep_cond P (address / 4 == m.dlci) x m (parts m.control m.user m.asks (peer_answered m.ready) m.account.held m.account.peer m.frame m.agreed m.stated m p) p)) p
  msc_walks false address signals m p = keep_cond P (address / 4 == m.dlci) (signals_answered m.asks m) m (signals_walks m.asks m p) p

  control_walks : (control : PlainControl) (m : Mux) → P m → P (hears_control control m)
  control_walks (pn command n flow priority timer frame retransmissions credits) m p = pn_walks command n flow priority frame credits m p
  control_walks (msc command address signals) m p = msc_walks command address signals m p
  control_walks (test command octets) m p = keep_cond P command (tells (test false octets) m) m (tells_walks (test false octets) m p) p
  control_walks (rpn command value) m p = keep_cond P command (tells (rpn false (settings_of value)) m) m (tells_walks (rpn false (settings_of value)) m p) p
  control_walks (rls command value) m p = keep_cond P command (tells (rls false value) m) m (tells_walks (rls false value) m p) p
  control_walks (nsc kind) m p = p
  control_walks (other kind value) m p = keep_cond P (kind / 2 % 2 == 1) (tells (nsc kind) m) m (tells_walks (nsc kind) m p) p

  pub message_walks : (message : MessageAnswer) (m : Mux) → P m → P (hears_message message m)
  message_walks (Ok control) m p = control_walks control m p
  message_walks (Err refusal) m p = shut reasons.BadFrame m p

  messages_walk : (list : List MessageAnswer) (m : Mux) → P m → P (hears_messages list m)
  messages_walk [] m p = p
  messages_walk (message ∷ rest) m p = messages_walk rest (if_stands (hears_message message) m.closed m) (stands_walks (hears_message message) m.closed m (message_walks message m p) p)

  uih_walks : (frame : PlainFrame) (m : Mux) → P m → P (hears_uih frame m)
  uih_walks frame m p =
      keep_cond P (frame.dlci == 0) (hears_messages (messages frame.octets) m) (cond ((frame.dlci == m.dlci) && may_pass m) (hears_data frame m) m) (messages_walk (messages frame.octets) m p)
      (keep_cond P ((frame.dlci == m.dlci) && may_pass m) (hears_data frame m) m (data_walks frame m p) p)

  -- ---- a frame

  kind_walks : (kind : MuxKind) (frame : PlainFrame) (m : Mux) → P m → P (hears_kind kind frame m)
  kind_walks Sabm frame m p = keep_cond P frame.pf (hears_sabm m.role frame.dlci m) m (sabm_walks m.role frame.dlci m p) p
  kind_walks Ua frame m p = keep_cond P frame.pf (hears_ua frame.dlci m) m (ua_walks frame.dlci m p) p
  kind_walks Dm frame m p = heard_dm_walks frame.dlci m p
  kind_walks Disc frame m p = keep_cond P frame.pf (hears_disc frame.dlci m) m (disc_walks frame.dlci m p) p
  kind_walks Uih frame m p = uih_walks frame m p

  settled_walks : (kind : MuxKind) (frame : PlainFrame) (m : Mux) → P m → P (hears_settled kind frame m)
  settled_walks Sabm frame m p = keep_cond P frame.pf (says_dm frame.dlci m) m (dm_walks frame.dlci m p) p
  settled_walks Ua frame m p = p
  settled_walks Dm frame m p = p
  settled_walks Disc frame m p = keep_cond P frame.pf (hears_disc frame.dlci m) m (disc_walks frame.dlci m p) p
  settled_walks Uih frame m p = p

  frame_walks : (closed : Option MuxReason) (frame : PlainFrame) (m : Mux) → P m → P (hears_frame closed frame m)
  frame_walks None frame m p = kind_walks frame.kind frame m p
  frame_walks (Some reasons.Dm) frame m p = settled_walks frame.kind frame m p
  frame_walks (Some reasons.Disc) frame m p = settled_walks frame.kind frame m p
  frame_walks (Some reasons.NoCreditFlow) frame m p = p
  frame_walks (Some reasons.Overdrawn) frame m p = p
  frame_walks (Some reasons.BadFrame) frame m p = p
  frame_walks (Some reasons.CreditOverflow) frame m p = p

  pub answer_walks : (a : Answer) (m : Mux) → P m → P (hears_answer a m)
  answer_walks (Ok frame) m p = frame_walks m.closed frame m p
  answer_walks (Err refusal) m p = stands_walks (closes reasons.BadFrame) m.closed m (shut reasons.BadFrame m p) p
