-- How many answers wait, by what was heard and sent.
use Rattle.std.proofs.Common.{arith, ◌≡◌, ◌<◌, ◌≤◌, ℕ, ◌==◌, ◌+◌, ◌-◌, ◌/◌, ◌%◌, Bool, true, false, ◌&&◌, cond, List, [], ◌∷◌, length, take, Option, Some, None, Ok, Err, refl, ap}
use Rattle.std.specs.Prelude.{not, nat_lt, nat_le, is_none}
use Rattle.std.proofs.lemmas.Bool.{lt-ltb}
use Rattle.std.proofs.lemmas.List.{length-append}
use Rattle.rfcomm_frames.specs.declared.frame.MuxKind.{MuxKind}
use Rattle.rfcomm_frames.specs.declared.frame.MuxKind.TheVariants.{Sabm, Ua, Dm, Disc, Uih}
use Rattle.rfcomm_frames.specs.declared.connection.Role.{Role}
use Rattle.rfcomm_frames.specs.declared.connection.Role.TheVariants.{Initiator, Responder}
use Rattle.rfcomm_frames.specs.declared.connection.Dlc.TheVariants.{Ended}
use Rattle.rfcomm_frames.specs.Frames.{PlainFrame}
use Rattle.rfcomm_frames.specs.Answers.{Answer}
use Rattle.rfcomm_frames.specs.Controls.{PlainControl, pn, msc, test, rpn, rls, nsc, other, written}
use Rattle.rfcomm_frames.specs.FrameReading.{MessageAnswer, messages, frame_answer, is_empty}
use Rattle.rfcomm_frames.specs.Connections.{other_role, turned, is_ended, is_left}
use Rattle.rfcomm_credits.specs.Accounts.{grant_of}
use Rattle.rfcomm_model.specs.declared.state.MuxReason.{MuxReason}
use Rattle.rfcomm_model.specs.declared.state.MuxReason.TheVariants as reasons
use Rattle.rfcomm_model.specs.declared.state.Command.TheVariants.{OpenControl, Agree, OpenUser, Signal, LeaveUser, LeaveControl}
use Rattle.rfcomm_model.specs.declared.state.Asks.{Asks}
use Rattle.rfcomm_model.specs.declared.state.Asks.TheVariants.{Nothing, Due, Awaited}
use Rattle.rfcomm_model.specs.Machine.{Mux, closes, may_pass, is_ready, is_leaving, taken_count, sends, leaves}
use Rattle.rfcomm_model.specs.Written.{response_frame, control_frame}
use Rattle.rfcomm_model.specs.Hearing.{has_room, answering, says_dm, tells, signals_next, opens_control, opens_user, hears_sabm, control_answered, user_answered, hears_ua, control_refused, user_refused, hears_dm, ends, hears_disc, credited, charged, if_stands, with_credits, hears_data, counts, pn_credited, lesser, own_credits, hears_offer, terms_agreed, hears_acceptance, hears_other_offer, hears_pn, peer_answered, signals_answered, hears_msc, settings_of, hears_control, hears_message, hears_messages, hears_kind, hears_settled, hears_frame, hears_answer}
use Rattle.rfcomm_model.specs.Saying.{Said, says_grant, says_data, first_of, says_command, says_answer, next}
use Rattle.rfcomm_model.specs.Sides.{Deed, Hears, Says, Sends, Leaves, Side, said_by, given, done, new_side, FindRoom, FindRoomOn, FindsRoom, AnswerFindsRoom, AlwaysRoom, asks_of, asked_by, NoFlood, UnfloodedSidesRead}
use Rattle.rfcomm_model.proofs.Reading.{sides-read}

-- ---- answers that wait

abbrev pub waiting : Mux → ℕ
waiting m = length m.answers

answering_waits : (frame : PlainFrame) (m : Mux) → waiting (answering frame m) ≡ waiting m + 1
answering_waits frame m = length-append m.answers (frame ∷ [])

waits_if : (most : ℕ) (b : Bool) (x y : Mux) → waiting x ≤ most → waiting y ≤ most → waiting (cond b x y) ≤ most
waits_if most true x y p q = p
waits_if most false x y p q = q

one_more : (frame : PlainFrame) (m x : Mux) → waiting x ≤ waiting m → waiting (answering frame x) ≤ waiting m + 1
one_more frame m x less = let more = answering_waits frame x in omega (arith, more, less)

dm_waits : (n : ℕ) (m : Mux) → waiting (says_dm n m) ≤ waiting m + 1
dm_waits n m = waits_if (waiting m + 1) (has_room m) (answering (response_frame m.role Dm n) m) m (one_more (response_frame m.role Dm n) m m (omega arith)) (omega arith)

tells_waits : (control : PlainControl) (m : Mux) → waiting (tells control m) ≤ waiting m + 1
tells_waits control m =
    waits_if (waiting m + 1) (nat_le (length (written control)) 40 && has_room m) (answering (control_frame m.role control) m) m (one_more (control_frame m.role control) m m (omega arith)) (omega arith)

opens_control_waits : (m : Mux) → waiting (opens_control m) ≤ waiting m + 1
opens_control_waits m =
    let x : Mux = record m { control = turned Initiator Sabm m.control } in
    waits_if (waiting m + 1) (is_ended m.control) (says_dm 0 m) (cond (has_room m) (answering (response_frame m.role Ua 0) x) m) (dm_waits 0 m)
    (waits_if (waiting m + 1) (has_room m) (answering (response_frame m.role Ua 0) x) m (one_more (response_frame m.role Ua 0) m x (omega arith)) (omega arith))

opens_user_waits : (m : Mux) → waiting (opens_user m) ≤ waiting m + 1
opens_user_waits m =
    let x : Mux = record m { user = turned Initiator Sabm m.user; asks = signals_next m.user m.asks } in
    let room : Mux = cond (has_room m) (answering (response_frame m.role Ua m.dlci) x) m in
    waits_if (waiting m + 1) (not m.agreed) (closes reasons.NoCreditFlow m) (cond (is_ended m.user) (says_dm m.dlci m) room) (omega arith)
    (waits_if (waiting m + 1) (is_ended m.user) (says_dm m.dlci m) room (dm_waits m.dlci m)
    (waits_if (waiting m + 1) (has_room m) (answering (response_frame m.role Ua m.dlci) x) m (one_more (response_frame m.role Ua m.dlci) m x (omega arith)) (omega arith)))

sabm_waits : (role : Role) (n : ℕ) (m : Mux) → waiting (hears_sabm role n m) ≤ waiting m + 1
sabm_waits Initiator n m = dm_waits n m
sabm_waits Responder n m =
    waits_if (waiting m + 1) (n == 0) (opens_control m) (cond (n == m.dlci) (opens_user m) (says_dm n m)) (opens_control_waits m)
    (waits_if (waiting m + 1) (n == m.dlci) (opens_user m) (says_dm n m) (opens_user_waits m) (dm_waits n m))

control_ua_waits : (asks : Asks) (m : Mux) → waiting (control_answered asks m) ≤ waiting m
control_ua_waits Nothing m = omega arith
control_ua_waits (Due command) m = omega arith
control_ua_waits (Awaited OpenControl) m = omega arith
control_ua_waits (Awaited Agree) m = omega arith
control_ua_waits (Awaited OpenUser) m = omega arith
control_ua_waits (Awaited Signal) m = omega arith
control_ua_waits (Awaited LeaveUser) m = omega arith
control_ua_waits (Awaited LeaveControl) m = omega arith

ua_waits : (n : ℕ) (m : Mux) → waiting (hears_ua n m) ≤ waiting m
ua_waits n m =
    let x : Mux = record m { control = turned (other_role m.role) Ua m.control } in
    let y : Mux = record m { user = turned (other_role m.role) Ua m.user; asks = user_answered m.asks } in
    waits_if (waiting m) (n == 0) (control_answered m.asks x) (cond (n == m.dlci) y m) (control_ua_waits m.asks x) (waits_if (waiting m) (n == m.dlci) y m (omega arith) (omega arith))

control_dm_waits : (asks : Asks) (m : Mux) → waiting (control_refused asks m) ≤ waiting m
control_dm_waits Nothing m = omega arith
control_dm_waits (Due command) m = omega arith
control_dm_waits (Awaited OpenControl) m = omega arith
control_dm_waits (Awaited Agree) m = omega arith
control_dm_waits (Awaited OpenUser) m = omega arith
control_dm_waits (Awaited Signal) m = omega arith
control_dm_waits (Awaited LeaveUser) m = omega arith
control_dm_waits (Awaited LeaveControl) m = omega arith

user_dm_waits : (asks : Asks) (m : Mux) → waiting (user_refused asks m) ≤ waiting m
user_dm_waits Nothing m = omega arith
user_dm_waits (Due command) m = omega arith
user_dm_waits (Awaited OpenControl) m = omega arith
user_dm_waits (Awaited Agree) m = omega arith
user_dm_waits (Awaited OpenUser) m = omega arith
user_dm_waits (Awaited Signal) m = omega arith
user_dm_waits (Awaited LeaveUser) m = omega arith
user_dm_waits (Awaited LeaveControl) m = omega arith

heard_dm_waits : (n : ℕ) (m : Mux) → waiting (hears_dm n m) ≤ waiting m
heard_dm_waits n m =
    waits_if (waiting m) (n == 0) (control_refused m.asks m) (cond (n == m.dlci) (user_refused m.asks m) m) (control_dm_waits m.asks m)
    (waits_if (waiting m) (n == m.dlci) (user_refused m.asks m) m (user_dm_waits m.asks m) (omega arith))

ends_waits : (closed : Option MuxReason) (m : Mux) → waiting (ends closed m) ≤ waiting m
ends_waits None m = omega arith
ends_waits (Some reason) m = omega arith

disc_waits : (n : ℕ) (m : Mux) → waiting (hears_disc n m) ≤ waiting m + 1
disc_waits n m =
    let from : Role = other_role m.role in
    let x : Mux = ends m.closed (record m { control = Ended }) in
    let y : Mux = ends m.closed (record m { user = Ended }) in
    let left_control : Mux = cond (has_room m) (answering (response_frame m.role Ua 0) x) m in
    let left_user : Mux = cond (has_room m) (answering (response_frame m.role Ua m.dlci) y) m in
    waits_if (waiting m + 1) ((n == 0) && is_left from m.control) left_control (cond ((n == m.dlci) && is_left from m.user) left_user (says_dm n m))
    (waits_if (waiting m + 1) (has_room m) (answering (response_frame m.role Ua 0) x) m (one_more (response_frame m.role Ua 0) m x (ends_waits m.closed (record m { control = Ended }))) (omega arith))
    (waits_if (waiting m + 1) ((n == m.dlci) && is_left from m.user) left_user (says_dm n m)
    (waits_if (waiting m + 1) (has_room m) (answering (response_frame m.role Ua m.dlci) y) m (one_more (response_frame m.role Ua m.dlci) m y (ends_waits m.closed (record m { user = Ended }))) (omega arith)) (dm_waits n m))

-- ---- information and control messages

credited_waits : (n : ℕ) (m : Mux) → waiting (credited n m) ≤ waiting m
credited_waits n m =
    waits_if (waiting m) (nat_lt 65535 (m.account.held + n)) (closes reasons.CreditOverflow m) (record m { account = record { cap = m.account.cap; held = m.account.held + n; peer = m.account.peer } }) (omega arith) (omega arith)

charged_waits : (octets : List ℕ) (m : Mux) → waiting (charged octets m) ≤ waiting m
charged_waits [] m = omega arith
charged_waits (octet ∷ octets) m =
    waits_if (waiting m) (m.account.peer == 0) (closes reasons.Overdrawn m) (record m { account = record { cap = m.account.cap; held = m.account.held; peer = m.account.peer - 1 } }) (omega arith) (omega arith)

stands_waits : (most : ℕ) (f : Mux → Mux) (closed : Option MuxReason) (m : Mux) → waiting (f m) ≤ most → waiting m ≤ most → waiting (if_stands f closed m) ≤ most
stands_waits most f None m p q = p
stands_waits most f (Some reason) m p q = q

with_credits_waits : (credits : Option ℕ) (m : Mux) → waiting (with_credits credits m) ≤ waiting m
with_credits_waits None m = omega arith
with_credits_waits (Some n) m = credited_waits n m

data_waits : (frame : PlainFrame) (m : Mux) → waiting (hears_data frame m) ≤ waiting m
data_waits frame m =
    let granted : Mux = with_credits frame.credits m in
    let less = with_credits_waits frame.credits m in
    let also = charged_waits frame.octets granted in
    stands_waits (waiting m) (charged frame.octets) granted.closed granted (omega (arith, less, also)) less

pn_credited_waits : (credits : ℕ) (m : Mux) → waiting (pn_credited credits m) ≤ waiting m
pn_credited_waits credits m = waits_if (waiting m) (counts m) (credited (credits % 8) m) m (credited_waits (credits % 8) m) (omega arith)

offer_waits : (flow priority frame credits : ℕ) (m : Mux) → waiting (hears_offer flow priority frame credits m) ≤ waiting m + 1
offer_waits flow priority frame credits m =
    let answer : PlainFrame = control_frame m.role (pn false m.dlci 0xE0 priority 0 (lesser m.own frame) 0 (own_credits m)) in
    let x : Mux = record m { frame = lesser m.own frame; agreed = true; stated = true } in
    let y : Mux = answering answer x in
    let one = one_more answer m x (omega arith) in
    let also = pn_credited_waits credits y in
    waits_if (waiting m + 1) (not (flow / 16 == 0xF)) (closes reasons.NoCreditFlow m) (cond (nat_lt frame 23) (closes reasons.BadFrame m) (cond (has_room m) (pn_credited credits y) m)) (omega arith)
    (waits_if (waiting m + 1) (nat_lt frame 23) (closes reasons.BadFrame m) (cond (has_room m) (pn_credited credits y) m) (omega arith)
    (waits_if (waiting m + 1) (has_room m) (pn_credited credits y) m (omega (arith, one, also)) (omega arith)))

acceptance_waits : (flow frame credits : ℕ) (m : Mux) → waiting (hears_acceptance flow frame credits m) ≤ waiting m + 1
acceptance_waits flow frame credits m =
    let x : Mux = record m { frame = lesser m.own frame; agreed = true; asks = terms_agreed m.asks } in
    let less = pn_credited_waits credits x in
    waits_if (waiting m + 1) (not (flow / 16 == 0xE)) (closes reasons.NoCreditFlow m) (cond (nat_lt frame 23) (closes reasons.BadFrame m) (pn_credited credits x)) (omega arith)
    (waits_if (waiting m + 1) (nat_lt frame 23) (closes reasons.BadFrame m) (pn_credited credits x) (omega arith) (omega (arith, less)))

other_offer_waits : (command : Bool) (dlci frame : ℕ) (m : Mux) → waiting (hears_other_offer command dlci frame m) ≤ waiting m + 1
other_offer_waits command dlci frame m =
    waits_if (waiting m + 1) (nat_lt frame 23) (closes reasons.BadFrame m) (cond command (says_dm dlci m) m) (omega arith) (waits_if (waiting m + 1) command (says_dm dlci m) m (dm_waits dlci m) (omega arith))

pn_waits : (command : Bool) (dlci flow priority frame credits : ℕ) (m : Mux) → waiting (hears_pn command dlci flow priority frame credits m) ≤ waiting m + 1
pn_waits true dlci flow priority frame credits m =
    waits_if (waiting m + 1) (dlci % 64 == m.dlci) (hears_offer flow priority frame credits m) (hears_other_offer true (dlci % 64) frame m) (offer_waits flow priority frame credits m) (other_offer_waits true (dlci % 64) frame m)
pn_waits false dlci flow priority frame credits m =
    waits_if (waiting m + 1) (dlci % 64 == m.dlci) (hears_acceptance flow frame credits m) (hears_other_offer false (dlci % 64) frame m) (acceptance_waits flow frame credits m) (other_offer_waits false (dlci % 64) frame m)

signals_waits : (asks : Asks) (m : Mux) → waiting (signals_answered asks m) ≤ waiting m
signals_waits Nothing m = omega arith
signals_waits (Due command) m = omega arith
signals_waits (Awaited OpenControl) m = omega arith
signals_waits (Awaited Agree) m = omega arith
signals_waits (Awaited OpenUser) m = omega arith
signals_waits (Awaited Signal) m = omega arith
signals_waits (Awaited LeaveUser) m = omega arith
signals_waits (Awaited LeaveControl) m = omega arith

msc_waits : (command : Bool) (address signals : ℕ) (m : Mux) → waiting (hears_msc command address signals m) ≤ waiting m + 1
msc_waits true address signals m =
    let x : Mux = cond (address / 4 == m.dlci) (record m { ready = peer_answered m.ready }) m in
    waits_if (waiting m + 1) (has_room m) (answering (control_frame m.role (msc false address signals)) x) m
    (one_more (control_frame m.role (msc false address signals)) m x (waits_if (waiting m) (address / 4 == m.dlci) (record m { ready = peer_answered m.ready }) m (omega arith) (omega arith))) (omega arith)
msc_waits false address signals m =
    let less = signals_waits m.asks m in
    waits_if (waiting m + 1) (address / 4 == m.dlci) (signals_answered m.asks m) m (omega (arith, less)) (omega arith)

control_waits : (control : PlainControl) (m : Mux) → waiting (hears_control control m) ≤ waiting m + 1
control_waits (pn command dlci flow priority timer frame retransmissions credits) m = pn_waits command dlci flow priority frame credits m
control_waits (msc command address signals) m = msc_waits command address signals m
control_waits (test command octets) m = waits_if (waiting m + 1) command (tells (test false octets) m) m (tells_waits (test false octets) m) (omega arith)
control_waits (rpn command value) m = waits_if (waiting m + 1) command (tells (rpn false (settings_of value)) m) m (tells_waits (rpn false (settings_of value)) m) (omega arith)
control_waits (rls command value) m = waits_if (waiting m + 1) command (tells (rls false value) m) m (tells_waits (rls false value) m) (omega arith)
control_waits (nsc kind) m = omega arith
control_waits (other kind value) m = waits_if (waiting m + 1) (kind / 2 % 2 == 1) (tells (nsc kind) m) m (tells_waits (nsc kind) m) (omega arith)

message_waits : (message : MessageAnswer) (m : Mux) → waiting (if_stands (hears_message message) m.closed m) ≤ waiting m + 1
message_waits (Ok control) m = stands_waits (waiting m + 1) (hears_message (Ok control)) m.closed m (control_waits control m) (omega arith)
message_waits (Err refusal) m = stands_waits (waiting m + 1) (hears_message (Err refusal)) m.closed m (omega arith) (omega arith)

messages_wait : (list : List MessageAnswer) (m : Mux) → waiting (hears_messages list m) ≤ waiting m + length list
messages_wait [] m = omega arith
messages_wait (message ∷ rest) m =
    let one = message_waits message m in
    let others = messages_wait rest (if_stands (hears_message message) m.closed m) in
    omega (arith, one, others)

-- ---- a frame

uih_waits : (control : Bool) (list : List MessageAnswer) (frame : PlainFrame) (m : Mux)
    → waiting (cond control (hears_messages list m) (cond ((frame.dlci == m.dlci) && may_pass m) (hears_data frame m) m)) ≤ waiting m + cond control (length list) 0
uih_waits true list frame m = messages_wait list m
uih_waits false list frame m = let less = data_waits frame m in waits_if (waiting m + 0) ((frame.dlci == m.dlci) && may_pass m) (hears_data frame m) m (omega (arith, less)) (omega arith)

kind_waits : (kind : MuxKind) (frame : PlainFrame) (m : Mux) → waiting (hears_kind kind frame m) ≤ waiting m + asks_of kind frame
kind_waits Sabm frame m = waits_if (waiting m + 1) frame.pf (hears_sabm m.role frame.dlci m) m (sabm_waits m.role frame.dlci m) (omega arith)
kind_waits Ua frame m = let less = ua_waits frame.dlci m in waits_if (waiting m + 0) frame.pf (hears_ua frame.dlci m) m (omega (arith, less)) (omega arith)
kind_waits Dm frame m = let less = heard_dm_waits frame.dlci m in omega (arith, less)
kind_waits Disc frame m = waits_if (waiting m + 1) frame.pf (hears_disc frame.dlci m) m (disc_waits frame.dlci m) (omega arith)
kind_waits Uih frame m = uih_waits (frame.dlci == 0) (messages frame.octets) frame m

settled_waits : (kind : MuxKind) (frame : PlainFrame) (m : Mux) → waiting (hears_settled kind frame m) ≤ waiting m + asks_of kind frame
settled_waits Sabm frame m = waits_if (waiting m + 1) frame.pf (says_dm frame.dlci m) m (dm_waits frame.dlci m) (omega arith)
settled_waits Ua frame m = omega arith
settled_waits Dm frame m = omega arith
settled_waits Disc frame m = waits_if (waiting m + 1) frame.pf (hears_disc frame.dlci m) m (disc_waits frame.dlci m) (omega arith)
settled_waits Uih frame m = omega arith

frame_waits : (closed : Option MuxReason) (frame : PlainFrame) (m : Mux) → waiting (hears_frame closed frame m) ≤ waiting m + asks_of frame.kind frame
frame_waits None frame m = kind_waits frame.kind frame m
frame_waits (Some reasons.Dm) frame m = settled_waits frame.kind frame m
frame_waits (Some reasons.Disc) frame m = settled_waits frame.kind frame m
frame_waits (Some reasons.NoCreditFlow) frame m = omega arith
frame_waits (Some reasons.Overdrawn) frame m = omega arith
frame_waits (Some reasons.BadFrame) frame m = omega arith
frame_waits (Some reasons.CreditOverflow) frame m = omega arith

pub answer_waits : (a : Answer) (m : Mux) → waiting (hears_answer a m) ≤ waiting m + asked_by a
answer_waits (Ok frame) m = frame_waits m.closed frame m
answer_waits (Err refusal) m = stands_waits (waiting m + 0) (closes reasons.BadFrame) m.closed m (omega arith) (omega arith)

-- ---- a frame that is sent

abbrev pub SaysWaits : ℕ → Mux → Option Said → Type 0
SaysWaits n m None = waiting m ≤ n
SaysWaits n m (Some said) = waiting said.after ≤ n

first_waits : (n : ℕ) (m : Mux) (x y : Option Said) → SaysWaits n m x → SaysWaits n m y → SaysWaits n m (first_of x y)
first_waits n m None y p q = q
first_waits n m (Some said) y p q = p

if_waits : (n : ℕ) (m : Mux) (b : Bool) (said : Said) → waiting m ≤ n → waiting said.after ≤ n → SaysWaits n m (cond b (Some said) None)
if_waits n m true said p q = q
if_waits n m false said p q = p

free_waits : (n : ℕ) (m : Mux) → waiting m ≤ n → SaysWaits n m (first_of (says_grant m) (says_data m))
free_waits n m few =
    first_waits n m (says_grant m) (says_data m) (if_waits n m (may_pass m && nat_lt 0 (grant_of m.account)) _ few few) (if_waits n m (is_ready m && (not (is_empty m.waiting) && nat_lt 0 m.account.held)) _ few few)

command_waits : (n : ℕ) (asks : Asks) (m : Mux) → waiting m ≤ n → SaysWaits n m (says_command asks m)
command_waits n Nothing m few = free_waits n m few
command_waits n (Awaited command) m few = free_waits n m few
command_waits n (Due OpenControl) m few = few
command_waits n (Due Agree) m few = few
command_waits n (Due OpenUser) m few = few
command_waits n (Due Signal) m few = few
command_waits n (Due LeaveUser) m few = few
command_waits n (Due LeaveControl) m few = few

pub says_waits : (n : ℕ) (answers : List PlainFrame) (m : Mux) → m.answers ≡ answers → waiting m ≤ n → SaysWaits (n - 1) m (says_answer answers m)
says_waits n [] m is few = let none = ap length is in command_waits (n - 1) m.asks m (omega (arith, none))
says_waits n (answer ∷ rest) m is few = let more = ap length is in omega (arith, more, few)

said_waits : (n : ℕ) (o : Option Said) (side : Side) → SaysWaits n side.mux o → waiting (said_by o side).mux ≤ n
said_waits n None side w = w
said_waits n (Some said) side w = w

-- ---- room

room_of : (m : Mux) → waiting m < 16 → has_room m ≡ true
room_of m few = lt-ltb (waiting m) 16 few

messages_find : (list : List MessageAnswer) (m : Mux) → waiting m + length list ≤ 16 → FindRoom list m
messages_find [] m few = tt
messages_find (message ∷ rest) m few =
    let one = message_waits message m in
    (room_of m (omega (arith, few)), messages_find rest (if_stands (hears_message message) m.closed m) (omega (arith, few, one)))

find_on : (control : Bool) (list : List MessageAnswer) (m : Mux) → waiting m + cond control (length list) 0 ≤ 16 → FindRoomOn control list m
find_on true list m few = messages_find list m few
find_on false list m few = tt

kind_finds : (kind : MuxKind) (frame : PlainFrame) (m : Mux) → waiting m + asks_of kind frame ≤ 16 → FindsRoom kind frame m
kind_finds Sabm frame m few = room_of m (omega (arith, few))
kind_finds Ua frame m few = tt
kind_finds Dm frame m few = tt
kind_finds Disc frame m few = room_of m (omega (arith, few))
kind_finds Uih frame m few = find_on (frame.dlci == 0) (messages frame.octets) m few

pub answer_finds : (a : Answer) (m : Mux) → waiting m + asked_by a ≤ 16 → AnswerFindsRoom a m
answer_finds (Ok frame) m few = kind_finds frame.kind frame m few
answer_finds (Err refusal) m few = tt

pub given_waits : (octets : List ℕ) (m : Mux) → waiting (given octets m) ≤ waiting m
given_waits octets m =
    waits_if (waiting m) (may_pass m) (sends octets m) m (waits_if (waiting m) (is_empty m.waiting && nat_lt 0 m.account.held) (record m { waiting = take (taken_count (length octets) m) octets }) m (omega arith) (omega arith)) (omega arith)

pub leaves_waits : (m : Mux) → waiting (leaves m) ≤ waiting m
leaves_waits m = waits_if (waiting m) (is_none m.closed && not (is_leaving m.asks)) (record m { asks = Due LeaveUser }) m (omega arith) (omega arith)

pub all_find : (n : ℕ) (deeds : List Deed) (side : Side) → waiting side.mux ≤ n → NoFlood n deeds → AlwaysRoom deeds side
all_find n [] side few none = tt
all_find n (Hears sdu ∷ deeds) side few none =
    let more = answer_waits (frame_answer sdu) side.mux in
    let most = none.0 in
    (answer_finds (frame_answer sdu) side.mux (omega (arith, few, most)), all_find (n + asked_by (frame_answer sdu)) deeds (done (Hears sdu) side) (omega (arith, few, more)) none.1)
all_find n (Says ∷ deeds) side few none = (tt, all_find (n - 1) deeds (done Says side) (said_waits (n - 1) (next side.mux) side (says_waits n side.mux.answers side.mux refl few)) none)
all_find n (Sends octets ∷ deeds) side few none = let less = given_waits octets side.mux in (tt, all_find n deeds (done (Sends octets) side) (omega (arith, less, few)) none)
all_find n (Leaves ∷ deeds) side few none = let less = leaves_waits side.mux in (tt, all_find n deeds (done Leaves side) (omega (arith, less, few)) none)

pub unflooded-sides_read : UnfloodedSidesRead
unflooded-sides_read role dlci largest own cap deeds some stands none =
    sides-read role dlci largest own cap deeds some stands (all_find 0 deeds (new_side role dlci largest own cap) (omega arith) none)
