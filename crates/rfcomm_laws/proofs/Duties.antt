-- The commands that a side may still say, and the answers that it owes: what it hears adds no more than the answers to that.
use Rattle.std.proofs.Common.{arith, ◌≡◌, ◌≤◌, ℕ, ◌==◌, ◌+◌, ◌/◌, ◌%◌, ◌-◌, Bool, true, false, ◌&&◌, cond, List, [], ◌∷◌, length, Option, Some, None, Ok, Err, refl, ap}
use Rattle.std.specs.Prelude.{not, nat_lt, nat_le}
use Rattle.std.proofs.lemmas.Bool.{leb-true}
use Rattle.rfcomm_frames.specs.declared.frame.MuxKind.{MuxKind}
use Rattle.rfcomm_frames.specs.declared.frame.MuxKind.TheVariants.{Sabm, Ua, Dm, Disc, Uih}
use Rattle.rfcomm_frames.specs.declared.connection.Role.{Role}
use Rattle.rfcomm_frames.specs.declared.connection.Role.TheVariants.{Initiator, Responder}
use Rattle.rfcomm_frames.specs.declared.connection.Dlc.{Dlc}
use Rattle.rfcomm_frames.specs.declared.connection.Dlc.TheVariants.{Idle, Asked, Open, Ended}
use Rattle.rfcomm_frames.specs.Frames.{PlainFrame, bit}
use Rattle.rfcomm_frames.specs.Controls.{PlainControl, pn, msc, test, rpn, rls, nsc, other, written}
use Rattle.rfcomm_frames.specs.FrameReading.{MessageAnswer, messages}
use Rattle.rfcomm_frames.specs.Connections.{other_role, turned, asked, agreed, is_ended, is_left}
use Rattle.rfcomm_model.specs.declared.state.MuxReason.{MuxReason}
use Rattle.rfcomm_model.specs.declared.state.MuxReason.TheVariants as reasons
use Rattle.rfcomm_model.specs.declared.state.Command.TheVariants.{OpenControl, Agree, OpenUser, Signal, LeaveUser, LeaveControl}
use Rattle.rfcomm_model.specs.declared.state.Asks.{Asks}
use Rattle.rfcomm_model.specs.declared.state.Asks.TheVariants.{Nothing, Due, Awaited}
use Rattle.rfcomm_model.specs.Machine.{Mux, closes, may_pass}
use Rattle.rfcomm_model.specs.Written.{response_frame, control_frame}
use Rattle.rfcomm_model.specs.Hearing.{has_room, answering, says_dm, tells, signals_next, opens_control, opens_user, hears_sabm, control_answered, user_answered, hears_ua, control_refused, user_refused, hears_dm, ends, hears_disc, credited, charged, if_stands, with_credits, hears_data, counts, pn_credited, lesser, own_credits, hears_offer, terms_agreed, hears_acceptance, hears_other_offer, hears_pn, peer_answered, signals_answered, hears_msc, settings_of, hears_message, hears_messages, hears_kind, hears_settled, hears_frame, hears_answer}
use Rattle.rfcomm_model.specs.Loads.{answered_once, answers_to, weight, weights}
use Rattle.rfcomm_model.proofs.Loading.{weights_more, pn_weight, msc_weight}
use Rattle.rfcomm_laws.specs.SingleAnswers.{told_to, due_to, all_due, due_in}
use Rattle.rfcomm_laws.proofs.Opening.{IsRead, test_read, rpn_read, rls_read, nsc_read}

-- ---- what a side has to do

-- it may still be told to close, which takes two commands
abbrev pub leave_left : Option MuxReason → ℕ
leave_left None = 2
leave_left (Some reason) = 0

-- the commands that are still to be said: four to open a channel, two to close
abbrev pub commands : Option MuxReason → Asks → ℕ
commands closed Nothing = leave_left closed
commands closed (Due OpenControl) = 6
commands closed (Awaited OpenControl) = 5
commands closed (Due Agree) = 5
commands closed (Awaited Agree) = 4
commands closed (Due OpenUser) = 4
commands closed (Awaited OpenUser) = 3
commands closed (Due Signal) = 3
commands closed (Awaited Signal) = 2
commands closed (Due LeaveUser) = 2
commands closed (Awaited LeaveUser) = 1
commands closed (Due LeaveControl) = 1
commands closed (Awaited LeaveControl) = 0

-- a responder whose user channel was not asked for has its own MSC to say
abbrev pub signals : Role → Dlc → ℕ
signals Initiator dlc = 0
signals Responder Idle = 1
signals Responder Asked = 0
signals Responder Open = 0
signals Responder Ended = 0

abbrev pub duty : Mux → ℕ
duty m = commands m.closed m.asks + (signals m.role m.user + weights m.answers)

abbrev pub dues : List PlainFrame → ℕ
dues [] = 0
dues (f ∷ fs) = due_in f.kind f + dues fs

-- ---- steps that many calls have

pub duty_if : (most : ℕ) (b : Bool) (x y : Mux) → duty x ≤ most → duty y ≤ most → duty (cond b x y) ≤ most
duty_if most true x y p q = p
duty_if most false x y p q = q

answering_duty : (f : PlainFrame) (m : Mux) → duty (answering f m) ≡ duty m + weight f
answering_duty f m = let more = weights_more m.answers f in omega (arith, more)

dm_duty : (n : ℕ) (m : Mux) → duty (says_dm n m) ≤ duty m + 1
dm_duty n m =
    let one = answering_duty (response_frame m.role Dm n) m in
    duty_if (duty m + 1) (has_room m) (answering (response_frame m.role Dm n) m) m (omega (arith, one)) (omega arith)

stands_duty : (most : ℕ) (f : Mux → Mux) (closed : Option MuxReason) (m : Mux) → duty (f m) ≤ most → duty m ≤ most → duty (if_stands f closed m) ≤ most
stands_duty most f None m p q = p
stands_duty most f (Some reason) m p q = q

-- ---- SABM

asked_less : (dlc : Dlc) (asks : Asks) → commands None (signals_next dlc asks) + signals Responder (asked dlc) ≤ commands None asks + signals Responder dlc
asked_less Idle Nothing = omega arith
asked_less Idle (Due command) = omega arith
asked_less Idle (Awaited command) = omega arith
asked_less Asked asks = omega arith
asked_less Open asks = omega arith
asked_less Ended asks = omega arith

opens_control_duty : (m : Mux) → duty (opens_control m) ≤ duty m + 1
opens_control_duty m =
    let x : Mux = record m { control = turned Initiator Sabm m.control } in
    let one = answering_duty (response_frame m.role Ua 0) x in
    duty_if (duty m + 1) (is_ended m.control) (says_dm 0 m) (cond (has_room m) (answering (response_frame m.role Ua 0) x) m) (dm_duty 0 m)
    (duty_if (duty m + 1) (has_room m) (answering (response_frame m.role Ua 0) x) m (omega (arith, one)) (omega arith))

opens_user_duty : (m : Mux) → m.role ≡ Responder → m.closed ≡ None → duty (opens_user m) ≤ duty m + 1
opens_user_duty m is standing =
    let x : Mux = record m { user = turned Initiator Sabm m.user; asks = signals_next m.user m.asks } in
    let one = answering_duty (response_frame m.role Ua m.dlci) x in
    let before : signals m.role m.user ≡ signals Responder m.user = ap (λ (r : Role). signals r m.user) is in
    let after : signals m.role (asked m.user) ≡ signals Responder (asked m.user) = ap (λ (r : Role). signals r (asked m.user)) is in
    let earlier : commands m.closed m.asks ≡ commands None m.asks = ap (λ (c : Option MuxReason). commands c m.asks) standing in
    let later : commands m.closed (signals_next m.user m.asks) ≡ commands None (signals_next m.user m.asks) = ap (λ (c : Option MuxReason). commands c (signals_next m.user m.asks)) standing in
    let less = asked_less m.user m.asks in
    duty_if (duty m + 1) (not m.agreed) (closes reasons.NoCreditFlow m) (cond (is_ended m.user) (says_dm m.dlci m) (cond (has_room m) (answering (response_frame m.role Ua m.dlci) x) m)) (omega arith)
    (duty_if (duty m + 1) (is_ended m.user) (says_dm m.dlci m) (cond (has_room m) (answering (response_frame m.role Ua m.dlci) x) m) (dm_duty m.dlci m)
    (duty_if (duty m + 1) (has_room m) (answering (response_frame m.role Ua m.dlci) x) m (omega (arith, one, before, after, earlier, later, less)) (omega arith)))

sabm_duty : (role : Role) (n : ℕ) (m : Mux) → m.role ≡ role → m.closed ≡ None → duty (hears_sabm role n m) ≤ duty m + 1
sabm_duty Initiator n m is standing = dm_duty n m
sabm_duty Responder n m is standing =
    duty_if (duty m + 1) (n == 0) (opens_control m) (cond (n == m.dlci) (opens_user m) (says_dm n m)) (opens_control_duty m)
    (duty_if (duty m + 1) (n == m.dlci) (opens_user m) (says_dm n m) (opens_user_duty m is standing) (dm_duty n m))

-- ---- UA and DM

agreed_less : (role : Role) (dlc : Dlc) → signals role (agreed dlc) ≤ signals role dlc
agreed_less Initiator dlc = omega arith
agreed_less Responder Idle = omega arith
agreed_less Responder Asked = omega arith
agreed_less Responder Open = omega arith
agreed_less Responder Ended = omega arith

ua_turned : (role from : Role) (dlc : Dlc) → signals role (turned from Ua dlc) ≤ signals role dlc
ua_turned role Initiator dlc = omega arith
ua_turned role Responder dlc = agreed_less role dlc

control_answered_duty : (asks : Asks) (m : Mux) → m.asks ≡ asks → duty (control_answered asks m) ≤ duty m
control_answered_duty Nothing m is = omega arith
control_answered_duty (Due command) m is = omega arith
control_answered_duty (Awaited OpenControl) m is = let before = ap (commands m.closed) is in omega (arith, before)
control_answered_duty (Awaited Agree) m is = omega arith
control_answered_duty (Awaited OpenUser) m is = omega arith
control_answered_duty (Awaited Signal) m is = omega arith
control_answered_duty (Awaited LeaveUser) m is = omega arith
control_answered_duty (Awaited LeaveControl) m is = omega arith

user_answered_less : (closed : Option MuxReason) (asks : Asks) → commands closed (user_answered asks) ≤ commands closed asks
user_answered_less closed Nothing = omega arith
user_answered_less closed (Due command) = omega arith
user_answered_less closed (Awaited OpenControl) = omega arith
user_answered_less closed (Awaited Agree) = omega arith
user_answered_less closed (Awaited OpenUser) = omega arith
user_answered_less closed (Awaited Signal) = omega arith
user_answered_less closed (Awaited LeaveUser) = omega arith
user_answered_less closed (Awaited LeaveControl) = omega arith

ua_duty : (n : ℕ) (m : Mux) → duty (hears_ua n m) ≤ duty m
ua_duty n m =
    let x : Mux = record m { control = turned (other_role m.role) Ua m.control } in
    let y : Mux = record m { user = turned (other_role m.role) Ua m.user; asks = user_answered m.asks } in
    let less = user_answered_less m.closed m.asks in
    let also = ua_turned m.role (other_role m.role) m.user in
    duty_if (duty m) (n == 0) (control_answered m.asks x) (cond (n == m.dlci) y m) (control_answered_duty m.asks x refl)
    (duty_if (duty m) (n == m.dlci) y m (omega (arith, less, also)) (omega arith))

control_refused_duty : (asks : Asks) (m : Mux) → duty (control_refused asks m) ≤ duty m
control_refused_duty Nothing m = omega arith
control_refused_duty (Due command) m = omega arith
control_refused_duty (Awaited OpenControl) m = omega arith
control_refused_duty (Awaited Agree) m = omega arith
control_refused_duty (Awaited OpenUser) m = omega arith
control_refused_duty (Awaited Signal) m = omega arith
control_refused_duty (Awaited LeaveUser) m = omega arith
control_refused_duty (Awaited LeaveControl) m = omega arith

user_refused_duty : (asks : Asks) (m : Mux) → m.asks ≡ asks → duty (user_refused asks m) ≤ duty m
user_refused_duty Nothing m is = omega arith
user_refused_duty (Due command) m is = omega arith
user_refused_duty (Awaited OpenControl) m is = omega arith
user_refused_duty (Awaited Agree) m is = omega arith
user_refused_duty (Awaited OpenUser) m is = omega arith
user_refused_duty (Awaited Signal) m is = omega arith
user_refused_duty (Awaited LeaveUser) m is = let before = ap (commands m.closed) is in omega (arith, before)
user_refused_duty (Awaited LeaveControl) m is = omega arith

heard_dm_duty : (n : ℕ) (m : Mux) → duty (hears_dm n m) ≤ duty m
heard_dm_duty n m =
    duty_if (duty m) (n == 0) (control_refused m.asks m) (cond (n == m.dlci) (user_refused m.asks m) m) (control_refused_duty m.asks m)
    (duty_if (duty m) (n == m.dlci) (user_refused m.asks m) m (user_refused_duty m.asks m refl) (omega arith))

-- ---- DISC

ended_less : (role : Role) (dlc : Dlc) → signals role Ended ≤ signals role dlc
ended_less Initiator dlc = omega arith
ended_less Responder dlc = omega arith

ends_duty : (closed : Option MuxReason) (m : Mux) → duty (ends closed m) ≤ duty m
ends_duty None m = omega arith
ends_duty (Some reason) m = omega arith

left_duty : (n : ℕ) (m x : Mux) → duty x ≤ duty m → duty (cond (has_room m) (answering (response_frame m.role Ua n) (ends m.closed x)) m) ≤ duty m + 1
left_duty n m x less =
    let one = answering_duty (response_frame m.role Ua n) (ends m.closed x) in
    let also = ends_duty m.closed x in
    duty_if (duty m + 1) (has_room m) (answering (response_frame m.role Ua n) (ends m.closed x)) m (omega (arith, one, also, less)) (omega arith)

disc_duty : (n : ℕ) (m : Mux) → duty (hears_disc n m) ≤ duty m + 1
disc_duty n m =
    let from : Role = other_role m.role in
    let x : Mux = record m { control = Ended } in
    let y : Mux = record m { user = Ended } in
    let less = ended_less m.role m.user in
    let left_control : Mux = cond (has_room m) (answering (response_frame m.role Ua 0) (ends m.closed x)) m in
    let left_user : Mux = cond (has_room m) (answering (response_frame m.role Ua m.dlci) (ends m.closed y)) m in
    duty_if (duty m + 1) ((n == 0) && is_left from m.control) left_control (cond ((n == m.dlci) && is_left from m.user) left_user (says_dm n m)) (left_duty 0 m x (omega arith))
    (duty_if (duty m + 1) ((n == m.dlci) && is_left from m.user) left_user (says_dm n m) (left_duty m.dlci m y (omega (arith, less))) (dm_duty n m))

-- ---- credits and information

credited_duty : (n : ℕ) (m : Mux) → duty (credited n m) ≤ duty m
credited_duty n m =
    duty_if (duty m) (nat_lt 65535 (m.account.held + n)) (closes reasons.CreditOverflow m) (record m { account = record { cap = m.account.cap; held = m.account.held + n; peer = m.account.peer } }) (omega arith) (omega arith)

charged_duty : (octets : List ℕ) (m : Mux) → duty (charged octets m) ≤ duty m
charged_duty [] m = omega arith
charged_duty (octet ∷ octets) m =
    duty_if (duty m) (m.account.peer == 0) (closes reasons.Overdrawn m) (record m { account = record { cap = m.account.cap; held = m.account.held; peer = m.account.peer - 1 } }) (omega arith) (omega arith)

with_credits_duty : (credits : Option ℕ) (m : Mux) → duty (with_credits credits m) ≤ duty m
with_credits_duty None m = omega arith
with_credits_duty (Some n) m = credited_duty n m

data_duty : (f : PlainFrame) (m : Mux) → duty (hears_data f m) ≤ duty m
data_duty f m =
    let granted : Mux = with_credits f.credits m in
    let less = with_credits_duty f.credits m in
    let also = charged_duty f.octets granted in
    stands_duty (duty m) (charged f.octets) granted.closed granted (omega (arith, less, also)) less

-- ---- control messages

told : (control : PlainControl) (x m : Mux) → weight (control_frame m.role control) ≡ 1 → duty x ≤ duty m → duty (answering (control_frame m.role control) x) ≤ duty m + 1
told control x m light less = let one = answering_duty (control_frame m.role control) x in omega (arith, one, light, less)

pn_credited_duty : (credits : ℕ) (m : Mux) → duty (pn_credited credits m) ≤ duty m
pn_credited_duty credits m = duty_if (duty m) (counts m) (credited (credits % 8) m) m (credited_duty (credits % 8) m) (omega arith)

offer_duty : (flow priority frame credits : ℕ) (m : Mux) → duty (hears_offer flow priority frame credits m) ≤ duty m + 1
offer_duty flow priority frame credits m =
    let answer : PlainControl = pn false m.dlci 0xE0 priority 0 (lesser m.own frame) 0 (own_credits m) in
    let x : Mux = record m { frame = lesser m.own frame; agreed = true; stated = true } in
    let y : Mux = answering (control_frame m.role answer) x in
    let light = pn_weight m.role false m.dlci 0xE0 priority 0 (lesser m.own frame) 0 (own_credits m) in
    let less = told answer x m (omega (arith, light)) (omega arith) in
    let also = pn_credited_duty credits y in
    duty_if (duty m + 1) (not (flow / 16 == 0xF)) (closes reasons.NoCreditFlow m) (cond (nat_lt frame 23) (closes reasons.BadFrame m) (cond (has_room m) (pn_credited credits y) m)) (omega arith)
    (duty_if (duty m + 1) (nat_lt frame 23) (closes reasons.BadFrame m) (cond (has_room m) (pn_credited credits y) m) (omega arith)
    (duty_if (duty m + 1) (has_room m) (pn_credited credits y) m (omega (arith, less, also)) (omega arith)))

terms_less : (closed : Option MuxReason) (asks : Asks) → commands closed (terms_agreed asks) ≤ commands closed asks
terms_less closed Nothing = omega arith
terms_less closed (Due command) = omega arith
terms_less closed (Awaited OpenControl) = omega arith
terms_less closed (Awaited Agree) = omega arith
terms_less closed (Awaited OpenUser) = omega arith
terms_less closed (Awaited Signal) = omega arith
terms_less closed (Awaited LeaveUser) = omega arith
terms_less closed (Awaited LeaveControl) = omega arith

acceptance_duty : (flow frame credits : ℕ) (m : Mux) → duty (hears_acceptance flow frame credits m) ≤ duty m
acceptance_duty flow frame credits m =
    let x : Mux = record m { frame = lesser m.own frame; agreed = true; asks = terms_agreed m.asks } in
    let less = terms_less m.closed m.asks in
    let also = pn_credited_duty credits x in
    duty_if (duty m) (not (flow / 16 == 0xE)) (closes reasons.NoCreditFlow m) (cond (nat_lt frame 23) (closes reasons.BadFrame m) (pn_credited credits x)) (omega arith)
    (duty_if (duty m) (nat_lt frame 23) (closes reasons.BadFrame m) (pn_credited credits x) (omega arith) (omega (arith, less, also)))

other_offer_duty : (command : Bool) (dlci frame : ℕ) (m : Mux) → duty (hears_other_offer command dlci frame m) ≤ duty m + bit command
other_offer_duty true dlci frame m = duty_if (duty m + 1) (nat_lt frame 23) (closes reasons.BadFrame m) (says_dm dlci m) (omega arith) (dm_duty dlci m)
other_offer_duty false dlci frame m = duty_if (duty m + 0) (nat_lt frame 23) (closes reasons.BadFrame m) m (omega arith) (omega arith)

heard_pn_duty : (command : Bool) (dlci flow priority frame credits : ℕ) (m : Mux) → duty (hears_pn command dlci flow priority frame credits m) ≤ duty m + bit command
heard_pn_duty true dlci flow priority frame credits m =
    duty_if (duty m + 1) (dlci % 64 == m.dlci) (hears_offer flow priority frame credits m) (hears_other_offer true (dlci % 64) frame m)
    (offer_duty flow priority frame credits m) (other_offer_duty true (dlci % 64) frame m)
heard_pn_duty false dlci flow priority frame credits m =
    let less = acceptance_duty flow frame credits m in
    duty_if (duty m + 0) (dlci % 64 == m.dlci) (hears_acceptance flow frame credits m) (hears_other_offer false (dlci % 64) frame m)
    (omega (arith, less)) (other_offer_duty false (dlci % 64) frame m)

leave_most : (closed : Option MuxReason) → leave_left closed ≤ 2
leave_most None = omega arith
leave_most (Some reason) = omega arith

signals_duty : (asks : Asks) (m : Mux) → m.asks ≡ asks → duty (signals_answered asks m) ≤ duty m
signals_duty Nothing m is = omega arith
signals_duty (Due command) m is = omega arith
signals_duty (Awaited OpenControl) m is = omega arith
signals_duty (Awaited Agree) m is = omega arith
signals_duty (Awaited OpenUser) m is = omega arith
signals_duty (Awaited Signal) m is = let before = ap (commands m.closed) is in let most = leave_most m.closed in omega (arith, before, most)
signals_duty (Awaited LeaveUser) m is = omega arith
signals_duty (Awaited LeaveControl) m is = omega arith

heard_msc_duty : (command : Bool) (address octet : ℕ) (m : Mux) → duty (hears_msc command address octet m) ≤ duty m + bit command
heard_msc_duty true address octet m =
    let x : Mux = cond (address / 4 == m.dlci) (record m { ready = peer_answered m.ready }) m in
    let answer : PlainControl = msc false address octet in
    let light = msc_weight m.role false address octet in
    let same = duty_if (duty m) (address / 4 == m.dlci) (record m { ready = peer_answered m.ready }) m (omega arith) (omega arith) in
    duty_if (duty m + 1) (has_room m) (answering (control_frame m.role answer) x) m (told answer x m (omega (arith, light)) same) (omega arith)
heard_msc_duty false address octet m =
    let less = signals_duty m.asks m refl in
    duty_if (duty m + 0) (address / 4 == m.dlci) (signals_answered m.asks m) m (omega (arith, less)) (omega arith)

-- TEST, RPN and RLS, and what is not understood
told_duty : (asked : Bool) (control : PlainControl) (m : Mux) → IsRead control → answered_once (Ok control) ≡ 0 → duty (cond asked (tells control m) m) ≤ duty m + told_to asked control
told_duty true control m read none = by (nat_le (length (written control)) 40) refl
  where
    answer : PlainFrame
    answer = control_frame m.role control

    by : (short : Bool) → nat_le (length (written control)) 40 ≡ short → duty (cond (short && has_room m) (answering answer m) m) ≤ duty m + cond short 1 0
    by true is =
        let brings : answers_to (messages (written control)) ≡ answered_once (Ok control) + 0 = ap answers_to (read (leb-true (length (written control)) 40 is)) in
        duty_if (duty m + 1) (has_room m) (answering answer m) m (told control m m (omega (arith, brings, none)) (omega arith)) (omega arith)
    by false is = omega arith
told_duty false control m read none = omega arith

message_duty : (message : MessageAnswer) (m : Mux) → duty (hears_message message m) ≤ duty m + due_to message
message_duty (Ok (pn command dlci flow priority timer frame retransmissions credits)) m = heard_pn_duty command dlci flow priority frame credits m
message_duty (Ok (msc command address octet)) m = heard_msc_duty command address octet m
message_duty (Ok (test command octets)) m = told_duty command (test false octets) m (test_read octets) refl
message_duty (Ok (rpn command value)) m = told_duty command (rpn false (settings_of value)) m (rpn_read (settings_of value)) refl
message_duty (Ok (rls command value)) m = told_duty command (rls false value) m (rls_read value) refl
message_duty (Ok (nsc kind)) m = omega arith
message_duty (Ok (other kind value)) m = told_duty (kind / 2 % 2 == 1) (nsc kind) m (nsc_read kind) refl
message_duty (Err refusal) m = omega arith

pub one_message_duty : (message : MessageAnswer) (m : Mux) → duty (if_stands (hears_message message) m.closed m) ≤ duty m + due_to message
one_message_duty message m = stands_duty (duty m + due_to message) (hears_message message) m.closed m (message_duty message m) (omega arith)

messages_duty : (list : List MessageAnswer) (m : Mux) → duty (hears_messages list m) ≤ duty m + all_due list
messages_duty [] m = omega arith
messages_duty (message ∷ rest) m =
    let one = one_message_duty message m in
    let others = messages_duty rest (if_stands (hears_message message) m.closed m) in
    omega (arith, one, others)

-- ---- a frame

uih_if : (n : ℕ) (here there : Bool) (x y m : Mux) → duty x ≤ duty m + n → duty y ≤ duty m → duty (cond here x (cond there y m)) ≤ duty m + cond here n 0
uih_if n true there x y m p q = p
uih_if n false true x y m p q = omega (arith, q)
uih_if n false false x y m p q = omega arith

kind_duty : (kind : MuxKind) (f : PlainFrame) (m : Mux) → m.closed ≡ None → duty (hears_kind kind f m) ≤ duty m + due_in kind f
kind_duty Sabm f m standing = duty_if (duty m + 1) f.pf (hears_sabm m.role f.dlci m) m (sabm_duty m.role f.dlci m refl standing) (omega arith)
kind_duty Ua f m standing = let less = ua_duty f.dlci m in duty_if (duty m + 0) f.pf (hears_ua f.dlci m) m (omega (arith, less)) (omega arith)
kind_duty Dm f m standing = let less = heard_dm_duty f.dlci m in omega (arith, less)
kind_duty Disc f m standing = duty_if (duty m + 1) f.pf (hears_disc f.dlci m) m (disc_duty f.dlci m) (omega arith)
kind_duty Uih f m standing =
    uih_if (all_due (messages f.octets)) (f.dlci == 0) ((f.dlci == m.dlci) && may_pass m) (hears_messages (messages f.octets) m) (hears_data f m) m
    (messages_duty (messages f.octets) m) (data_duty f m)

settled_duty : (kind : MuxKind) (f : PlainFrame) (m : Mux) → duty (hears_settled kind f m) ≤ duty m + due_in kind f
settled_duty Sabm f m = duty_if (duty m + 1) f.pf (says_dm f.dlci m) m (dm_duty f.dlci m) (omega arith)
settled_duty Ua f m = omega arith
settled_duty Dm f m = omega arith
settled_duty Disc f m = duty_if (duty m + 1) f.pf (hears_disc f.dlci m) m (disc_duty f.dlci m) (omega arith)
settled_duty Uih f m = omega arith

frame_duty : (closed : Option MuxReason) (f : PlainFrame) (m : Mux) → m.closed ≡ closed → duty (hears_frame closed f m) ≤ duty m + due_in f.kind f
frame_duty None f m is = kind_duty f.kind f m is
frame_duty (Some reasons.Dm) f m is = settled_duty f.kind f m
frame_duty (Some reasons.Disc) f m is = settled_duty f.kind f m
frame_duty (Some reasons.NoCreditFlow) f m is = omega arith
frame_duty (Some reasons.Overdrawn) f m is = omega arith
frame_duty (Some reasons.BadFrame) f m is = omega arith
frame_duty (Some reasons.CreditOverflow) f m is = omega arith

-- a frame adds no more than its answers
pub heard_duty : (f : PlainFrame) (m : Mux) → duty (hears_answer (Ok f) m) ≤ duty m + due_in f.kind f
heard_duty f m = frame_duty m.closed f m refl
