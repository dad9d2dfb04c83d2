-- What a multiplexer hears lowers its load.
use Rattle.std.proofs.Common.{arith, ◌≡◌, ◌<◌, ◌≤◌, ℕ, zero, suc, ◌==◌, ◌+◌, ◌-◌, ◌*◌, ◌/◌, ◌%◌, Bool, true, false, ◌&&◌, cond, List, [], ◌∷◌, ◌++◌, length, take, drop, Option, Some, None, Ok, Err, refl, ap, ◌∙◌}
use Rattle.std.specs.Prelude.{not, nat_lt, nat_le}
use Rattle.std.proofs.lemmas.Bool.{lt-ltb, le-ltb, leb-true, eq-eqb}
use Rattle.std.proofs.lemmas.List.{length-append}
use Rattle.rfcomm_frames.specs.declared.frame.MuxKind.{MuxKind}
use Rattle.rfcomm_frames.specs.declared.frame.MuxKind.TheVariants.{Sabm, Ua, Dm, Disc, Uih}
use Rattle.rfcomm_frames.specs.declared.connection.Role.{Role}
use Rattle.rfcomm_frames.specs.declared.connection.Role.TheVariants.{Initiator, Responder}
use Rattle.rfcomm_frames.specs.declared.connection.Dlc.{Dlc}
use Rattle.rfcomm_frames.specs.declared.connection.Dlc.TheVariants.{Idle, Asked, Open, Ended}
use Rattle.rfcomm_frames.specs.declared.refusal.MuxRefusal.TheVariants.{BadExtension, LengthMismatch}
use Rattle.rfcomm_frames.specs.Frames.{PlainFrame, bit}
use Rattle.rfcomm_frames.specs.Lengths.{shortest, one_octet, two_octets, sized}
use Rattle.rfcomm_frames.specs.Answers.{Answer}
use Rattle.rfcomm_frames.specs.Controls.{PlainControl, pn, msc, test, rpn, rls, nsc, other, written}
use Rattle.rfcomm_frames.specs.Reading.{message}
use Rattle.rfcomm_frames.specs.ControlAnswers.{ControlAnswer}
use Rattle.rfcomm_frames.specs.FrameReading.{MessageAnswer, messages, messages_within, messages_from, message_answer, used_by, with_value, with_message, second_length, is_empty}
use Rattle.rfcomm_frames.specs.Connections.{other_role, turned, asked, agreed, is_ended, is_left}
use Rattle.rfcomm_credits.specs.Accounts.{Credits, grant_of}
use Rattle.rfcomm_model.specs.declared.state.MuxReason.{MuxReason}
use Rattle.rfcomm_model.specs.declared.state.MuxReason.TheVariants as reasons
use Rattle.rfcomm_model.specs.declared.state.Command.TheVariants.{OpenControl, Agree, OpenUser, Signal, LeaveUser, LeaveControl}
use Rattle.rfcomm_model.specs.declared.state.Asks.{Asks}
use Rattle.rfcomm_model.specs.declared.state.Asks.TheVariants.{Nothing, Due, Awaited}
use Rattle.rfcomm_model.specs.Machine.{Mux, closes, may_pass}
use Rattle.rfcomm_model.specs.Written.{response_frame, control_frame}
use Rattle.rfcomm_model.specs.Hearing.{has_room, answering, says_dm, tells, signals_next, opens_control, opens_user, hears_sabm, control_answered, user_answered, hears_ua, control_refused, user_refused, hears_dm, ends, hears_disc, credited, charged, if_stands, with_credits, hears_data, counts, pn_credited, lesser, own_credits, hears_offer, terms_agreed, hears_acceptance, hears_other_offer, hears_pn, peer_answered, signals_answered, hears_msc, settings_of, hears_control, hears_message, hears_messages, hears_uih, hears_kind, hears_settled, hears_frame, hears_answer}
use Rattle.rfcomm_model.specs.Loads.{answered_once, answers_to, comes_of, weight, weights, weight_of, asks_load, signal_load, grant_load, load}

-- ---- messages that are written

drop_all : (k : ℕ) (xs : List ℕ) → length xs ≤ k → drop k xs ≡ []
drop_all zero [] fits = refl
drop_all zero (x ∷ xs) fits = absurd (omega arith)
drop_all (suc k) [] fits = refl
drop_all (suc k) (x ∷ xs) fits = drop_all k xs (omega arith)

-- a message whose length is one octet is read as one message
read_one : (kind first : ℕ) (value : List ℕ) (control : PlainControl) → (first % 2 == 1) ≡ true → first / 2 ≡ length value → (kind % 2 == 0) ≡ false → message kind (take (length value) value) ≡ Some control
    → messages (kind ∷ first ∷ value) ≡ Ok control ∷ []
unfolding messages messages_within message_answer
read_one kind first value control one half odd says =
    let n : ℕ = length value in
    let whole : List ℕ = kind ∷ first ∷ value in
    let answer : message_answer whole ≡ Ok (control, suc (suc n) - n + n) =
    ap (λ (b : Bool). with_value whole kind (cond b (Some (first / 2, value)) (second_length first value))) one
    ∙ ap (λ (k : ℕ). with_value whole kind (Some (k, value))) half
    ∙ ap (λ (b : Bool). cond b (Err BadExtension) (cond (nat_lt n n) (Err LengthMismatch) (with_message whole (suc (suc n) - n + n) (message kind (take n value))))) odd
    ∙ ap (λ (b : Bool). cond b (Err LengthMismatch) (with_message whole (suc (suc n) - n + n) (message kind (take n value)))) (le-ltb n n (omega arith))
    ∙ ap (λ (o : Option PlainControl). with_message whole (suc (suc n) - n + n) o) says in
    ap (λ (a : ControlAnswer). messages_from a (messages_within (suc n) (drop (used_by a) whole))) answer
    ∙ ap (λ (rest : List ℕ). let list : List MessageAnswer = Ok control ∷ messages_within (suc n) rest in list) (drop_all (suc (suc n) - n + n) whole (omega arith))

pub one_message : (kind : ℕ) (value : List ℕ) (control : PlainControl) → length value < 128 → (kind % 2 == 0) ≡ false → message kind (take (length value) value) ≡ Some control
    → messages (kind ∷ sized value) ≡ Ok control ∷ []
one_message kind value control short odd says =
    let n : ℕ = length value in
    let field : shortest n ≡ one_octet n = ap (λ (b : Bool). cond b (one_octet n) (two_octets n)) (lt-ltb n 128 short) in
    ap (λ (f : List ℕ). messages (kind ∷ (f ++ value))) field ∙ read_one kind (0x01 + 2 * n) value control (eq-eqb ((0x01 + 2 * n) % 2) 1 (omega arith)) (omega arith) odd says

-- ---- the weights of frames that are sent

response_weight : (role : Role) (control c : PlainControl) → messages (written control) ≡ Ok c ∷ [] → weight (control_frame role control) ≡ 1 + answered_once (Ok c)
response_weight role control c is = ap (λ (list : List MessageAnswer). 1 + answers_to list) is ∙ omega arith

-- ---- lists of frames

pub weights_more : (xs : List PlainFrame) (x : PlainFrame) → weights (xs ++ x ∷ []) ≡ weights xs + weight x
weights_more [] x = omega arith
weights_more (y ∷ ys) x = omega (arith, weights_more ys x)

pub answering_load : (frame : PlainFrame) (m : Mux) → load (answering frame m) ≡ load m + weight frame
answering_load frame m = let more = weights_more m.answers frame in omega (arith, more)

pub load_if : (most : ℕ) (b : Bool) (x y : Mux) → load x ≤ most → load y ≤ most → load (cond b x y) ≤ most
load_if most true x y p q = p
load_if most false x y p q = q

pub closes_load : (reason : MuxReason) (m : Mux) → load (closes reason m) ≤ load m
closes_load reason m = omega arith

dm_load : (n : ℕ) (m : Mux) → load (says_dm n m) ≤ load m + 1
dm_load n m =
    let one = answering_load (response_frame m.role Dm n) m in
    load_if (load m + 1) (has_room m) (answering (response_frame m.role Dm n) m) m (omega (arith, one)) (omega arith)

-- ---- SABM

asked_load : (dlc : Dlc) (asks : Asks) → asks_load (signals_next dlc asks) + signal_load Responder (asked dlc) ≤ asks_load asks + signal_load Responder dlc
asked_load Idle Nothing = omega arith
asked_load Idle (Due command) = omega arith
asked_load Idle (Awaited command) = omega arith
asked_load Asked asks = omega arith
asked_load Open asks = omega arith
asked_load Ended asks = omega arith

opens_control_load : (m : Mux) → load (opens_control m) ≤ load m + 1
opens_control_load m =
    let x : Mux = record m { control = turned Initiator Sabm m.control } in
    let one = answering_load (response_frame m.role Ua 0) x in
    load_if (load m + 1) (is_ended m.control) (says_dm 0 m) (cond (has_room m) (answering (response_frame m.role Ua 0) x) m) (dm_load 0 m)
    (load_if (load m + 1) (has_room m) (answering (response_frame m.role Ua 0) x) m (omega (arith, one)) (omega arith))

opens_user_load : (m : Mux) → m.role ≡ Responder → load (opens_user m) ≤ load m + 1
opens_user_load m is =
    let x : Mux = record m { user = turned Initiator Sabm m.user; asks = signals_next m.user m.asks } in
    let one = answering_load (response_frame m.role Ua m.dlci) x in
    let before : signal_load m.role m.user ≡ signal_load Responder m.user = ap (λ (r : Role). signal_load r m.user) is in
    let after : signal_load m.role (asked m.user) ≡ signal_load Responder (asked m.user) = ap (λ (r : Role). signal_load r (asked m.user)) is in
    let less = asked_load m.user m.asks in
    load_if (load m + 1) (not m.agreed) (closes reasons.NoCreditFlow m) (cond (is_ended m.user) (says_dm m.dlci m) (cond (has_room m) (answering (response_frame m.role Ua m.dlci) x) m)) (omega arith)
    (load_if (load m + 1) (is_ended m.user) (says_dm m.dlci m) (cond (has_room m) (answering (response_frame m.role Ua m.dlci) x) m) (dm_load m.dlci m)
    (load_if (load m + 1) (has_room m) (answering (response_frame m.role Ua m.dlci) x) m (omega (arith, one, before, after, less)) (omega arith)))

sabm_load : (role : Role) (n : ℕ) (m : Mux) → m.role ≡ role → load (hears_sabm role n m) ≤ load m + 1
sabm_load Initiator n m is = dm_load n m
sabm_load Responder n m is =
    load_if (load m + 1) (n == 0) (opens_control m) (cond (n == m.dlci) (opens_user m) (says_dm n m)) (opens_control_load m)
    (load_if (load m + 1) (n == m.dlci) (opens_user m) (says_dm n m) (opens_user_load m is) (dm_load n m))

-- ---- UA and DM

agreed_load : (role : Role) (dlc : Dlc) → signal_load role (agreed dlc) ≤ signal_load role dlc
agreed_load Initiator dlc = omega arith
agreed_load Responder Idle = omega arith
agreed_load Responder Asked = omega arith
agreed_load Responder Open = omega arith
agreed_load Responder Ended = omega arith

ua_turned : (role from : Role) (dlc : Dlc) → signal_load role (turned from Ua dlc) ≤ signal_load role dlc
ua_turned role Initiator dlc = omega arith
ua_turned role Responder dlc = agreed_load role dlc

control_answered_load : (asks : Asks) (m : Mux) → m.asks ≡ asks → load (control_answered asks m) ≤ load m
control_answered_load Nothing m is = omega arith
control_answered_load (Due command) m is = omega arith
control_answered_load (Awaited OpenControl) m is = let before = ap asks_load is in omega (arith, before)
control_answered_load (Awaited Agree) m is = omega arith
control_answered_load (Awaited OpenUser) m is = omega arith
control_answered_load (Awaited Signal) m is = omega arith
control_answered_load (Awaited LeaveUser) m is = omega arith
control_answered_load (Awaited LeaveControl) m is = closes_load reasons.Disc m

user_answered_load : (asks : Asks) → asks_load (user_answered asks) ≤ asks_load asks
user_answered_load Nothing = omega arith
user_answered_load (Due command) = omega arith
user_answered_load (Awaited OpenControl) = omega arith
user_answered_load (Awaited Agree) = omega arith
user_answered_load (Awaited OpenUser) = omega arith
user_answered_load (Awaited Signal) = omega arith
user_answered_load (Awaited LeaveUser) = omega arith
user_answered_load (Awaited LeaveControl) = omega arith

ua_load : (n : ℕ) (m : Mux) → load (hears_ua n m) ≤ load m
ua_load n m =
    let x : Mux = record m { control = turned (other_role m.role) Ua m.control } in
    let y : Mux = record m { user = turned (other_role m.role) Ua m.user; asks = user_answered m.asks } in
    let less = user_answered_load m.asks in
    let also = ua_turned m.role (other_role m.role) m.user in
    load_if (load m) (n == 0) (control_answered m.asks x) (cond (n == m.dlci) y m) (control_answered_load m.asks x refl)
    (load_if (load m) (n == m.dlci) y m (omega (arith, less, also)) (omega arith))

control_refused_load : (asks : Asks) (m : Mux) → load (control_refused asks m) ≤ load m
control_refused_load Nothing m = closes_load reasons.Dm m
control_refused_load (Due command) m = closes_load reasons.Dm m
control_refused_load (Awaited OpenControl) m = closes_load reasons.Dm m
control_refused_load (Awaited Agree) m = closes_load reasons.Dm m
control_refused_load (Awaited OpenUser) m = closes_load reasons.Dm m
control_refused_load (Awaited Signal) m = closes_load reasons.Dm m
control_refused_load (Awaited LeaveUser) m = closes_load reasons.Dm m
control_refused_load (Awaited LeaveControl) m = closes_load reasons.Disc m

user_refused_load : (asks : Asks) (m : Mux) → m.asks ≡ asks → load (user_refused asks m) ≤ load m
user_refused_load Nothing m is = closes_load reasons.Dm m
user_refused_load (Due command) m is = closes_load reasons.Dm m
user_refused_load (Awaited OpenControl) m is = closes_load reasons.Dm m
user_refused_load (Awaited Agree) m is = closes_load reasons.Dm m
user_refused_load (Awaited OpenUser) m is = closes_load reasons.Dm m
user_refused_load (Awaited Signal) m is = closes_load reasons.Dm m
user_refused_load (Awaited LeaveUser) m is = let before = ap asks_load is in omega (arith, before)
user_refused_load (Awaited LeaveControl) m is = closes_load reasons.Dm m

heard_dm_load : (n : ℕ) (m : Mux) → load (hears_dm n m) ≤ load m
heard_dm_load n m =
    load_if (load m) (n == 0) (control_refused m.asks m) (cond (n == m.dlci) (user_refused m.asks m) m) (control_refused_load m.asks m)
    (load_if (load m) (n == m.dlci) (user_refused m.asks m) m (user_refused_load m.asks m refl) (omega arith))

-- ---- DISC

ended_load : (role : Role) (dlc : Dlc) → signal_load role Ended ≤ signal_load role dlc
ended_load Initiator dlc = omega arith
ended_load Responder dlc = omega arith

ends_load : (closed : Option MuxReason) (m : Mux) → load (ends closed m) ≤ load m
ends_load None m = closes_load reasons.Disc m
ends_load (Some reason) m = omega arith

left_load : (n : ℕ) (m x : Mux) → load x ≤ load m → load (cond (has_room m) (answering (response_frame m.role Ua n) (ends m.closed x)) m) ≤ load m + 1
left_load n m x less =
    let one = answering_load (response_frame m.role Ua n) (ends m.closed x) in
    let also = ends_load m.closed x in
    load_if (load m + 1) (has_room m) (answering (response_frame m.role Ua n) (ends m.closed x)) m (omega (arith, one, also, less)) (omega arith)

disc_load : (n : ℕ) (m : Mux) → load (hears_disc n m) ≤ load m + 1
disc_load n m =
    let from : Role = other_role m.role in
    let x : Mux = record m { control = Ended } in
    let y : Mux = record m { user = Ended } in
    let less = ended_load m.role m.user in
    let left_control : Mux = cond (has_room m) (answering (response_frame m.role Ua 0) (ends m.closed x)) m in
    let left_user : Mux = cond (has_room m) (answering (response_frame m.role Ua m.dlci) (ends m.closed y)) m in
    load_if (load m + 1) ((n == 0) && is_left from m.control) left_control (cond ((n == m.dlci) && is_left from m.user) left_user (says_dm n m)) (left_load 0 m x (omega arith))
    (load_if (load m + 1) ((n == m.dlci) && is_left from m.user) left_user (says_dm n m) (left_load m.dlci m y (omega (arith, less))) (dm_load n m))

-- ---- credits and information

credited_load : (n : ℕ) (m : Mux) → load (credited n m) ≤ load m
credited_load n m =
    let x : Mux = record m { account = record { cap = m.account.cap; held = m.account.held + n; peer = m.account.peer } } in
    load_if (load m) (nat_lt 65535 (m.account.held + n)) (closes reasons.CreditOverflow m) x (closes_load reasons.CreditOverflow m) (omega arith)

pub grant_at_most : (account : Credits) → grant_load account ≤ 1
grant_at_most account = at_most (nat_lt 0 (grant_of account))
  where
    at_most : (b : Bool) → cond b 1 0 ≤ 1
    at_most true = omega arith
    at_most false = omega arith

charged_load : (octets : List ℕ) (m : Mux) → load (charged octets m) ≤ load m + cond (is_empty octets) 0 1
charged_load [] m = omega arith
charged_load (octet ∷ octets) m =
    let account : Credits = record { cap = m.account.cap; held = m.account.held; peer = m.account.peer - 1 } in
    let x : Mux = record m { account = account } in
    let more = grant_at_most account in
    load_if (load m + 1) (m.account.peer == 0) (closes reasons.Overdrawn m) x (omega arith) (omega (arith, more))

stands_load : (most : ℕ) (f : Mux → Mux) (closed : Option MuxReason) (m : Mux) → load (f m) ≤ most → load m ≤ most → load (if_stands f closed m) ≤ most
stands_load most f None m p q = p
stands_load most f (Some reason) m p q = q

with_credits_load : (credits : Option ℕ) (m : Mux) → load (with_credits credits m) ≤ load m
with_credits_load None m = omega arith
with_credits_load (Some n) m = credited_load n m

data_load : (frame : PlainFrame) (m : Mux) → load (hears_data frame m) ≤ load m + cond (is_empty frame.octets) 0 1
data_load frame m =
    let granted : Mux = with_credits frame.credits m in
    let less = with_credits_load frame.credits m in
    let more = charged_load frame.octets granted in
    stands_load (load m + cond (is_empty frame.octets) 0 1) (charged frame.octets) granted.closed granted (omega (arith, less, more)) (omega (arith, less))

-- ---- control messages

-- an answer that counts no more than itself
told : (control : PlainControl) (x m : Mux) → weight (control_frame m.role control) ≤ 1 → load x ≤ load m → load (answering (control_frame m.role control) x) ≤ load m + 1
told control x m light less = let one = answering_load (control_frame m.role control) x in omega (arith, one, light, less)

-- PN is read as PN, whatever numbers it has
pub pn_weight : (role : Role) (command : Bool) (dlci flow priority timer frame retransmissions credits : ℕ) → weight (control_frame role (pn command dlci flow priority timer frame retransmissions credits)) ≡ 1 + bit command
unfolding messages messages_within message_answer
pn_weight role true dlci flow priority timer frame retransmissions credits = refl
pn_weight role false dlci flow priority timer frame retransmissions credits = refl

pub msc_weight : (role : Role) (command : Bool) (address signals : ℕ) → weight (control_frame role (msc command address signals)) ≡ 1 + bit command
unfolding messages messages_within message_answer
msc_weight role true address signals = refl
msc_weight role false address signals = refl

pn_credited_load : (credits : ℕ) (m : Mux) → load (pn_credited credits m) ≤ load m
pn_credited_load credits m = load_if (load m) (counts m) (credited (credits % 8) m) m (credited_load (credits % 8) m) (omega arith)

offer_load : (flow priority frame credits : ℕ) (m : Mux) → load (hears_offer flow priority frame credits m) ≤ load m + 1
offer_load flow priority frame credits m =
    let answer : PlainControl = pn false m.dlci 0xE0 priority 0 (lesser m.own frame) 0 (own_credits m) in
    let x : Mux = record m { frame = lesser m.own frame; agreed = true; stated = true } in
    let y : Mux = answering (control_frame m.role answer) x in
    let light = pn_weight m.role false m.dlci 0xE0 priority 0 (lesser m.own frame) 0 (own_credits m) in
    let less = told answer x m (omega (arith, light)) (omega arith) in
    let also = pn_credited_load credits y in
    load_if (load m + 1) (not (flow / 16 == 0xF)) (closes reasons.NoCreditFlow m) (cond (nat_lt frame 23) (closes reasons.BadFrame m) (cond (has_room m) (pn_credited credits y) m)) (omega arith)
    (load_if (load m + 1) (nat_lt frame 23) (closes reasons.BadFrame m) (cond (has_room m) (pn_credited credits y) m) (omega arith)
    (load_if (load m + 1) (has_room m) (pn_credited credits y) m (omega (arith, less, also)) (omega arith)))

terms_load : (asks : Asks) → asks_load (terms_agreed asks) ≤ asks_load asks
terms_load Nothing = omega arith
terms_load (Due command) = omega arith
terms_load (Awaited OpenControl) = omega arith
terms_load (Awaited Agree) = omega arith
terms_load (Awaited OpenUser) = omega arith
terms_load (Awaited Signal) = omega arith
terms_load (Awaited LeaveUser) = omega arith
terms_load (Awaited LeaveControl) = omega arith

acceptance_load : (flow frame credits : ℕ) (m : Mux) → load (hears_acceptance flow frame credits m) ≤ load m
acceptance_load flow frame credits m =
    let x : Mux = record m { frame = lesser m.own frame; agreed = true; asks = terms_agreed m.asks } in
    let less = terms_load m.asks in
    let also = pn_credited_load credits x in
    load_if (load m) (not (flow / 16 == 0xE)) (closes reasons.NoCreditFlow m) (cond (nat_lt frame 23) (closes reasons.BadFrame m) (pn_credited credits x)) (omega arith)
    (load_if (load m) (nat_lt frame 23) (closes reasons.BadFrame m) (pn_credited credits x) (omega arith) (omega (arith, less, also)))

other_offer_load : (command : Bool) (dlci frame : ℕ) (m : Mux) → load (hears_other_offer command dlci frame m) ≤ load m + bit command
other_offer_load true dlci frame m = load_if (load m + 1) (nat_lt frame 23) (closes reasons.BadFrame m) (says_dm dlci m) (omega arith) (dm_load dlci m)
other_offer_load false dlci frame m = load_if (load m + 0) (nat_lt frame 23) (closes reasons.BadFrame m) m (omega arith) (omega arith)

heard_pn_load : (command : Bool) (dlci flow priority frame credits : ℕ) (m : Mux) → load (hears_pn command dlci flow priority frame credits m) ≤ load m + bit command
heard_pn_load true dlci flow priority frame credits m =
    load_if (load m + 1) (dlci % 64 == m.dlci) (hears_offer flow priority frame credits m) (hears_other_offer true (dlci % 64) frame m)
    (offer_load flow priority frame credits m) (other_offer_load true (dlci % 64) frame m)
heard_pn_load false dlci flow priority frame credits m =
    let less = acceptance_load flow frame credits m in
    load_if (load m + 0) (dlci % 64 == m.dlci) (hears_acceptance flow frame credits m) (hears_other_offer false (dlci % 64) frame m)
    (omega (arith, less)) (other_offer_load false (dlci % 64) frame m)

signals_load : (asks : Asks) (m : Mux) → load (signals_answered asks m) ≤ load m
signals_load Nothing m = omega arith
signals_load (Due command) m = omega arith
signals_load (Awaited OpenControl) m = omega arith
signals_load (Awaited Agree) m = omega arith
signals_load (Awaited OpenUser) m = omega arith
signals_load (Awaited Signal) m = omega arith
signals_load (Awaited LeaveUser) m = omega arith
signals_load (Awaited LeaveControl) m = omega arith

heard_msc_load : (command : Bool) (address signals : ℕ) (m : Mux) → load (hears_msc command address signals m) ≤ load m + bit command
heard_msc_load true address signals m =
    let x : Mux = cond (address / 4 == m.dlci) (record m { ready = peer_answered m.ready }) m in
    let answer : PlainControl = msc false address signals in
    let light = msc_weight m.role false address signals in
    let same = load_if (load m) (address / 4 == m.dlci) (record m { ready = peer_answered m.ready }) m (omega arith) (omega arith) in
    load_if (load m + 1) (has_room m) (answering (control_frame m.role answer) x) m (told answer x m (omega (arith, light)) same) (omega arith)
heard_msc_load false address signals m =
    let less = signals_load m.asks m in
    load_if (load m + 0) (address / 4 == m.dlci) (signals_answered m.asks m) m (omega (arith, less)) (omega arith)

-- what is told is short, and counts no more than itself
written_short : (control : PlainControl) (room : Bool) (kind : ℕ) (value : List ℕ) → written control ≡ kind ∷ sized value → (nat_le (length (written control)) 40 && room) ≡ true → length value < 128
written_short control room kind value is fits =
    let few : length (written control) ≤ 40 = leb-true (length (written control)) 40 (first_true (nat_le (length (written control)) 40) room fits) in
    let whole = ap length is in
    let parts = length-append (shortest (length value)) value in
    omega (arith, few, whole, parts)
  where
    first_true : (a b : Bool) → (a && b) ≡ true → a ≡ true
    first_true true b is = refl
    first_true false b is = let never : false ≡ true = is in cc

tells_load : (control c : PlainControl) (kind : ℕ) (value : List ℕ) (m : Mux) → written control ≡ kind ∷ sized value → (kind % 2 == 0) ≡ false → message kind (take (length value) value) ≡ Some c → answered_once (Ok c) ≡ 0
    → load (tells control m) ≤ load m + 1
tells_load control c kind value m is odd says quiet = by_test (nat_le (length (written control)) 40 && has_room m) refl
  where
    by_test : (test : Bool) → (nat_le (length (written control)) 40 && has_room m) ≡ test → load (cond test (answering (control_frame m.role control) m) m) ≤ load m + 1
    by_test true holds =
        let short = written_short control (has_room m) kind value is holds in
        let light = response_weight m.role control c (ap messages is ∙ one_message kind value c short odd says) in
        told control m m (omega (arith, light, quiet)) (omega arith)
    by_test false holds = omega arith

if_command : (command : Bool) (x m : Mux) → load x ≤ load m + 1 → load (cond command x m) ≤ load m + bit command
if_command true x m p = p
if_command false x m p = omega arith

control_load : (control : PlainControl) (m : Mux) → load (hears_control control m) ≤ load m + answered_once (Ok control)
control_load (pn command dlci flow priority timer frame retransmissions credits) m = heard_pn_load command dlci flow priority frame credits m
control_load (msc command address signals) m = heard_msc_load command address signals m
control_load (test command octets) m =
    if_command command (tells (test false octets) m) m (tells_load (test false octets) (test false (take (length octets) octets)) 0x21 octets m refl refl refl refl)
control_load (rpn command value) m =
    let v : List ℕ = settings_of value in
    if_command command (tells (rpn false v) m) m (tells_load (rpn false v) (rpn false (take (length v) v)) 0x91 v m refl refl refl refl)
control_load (rls command value) m =
    if_command command (tells (rls false value) m) m (tells_load (rls false value) (rls false (take (length value) value)) 0x51 value m refl refl refl refl)
control_load (nsc kind) m = omega arith
control_load (other kind value) m = if_command (kind / 2 % 2 == 1) (tells (nsc kind) m) m (tells_load (nsc kind) (nsc kind) 0x11 (kind ∷ []) m refl refl refl refl)

message_load : (message : MessageAnswer) (m : Mux) → load (hears_message message m) ≤ load m + answered_once message
message_load (Ok control) m = control_load control m
message_load (Err refusal) m = omega arith

messages_load : (list : List MessageAnswer) (m : Mux) → load (hears_messages list m) ≤ load m + answers_to list
messages_load [] m = omega arith
messages_load (message ∷ rest) m =
    let x : Mux = if_stands (hears_message message) m.closed m in
    let one = stands_load (load m + answered_once message) (hears_message message) m.closed m (message_load message m) (omega arith) in
    let others = messages_load rest x in
    omega (arith, one, others)

-- ---- a frame

uih_if : (most_control most_data : ℕ) (here there : Bool) (x y m : Mux) → load x ≤ load m + most_control → load y ≤ load m + most_data → load (cond here x (cond there y m)) ≤ load m + cond here most_control most_data
uih_if most_control most_data true there x y m p q = p
uih_if most_control most_data false true x y m p q = q
uih_if most_control most_data false false x y m p q = omega arith

uih_load : (frame : PlainFrame) (m : Mux) → load (hears_uih frame m) ≤ load m + comes_of Uih frame
uih_load frame m =
    uih_if (answers_to (messages frame.octets)) (cond (is_empty frame.octets) 0 1) (frame.dlci == 0) ((frame.dlci == m.dlci) && may_pass m) (hears_messages (messages frame.octets) m) (hears_data frame m) m
    (messages_load (messages frame.octets) m) (data_load frame m)

kind_load : (kind : MuxKind) (frame : PlainFrame) (m : Mux) → load (hears_kind kind frame m) ≤ load m + comes_of kind frame
kind_load Sabm frame m = load_if (load m + 1) frame.pf (hears_sabm m.role frame.dlci m) m (sabm_load m.role frame.dlci m refl) (omega arith)
kind_load Ua frame m = let less = ua_load frame.dlci m in load_if (load m + 0) frame.pf (hears_ua frame.dlci m) m (omega (arith, less)) (omega arith)
kind_load Dm frame m = let less = heard_dm_load frame.dlci m in omega (arith, less)
kind_load Disc frame m = load_if (load m + 1) frame.pf (hears_disc frame.dlci m) m (disc_load frame.dlci m) (omega arith)
kind_load Uih frame m = uih_load frame m

settled_load : (kind : MuxKind) (frame : PlainFrame) (m : Mux) → load (hears_settled kind frame m) ≤ load m + comes_of kind frame
settled_load Sabm frame m = load_if (load m + 1) frame.pf (says_dm frame.dlci m) m (dm_load frame.dlci m) (omega arith)
settled_load Ua frame m = omega arith
settled_load Dm frame m = omega arith
settled_load Disc frame m = load_if (load m + 1) frame.pf (hears_disc frame.dlci m) m (disc_load frame.dlci m) (omega arith)
settled_load Uih frame m = omega arith

frame_load : (closed : Option MuxReason) (frame : PlainFrame) (m : Mux) → load (hears_frame closed frame m) ≤ load m + comes_of frame.kind frame
frame_load None frame m = kind_load frame.kind frame m
frame_load (Some reasons.Dm) frame m = settled_load frame.kind frame m
frame_load (Some reasons.Disc) frame m = settled_load frame.kind frame m
frame_load (Some reasons.NoCreditFlow) frame m = omega arith
frame_load (Some reasons.Overdrawn) frame m = omega arith
frame_load (Some reasons.BadFrame) frame m = omega arith
frame_load (Some reasons.CreditOverflow) frame m = omega arith

pub answer_load : (a : Answer) (m : Mux) → load (hears_answer a m) < load m + weight_of a
answer_load (Ok frame) m = let less = frame_load m.closed frame m in omega (arith, less)
answer_load (Err refusal) m = let less = stands_load (load m) (closes reasons.BadFrame) m.closed m (closes_load reasons.BadFrame m) (omega arith) in omega (arith, less)
