-- The frames of a multiplexer are small: at most 40 octets of information, if its data frames are.
use Rattle.std.proofs.Common.{Bool, true, false, cond, eqb, ltb, leb, ◌&&◌, ◌+◌, ◌/◌, ◌%◌, ◌≤◌, ◌≡◌, ℕ, List, [], ◌∷◌, ◌++◌, length, take, Option, Some, None, Ok, Err, arith, refl, sym, subst}
use Rattle.std.specs.Prelude.{not, is_none}
use Rattle.std.specs.List.{AllByRecursion}
use Rattle.std.proofs.lemmas.Bool.{and_parts, leb-true}
use Rattle.std.proofs.lemmas.List.{length-take}
use Rattle.push_model.specs.rfcomm_frames.specs.declared.connection.Dlc.TheVariants.{Ended}
use Rattle.push_model.specs.rfcomm_frames.specs.declared.connection.Role.{Role}
use Rattle.push_model.specs.rfcomm_frames.specs.declared.connection.Role.TheVariants.{Initiator, Responder}
use Rattle.push_model.specs.rfcomm_frames.specs.declared.frame.MuxKind.{MuxKind}
use Rattle.push_model.specs.rfcomm_frames.specs.declared.frame.MuxKind.TheVariants.{Sabm, Ua, Dm, Disc, Uih}
use Rattle.push_model.specs.rfcomm_frames.specs.Answers.{Answer}
use Rattle.push_model.specs.rfcomm_frames.specs.Controls.{PlainControl, pn, msc, test, rpn, rls, nsc, other, written}
use Rattle.push_model.specs.rfcomm_frames.specs.FrameReading.{is_empty, MessageAnswer, messages, frame_answer}
use Rattle.push_model.specs.rfcomm_frames.specs.Frames.{PlainFrame}
use Rattle.push_model.specs.rfcomm_frames.specs.Connections.{other_role, turned, is_left, is_ended}
use Rattle.push_model.specs.rfcomm_model.specs.declared.state.Asks.{Asks}
use Rattle.push_model.specs.rfcomm_model.specs.declared.state.Asks.TheVariants.{Nothing, Due, Awaited}
use Rattle.push_model.specs.rfcomm_model.specs.declared.state.Command.TheVariants.{OpenControl, Agree, OpenUser, Signal, LeaveUser, LeaveControl}
use Rattle.push_model.specs.rfcomm_model.specs.declared.state.MuxReason.{MuxReason}
use Rattle.push_model.specs.rfcomm_model.specs.declared.state.MuxReason.TheVariants as reasons
use Rattle.push_model.specs.rfcomm_model.specs.Written.{response_frame, control_frame}
use Rattle.push_model.specs.rfcomm_model.specs.Machine.{Mux, may_pass, closes, sends, leaves, taken_count, is_leaving}
use Rattle.push_model.specs.rfcomm_model.specs.Hearing.{has_room, answering, says_dm, tells, opens_control, opens_user, hears_sabm, control_answered, hears_ua, control_refused, user_refused, hears_dm, ends, hears_disc, credited, charged, if_stands, with_credits, hears_data, counts, pn_credited, lesser, own_credits, terms_agreed, peer_answered, hears_offer, hears_acceptance, hears_other_offer, hears_pn, signals_answered, hears_msc, settings_of, hears_control, hears_message, hears_messages, hears_uih, hears_kind, hears_settled, hears_frame, hears_answer, hears}
use Rattle.push_model.specs.rfcomm_model.specs.Saying.{Said, says_data, says_grant, first_of, says_command, says_answer, next}

abbrev pub IsSmall : PlainFrame → Type 0
IsSmall frame = length frame.octets ≤ 40

pub record Small (m : Mux) : Type 0 where
  pub answers : AllByRecursion IsSmall m.answers
  pub waiting : length m.waiting ≤ 40

-- the same with other parts
still : (m x : Mux) → Small m → x.answers ≡ m.answers → x.waiting ≡ m.waiting → Small x
still m x s a w = record { answers = subst (λ (fs : List PlainFrame). AllByRecursion IsSmall fs) (sym a) s.answers; waiting = subst (λ (octets : List ℕ). length octets ≤ 40) (sym w) s.waiting }

either : (b : Bool) (x y : Mux) → Small x → Small y → Small (cond b x y)
either true x y s t = s
either false x y s t = t

all_more : (fs : List PlainFrame) (f : PlainFrame) → AllByRecursion IsSmall fs → IsSmall f → AllByRecursion IsSmall (fs ++ f ∷ [])
all_more [] f all one = (one, tt)
all_more (g ∷ fs) f all one = (all.0, all_more fs f all.1 one)

answers_more : (f : PlainFrame) (m : Mux) → Small m → IsSmall f → Small (answering f m)
answers_more f m s one = record { answers = all_more m.answers f s.answers one; waiting = s.waiting }

closes_small : (reason : MuxReason) (m : Mux) → Small m → Small (closes reason m)
closes_small reason m s = record { answers = s.answers; waiting = omega arith }

dm_small : (n : ℕ) (m : Mux) → Small m → Small (says_dm n m)
dm_small n m s = either (has_room m) (answering (response_frame m.role Dm n) m) m (answers_more (response_frame m.role Dm n) m s (omega arith)) s

tells_by : (fits : Bool) (control : PlainControl) (m : Mux) → (leb (length (written control)) 40 && has_room m) ≡ fits → Small m → Small (cond fits (answering (control_frame m.role control) m) m)
tells_by true control m e s = answers_more (control_frame m.role control) m s (leb-true (length (written control)) 40 (and_parts (leb (length (written control)) 40) (has_room m) e).0)
tells_by false control m e s = s

tells_small : (control : PlainControl) (m : Mux) → Small m → Small (tells control m)
tells_small control m s = tells_by (leb (length (written control)) 40 && has_room m) control m refl s

opens_control_small : (m : Mux) → Small m → Small (opens_control m)
opens_control_small m s =
    either (is_ended m.control) (says_dm 0 m) _ (dm_small 0 m s)
    (either (has_room m) (answering (response_frame m.role Ua 0) (record m { control = turned Initiator Sabm m.control })) m
    (answers_more (response_frame m.role Ua 0) (record m { control = turned Initiator Sabm m.control }) (still m (record m { control = turned Initiator Sabm m.control }) s refl refl) (omega arith)) s)

-- a frame without information answers, with other parts
response_small : (kind : MuxKind) (n : ℕ) (m x : Mux) → Small m → Small x → Small (cond (has_room m) (answering (response_frame m.role kind n) x) m)
response_small kind n m x s t = either (has_room m) (answering (response_frame m.role kind n) x) m (answers_more (response_frame m.role kind n) x t (omega arith)) s

opens_user_small : (m : Mux) → Small m → Small (opens_user m)
opens_user_small m s =
    either (not m.agreed) (closes reasons.NoCreditFlow m) _ (closes_small reasons.NoCreditFlow m s)
    (either (is_ended m.user) (says_dm m.dlci m) _ (dm_small m.dlci m s) (response_small Ua m.dlci m _ s (record { answers = s.answers; waiting = s.waiting })))

sabm_small : (role : Role) (n : ℕ) (m : Mux) → Small m → Small (hears_sabm role n m)
sabm_small Initiator n m s = dm_small n m s
sabm_small Responder n m s = either (eqb n 0) (opens_control m) _ (opens_control_small m s) (either (eqb n m.dlci) (opens_user m) (says_dm n m) (opens_user_small m s) (dm_small n m s))

control_answered_small : (asks : Asks) (m : Mux) → Small m → Small (control_answered asks m)
control_answered_small Nothing m s = s
control_answered_small (Due command) m s = s
control_answered_small (Awaited OpenControl) m s = record { answers = s.answers; waiting = s.waiting }
control_answered_small (Awaited Agree) m s = s
control_answered_small (Awaited OpenUser) m s = s
control_answered_small (Awaited Signal) m s = s
control_answered_small (Awaited LeaveUser) m s = s
control_answered_small (Awaited LeaveControl) m s = closes_small reasons.Disc m s

ua_small : (n : ℕ) (m : Mux) → Small m → Small (hears_ua n m)
ua_small n m s =
    either (eqb n 0) (control_answered m.asks (record m { control = turned (other_role m.role) Ua m.control })) _
    (control_answered_small m.asks (record m { control = turned (other_role m.role) Ua m.control }) (record { answers = s.answers; waiting = s.waiting }))
    (either (eqb n m.dlci) _ m (record { answers = s.answers; waiting = s.waiting }) s)

control_refused_small : (asks : Asks) (m : Mux) → Small m → Small (control_refused asks m)
control_refused_small (Awaited LeaveControl) m s = closes_small reasons.Disc m s
control_refused_small Nothing m s = closes_small reasons.Dm m s
control_refused_small (Due command) m s = closes_small reasons.Dm m s
control_refused_small (Awaited OpenControl) m s = closes_small reasons.Dm m s
control_refused_small (Awaited Agree) m s = closes_small reasons.Dm m s
control_refused_small (Awaited OpenUser) m s = closes_small reasons.Dm m s
control_refused_small (Awaited Signal) m s = closes_small reasons.Dm m s
control_refused_small (Awaited LeaveUser) m s = closes_small reasons.Dm m s

user_refused_small : (asks : Asks) (m : Mux) → Small m → Small (user_refused asks m)
user_refused_small (Awaited LeaveUser) m s = record { answers = s.answers; waiting = s.waiting }
user_refused_small Nothing m s = closes_small reasons.Dm m s
user_refused_small (Due command) m s = closes_small reasons.Dm m s
user_refused_small (Awaited OpenControl) m s = closes_small reasons.Dm m s
user_refused_small (Awaited Agree) m s = closes_small reasons.Dm m s
user_refused_small (Awaited OpenUser) m s = closes_small reasons.Dm m s
user_refused_small (Awaited Signal) m s = closes_small reasons.Dm m s
user_refused_small (Awaited LeaveControl) m s = closes_small reasons.Dm m s

hears_dm_small : (n : ℕ) (m : Mux) → Small m → Small (hears_dm n m)
hears_dm_small n m s = either (eqb n 0) (control_refused m.asks m) _ (control_refused_small m.asks m s) (either (eqb n m.dlci) (user_refused m.asks m) m (user_refused_small m.asks m s) s)

ends_small : (reason : Option MuxReason) (m : Mux) → Small m → Small (ends reason m)
ends_small None m s = closes_small reasons.Disc m s
ends_small (Some reason) m s = s

disc_small : (n : ℕ) (m : Mux) → Small m → Small (hears_disc n m)
disc_small n m s =
    either (eqb n 0 && is_left (other_role m.role) m.control) _ _ (response_small Ua 0 m (ends m.closed (record m { control = Ended })) s (ends_small m.closed (record m { control = Ended }) (record { answers = s.answers; waiting = s.waiting })))
    (either (eqb n m.dlci && is_left (other_role m.role) m.user) _ _ (response_small Ua m.dlci m (ends m.closed (record m { user = Ended })) s (ends_small m.closed (record m { user = Ended }) (record { answers = s.answers; waiting = s.waiting }))) (dm_small n m s))

credited_small : (n : ℕ) (m : Mux) → Small m → Small (credited n m)
credited_small n m s = either (ltb 65535 (m.account.held + n)) (closes reasons.CreditOverflow m) _ (closes_small reasons.CreditOverflow m s) (record { answers = s.answers; waiting = s.waiting })

charged_small : (octets : List ℕ) (m : Mux) → Small m → Small (charged octets m)
charged_small [] m s = s
charged_small (octet ∷ octets) m s = either (eqb m.account.peer 0) (closes reasons.Overdrawn m) _ (closes_small reasons.Overdrawn m s) (record { answers = s.answers; waiting = s.waiting })

stands_small : (f : Mux → Mux) (reason : Option MuxReason) (m : Mux) → ((x : Mux) → Small x → Small (f x)) → Small m → Small (if_stands f reason m)
stands_small f None m k s = k m s
stands_small f (Some reason) m k s = s

with_credits_small : (n : Option ℕ) (m : Mux) → Small m → Small (with_credits n m)
with_credits_small None m s = s
with_credits_small (Some n) m s = credited_small n m s

data_small : (f : PlainFrame) (m : Mux) → Small m → Small (hears_data f m)
data_small f m s = stands_small (charged f.octets) (with_credits f.credits m).closed (with_credits f.credits m) (λ x t. charged_small f.octets x t) (with_credits_small f.credits m s)

pn_credited_small : (n : ℕ) (m : Mux) → Small m → Small (pn_credited n m)
pn_credited_small n m s = either (counts m) (credited (n % 8) m) m (credited_small (n % 8) m s) s

offer_small : (flow priority frame credits : ℕ) (m : Mux) → Small m → Small (hears_offer flow priority frame credits m)
offer_small flow priority frame credits m s =
    let agreed : Mux = record m { frame = lesser m.own frame; agreed = true; stated = true } in
    let reply : PlainFrame = control_frame m.role (pn false m.dlci 0xE0 priority 0 (lesser m.own frame) 0 (own_credits m)) in
    either (not (eqb (flow / 16) 0xF)) (closes reasons.NoCreditFlow m) _ (closes_small reasons.NoCreditFlow m s)
    (either (ltb frame 23) (closes reasons.BadFrame m) _ (closes_small reasons.BadFrame m s)
    (either (has_room m) (pn_credited credits (answering reply agreed)) m (pn_credited_small credits (answering reply agreed) (answers_more reply agreed (record { answers = s.answers; waiting = s.waiting }) (omega arith))) s))

acceptance_small : (flow frame credits : ℕ) (m : Mux) → Small m → Small (hears_acceptance flow frame credits m)
acceptance_small flow frame credits m s =
    let agreed : Mux = record m { frame = lesser m.own frame; agreed = true; asks = terms_agreed m.asks } in
    either (not (eqb (flow / 16) 0xE)) (closes reasons.NoCreditFlow m) _ (closes_small reasons.NoCreditFlow m s)
    (either (ltb frame 23) (closes reasons.BadFrame m) _ (closes_small reasons.BadFrame m s) (pn_credited_small credits agreed (record { answers = s.answers; waiting = s.waiting })))

other_offer_small : (command : Bool) (n frame : ℕ) (m : Mux) → Small m → Small (hears_other_offer command n frame m)
other_offer_small command n frame m s = either (ltb frame 23) (closes reasons.BadFrame m) _ (closes_small reasons.BadFrame m s) (either command (says_dm n m) m (dm_small n m s) s)

pn_small : (command : Bool) (n flow priority frame credits : ℕ) (m : Mux) → Small m → Small (hears_pn command n flow priority frame credits m)
pn_small true n flow priority frame credits m s = either (eqb (n % 64) m.dlci) (hears_offer flow priority frame credits m) (hears_other_offer true (n % 64) frame m) (offer_small flow priority frame credits m s) (other_offer_small true (n % 64) frame m s)
pn_small false n flow priority frame credits m s = either (eqb (n % 64) m.dlci) (hears_acceptance flow frame credits m) (hears_other_offer false (n % 64) frame m) (acceptance_small flow frame credits m s) (other_offer_small false (n % 64) frame m s)

signals_small : (asks : Asks) (m : Mux) → Small m → Small (signals_answered asks m)
signals_small (Awaited Signal) m s = record { answers = s.answers; waiting = s.waiting }
signals_small Nothing m s = s
signals_small (Due command) m s = s
signals_small (Awaited OpenControl) m s = s
signals_small (Awaited Agree) m s = s
signals_small (Awaited OpenUser) m s = s
signals_small (Awaited LeaveUser) m s = s
signals_small (Awaited LeaveControl) m s = s

msc_small : (command : Bool) (address signals : ℕ) (m : Mux) → Small m → Small (hears_msc command address signals m)
msc_small true address signals m s =
    either (has_room m) _ m (answers_more (control_frame m.role (msc false address signals)) _ (either (eqb (address / 4) m.dlci) (record m { ready = peer_answered m.ready }) m (record { answers = s.answers; waiting = s.waiting }) s) (omega arith)) s
msc_small false address signals m s = either (eqb (address / 4) m.dlci) (signals_answered m.asks m) m (signals_small m.asks m s) s

control_small : (control : PlainControl) (m : Mux) → Small m → Small (hears_control control m)
control_small (pn command n flow priority timer frame retransmissions credits) m s = pn_small command n flow priority frame credits m s
control_small (msc command address signals) m s = msc_small command address signals m s
control_small (test command octets) m s = either command (tells (test false octets) m) m (tells_small (test false octets) m s) s
control_small (rpn command value) m s = either command (tells (rpn false (settings_of value)) m) m (tells_small (rpn false (settings_of value)) m s) s
control_small (rls command value) m s = either command (tells (rls false value) m) m (tells_small (rls false value) m s) s
control_small (nsc kind) m s = s
control_small (other kind value) m s = either (eqb (kind / 2 % 2) 1) (tells (nsc kind) m) m (tells_small (nsc kind) m s) s

message_small : (message : MessageAnswer) (m : Mux) → Small m → Small (hears_message message m)
message_small (Ok control) m s = control_small control m s
message_small (Err refusal) m s = closes_small reasons.BadFrame m s

messages_small : (list : List MessageAnswer) (m : Mux) → Small m → Small (hears_messages list m)
messages_small [] m s = s
messages_small (message ∷ rest) m s = messages_small rest (if_stands (hears_message message) m.closed m) (stands_small (hears_message message) m.closed m (λ x t. message_small message x t) s)

uih_small : (f : PlainFrame) (m : Mux) → Small m → Small (hears_uih f m)
uih_small f m s = either (eqb f.dlci 0) (hears_messages (messages f.octets) m) _ (messages_small (messages f.octets) m s) (either (eqb f.dlci m.dlci && may_pass m) (hears_data f m) m (data_small f m s) s)

kind_small : (kind : MuxKind) (f : PlainFrame) (m : Mux) → Small m → Small (hears_kind kind f m)
kind_small Sabm f m s = either f.pf (hears_sabm m.role f.dlci m) m (sabm_small m.role f.dlci m s) s
kind_small Ua f m s = either f.pf (hears_ua f.dlci m) m (ua_small f.dlci m s) s
kind_small Dm f m s = hears_dm_small f.dlci m s
kind_small Disc f m s = either f.pf (hears_disc f.dlci m) m (disc_small f.dlci m s) s
kind_small Uih f m s = uih_small f m s

settled_small : (kind : MuxKind) (f : PlainFrame) (m : Mux) → Small m → Small (hears_settled kind f m)
settled_small Sabm f m s = either f.pf (says_dm f.dlci m) m (dm_small f.dlci m s) s
settled_small Ua f m s = s
settled_small Dm f m s = s
settled_small Disc f m s = either f.pf (hears_disc f.dlci m) m (disc_small f.dlci m s) s
settled_small Uih f m s = s

frame_small : (reason : Option MuxReason) (f : PlainFrame) (m : Mux) → Small m → Small (hears_frame reason f m)
frame_small None f m s = kind_small f.kind f m s
frame_small (Some reasons.Dm) f m s = settled_small f.kind f m s
frame_small (Some reasons.Disc) f m s = settled_small f.kind f m s
frame_small (Some reasons.NoCreditFlow) f m s = s
frame_small (Some reasons.Overdrawn) f m s = s
frame_small (Some reasons.BadFrame) f m s = s
frame_small (Some reasons.CreditOverflow) f m s = s

answer_small : (a : Answer) (m : Mux) → Small m → Small (hears_answer a m)
answer_small (Ok frame) m s = frame_small m.closed frame m s
answer_small (Err refusal) m s = stands_small (closes reasons.BadFrame) m.closed m (λ x t. closes_small reasons.BadFrame x t) s

pub hears_small : (sdu : List ℕ) (m : Mux) → Small m → Small (hears sdu m)
hears_small sdu m s = answer_small (frame_answer sdu) m s

-- ---- what it sends

-- what is said is small, and so is what is left
abbrev pub SaidSmall : Option Said → Type 0
SaidSmall None = Unit {0}
SaidSmall (Some said) = IsSmall said.frame × Small said.after

first_small : (a b : Option Said) → SaidSmall a → SaidSmall b → SaidSmall (first_of a b)
first_small None b p q = q
first_small (Some said) b p q = p

either_said : (b : Bool) (x y : Option Said) → SaidSmall x → SaidSmall y → SaidSmall (cond b x y)
either_said true x y p q = p
either_said false x y p q = q

grant_said : (m : Mux) → Small m → SaidSmall (says_grant m)
grant_said m s = either_said _ (Some _) None (omega arith, record { answers = s.answers; waiting = s.waiting }) tt

data_said : (m : Mux) → Small m → SaidSmall (says_data m)
data_said m s = either_said _ (Some _) None (s.waiting, record { answers = s.answers; waiting = omega arith }) tt

command_said : (asks : Asks) (m : Mux) → Small m → SaidSmall (says_command asks m)
command_said Nothing m s = first_small (says_grant m) (says_data m) (grant_said m s) (data_said m s)
command_said (Awaited command) m s = first_small (says_grant m) (says_data m) (grant_said m s) (data_said m s)
command_said (Due OpenControl) m s = (omega arith, record { answers = s.answers; waiting = s.waiting })
command_said (Due Agree) m s = (omega arith, record { answers = s.answers; waiting = s.waiting })
command_said (Due OpenUser) m s = (omega arith, record { answers = s.answers; waiting = s.waiting })
command_said (Due Signal) m s = (omega arith, record { answers = s.answers; waiting = s.waiting })
command_said (Due LeaveUser) m s = (omega arith, record { answers = s.answers; waiting = s.waiting })
command_said (Due LeaveControl) m s = (omega arith, record { answers = s.answers; waiting = s.waiting })

answer_said : (answers : List PlainFrame) (m : Mux) → AllByRecursion IsSmall answers → Small m → SaidSmall (says_answer answers m)
answer_said [] m all s = command_said m.asks m s
answer_said (answer ∷ rest) m all s = (all.0, record { answers = all.1; waiting = s.waiting })

pub next_small : (m : Mux) → Small m → SaidSmall (next m)
next_small m s = answer_said m.answers m s.answers s

-- ---- what it is given

pub sends_small : (octets : List ℕ) (m : Mux) → length octets ≤ 40 → Small m → Small (sends octets m)
sends_small octets m few s =
    either (is_empty m.waiting && ltb 0 m.account.held) (record m { waiting = take (taken_count (length octets) m) octets }) m
    (record { answers = s.answers; waiting = (let front = length-take (taken_count (length octets) m) octets in omega (arith, front, few)) }) s

pub leaves_small : (m : Mux) → Small m → Small (leaves m)
leaves_small m s = either (is_none m.closed && not (is_leaving m.asks)) (record m { asks = Due LeaveUser }) m (record { answers = s.answers; waiting = s.waiting }) s
