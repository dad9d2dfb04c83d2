-- What a multiplexer sends by itself goes on its own data link connection, or on the control channel: the answers that wait are UA, DM, or messages there.
use Rattle.std.proofs.Common.{◌≡◌, ℕ, ◌+◌, ◌/◌, ◌%◌, ◌-◌, ◌*◌, ◌<◌, Bool, true, false, cond, eqb, ◌&&◌, ◌||◌, not, List, [], ◌∷◌, ◌++◌, Option, Some, None, Ok, Err, refl, sym, ap, subst, ◌∙◌, arith}
use Rattle.std.specs.Prelude.{nat_le, nat_lt, length, slice_index, is_none}
use Rattle.std.proofs.lemmas.Bool.{eq-eqb}
use Rattle.std.specs.List.{AllByRecursion}
use Rattle.shelf_model.specs.rfcomm_frames.specs.declared.connection.Dlc.TheVariants.{Ended}
use Rattle.shelf_model.specs.rfcomm_frames.specs.declared.connection.Role.{Role}
use Rattle.shelf_model.specs.rfcomm_frames.specs.declared.connection.Role.TheVariants.{Initiator, Responder}
use Rattle.shelf_model.specs.rfcomm_frames.specs.declared.frame.MuxKind.{MuxKind}
use Rattle.shelf_model.specs.rfcomm_frames.specs.declared.frame.MuxKind.TheVariants.{Sabm, Ua, Dm, Disc, Uih}
use Rattle.shelf_model.specs.rfcomm_frames.specs.declared.refusal.MuxRefusal.TheVariants.{Short, BadExtension, LengthMismatch, BadFcs}
use Rattle.shelf_model.specs.rfcomm_frames.specs.Answers.{Answer}
use Rattle.shelf_model.specs.rfcomm_frames.specs.Connections.{other_role, turned, is_left, is_ended}
use Rattle.shelf_model.specs.rfcomm_frames.specs.Controls.{PlainControl, pn, msc, test, rpn, rls, nsc, other, written}
use Rattle.shelf_model.specs.rfcomm_frames.specs.FrameReading.{MessageAnswer, messages, frame_answer, is_empty, kind_of, body_behind, Body, with_body, with_kind, is_checked, stated}
use Rattle.shelf_model.specs.rfcomm_frames.specs.Frames.{PlainFrame, bit, code_of, carries, has_credits, address_of, control_octet}
use Rattle.shelf_model.specs.rfcomm_model.specs.declared.state.Asks.{Asks}
use Rattle.shelf_model.specs.rfcomm_model.specs.declared.state.Asks.TheVariants.{Nothing, Due, Awaited}
use Rattle.shelf_model.specs.rfcomm_model.specs.declared.state.Command.TheVariants.{OpenControl, Agree, OpenUser, Signal, LeaveUser, LeaveControl}
use Rattle.shelf_model.specs.rfcomm_model.specs.declared.state.MuxReason.{MuxReason}
use Rattle.shelf_model.specs.rfcomm_model.specs.declared.state.MuxReason.TheVariants as reasons
use Rattle.shelf_model.specs.rfcomm_model.specs.Hearing.{has_room, answering, says_dm, tells, opens_control, opens_user, hears_sabm, control_answered, hears_ua, control_refused, user_refused, hears_dm, ends, hears_disc, credited, charged, if_stands, with_credits, hears_data, counts, pn_credited, lesser, own_credits, terms_agreed, peer_answered, hears_offer, hears_acceptance, hears_other_offer, hears_pn, signals_answered, hears_msc, settings_of, hears_control, hears_message, hears_messages, hears_uih, hears_kind, hears_settled, hears_frame, hears_answer, hears, signals_next}
use Rattle.shelf_model.specs.rfcomm_model.specs.Machine.{Mux, may_pass, closes, sends, leaves, is_leaving}
use Rattle.shelf_model.specs.rfcomm_model.specs.Saying.{Said, says_data, says_grant, first_of, says_command, says_answer, next}
use Rattle.shelf_model.specs.rfcomm_model.specs.Written.{response_frame, control_frame}
use Rattle.shelf_model.specs.host_model.specs.Pdus.{mux_octets}
use Rattle.host_laws.specs.Services.{answers_peer}

-- ---- the answers that wait

abbrev pub IsReply : PlainFrame → Type 0
IsReply frame = (answers_peer frame.kind || eqb frame.dlci 0) ≡ true

abbrev pub Replies : Mux → Type 0
Replies m = AllByRecursion IsReply m.answers

pub all_more : (frames : List PlainFrame) (frame : PlainFrame) → AllByRecursion IsReply frames → IsReply frame → AllByRecursion IsReply (frames ++ frame ∷ [])
all_more [] frame all now = (now, tt)
all_more (one ∷ frames) frame all now = (all.0, all_more frames frame all.1 now)

pub either : (b : Bool) (x y : Mux) → Replies x → Replies y → Replies (cond b x y)
either true x y one second = one
either false x y one second = second

pub more : (frame : PlainFrame) (m : Mux) → IsReply frame → Replies m → Replies (answering frame m)
more frame m now all = all_more m.answers frame all now

pub dm_so : (n : ℕ) (m : Mux) → Replies m → Replies (says_dm n m)
dm_so n m so = either (has_room m) (answering (response_frame m.role Dm n) m) m (more (response_frame m.role Dm n) m refl so) so

pub tells_so : (control : PlainControl) (m : Mux) → Replies m → Replies (tells control m)
tells_so control m so = either (nat_le (length (written control)) 40 && has_room m) (answering (control_frame m.role control) m) m (more (control_frame m.role control) m refl so) so

-- with UA, where there is room
pub ua_so : (n : ℕ) (m x : Mux) → Replies m → Replies x → Replies (cond (has_room m) (answering (response_frame m.role Ua n) x) m)
ua_so n m x so now = either (has_room m) (answering (response_frame m.role Ua n) x) m (more (response_frame m.role Ua n) x refl now) so

-- ---- SABM, UA, DM, DISC

pub opens_control_so : (m : Mux) → Replies m → Replies (opens_control m)
opens_control_so m so = either (is_ended m.control) (says_dm 0 m) _ (dm_so 0 m so) (ua_so 0 m (record m { control = turned Initiator Sabm m.control }) so so)

pub opens_user_so : (m : Mux) → Replies m → Replies (opens_user m)
opens_user_so m so = either (not m.agreed) (closes reasons.NoCreditFlow m) _ so (either (is_ended m.user) (says_dm m.dlci m) _ (dm_so m.dlci m so) (ua_so m.dlci m (record m { user = turned Initiator Sabm m.user; asks = signals_next m.user m.asks }) so so))

pub sabm_so : (role : Role) (n : ℕ) (m : Mux) → Replies m → Replies (hears_sabm role n m)
sabm_so Initiator n m so = dm_so n m so
sabm_so Responder n m so = either (eqb n 0) (opens_control m) _ (opens_control_so m so) (either (eqb n m.dlci) (opens_user m) (says_dm n m) (opens_user_so m so) (dm_so n m so))

pub answered_so : (asks : Asks) (m : Mux) → Replies m → Replies (control_answered asks m)
answered_so Nothing m so = so
answered_so (Due command) m so = so
answered_so (Awaited OpenControl) m so = so
answered_so (Awaited Agree) m so = so
answered_so (Awaited OpenUser) m so = so
answered_so (Awaited Signal) m so = so
answered_so (Awaited LeaveUser) m so = so
answered_so (Awaited LeaveControl) m so = so

pub ua_heard : (n : ℕ) (m : Mux) → Replies m → Replies (hears_ua n m)
ua_heard n m so = either (eqb n 0) (control_answered m.asks (record m { control = turned (other_role m.role) Ua m.control })) _ (answered_so m.asks (record m { control = turned (other_role m.role) Ua m.control }) so) (either (eqb n m.dlci) _ m so so)

pub control_refused_so : (asks : Asks) (m : Mux) → Replies m → Replies (control_refused asks m)
control_refused_so (Awaited LeaveControl) m so = so
control_refused_so (Awaited OpenControl) m so = so
control_refused_so (Awaited Agree) m so = so
control_refused_so (Awaited OpenUser) m so = so
control_refused_so (Awaited Signal) m so = so
control_refused_so (Awaited LeaveUser) m so = so
control_refused_so Nothing m so = so
control_refused_so (Due command) m so = so

pub user_refused_so : (asks : Asks) (m : Mux) → Replies m → Replies (user_refused asks m)
user_refused_so (Awaited LeaveUser) m so = so
user_refused_so (Awaited LeaveControl) m so = so
user_refused_so (Awaited OpenControl) m so = so
user_refused_so (Awaited Agree) m so = so
user_refused_so (Awaited OpenUser) m so = so
user_refused_so (Awaited Signal) m so = so
user_refused_so Nothing m so = so
user_refused_so (Due command) m so = so

pub dm_heard : (n : ℕ) (m : Mux) → Replies m → Replies (hears_dm n m)
dm_heard n m so = either (eqb n 0) (control_refused m.asks m) _ (control_refused_so m.asks m so) (either (eqb n m.dlci) (user_refused m.asks m) m (user_refused_so m.asks m so) so)

pub ends_so : (reason : Option MuxReason) (m : Mux) → Replies m → Replies (ends reason m)
ends_so None m so = so
ends_so (Some reason) m so = so

pub disc_so : (n : ℕ) (m : Mux) → Replies m → Replies (hears_disc n m)
disc_so n m so =
    either (eqb n 0 && is_left (other_role m.role) m.control) _ _ (ua_so 0 m (ends m.closed (record m { control = Ended })) so (ends_so m.closed (record m { control = Ended }) so))
    (either (eqb n m.dlci && is_left (other_role m.role) m.user) _ _ (ua_so m.dlci m (ends m.closed (record m { user = Ended })) so (ends_so m.closed (record m { user = Ended }) so)) (dm_so n m so))

-- ---- information and messages

pub credited_so : (n : ℕ) (m : Mux) → Replies m → Replies (credited n m)
credited_so n m so = either (nat_lt 65535 (m.account.held + n)) (closes reasons.CreditOverflow m) _ so so

pub charged_so : (octets : List ℕ) (m : Mux) → Replies m → Replies (charged octets m)
charged_so [] m so = so
charged_so (octet ∷ octets) m so = either (eqb m.account.peer 0) (closes reasons.Overdrawn m) _ so so

pub stands_so : (f : Mux → Mux) (reason : Option MuxReason) (m : Mux) → ((x : Mux) → Replies x → Replies (f x)) → Replies m → Replies (if_stands f reason m)
stands_so f None m goes so = goes m so
stands_so f (Some reason) m goes so = so

pub with_so : (credits : Option ℕ) (m : Mux) → Replies m → Replies (with_credits credits m)
with_so None m so = so
with_so (Some n) m so = credited_so n m so

pub data_so : (frame : PlainFrame) (m : Mux) → Replies m → Replies (hears_data frame m)
data_so frame m so = let granted = with_credits frame.credits m in stands_so (charged frame.octets) granted.closed granted (charged_so frame.octets) (with_so frame.credits m so)

pub pn_credited_so : (credits : ℕ) (m : Mux) → Replies m → Replies (pn_credited credits m)
pn_credited_so credits m so = either (counts m) (credited (credits % 8) m) m (credited_so (credits % 8) m so) so

pub offer_so : (flow priority frame credits : ℕ) (m : Mux) → Replies m → Replies (hears_offer flow priority frame credits m)
offer_so flow priority frame credits m so =
    let reply : PlainFrame = control_frame m.role (pn false m.dlci 0xE0 priority 0 (lesser m.own frame) 0 (own_credits m)) in
    let agreed : Mux = record m { frame = lesser m.own frame; agreed = true; stated = true } in
    either (not (eqb (flow / 16) 0xF)) (closes reasons.NoCreditFlow m) _ so
    (either (nat_lt frame 23) (closes reasons.BadFrame m) _ so (either (has_room m) (pn_credited credits (answering reply agreed)) m (pn_credited_so credits (answering reply agreed) (more reply agreed refl so)) so))

pub acceptance_so : (flow frame credits : ℕ) (m : Mux) → Replies m → Replies (hears_acceptance flow frame credits m)
acceptance_so flow frame credits m so =
    let agreed : Mux = record m { frame = lesser m.own frame; agreed = true; asks = terms_agreed m.asks } in
    either (not (eqb (flow / 16) 0xE)) (closes reasons.NoCreditFlow m) _ so (either (nat_lt frame 23) (closes reasons.BadFrame m) _ so (pn_credited_so credits agreed so))

pub other_offer_so : (command : Bool) (n frame : ℕ) (m : Mux) → Replies m → Replies (hears_other_offer command n frame m)
other_offer_so command n frame m so = either (nat_lt frame 23) (closes reasons.BadFrame m) _ so (either command (says_dm n m) m (dm_so n m so) so)

pub pn_so : (command : Bool) (n flow priority frame credits : ℕ) (m : Mux) → Replies m → Replies (hears_pn command n flow priority frame credits m)
pn_so true n flow priority frame credits m so = either (eqb (n % 64) m.dlci) (hears_offer flow priority frame credits m) (hears_other_offer true (n % 64) frame m) (offer_so flow priority frame credits m so) (other_offer_so true (n % 64) frame m so)
pn_so false n flow priority frame credits m so = either (eqb (n % 64) m.dlci) (hears_acceptance flow frame credits m) (hears_other_offer false (n % 64) frame m) (acceptance_so flow frame credits m so) (other_offer_so false (n % 64) frame m so)

pub signals_so : (asks : Asks) (m : Mux) → Replies m → Replies (signals_answered asks m)
signals_so (Awaited Signal) m so = so
signals_so (Awaited OpenControl) m so = so
signals_so (Awaited Agree) m so = so
signals_so (Awaited OpenUser) m so = so
signals_so (Awaited LeaveUser) m so = so
signals_so (Awaited LeaveControl) m so = so
signals_so Nothing m so = so
signals_so (Due command) m so = so

pub msc_so : (command : Bool) (address signals : ℕ) (m : Mux) → Replies m → Replies (hears_msc command address signals m)
msc_so true address signals m so =
    let noted : Mux = cond (eqb (address / 4) m.dlci) (record m { ready = peer_answered m.ready }) m in
    either (has_room m) (answering (control_frame m.role (msc false address signals)) noted) m (more (control_frame m.role (msc false address signals)) noted refl (either (eqb (address / 4) m.dlci) (record m { ready = peer_answered m.ready }) m so so)) so
msc_so false address signals m so = either (eqb (address / 4) m.dlci) (signals_answered m.asks m) m (signals_so m.asks m so) so

pub control_so : (control : PlainControl) (m : Mux) → Replies m → Replies (hears_control control m)
control_so (pn command dlci flow priority timer frame retransmissions credits) m so = pn_so command dlci flow priority frame credits m so
control_so (msc command address signals) m so = msc_so command address signals m so
control_so (test command octets) m so = either command (tells (test false octets) m) m (tells_so (test false octets) m so) so
control_so (rpn command value) m so = either command (tells (rpn false (settings_of value)) m) m (tells_so (rpn false (settings_of value)) m so) so
control_so (rls command value) m so = either command (tells (rls false value) m) m (tells_so (rls false value) m so) so
control_so (nsc kind) m so = so
control_so (other kind value) m so = either (eqb (kind / 2 % 2) 1) (tells (nsc kind) m) m (tells_so (nsc kind) m so) so

pub message_so : (message : MessageAnswer) (m : Mux) → Replies m → Replies (hears_message message m)
message_so (Ok control) m so = control_so control m so
message_so (Err refusal) m so = so

pub messages_so : (list : List MessageAnswer) (m : Mux) → Replies m → Replies (hears_messages list m)
messages_so [] m so = so
messages_so (message ∷ rest) m so = messages_so rest (if_stands (hears_message message) m.closed m) (stands_so (hears_message message) m.closed m (message_so message) so)

-- ---- a frame

pub uih_so : (frame : PlainFrame) (m : Mux) → Replies m → Replies (hears_uih frame m)
uih_so frame m so = either (eqb frame.dlci 0) (hears_messages (messages frame.octets) m) _ (messages_so (messages frame.octets) m so) (either (eqb frame.dlci m.dlci && may_pass m) (hears_data frame m) m (data_so frame m so) so)

pub kind_so : (kind : MuxKind) (frame : PlainFrame) (m : Mux) → Replies m → Replies (hears_kind kind frame m)
kind_so Sabm frame m so = either frame.pf (hears_sabm m.role frame.dlci m) m (sabm_so m.role frame.dlci m so) so
kind_so Ua frame m so = either frame.pf (hears_ua frame.dlci m) m (ua_heard frame.dlci m so) so
kind_so Dm frame m so = dm_heard frame.dlci m so
kind_so Disc frame m so = either frame.pf (hears_disc frame.dlci m) m (disc_so frame.dlci m so) so
kind_so Uih frame m so = uih_so frame m so

pub settled_so : (kind : MuxKind) (frame : PlainFrame) (m : Mux) → Replies m → Replies (hears_settled kind frame m)
settled_so Sabm frame m so = either frame.pf (says_dm frame.dlci m) m (dm_so frame.dlci m so) so
settled_so Ua frame m so = so
settled_so Dm frame m so = so
settled_so Disc frame m so = either frame.pf (hears_disc frame.dlci m) m (disc_so frame.dlci m so) so
settled_so Uih frame m so = so

pub frame_so : (closed : Option MuxReason) (frame : PlainFrame) (m : Mux) → Replies m → Replies (hears_frame closed frame m)
frame_so None frame m so = kind_so frame.kind frame m so
frame_so (Some reasons.Dm) frame m so = settled_so frame.kind frame m so
frame_so (Some reasons.Disc) frame m so = settled_so frame.kind frame m so
frame_so (Some reasons.NoCreditFlow) frame m so = so
frame_so (Some reasons.Overdrawn) frame m so = so
frame_so (Some reasons.BadFrame) frame m so = so
frame_so (Some reasons.CreditOverflow) frame m so = so

pub answer_so : (answer : Answer) (m : Mux) → Replies m → Replies (hears_answer answer m)
answer_so (Ok frame) m so = frame_so m.closed frame m so
answer_so (Err refusal) m so = stands_so (closes reasons.BadFrame) m.closed m (λ x now. now) so

pub hears_replies : (sdu : List ℕ) (m : Mux) → Replies m → Replies (hears sdu m)
hears_replies sdu m so = answer_so (frame_answer sdu) m so

pub sends_replies : (octets : List ℕ) (m : Mux) → Replies m → Replies (sends octets m)
sends_replies octets m so = either (is_empty m.waiting && nat_lt 0 m.account.held) _ m so so

pub leaves_replies : (m : Mux) → Replies m → Replies (leaves m)
leaves_replies m so = either (is_none m.closed && not (is_leaving m.asks)) _ m so so

-- ---- what it sends

-- an answer, or a frame on the control channel or on its own data link connection
abbrev pub GoesOn : (dlci : ℕ) → PlainFrame → Type 0
GoesOn dlci frame = (answers_peer frame.kind || (eqb frame.dlci 0 || eqb frame.dlci dlci)) ≡ true

pub record SaysSo (dlci : ℕ) (said : Said) : Type 0 where
  pub goes : GoesOn dlci said.frame
  pub replies : Replies said.after

abbrev pub SaysAll : ℕ → Option Said → Type 0
SaysAll dlci None = Unit {0}
SaysAll dlci (Some said) = SaysSo dlci said

pub same_is : (n : ℕ) → eqb n n ≡ true
same_is n = eq-eqb n n refl

pub or_true : (a b : Bool) → b ≡ true → (a || b) ≡ true
or_true true b is = refl
or_true false b is = is

pub or_more : (a b c : Bool) → (a || b) ≡ true → (a || (b || c)) ≡ true
or_more true b c is = refl
or_more false true c is = refl
or_more false false c is = cc

pub first_says : (dlci : ℕ) (a b : Option Said) → SaysAll dlci a → SaysAll dlci b → SaysAll dlci (first_of a b)
first_says dlci None b one second = second
first_says dlci (Some said) b one second = one

pub either_says : (dlci : ℕ) (b : Bool) (x y : Option Said) → SaysAll dlci x → SaysAll dlci y → SaysAll dlci (cond b x y)
either_says dlci true x y one second = one
either_says dlci false x y one second = second

pub grant_says : (m : Mux) → Replies m → SaysAll m.dlci (says_grant m)
grant_says m so = either_says m.dlci _ (Some _) None (record { goes = or_true (eqb m.dlci 0) (eqb m.dlci m.dlci) (same_is m.dlci); replies = so }) tt

pub data_says : (m : Mux) → Replies m → SaysAll m.dlci (says_data m)
data_says m so = either_says m.dlci _ (Some _) None (record { goes = or_true (eqb m.dlci 0) (eqb m.dlci m.dlci) (same_is m.dlci); replies = so }) tt

pub command_says : (asks : Asks) (m : Mux) → Replies m → SaysAll m.dlci (says_command asks m)
command_says Nothing m so = first_says m.dlci (says_grant m) (says_data m) (grant_says m so) (data_says m so)
command_says (Awaited command) m so = first_says m.dlci (says_grant m) (says_data m) (grant_says m so) (data_says m so)
command_says (Due OpenControl) m so = record { goes = refl; replies = so }
command_says (Due Agree) m so = record { goes = refl; replies = so }
command_says (Due OpenUser) m so = record { goes = or_true (eqb m.dlci 0) (eqb m.dlci m.dlci) (same_is m.dlci); replies = so }
command_says (Due Signal) m so = record { goes = refl; replies = so }
command_says (Due LeaveUser) m so = record { goes = or_true (eqb m.dlci 0) (eqb m.dlci m.dlci) (same_is m.dlci); replies = so }
command_says (Due LeaveControl) m so = record { goes = refl; replies = so }

pub answer_says : (answers : List PlainFrame) (m : Mux) → AllByRecursion IsReply answers → Replies m → SaysAll m.dlci (says_answer answers m)
answer_says [] m all so = command_says m.asks m so
answer_says (answer ∷ rest) m all so = record { goes = or_more (answers_peer answer.kind) (eqb answer.dlci 0) (eqb answer.dlci m.dlci) all.0; replies = all.1 }

pub next_says : (m : Mux) → Replies m → SaysAll m.dlci (next m)
next_says m so = answer_says m.answers m so so

-- ---- a frame that is read

-- where octets are read as a frame, its channel and its kind are those that their first two name
pub record HasHead (octets : List ℕ) (frame : PlainFrame) : Type 0 where
  pub dlci_is : frame.dlci ≡ slice_index octets 0 / 4
  pub kind_is : kind_of (slice_index octets 1) ≡ Some frame.kind

pub read_head : (octets : List ℕ) (frame : PlainFrame) → frame_answer octets ≡ Ok frame → HasHead octets frame
unfolding frame_answer
read_head octets frame is = by (nat_lt (length octets) 4) (eqb (slice_index octets 0 % 2) 0) is
  where
    on_body : (kind : MuxKind) (pf fits checks : Bool) (body : Body) → kind_of (slice_index octets 1) ≡ Some kind
        → (let read : PlainFrame = record { dlci = slice_index octets 0 / 4; cr = eqb (slice_index octets 0 / 2 % 2) 1; kind = kind; pf = pf; credits = body.0; octets = body.1 } in let given : Answer = cond fits (cond checks (Ok read) (Err BadFcs)) (Err LengthMismatch) in given ≡ Ok frame) → HasHead octets frame
    on_body kind pf true true body named same =
        let read : PlainFrame = record { dlci = slice_index octets 0 / 4; cr = eqb (slice_index octets 0 / 2 % 2) 1; kind = kind; pf = pf; credits = body.0; octets = body.1 } in
        let frame_is : read ≡ frame = cc in
        record { dlci_is = ap (λ (f : PlainFrame). f.dlci) (sym frame_is); kind_is = named ∙ ap (λ (f : PlainFrame). Some f.kind) frame_is }
    on_body kind pf true false body named same = cc
    on_body kind pf false checks body named same = cc

    on_kind : (kind : MuxKind) (pf : Bool) (body : Option Body) → kind_of (slice_index octets 1) ≡ Some kind → with_body octets kind pf body ≡ Ok frame → HasHead octets frame
    on_kind kind pf None named same = cc
    on_kind kind pf (Some body) named same = on_body kind pf (carries kind || is_empty body.1) (is_checked kind octets) body named same

    on : (kind : Option MuxKind) → kind_of (slice_index octets 1) ≡ kind → with_kind octets kind ≡ Ok frame → HasHead octets frame
    on None named same = cc
    on (Some kind) named same = on_kind kind _ _ named same

    by : (short extended : Bool) → cond short (Err Short) (cond extended (Err BadExtension) (with_kind octets (kind_of (slice_index octets 1)))) ≡ Ok frame → HasHead octets frame
    by true extended same = cc
    by false true same = cc
    by false false same = on (kind_of (slice_index octets 1)) refl same

pub kind_again : (kind : MuxKind) (pf : Bool) → kind_of (control_octet kind pf) ≡ Some kind
kind_again Sabm true = refl
kind_again Sabm false = refl
kind_again Ua true = refl
kind_again Ua false = refl
kind_again Dm true = refl
kind_again Dm false = refl
kind_again Disc true = refl
kind_again Disc false = refl
kind_again Uih true = refl
kind_again Uih false = refl

pub dlci_again : (cr : Bool) (dlci : ℕ) → (0x01 + 0x02 * bit cr + 0x04 * dlci) / 4 ≡ dlci
dlci_again true dlci = omega arith
dlci_again false dlci = omega arith

-- so where the octets of a frame are read, they are read as one of its channel and its kind
pub read_again : (dlci : ℕ) (sent frame : PlainFrame) → frame_answer (mux_octets sent) ≡ Ok frame → GoesOn dlci sent → GoesOn dlci frame
read_again dlci sent frame is goes =
    let head = read_head (mux_octets sent) frame is in
    let kind_is : Some sent.kind ≡ Some frame.kind = sym (kind_again sent.kind sent.pf) ∙ head.kind_is in
    let kind_same : sent.kind ≡ frame.kind = cc in
    let dlci_same : sent.dlci ≡ frame.dlci = sym (dlci_again sent.cr sent.dlci) ∙ sym head.dlci_is in
    subst (λ k. (answers_peer k || (eqb frame.dlci 0 || eqb frame.dlci dlci)) ≡ true) kind_same (subst (λ n. (answers_peer sent.kind || (eqb n 0 || eqb n dlci)) ≡ true) dlci_same goes)
