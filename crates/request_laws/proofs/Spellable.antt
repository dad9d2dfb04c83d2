-- What a multiplexer says can be spelled: its numbers stay within their fields, whatever octets it hears.
use Rattle.std.proofs.Common.{Bool, true, false, cond, eqb, ltb, leb, ◌&&◌, ◌+◌, ◌*◌, ◌/◌, ◌%◌, ◌^◌, ◌<◌, ◌≡◌, ℕ, List, [], ◌∷◌, ◌++◌, length, take, Option, Some, None, Ok, Err, arith, refl}
use Rattle.std.specs.Prelude.{not, is_none}
use Rattle.std.specs.List.{AllByRecursion}
use Rattle.std.proofs.lemmas.Bool.{and_parts, leb-true, leb-false}
use Rattle.std.proofs.lemmas.List.{length-take}
use Rattle.pair_laws.specs.bt_base.specs.Octets.{IsOctets}
use Rattle.pair_laws.specs.obex_headers.proofs.Numbers.{IsOctets-take}
use Rattle.pair_laws.specs.rfcomm_frames.specs.declared.connection.Dlc.TheVariants.{Ended}
use Rattle.pair_laws.specs.rfcomm_frames.specs.declared.connection.Role.{Role}
use Rattle.pair_laws.specs.rfcomm_frames.specs.declared.connection.Role.TheVariants.{Initiator, Responder}
use Rattle.pair_laws.specs.rfcomm_frames.specs.declared.frame.MuxKind.{MuxKind}
use Rattle.pair_laws.specs.rfcomm_frames.specs.declared.frame.MuxKind.TheVariants.{Sabm, Ua, Dm, Disc, Uih}
use Rattle.pair_laws.specs.rfcomm_frames.specs.Answers.{Answer, IsAnswer}
use Rattle.pair_laws.specs.rfcomm_frames.specs.Connections.{other_role, turned, is_left, is_ended}
use Rattle.pair_laws.specs.rfcomm_frames.specs.Controls.{PlainControl, pn, msc, test, rpn, rls, nsc, other, IsControl, written}
use Rattle.pair_laws.specs.rfcomm_frames.specs.FrameReading.{is_empty, MessageAnswer, messages, frame_answer}
use Rattle.pair_laws.specs.rfcomm_frames.specs.Frames.{PlainFrame, IsFrame, carries}
use Rattle.pair_laws.specs.rfcomm_frames.proofs.FrameReading.{frame_answered}
use Rattle.pair_laws.specs.rfcomm_model.specs.declared.state.Asks.{Asks}
use Rattle.pair_laws.specs.rfcomm_model.specs.declared.state.Asks.TheVariants.{Nothing, Due, Awaited}
use Rattle.pair_laws.specs.rfcomm_model.specs.declared.state.Command.TheVariants.{OpenControl, Agree, OpenUser, Signal, LeaveUser, LeaveControl}
use Rattle.pair_laws.specs.rfcomm_model.specs.declared.state.MuxReason.{MuxReason}
use Rattle.pair_laws.specs.rfcomm_model.specs.declared.state.MuxReason.TheVariants as reasons
use Rattle.pair_laws.specs.rfcomm_model.specs.Hearing.{has_room, answering, says_dm, tells, opens_control, opens_user, hears_sabm, control_answered, hears_ua, control_refused, user_refused, hears_dm, ends, hears_disc, credited, charged, if_stands, with_credits, hears_data, counts, pn_credited, lesser, own_credits, terms_agreed, peer_answered, hears_offer, hears_acceptance, hears_other_offer, hears_pn, signals_answered, hears_msc, settings_of, hears_control, hears_message, hears_messages, hears_uih, hears_kind, hears_settled, hears_frame, hears_answer, hears, signals_next}
use Rattle.pair_laws.specs.rfcomm_model.specs.Machine.{Mux, may_pass, closes, sends, leaves, taken_count, is_leaving, reset, first_credits}
use Rattle.pair_laws.specs.rfcomm_model.specs.Saying.{Said, says_data, says_grant, first_of, says_command, says_answer, next}
use Rattle.pair_laws.specs.rfcomm_model.specs.Written.{response_frame, control_frame}
use Rattle.request_laws.specs.Spellable.{IsSpellable, IsInformation, SaysSpellable, IsSaidSpellable, FramesAreSpellable}
use Rattle.request_laws.proofs.SpellableParts.{none_octets, cons_octets, append_octets, command_fits, response_fits, data_fits, grant_fits, few_by, control_fits, IsMessage, messages_fit, three, read_so}

either : (b : Bool) (x y : Mux) → SaysSpellable x → SaysSpellable y → SaysSpellable (cond b x y)
either true x y s t = s
either false x y s t = t

all_more : (fs : List PlainFrame) (f : PlainFrame) → AllByRecursion IsSpellable fs → IsSpellable f → AllByRecursion IsSpellable (fs ++ f ∷ [])
all_more [] f all one = (one, tt)
all_more (g ∷ fs) f all one = (all.0, all_more fs f all.1 one)

answers_more : (f : PlainFrame) (m : Mux) → SaysSpellable m → IsSpellable f → SaysSpellable (answering f m)
answers_more f m (numbers, answers, waiting) one = (numbers, all_more m.answers f answers one, waiting)

nothing_waits : IsInformation []
nothing_waits = record { are_octets = none_octets; short = omega arith }

closes_fit : (reason : MuxReason) (m : Mux) → SaysSpellable m → SaysSpellable (closes reason m)
closes_fit reason m (numbers, answers, waiting) = (numbers, answers, nothing_waits)

below : (m : Mux) → SaysSpellable m → m.dlci < 64
below m (numbers, answers, waiting) = numbers.below

dm_fit : (n : ℕ) (m : Mux) → n < 64 → SaysSpellable m → SaysSpellable (says_dm n m)
dm_fit n m small s = either (has_room m) (answering (response_frame m.role Dm n) m) m (answers_more (response_frame m.role Dm n) m s (response_fits m.role Dm n small refl)) s

tells_by : (fits : Bool) (control : PlainControl) (m : Mux) → (leb (length (written control)) 40 && has_room m) ≡ fits → IsControl control → SaysSpellable m → SaysSpellable (cond fits (answering (control_frame m.role control) m) m)
tells_by true control m e is s = answers_more (control_frame m.role control) m s (control_fits m.role control is (leb-true (length (written control)) 40 (and_parts (leb (length (written control)) 40) (has_room m) e).0))
tells_by false control m e is s = s

tells_fit : (control : PlainControl) (m : Mux) → IsControl control → SaysSpellable m → SaysSpellable (tells control m)
tells_fit control m is s = tells_by (leb (length (written control)) 40 && has_room m) control m refl is s

-- a frame without information answers, with other parts
answered_fit : (kind : MuxKind) (n : ℕ) (m x : Mux) → carries kind ≡ false → n < 64 → SaysSpellable m → SaysSpellable x → SaysSpellable (cond (has_room m) (answering (response_frame m.role kind n) x) m)
answered_fit kind n m x none small s t = either (has_room m) (answering (response_frame m.role kind n) x) m (answers_more (response_frame m.role kind n) x t (response_fits m.role kind n small none)) s

opens_control_fit : (m : Mux) → SaysSpellable m → SaysSpellable (opens_control m)
opens_control_fit m s = either (is_ended m.control) (says_dm 0 m) _ (dm_fit 0 m (omega arith) s) (answered_fit Ua 0 m (record m { control = turned Initiator Sabm m.control }) refl (omega arith) s s)

opens_user_fit : (m : Mux) → SaysSpellable m → SaysSpellable (opens_user m)
opens_user_fit m s =
    either (not m.agreed) (closes reasons.NoCreditFlow m) _ (closes_fit reasons.NoCreditFlow m s)
    (either (is_ended m.user) (says_dm m.dlci m) _ (dm_fit m.dlci m (below m s) s) (answered_fit Ua m.dlci m (record m { user = turned Initiator Sabm m.user; asks = signals_next m.user m.asks }) refl (below m s) s s))

sabm_fit : (role : Role) (n : ℕ) (m : Mux) → n < 64 → SaysSpellable m → SaysSpellable (hears_sabm role n m)
sabm_fit Initiator n m small s = dm_fit n m small s
sabm_fit Responder n m small s = either (eqb n 0) (opens_control m) _ (opens_control_fit m s) (either (eqb n m.dlci) (opens_user m) (says_dm n m) (opens_user_fit m s) (dm_fit n m small s))

control_answered_fit : (asks : Asks) (m : Mux) → SaysSpellable m → SaysSpellable (control_answered asks m)
control_answered_fit Nothing m s = s
control_answered_fit (Due command) m s = s
control_answered_fit (Awaited OpenControl) m s = s
control_answered_fit (Awaited Agree) m s = s
control_answered_fit (Awaited OpenUser) m s = s
control_answered_fit (Awaited Signal) m s = s
control_answered_fit (Awaited LeaveUser) m s = s
control_answered_fit (Awaited LeaveControl) m s = closes_fit reasons.Disc m s

ua_fit : (n : ℕ) (m : Mux) → SaysSpellable m → SaysSpellable (hears_ua n m)
ua_fit n m s =
    either (eqb n 0) (control_answered m.asks (record m { control = turned (other_role m.role) Ua m.control })) _
    (control_answered_fit m.asks (record m { control = turned (other_role m.role) Ua m.control }) s)
    (either (eqb n m.dlci) _ m s s)

control_refused_fit : (asks : Asks) (m : Mux) → SaysSpellable m → SaysSpellable (control_refused asks m)
control_refused_fit (Awaited LeaveControl) m s = closes_fit reasons.Disc m s
control_refused_fit Nothing m s = closes_fit reasons.Dm m s
control_refused_fit (Due command) m s = closes_fit reasons.Dm m s
control_refused_fit (Awaited OpenControl) m s = closes_fit reasons.Dm m s
control_refused_fit (Awaited Agree) m s = closes_fit reasons.Dm m s
control_refused_fit (Awaited OpenUser) m s = closes_fit reasons.Dm m s
control_refused_fit (Awaited Signal) m s = closes_fit reasons.Dm m s
control_refused_fit (Awaited LeaveUser) m s = closes_fit reasons.Dm m s

user_refused_fit : (asks : Asks) (m : Mux) → SaysSpellable m → SaysSpellable (user_refused asks m)
user_refused_fit (Awaited LeaveUser) m s = s
user_refused_fit Nothing m s = closes_fit reasons.Dm m s
user_refused_fit (Due command) m s = closes_fit reasons.Dm m s
user_refused_fit (Awaited OpenControl) m s = closes_fit reasons.Dm m s
user_refused_fit (Awaited Agree) m s = closes_fit reasons.Dm m s
user_refused_fit (Awaited OpenUser) m s = closes_fit reasons.Dm m s
user_refused_fit (Awaited Signal) m s = closes_fit reasons.Dm m s
user_refused_fit (Awaited LeaveControl) m s = closes_fit reasons.Dm m s

hears_dm_fit : (n : ℕ) (m : Mux) → SaysSpellable m → SaysSpellable (hears_dm n m)
hears_dm_fit n m s = either (eqb n 0) (control_refused m.asks m) _ (control_refused_fit m.asks m s) (either (eqb n m.dlci) (user_refused m.asks m) m (user_refused_fit m.asks m s) s)

ends_fit : (reason : Option MuxReason) (m : Mux) → SaysSpellable m → SaysSpellable (ends reason m)
ends_fit None m s = closes_fit reasons.Disc m s
ends_fit (Some reason) m s = s

disc_fit : (n : ℕ) (m : Mux) → n < 64 → SaysSpellable m → SaysSpellable (hears_disc n m)
disc_fit n m small s =
    either (eqb n 0 && is_left (other_role m.role) m.control) _ _ (answered_fit Ua 0 m (ends m.closed (record m { control = Ended })) refl (omega arith) s (ends_fit m.closed (record m { control = Ended }) s))
    (either (eqb n m.dlci && is_left (other_role m.role) m.user) _ _ (answered_fit Ua m.dlci m (ends m.closed (record m { user = Ended })) refl (below m s) s (ends_fit m.closed (record m { user = Ended }) s)) (dm_fit n m small s))

credited_fit : (n : ℕ) (m : Mux) → SaysSpellable m → SaysSpellable (credited n m)
credited_fit n m s = either (ltb 65535 (m.account.held + n)) (closes reasons.CreditOverflow m) _ (closes_fit reasons.CreditOverflow m s) s

charged_fit : (octets : List ℕ) (m : Mux) → SaysSpellable m → SaysSpellable (charged octets m)
charged_fit [] m s = s
charged_fit (octet ∷ octets) m s = either (eqb m.account.peer 0) (closes reasons.Overdrawn m) _ (closes_fit reasons.Overdrawn m s) s

stands_fit : (f : Mux → Mux) (reason : Option MuxReason) (m : Mux) → ((x : Mux) → SaysSpellable x → SaysSpellable (f x)) → SaysSpellable m → SaysSpellable (if_stands f reason m)
stands_fit f None m k s = k m s
stands_fit f (Some reason) m k s = s

with_credits_fit : (n : Option ℕ) (m : Mux) → SaysSpellable m → SaysSpellable (with_credits n m)
with_credits_fit None m s = s
with_credits_fit (Some n) m s = credited_fit n m s

data_fit : (f : PlainFrame) (m : Mux) → SaysSpellable m → SaysSpellable (hears_data f m)
data_fit f m s = stands_fit (charged f.octets) (with_credits f.credits m).closed (with_credits f.credits m) (λ x t. charged_fit f.octets x t) (with_credits_fit f.credits m s)

pn_credited_fit : (n : ℕ) (m : Mux) → SaysSpellable m → SaysSpellable (pn_credited n m)
pn_credited_fit n m s = either (counts m) (credited (n % 8) m) m (credited_fit (n % 8) m s) s

lesser_by : (b : Bool) (a c : ℕ) → a < 2 ^ 15 → leb a c ≡ b → cond b a c < 2 ^ 15
lesser_by true a c fits is = fits
lesser_by false a c fits is = let more = leb-false a c is in omega (arith, fits, more)

lesser_fit : (m : Mux) (frame : ℕ) → SaysSpellable m → lesser m.own frame < 2 ^ 15
lesser_fit m frame (numbers, answers, waiting) = lesser_by (leb m.own frame) m.own frame numbers.own_fits refl

framed_fit : (m : Mux) (frame : ℕ) → frame < 2 ^ 15 → SaysSpellable m → SaysSpellable (record m { frame = frame })
framed_fit m frame fits (numbers, answers, waiting) =
    (record { user = numbers.user; below = numbers.below; largest_fits = numbers.largest_fits; own_fits = numbers.own_fits; frame_fits = fits; cap_fits = numbers.cap_fits }, answers, waiting)

few_first : (b : Bool) (cap : ℕ) → leb cap 7 ≡ b → cond b cap 7 < 256
few_first true cap is = let few = leb-true cap 7 is in omega (arith, few)
few_first false cap is = omega arith

credits_by : (stated : Bool) (cap : ℕ) → cond stated 0 (first_credits cap) < 256
credits_by true cap = omega arith
credits_by false cap = few_first (leb cap 7) cap refl

offer_fit : (flow priority frame credits : ℕ) (m : Mux) → priority < 256 → SaysSpellable m → SaysSpellable (hears_offer flow priority frame credits m)
offer_fit flow priority frame credits m small s =
    let agreed : Mux = record m { frame = lesser m.own frame; agreed = true; stated = true } in
    let reply : PlainFrame = control_frame m.role (pn false m.dlci 0xE0 priority 0 (lesser m.own frame) 0 (own_credits m)) in
    let least = lesser_fit m frame s in
    let dlci = below m s in
    either (not (eqb (flow / 16) 0xF)) (closes reasons.NoCreditFlow m) _ (closes_fit reasons.NoCreditFlow m s)
    (either (ltb frame 23) (closes reasons.BadFrame m) _ (closes_fit reasons.BadFrame m s)
    (either (has_room m) (pn_credited credits (answering reply agreed)) m
    (pn_credited_fit credits (answering reply agreed) (answers_more reply agreed (framed_fit m (lesser m.own frame) least s)
    (control_fits m.role (pn false m.dlci 0xE0 priority 0 (lesser m.own frame) 0 (own_credits m)) (omega (arith, dlci), omega arith, small, omega arith, omega (arith, least), omega arith, credits_by m.stated m.account.cap) (omega arith)))) s))

acceptance_fit : (flow frame credits : ℕ) (m : Mux) → SaysSpellable m → SaysSpellable (hears_acceptance flow frame credits m)
acceptance_fit flow frame credits m s =
    let agreed : Mux = record m { frame = lesser m.own frame; agreed = true; asks = terms_agreed m.asks } in
    either (not (eqb (flow / 16) 0xE)) (closes reasons.NoCreditFlow m) _ (closes_fit reasons.NoCreditFlow m s)
    (either (ltb frame 23) (closes reasons.BadFrame m) _ (closes_fit reasons.BadFrame m s) (pn_credited_fit credits agreed (framed_fit m (lesser m.own frame) (lesser_fit m frame s) s)))

other_offer_fit : (command : Bool) (n frame : ℕ) (m : Mux) → n < 64 → SaysSpellable m → SaysSpellable (hears_other_offer command n frame m)
other_offer_fit command n frame m small s = either (ltb frame 23) (closes reasons.BadFrame m) _ (closes_fit reasons.BadFrame m s) (either command (says_dm n m) m (dm_fit n m small s) s)

pn_fit : (command : Bool) (n flow priority frame credits : ℕ) (m : Mux) → priority < 256 → SaysSpellable m → SaysSpellable (hears_pn command n flow priority frame credits m)
pn_fit true n flow priority frame credits m small s = either (eqb (n % 64) m.dlci) (hears_offer flow priority frame credits m) (hears_other_offer true (n % 64) frame m) (offer_fit flow priority frame credits m small s) (other_offer_fit true (n % 64) frame m (omega arith) s)
pn_fit false n flow priority frame credits m small s = either (eqb (n % 64) m.dlci) (hears_acceptance flow frame credits m) (hears_other_offer false (n % 64) frame m) (acceptance_fit flow frame credits m s) (other_offer_fit false (n % 64) frame m (omega arith) s)

signals_fit : (asks : Asks) (m : Mux) → SaysSpellable m → SaysSpellable (signals_answered asks m)
signals_fit (Awaited Signal) m s = s
signals_fit Nothing m s = s
signals_fit (Due command) m s = s
signals_fit (Awaited OpenControl) m s = s
signals_fit (Awaited Agree) m s = s
signals_fit (Awaited OpenUser) m s = s
signals_fit (Awaited LeaveUser) m s = s
signals_fit (Awaited LeaveControl) m s = s

msc_fit : (command : Bool) (address signals : ℕ) (m : Mux) → address < 256 → signals < 256 → SaysSpellable m → SaysSpellable (hears_msc command address signals m)
msc_fit true address signals m small few s =
    either (has_room m) _ m (answers_more (control_frame m.role (msc false address signals)) (cond (eqb (address / 4) m.dlci) (record m { ready = peer_answered m.ready }) m) (either (eqb (address / 4) m.dlci) (record m { ready = peer_answered m.ready }) m s s) (control_fits m.role (msc false address signals) (small, few) (omega arith))) s
msc_fit false address signals m small few s = either (eqb (address / 4) m.dlci) (signals_answered m.asks m) m (signals_fit m.asks m s) s

settings_by : (b : Bool) (value : List ℕ) → IsOctets value → IsOctets (cond b (value ++ (0x03 ∷ 0x03 ∷ 0x00 ∷ 0x11 ∷ 0x13 ∷ 0x7F ∷ 0x3F ∷ [])) value)
settings_by true value fits = append_octets value (0x03 ∷ 0x03 ∷ 0x00 ∷ 0x11 ∷ 0x13 ∷ 0x7F ∷ 0x3F ∷ []) fits
    (three 0x03 0x03 (0x00 ∷ 0x11 ∷ 0x13 ∷ 0x7F ∷ 0x3F ∷ []) (omega arith) (omega arith)
    (three 0x00 0x11 (0x13 ∷ 0x7F ∷ 0x3F ∷ []) (omega arith) (omega arith) (three 0x13 0x7F (0x3F ∷ []) (omega arith) (omega arith) (cons_octets 0x3F [] (omega arith) none_octets))))
settings_by false value fits = fits

control_fit : (control : PlainControl) (m : Mux) → IsControl control → SaysSpellable m → SaysSpellable (hears_control control m)
control_fit (pn command n flow priority timer frame retransmissions credits) m (a, b, c, d, e, f, g) s = pn_fit command n flow priority frame credits m c s
control_fit (msc command address signals) m (a, b) s = msc_fit command address signals m a b s
control_fit (test command octets) m is s = either command (tells (test false octets) m) m (tells_fit (test false octets) m is s) s
control_fit (rpn command value) m is s = either command (tells (rpn false (settings_of value)) m) m (tells_fit (rpn false (settings_of value)) m (settings_by (eqb (length value) 1) value is) s) s
control_fit (rls command value) m is s = either command (tells (rls false value) m) m (tells_fit (rls false value) m is s) s
control_fit (nsc kind) m is s = s
control_fit (other kind value) m is s = either (eqb (kind / 2 % 2) 1) (tells (nsc kind) m) m (tells_fit (nsc kind) m is.0.octet s) s

message_fit : (message : MessageAnswer) (m : Mux) → IsMessage message → SaysSpellable m → SaysSpellable (hears_message message m)
message_fit (Ok control) m is s = control_fit control m is s
message_fit (Err refusal) m is s = closes_fit reasons.BadFrame m s

all_messages_fit : (list : List MessageAnswer) (m : Mux) → AllByRecursion IsMessage list → SaysSpellable m → SaysSpellable (hears_messages list m)
all_messages_fit [] m all s = s
all_messages_fit (message ∷ rest) m all s = all_messages_fit rest (if_stands (hears_message message) m.closed m) all.1 (stands_fit (hears_message message) m.closed m (λ x t. message_fit message x all.0 t) s)

uih_fit : (f : PlainFrame) (m : Mux) → IsFrame f → SaysSpellable m → SaysSpellable (hears_uih f m)
uih_fit f m is s = either (eqb f.dlci 0) (hears_messages (messages f.octets) m) _ (all_messages_fit (messages f.octets) m (messages_fit f.octets is.are_octets) s) (either (eqb f.dlci m.dlci && may_pass m) (hears_data f m) m (data_fit f m s) s)

kind_fit : (kind : MuxKind) (f : PlainFrame) (m : Mux) → IsFrame f → SaysSpellable m → SaysSpellable (hears_kind kind f m)
kind_fit Sabm f m is s = either f.pf (hears_sabm m.role f.dlci m) m (sabm_fit m.role f.dlci m is.dlci_fits s) s
kind_fit Ua f m is s = either f.pf (hears_ua f.dlci m) m (ua_fit f.dlci m s) s
kind_fit Dm f m is s = hears_dm_fit f.dlci m s
kind_fit Disc f m is s = either f.pf (hears_disc f.dlci m) m (disc_fit f.dlci m is.dlci_fits s) s
kind_fit Uih f m is s = uih_fit f m is s

settled_fit : (kind : MuxKind) (f : PlainFrame) (m : Mux) → IsFrame f → SaysSpellable m → SaysSpellable (hears_settled kind f m)
settled_fit Sabm f m is s = either f.pf (says_dm f.dlci m) m (dm_fit f.dlci m is.dlci_fits s) s
settled_fit Ua f m is s = s
settled_fit Dm f m is s = s
settled_fit Disc f m is s = either f.pf (hears_disc f.dlci m) m (disc_fit f.dlci m is.dlci_fits s) s
settled_fit Uih f m is s = s

frame_fit : (reason : Option MuxReason) (f : PlainFrame) (m : Mux) → IsFrame f → SaysSpellable m → SaysSpellable (hears_frame reason f m)
frame_fit None f m is s = kind_fit f.kind f m is s
frame_fit (Some reasons.Dm) f m is s = settled_fit f.kind f m is s
frame_fit (Some reasons.Disc) f m is s = settled_fit f.kind f m is s
frame_fit (Some reasons.NoCreditFlow) f m is s = s
frame_fit (Some reasons.Overdrawn) f m is s = s
frame_fit (Some reasons.BadFrame) f m is s = s
frame_fit (Some reasons.CreditOverflow) f m is s = s

answer_fit : (sdu : List ℕ) (a : Answer) (m : Mux) → IsAnswer sdu a → SaysSpellable m → SaysSpellable (hears_answer a m)
answer_fit sdu (Ok frame) m is s = frame_fit m.closed frame m is.form.fits s
answer_fit sdu (Err refusal) m is s = stands_fit (closes reasons.BadFrame) m.closed m (λ x t. closes_fit reasons.BadFrame x t) s

pub hears_fit : (sdu : List ℕ) (m : Mux) → IsOctets sdu → SaysSpellable m → SaysSpellable (hears sdu m)
hears_fit sdu m fits s = answer_fit sdu (frame_answer sdu) m (frame_answered sdu fits) s

-- ---- what it sends

first_fit : (a b : Option Said) → IsSaidSpellable a → IsSaidSpellable b → IsSaidSpellable (first_of a b)
first_fit None b p q = q
first_fit (Some said) b p q = p

either_said : (b : Bool) (x y : Option Said) → IsSaidSpellable x → IsSaidSpellable y → IsSaidSpellable (cond b x y)
either_said true x y p q = p
either_said false x y p q = q

grant_said : (m : Mux) → SaysSpellable m → IsSaidSpellable (says_grant m)
grant_said m (numbers, answers, waiting) =
    either_said _ (Some _) None (grant_fits m.role m.dlci _ numbers.user numbers.below (few_by (leb (2 * m.account.peer) m.account.cap) m.account.cap m.account.peer numbers.cap_fits), (numbers, answers, waiting)) tt

data_said : (m : Mux) → SaysSpellable m → IsSaidSpellable (says_data m)
data_said m (numbers, answers, waiting) = either_said _ (Some _) None (data_fits m.role m.dlci m.waiting numbers.below waiting, (numbers, answers, nothing_waits)) tt

command_said : (asks : Asks) (m : Mux) → SaysSpellable m → IsSaidSpellable (says_command asks m)
command_said Nothing m s = first_fit (says_grant m) (says_data m) (grant_said m s) (data_said m s)
command_said (Awaited command) m s = first_fit (says_grant m) (says_data m) (grant_said m s) (data_said m s)
command_said (Due OpenControl) m s = (command_fits m.role Sabm 0 (omega arith) refl, s)
command_said (Due Agree) m (numbers, answers, waiting) =
    let dlci = numbers.below in
    let own = numbers.own_fits in
    (control_fits m.role (pn true m.dlci 0xF0 0 0 m.own 0 (own_credits m)) (omega (arith, dlci), omega arith, omega arith, omega arith, omega (arith, own), omega arith, credits_by m.stated m.account.cap) (omega arith), (numbers, answers, waiting))
command_said (Due OpenUser) m s = (command_fits m.role Sabm m.dlci (below m s) refl, s)
command_said (Due Signal) m s = let dlci = below m s in (control_fits m.role (msc true (4 * m.dlci + 3) 0x8D) (omega (arith, dlci), omega arith) (omega arith), s)
command_said (Due LeaveUser) m s = (command_fits m.role Disc m.dlci (below m s) refl, s)
command_said (Due LeaveControl) m s = (command_fits m.role Disc 0 (omega arith) refl, s)

answer_said : (answers : List PlainFrame) (m : Mux) → AllByRecursion IsSpellable answers → SaysSpellable m → IsSaidSpellable (says_answer answers m)
answer_said [] m all s = command_said m.asks m s
answer_said (answer ∷ rest) m all (numbers, answers, waiting) = (all.0, (numbers, all.1, waiting))

pub next_fit : (m : Mux) → SaysSpellable m → IsSaidSpellable (next m)
next_fit m (numbers, answers, waiting) = answer_said m.answers m answers (numbers, answers, waiting)

-- ---- what it is given

taken_by : (b c : Bool) (size frame : ℕ) → frame < 2 ^ 15 → leb size frame ≡ c → cond b (cond c size frame) 0 < 2 ^ 15
taken_by true true size frame fits is = let few = leb-true size frame is in omega (arith, fits, few)
taken_by true false size frame fits is = fits
taken_by false c size frame fits is = omega arith

pub sends_fit : (octets : List ℕ) (m : Mux) → IsOctets octets → SaysSpellable m → SaysSpellable (sends octets m)
sends_fit octets m fits (numbers, answers, waiting) =
    let count = taken_count (length octets) m in
    let front = length-take count octets in
    let few = taken_by (is_empty m.waiting && ltb 0 m.account.held) (leb (length octets) m.frame) (length octets) m.frame numbers.frame_fits refl in
    either (is_empty m.waiting && ltb 0 m.account.held) (record m { waiting = take count octets }) m
    (numbers, answers, record { are_octets = IsOctets-take count octets fits; short = omega (arith, front, few) }) (numbers, answers, waiting)

pub leaves_fit : (m : Mux) → SaysSpellable m → SaysSpellable (leaves m)
leaves_fit m s = either (is_none m.closed && not (is_leaving m.asks)) (record m { asks = Due LeaveUser }) m s s

pub anew_fit : (own : ℕ) (m : Mux) → own < 2 ^ 15 → SaysSpellable m → SaysSpellable (reset own m)
anew_fit own m fits (numbers, answers, waiting) =
    (record { user = numbers.user; below = numbers.below; largest_fits = numbers.largest_fits; own_fits = fits; frame_fits = fits; cap_fits = numbers.cap_fits }, tt, nothing_waits)

pub frames_are_spellable : FramesAreSpellable
frames_are_spellable = record {
  made = λ role dlci largest own cap fits. (fits, tt, nothing_waits);
  anew = anew_fit;
  hearing = hears_fit;
  giving = sends_fit;
  leaving = leaves_fit;
  saying = next_fit;
  reading = read_so;
}
