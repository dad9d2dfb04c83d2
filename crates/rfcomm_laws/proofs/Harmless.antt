-- Control messages, and whatever frame keeps the rules, do a side no harm.
use Rattle.std.proofs.Common.{arith, ◌≡◌, ◌<◌, ◌≤◌, ℕ, ◌==◌, ◌+◌, ◌/◌, ◌%◌, ◌^◌, Bool, true, false, ◌&&◌, cond, List, [], ◌∷◌, Option, Some, None, Ok, Err, refl, sym, ap, subst, ◌∙◌}
use Rattle.std.specs.Prelude.{not, nat_lt, nat_le}
use Rattle.std.proofs.lemmas.Bool.{le-ltb, ltb-false, leb-false, eqb-true, eq-eqb}
use Rattle.rfcomm_frames.specs.declared.frame.MuxKind.{MuxKind}
use Rattle.rfcomm_frames.specs.declared.frame.MuxKind.TheVariants.{Sabm, Ua, Dm, Disc, Uih}
use Rattle.rfcomm_frames.specs.declared.connection.Role.{Role}
use Rattle.rfcomm_frames.specs.declared.connection.Role.TheVariants.{Initiator, Responder}
use Rattle.rfcomm_frames.specs.Frames.{PlainFrame}
use Rattle.rfcomm_frames.specs.Controls.{PlainControl, pn, msc, test, rpn, rls, nsc, other, written}
use Rattle.rfcomm_frames.specs.FrameReading.{MessageAnswer, messages, is_empty}
use Rattle.rfcomm_frames.specs.Connections.{other_role}
use Rattle.rfcomm_frames.specs.Multiplexing.{stated_by, credit_octet}
use Rattle.rfcomm_model.specs.declared.state.MuxReason.{MuxReason}
use Rattle.rfcomm_model.specs.declared.state.MuxReason.TheVariants as reasons
use Rattle.rfcomm_model.specs.declared.state.Command.TheVariants.{OpenControl, Agree, OpenUser, Signal, LeaveUser, LeaveControl}
use Rattle.rfcomm_model.specs.declared.state.Asks.{Asks}
use Rattle.rfcomm_model.specs.declared.state.Asks.TheVariants.{Nothing, Due, Awaited}
use Rattle.rfcomm_model.specs.declared.state.Readiness.{Readiness}
use Rattle.rfcomm_model.specs.Machine.{Mux, closes, may_pass}
use Rattle.rfcomm_model.specs.Written.{control_frame}
use Rattle.rfcomm_model.specs.Hearing.{has_room, answering, says_dm, tells, hears_sabm, hears_ua, hears_disc, credited, if_stands, hears_data, counts, pn_credited, lesser, own_credits, hears_offer, terms_agreed, hears_acceptance, hears_other_offer, hears_pn, peer_answered, own_answered, signals_answered, hears_msc, settings_of, hears_message, hears_messages, hears_kind, hears_settled, hears_frame, hears_answer}
use Rattle.rfcomm_laws.proofs.Opening.{IsRead, msc_read, pn_read, test_read, rpn_read, rls_read, nsc_read, tells_keeps}
use Rattle.rfcomm_laws.specs.Messages.{IsAllowed, is_acceptance}
use Rattle.rfcomm_laws.specs.Totals.{stated_sum, bonus_in, bonus_of, cost_in, cost_of}
use Rattle.rfcomm_laws.proofs.Harm.{SoundMessage, SoundMessages, whoever, SoundAsks, Word, Step, step_sets, step_same, step_then, step_more, step_if, step_answers}
use Rattle.rfcomm_laws.proofs.Turning.{Fit, still_fit, disagrees, dm_step, sabm_step, ua_step, heard_dm_step, disc_step, credited_step, data_step, stands_step}

-- ---- control messages

pn_credited_step : (w : Word) (credits : ℕ) (m : Mux) → Step w (credits % 8) 0 m (pn_credited credits m)
pn_credited_step w credits m = step_if w (credits % 8) 0 m (counts m) (credited (credits % 8) m) m (λ t. credited_step w (credits % 8) m) (λ t. step_same w (credits % 8) 0 m)

lesser_within : (a b : ℕ) → 23 ≤ a → 23 ≤ b → a < 2 ^ 16 → (23 ≤ lesser a b) × (lesser a b < 2 ^ 16)
lesser_within a b least also most = lesser_if (nat_le a b) refl
  where
    lesser_if : (c : Bool) → nat_le a b ≡ c → (23 ≤ cond c a b) × (cond c a b < 2 ^ 16)
    lesser_if true is = (least, most)
    lesser_if false is = let above = leb-false a b is in (also, omega arith)

-- the answer to PN
offer_answers : (w : Word) (d priority frame : ℕ) (m : Mux) → Fit d m → nat_lt frame 23 ≡ false
    → Step w 0 0 m (answering (control_frame m.role (pn false m.dlci 0xE0 priority 0 (lesser m.own frame) 0 (own_credits m))) (record m { frame = lesser m.own frame; agreed = true; stated = true }))
offer_answers w d priority frame m fit long =
    let n : ℕ = lesser m.own frame in
    let within = lesser_within m.own frame fit.least (ltb-false frame 23 long) fit.most in
    let x : Mux = record m { frame = n; agreed = true; stated = true } in
    let control : PlainControl = pn false m.dlci 0xE0 priority 0 n 0 (own_credits m) in
    let read : messages (written control) ≡ Ok control ∷ [] = pn_read false m.dlci 0xE0 priority 0 n 0 (own_credits m) within.1 in
    let s : Step w 0 0 m x = step_sets w 0 0 m m.asks m.ready m.account.held m.account.peer n true true (omega arith) (omega arith) (omega arith) (λ a. a) (λ a. refl) (λ s. refl) in
    let brings : stated_sum m.dlci (messages (written control)) ≡ stated_by m.dlci (Ok control) + 0 = ap (stated_sum m.dlci) read in
    let few = stated_few (m.dlci % 64 == m.dlci) in
    step_answers w 0 0 m x (control_frame m.role control) s (omega (arith, brings, few))
    (refl, subst (SoundMessages true m.dlci) (sym read) (((within.0, λ here. refl), λ accepts. refl), tt))
  where
    stated_few : (t : Bool) → cond t (own_credits m % 8) 0 ≤ own_credits m
    stated_few true = omega arith
    stated_few false = omega arith

short_excluded : (frame : ℕ) → nat_lt frame 23 ≡ false → nat_lt frame 23 ≡ true → ⊥
short_excluded frame long short = let never : true ≡ false = sym short ∙ long in cc

offer_step : (w : Word) (d flow priority frame credits : ℕ) (m : Mux) → Fit d m → (flow / 16 == 0xF) ≡ true → nat_lt frame 23 ≡ false → Step w (credits % 8) 0 m (hears_offer flow priority frame credits m)
offer_step w d flow priority frame credits m fit asks long =
    let answer : PlainFrame = control_frame m.role (pn false m.dlci 0xE0 priority 0 (lesser m.own frame) 0 (own_credits m)) in
    let y : Mux = answering answer (record m { frame = lesser m.own frame; agreed = true; stated = true }) in
    let rest : Mux = cond (has_room m) (pn_credited credits y) m in
    step_if w (credits % 8) 0 m (not (flow / 16 == 0xF)) (closes reasons.NoCreditFlow m) (cond (nat_lt frame 23) (closes reasons.BadFrame m) rest) (λ t. absurd (disagrees (flow / 16 == 0xF) asks t))
    (λ t. step_if w (credits % 8) 0 m (nat_lt frame 23) (closes reasons.BadFrame m) rest (λ u. absurd (short_excluded frame long u))
    (λ u. step_if w (credits % 8) 0 m (has_room m) (pn_credited credits y) m
    (λ v. step_more w (0 + credits % 8) 0 (credits % 8) 0 m (pn_credited credits y) (omega arith) (omega arith)
    (step_then w 0 0 (credits % 8) 0 m y (pn_credited credits y) (offer_answers w d priority frame m fit long) (pn_credited_step w credits y)))
    (λ v. step_same w (credits % 8) 0 m)))

terms_sound : (w : Word) (asks : Asks) → w.terms ≡ true → SoundAsks w.terms asks → SoundAsks w.terms (terms_agreed asks)
terms_sound w Nothing is sound = tt
terms_sound w (Due command) is sound = sound
terms_sound w (Awaited OpenControl) is sound = tt
terms_sound w (Awaited Agree) is sound = is
terms_sound w (Awaited OpenUser) is sound = tt
terms_sound w (Awaited Signal) is sound = tt
terms_sound w (Awaited LeaveUser) is sound = tt
terms_sound w (Awaited LeaveControl) is sound = tt

acceptance_step : (w : Word) (flow frame credits : ℕ) (m : Mux) → (flow / 16 == 0xE) ≡ true → nat_lt frame 23 ≡ false → w.terms ≡ true → Step w (credits % 8) 0 m (hears_acceptance flow frame credits m)
acceptance_step w flow frame credits m grants long is =
    let x : Mux = record m { frame = lesser m.own frame; agreed = true; asks = terms_agreed m.asks } in
    let s : Step w 0 0 m x = step_sets w 0 0 m (terms_agreed m.asks) m.ready m.account.held m.account.peer (lesser m.own frame) true m.stated (omega arith) (omega arith) (omega arith) (terms_sound w m.asks is) (λ a. refl) (λ s. s) in
    step_if w (credits % 8) 0 m (not (flow / 16 == 0xE)) (closes reasons.NoCreditFlow m) (cond (nat_lt frame 23) (closes reasons.BadFrame m) (pn_credited credits x)) (λ t. absurd (disagrees (flow / 16 == 0xE) grants t))
    (λ t. step_if w (credits % 8) 0 m (nat_lt frame 23) (closes reasons.BadFrame m) (pn_credited credits x) (λ u. absurd (short_excluded frame long u))
    (λ u. step_more w (0 + credits % 8) 0 (credits % 8) 0 m (pn_credited credits x) (omega arith) (omega arith)
    (step_then w 0 0 (credits % 8) 0 m x (pn_credited credits x) s (pn_credited_step w credits x))))

-- for the user channel, or for another
by_channel : (w : Word) (t : Bool) (n : ℕ) (m x y : Mux) → (t ≡ true → Step w n 0 m x) → Step w 0 0 m y → Step w (cond t n 0) 0 m (cond t x y)
by_channel w true n m x y p q = p refl
by_channel w false n m x y p q = q

heard_pn_step : (w : Word) (d : ℕ) (command : Bool) (dlci flow priority timer frame retransmissions credits : ℕ) (m : Mux) → Fit d m → SoundMessage w.terms d (Ok (pn command dlci flow priority timer frame retransmissions credits))
    → Step w (cond (dlci % 64 == m.dlci) (credits % 8) 0) 0 m (hears_pn command dlci flow priority frame credits m)
heard_pn_step w d true dlci flow priority timer frame retransmissions credits m fit sound =
    let long = le-ltb frame 23 sound.0.0 in
    by_channel w (dlci % 64 == m.dlci) (credits % 8) m (hears_offer flow priority frame credits m) (hears_other_offer true (dlci % 64) frame m)
    (λ here. offer_step w d flow priority frame credits m fit (eq-eqb (flow / 16) 0xF (sound.0.1 (eqb-true (dlci % 64) m.dlci here ∙ fit.dlci))) long)
    (step_if w 0 0 m (nat_lt frame 23) (closes reasons.BadFrame m) (says_dm (dlci % 64) m) (λ t. absurd (short_excluded frame long t)) (λ t. dm_step w 0 0 (dlci % 64) m))
heard_pn_step w d false dlci flow priority timer frame retransmissions credits m fit sound =
    let long = le-ltb frame 23 sound.0.0 in
    by_channel w (dlci % 64 == m.dlci) (credits % 8) m (hears_acceptance flow frame credits m) (hears_other_offer false (dlci % 64) frame m)
    (λ here. acceptance_step w flow frame credits m (eq-eqb (flow / 16) 0xE (sound.0.1 (eqb-true (dlci % 64) m.dlci here ∙ fit.dlci))) long (sound.1 refl))
    (step_if w 0 0 m (nat_lt frame 23) (closes reasons.BadFrame m) m (λ t. absurd (short_excluded frame long t)) (λ t. step_same w 0 0 m))

-- MSC
step_ready : (w : Word) (m : Mux) (asks : Asks) (ready : Readiness) → (SoundAsks w.terms m.asks → SoundAsks w.terms asks) → Step w 0 0 m (record m { asks = asks; ready = ready })
step_ready w m asks ready sound = step_sets w 0 0 m asks ready m.account.held m.account.peer m.frame m.agreed m.stated (omega arith) (omega arith) (omega arith) sound (λ a. a) (λ s. s)

signals_step : (w : Word) (asks : Asks) (m : Mux) → Step w 0 0 m (signals_answered asks m)
signals_step w Nothing m = step_same w 0 0 m
signals_step w (Due command) m = step_same w 0 0 m
signals_step w (Awaited OpenControl) m = step_same w 0 0 m
signals_step w (Awaited Agree) m = step_same w 0 0 m
signals_step w (Awaited OpenUser) m = step_same w 0 0 m
signals_step w (Awaited Signal) m = step_ready w m Nothing (own_answered m.ready) (λ a. tt)
signals_step w (Awaited LeaveUser) m = step_same w 0 0 m
signals_step w (Awaited LeaveControl) m = step_same w 0 0 m

noted_step : (w : Word) (address signals : ℕ) (m : Mux) (t : Bool) → Step w 0 0 m (answering (control_frame m.role (msc false address signals)) (cond t (record m { ready = peer_answered m.ready }) m))
noted_step w address signals m t =
    let answer : PlainFrame = control_frame m.role (msc false address signals) in
    let read : messages (written (msc false address signals)) ≡ Ok (msc false address signals) ∷ [] = msc_read false address signals in
    let brings : stated_sum m.dlci (messages (written (msc false address signals))) ≡ 0 = ap (stated_sum m.dlci) read in
    let sound : SoundMessages m.agreed m.dlci (messages (written (msc false address signals))) = subst (SoundMessages m.agreed m.dlci) (sym read) ((tt, whoever m.agreed), tt) in
    by_address answer brings sound t
  where
    by_address : (answer : PlainFrame) → bonus_of m.dlci (control_frame m.role (msc false address signals)) ≡ 0 → SoundMessages m.agreed m.dlci (messages (written (msc false address signals))) → (t : Bool)
        → Step w 0 0 m (answering (control_frame m.role (msc false address signals)) (cond t (record m { ready = peer_answered m.ready }) m))
    by_address answer brings sound true =
        step_answers w 0 0 m (record m { ready = peer_answered m.ready }) (control_frame m.role (msc false address signals)) (step_ready w m m.asks (peer_answered m.ready) (λ a. a)) (omega (arith, brings)) (refl, sound)
    by_address answer brings sound false = step_answers w 0 0 m m (control_frame m.role (msc false address signals)) (step_same w 0 0 m) (omega (arith, brings)) (refl, sound)

heard_msc_step : (w : Word) (command : Bool) (address signals : ℕ) (m : Mux) → Step w 0 0 m (hears_msc command address signals m)
heard_msc_step w true address signals m =
    step_if w 0 0 m (has_room m) (answering (control_frame m.role (msc false address signals)) (cond (address / 4 == m.dlci) (record m { ready = peer_answered m.ready }) m)) m
    (λ t. noted_step w address signals m (address / 4 == m.dlci)) (λ t. step_same w 0 0 m)
heard_msc_step w false address signals m =
    step_if w 0 0 m (address / 4 == m.dlci) (signals_answered m.asks m) m (λ t. signals_step w m.asks m) (λ t. step_same w 0 0 m)

-- TEST, RPN and RLS, and what is not understood
told_step : (w : Word) (control : PlainControl) (m : Mux) → IsRead control → IsAllowed m.dlci (Ok control) → is_acceptance (Ok control) ≡ false → stated_by m.dlci (Ok control) ≡ 0 → Step w 0 0 m (tells control m)
told_step w control m read allowed plain none =
    tells_keeps (Step w 0 0 m) control m read (step_same w 0 0 m)
    (λ is.
    let brings : stated_sum m.dlci (messages (written control)) ≡ stated_by m.dlci (Ok control) + 0 = ap (stated_sum m.dlci) is in
    step_answers w 0 0 m m (control_frame m.role control) (step_same w 0 0 m) (omega (arith, brings, none))
    (refl, subst (SoundMessages m.agreed m.dlci) (sym is) ((allowed, λ accepts. whoever m.agreed (sym plain ∙ accepts)), tt)))

told_if : (w : Word) (asked : Bool) (control : PlainControl) (m : Mux) → IsRead control → IsAllowed m.dlci (Ok control) → is_acceptance (Ok control) ≡ false → stated_by m.dlci (Ok control) ≡ 0 → Step w 0 0 m (cond asked (tells control m) m)
told_if w asked control m read allowed plain none = step_if w 0 0 m asked (tells control m) m (λ t. told_step w control m read allowed plain none) (λ t. step_same w 0 0 m)

message_step : (w : Word) (d : ℕ) (message : MessageAnswer) (m : Mux) → Fit d m → SoundMessage w.terms d message → Step w (stated_by m.dlci message) 0 m (hears_message message m)
message_step w d (Ok (pn command dlci flow priority timer frame retransmissions credits)) m fit sound = heard_pn_step w d command dlci flow priority timer frame retransmissions credits m fit sound
message_step w d (Ok (msc command address signals)) m fit sound = heard_msc_step w command address signals m
message_step w d (Ok (test command octets)) m fit sound = told_if w command (test false octets) m (test_read octets) tt refl refl
message_step w d (Ok (rpn command value)) m fit sound = told_if w command (rpn false (settings_of value)) m (rpn_read (settings_of value)) tt refl refl
message_step w d (Ok (rls command value)) m fit sound = told_if w command (rls false value) m (rls_read value) tt refl refl
message_step w d (Ok (nsc kind)) m fit sound = step_same w 0 0 m
message_step w d (Ok (other kind value)) m fit sound = told_if w (kind / 2 % 2 == 1) (nsc kind) m (nsc_read kind) tt refl refl
message_step w d (Err refusal) m fit sound = absurd sound.0

messages_step : (w : Word) (d : ℕ) (list : List MessageAnswer) (m : Mux) → Fit d m → SoundMessages w.terms d list → Step w (stated_sum d list) 0 m (hears_messages list m)
messages_step w d [] m fit sound = step_same w 0 0 m
messages_step w d (message ∷ rest) m fit sound =
    let x : Mux = if_stands (hears_message message) m.closed m in
    let one : Step w (stated_by d message) 0 m x =
    subst (λ (n : ℕ). Step w (stated_by n message) 0 m x) fit.dlci (stands_step w (stated_by m.dlci message) 0 (hears_message message) m.closed m (message_step w d message m fit sound.0)) in
    step_then w (stated_by d message) 0 (stated_sum d rest) 0 m x (hears_messages rest x) one (messages_step w d rest x (still_fit w (stated_by d message) 0 d m x one fit) sound.1)

-- ---- a frame

-- what a frame must keep to, of a peer that agreed to the terms or not, and where the hearer did
abbrev pub SoundIn : Bool → Bool → ℕ → MuxKind → PlainFrame → Type 0
SoundIn terms own d Sabm f = (f.dlci == d) ≡ true → own ≡ true
SoundIn terms own d Ua f = Unit {0}
SoundIn terms own d Dm f = Unit {0}
SoundIn terms own d Disc f = Unit {0}
SoundIn terms own d Uih f = (f.dlci == 0) ≡ true → SoundMessages terms d (messages f.octets)

abbrev pub is_responder : Role → Bool
is_responder Initiator = false
is_responder Responder = true

-- SABM for the user channel; the responder's UA there
abbrev pub asks_in : ℕ → MuxKind → PlainFrame → Bool
asks_in d Sabm f = f.dlci == d
asks_in d Ua f = false
asks_in d Dm f = false
asks_in d Disc f = false
asks_in d Uih f = false

abbrev pub opens_in : Role → ℕ → MuxKind → PlainFrame → Bool
opens_in from d Sabm f = false
opens_in from d Ua f = is_responder from && ((f.dlci == d) && f.pf)
opens_in from d Dm f = false
opens_in from d Disc f = false
opens_in from d Uih f = false

-- a frame as it is heard
abbrev pub word_of : Bool → Role → ℕ → MuxKind → PlainFrame → Word
word_of terms from d kind f = record { terms = terms; asks = asks_in d kind f; opens = opens_in from d kind f }

three_true : (from : Role) (a b : Bool) → from ≡ Responder → a ≡ true → b ≡ true → (is_responder from && (a && b)) ≡ true
three_true from a b is p q = ap (λ (r : Role). is_responder r && (a && b)) is ∙ ap (λ (x : Bool). x && b) p ∙ q

uih_if : (w : Word) (b1 b2 c2 : ℕ) (here there : Bool) (x y m : Mux) → (here ≡ true → Step w b1 0 m x) → Step w b2 c2 m y → Step w (cond here b1 b2) (cond here 0 c2) m (cond here x (cond there y m))
uih_if w b1 b2 c2 true there x y m p q = p refl
uih_if w b1 b2 c2 false true x y m p q = q
uih_if w b1 b2 c2 false false x y m p q = step_same w b2 c2 m

kind_step : (terms : Bool) (d : ℕ) (kind : MuxKind) (f : PlainFrame) (m : Mux) → Fit d m → SoundIn terms m.agreed m.dlci kind f
    → Step (word_of terms (other_role m.role) m.dlci kind f) (bonus_in d kind f) (cost_in kind f) m (hears_kind kind f m)
kind_step terms d Sabm f m fit sound =
    let w : Word = word_of terms (other_role m.role) m.dlci Sabm f in
    step_if w 0 0 m f.pf (hears_sabm m.role f.dlci m) m (λ t. sabm_step w 0 0 d m.role f.dlci m fit (λ here. (sound here, here))) (λ t. step_same w 0 0 m)
kind_step terms d Ua f m fit sound =
    let w : Word = word_of terms (other_role m.role) m.dlci Ua f in
    step_if w 0 0 m f.pf (hears_ua f.dlci m) m (λ t. ua_step w f.dlci m (λ here peer. three_true (other_role m.role) (f.dlci == m.dlci) f.pf peer here t)) (λ t. step_same w 0 0 m)
kind_step terms d Dm f m fit sound = heard_dm_step (word_of terms (other_role m.role) m.dlci Dm f) 0 0 f.dlci m
kind_step terms d Disc f m fit sound =
    let w : Word = word_of terms (other_role m.role) m.dlci Disc f in
    step_if w 0 0 m f.pf (hears_disc f.dlci m) m (λ t. disc_step w d f.dlci m fit) (λ t. step_same w 0 0 m)
kind_step terms d Uih f m fit sound =
    let w : Word = word_of terms (other_role m.role) m.dlci Uih f in
    uih_if w (stated_sum d (messages f.octets)) (credit_octet f.credits) (cond (is_empty f.octets) 0 1) (f.dlci == 0) ((f.dlci == m.dlci) && may_pass m) (hears_messages (messages f.octets) m) (hears_data f m) m
    (λ t. messages_step w d (messages f.octets) m fit (subst (λ (n : ℕ). SoundMessages terms n (messages f.octets)) fit.dlci (sound t))) (data_step w f m)

settled_step : (w : Word) (d : ℕ) (kind : MuxKind) (f : PlainFrame) (m : Mux) → Fit d m → Step w (bonus_in d kind f) (cost_in kind f) m (hears_settled kind f m)
settled_step w d Sabm f m fit = step_if w 0 0 m f.pf (says_dm f.dlci m) m (λ t. dm_step w 0 0 f.dlci m) (λ t. step_same w 0 0 m)
settled_step w d Ua f m fit = step_same w 0 0 m
settled_step w d Dm f m fit = step_same w 0 0 m
settled_step w d Disc f m fit = step_if w 0 0 m f.pf (hears_disc f.dlci m) m (λ t. disc_step w d f.dlci m fit) (λ t. step_same w 0 0 m)
settled_step w d Uih f m fit = step_same w (bonus_in d Uih f) (cost_in Uih f) m

abbrev pub word_to : Bool → Mux → PlainFrame → Word
word_to terms m f = word_of terms (other_role m.role) m.dlci f.kind f

frame_step : (terms : Bool) (d : ℕ) (closed : Option MuxReason) (f : PlainFrame) (m : Mux) → Fit d m → SoundIn terms m.agreed m.dlci f.kind f → Step (word_to terms m f) (bonus_of d f) (cost_of f) m (hears_frame closed f m)
frame_step terms d None f m fit sound = kind_step terms d f.kind f m fit sound
frame_step terms d (Some reasons.Dm) f m fit sound = settled_step (word_to terms m f) d f.kind f m fit
frame_step terms d (Some reasons.Disc) f m fit sound = settled_step (word_to terms m f) d f.kind f m fit
frame_step terms d (Some reasons.NoCreditFlow) f m fit sound = step_same (word_to terms m f) (bonus_of d f) (cost_of f) m
frame_step terms d (Some reasons.Overdrawn) f m fit sound = step_same (word_to terms m f) (bonus_of d f) (cost_of f) m
frame_step terms d (Some reasons.BadFrame) f m fit sound = step_same (word_to terms m f) (bonus_of d f) (cost_of f) m
frame_step terms d (Some reasons.CreditOverflow) f m fit sound = step_same (word_to terms m f) (bonus_of d f) (cost_of f) m

pub heard_step : (terms : Bool) (d : ℕ) (f : PlainFrame) (m : Mux) → Fit d m → SoundIn terms m.agreed m.dlci f.kind f → Step (word_to terms m f) (bonus_of d f) (cost_of f) m (hears_answer (Ok f) m)
heard_step terms d f m fit sound = frame_step terms d m.closed f m fit sound
