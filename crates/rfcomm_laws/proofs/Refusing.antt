-- Which messages close a side.
use Rattle.std.proofs.Common.{arith, ◌≡◌, ◌≤◌, ℕ, ◌==◌, ◌+◌, ◌/◌, ◌%◌, Bool, true, false, cond, Some, None, Ok, Err, refl, sym, ap, ◌∙◌}
use Rattle.std.specs.Prelude.{not, nat_lt, nat_le, ◌&&◌, length}
use Rattle.std.proofs.lemmas.Bool.{cond_both, ltb-true, ltb-false, le-ltb, eq-eqb, eqb-true}
use Rattle.rfcomm_frames.specs.declared.frame.MuxKind.TheVariants.{Dm}
use Rattle.rfcomm_frames.specs.Controls.{PlainControl, pn, msc, test, rpn, rls, nsc, other, written}
use Rattle.rfcomm_frames.specs.FrameReading.{MessageAnswer}
use Rattle.rfcomm_frames.specs.Multiplexing.{stated_by}
use Rattle.rfcomm_model.specs.declared.state.MuxReason.{MuxReason}
use Rattle.rfcomm_model.specs.declared.state.MuxReason.TheVariants as reasons
use Rattle.rfcomm_model.specs.declared.state.Command.TheVariants.{OpenControl, Agree, OpenUser, Signal, LeaveUser, LeaveControl}
use Rattle.rfcomm_model.specs.declared.state.Asks.{Asks}
use Rattle.rfcomm_model.specs.declared.state.Asks.TheVariants.{Nothing, Due, Awaited}
use Rattle.rfcomm_model.specs.Machine.{Mux, closes}
use Rattle.rfcomm_model.specs.Written.{response_frame, control_frame}
use Rattle.rfcomm_model.specs.Hearing.{has_room, answering, says_dm, tells, credited, counts, pn_credited, lesser, own_credits, hears_offer, terms_agreed, hears_acceptance, hears_other_offer, hears_pn, peer_answered, signals_answered, hears_msc, settings_of, hears_message}
use Rattle.rfcomm_model.proofs.Closing.{keep_cond}
use Rattle.rfcomm_laws.proofs.Turning.{disagrees}
use Rattle.rfcomm_laws.specs.Messages.{IsAllowed, AllowedLeaveOpen}

abbrev Opens : Mux → Type 0
Opens m = m.closed ≡ None

-- ---- what is allowed

credited_open : (n : ℕ) (m : Mux) → m.account.held + n ≤ 65535 → Opens m → Opens (credited n m)
credited_open n m fits is =
    cond_both (nat_lt 65535 (m.account.held + n)) (closes reasons.CreditOverflow m) (record m { account = record { cap = m.account.cap; held = m.account.held + n; peer = m.account.peer } }) Opens
    (λ t. absurd (let above = ltb-true 65535 (m.account.held + n) t in omega (arith, above, fits)))
    (λ t. is)

pn_credited_open : (credits : ℕ) (m : Mux) → m.account.held + credits % 8 ≤ 65535 → Opens m → Opens (pn_credited credits m)
pn_credited_open credits m fits is = keep_cond Opens (counts m) (credited (credits % 8) m) m (credited_open (credits % 8) m fits is) is

-- a frame size that is not too small
long_open : (frame : ℕ) (m x : Mux) → 23 ≤ frame → Opens x → Opens (cond (nat_lt frame 23) (closes reasons.BadFrame m) x)
long_open frame m x long is = cond_both (nat_lt frame 23) (closes reasons.BadFrame m) x Opens (λ t. absurd (let never : true ≡ false = sym t ∙ le-ltb frame 23 long in cc)) (λ t. is)

-- flow control as it is asked for, or granted
flow_open : (flow n : ℕ) (m x : Mux) → flow / 16 ≡ n → Opens x → Opens (cond (not (flow / 16 == n)) (closes reasons.NoCreditFlow m) x)
flow_open flow n m x asks is = cond_both (not (flow / 16 == n)) (closes reasons.NoCreditFlow m) x Opens (λ t. absurd (disagrees (flow / 16 == n) (eq-eqb (flow / 16) n asks) t)) (λ t. is)

offer_open : (flow priority frame credits : ℕ) (m : Mux) → flow / 16 ≡ 0xF → 23 ≤ frame → m.account.held + credits % 8 ≤ 65535 → Opens m → Opens (hears_offer flow priority frame credits m)
offer_open flow priority frame credits m asks long fits is =
    let y : Mux = answering (control_frame m.role (pn false m.dlci 0xE0 priority 0 (lesser m.own frame) 0 (own_credits m))) (record m { frame = lesser m.own frame; agreed = true; stated = true }) in
    flow_open flow 0xF m (cond (nat_lt frame 23) (closes reasons.BadFrame m) (cond (has_room m) (pn_credited credits y) m)) asks
    (long_open frame m (cond (has_room m) (pn_credited credits y) m) long (keep_cond Opens (has_room m) (pn_credited credits y) m (pn_credited_open credits y fits is) is))

acceptance_open : (flow frame credits : ℕ) (m : Mux) → flow / 16 ≡ 0xE → 23 ≤ frame → m.account.held + credits % 8 ≤ 65535 → Opens m → Opens (hears_acceptance flow frame credits m)
acceptance_open flow frame credits m grants long fits is =
    let x : Mux = record m { frame = lesser m.own frame; agreed = true; asks = terms_agreed m.asks } in
    flow_open flow 0xE m (cond (nat_lt frame 23) (closes reasons.BadFrame m) (pn_credited credits x)) grants (long_open frame m (pn_credited credits x) long (pn_credited_open credits x fits is))

-- for the user channel, or for another
by_channel : (t : Bool) (n : ℕ) (m x y : Mux) → m.account.held + cond t n 0 ≤ 65535 → (t ≡ true → m.account.held + n ≤ 65535 → Opens x) → Opens y → Opens (cond t x y)
by_channel true n m x y fits p q = p refl fits
by_channel false n m x y fits p q = q

dm_open : (n : ℕ) (m : Mux) → Opens m → Opens (says_dm n m)
dm_open n m is = keep_cond Opens (has_room m) (answering (response_frame m.role Dm n) m) m is is

pn_open : (command : Bool) (dlci flow priority frame credits : ℕ) (m : Mux) → 23 ≤ frame → (dlci % 64 ≡ m.dlci → flow / 16 ≡ cond command 0xF 0xE) → m.account.held + cond (dlci % 64 == m.dlci) (credits % 8) 0 ≤ 65535 → Opens m
    → Opens (hears_pn command dlci flow priority frame credits m)
pn_open true dlci flow priority frame credits m long asks fits is =
    by_channel (dlci % 64 == m.dlci) (credits % 8) m (hears_offer flow priority frame credits m) (hears_other_offer true (dlci % 64) frame m) fits
    (λ here few. offer_open flow priority frame credits m (asks (eqb-true (dlci % 64) m.dlci here)) long few is)
    (long_open frame m (says_dm (dlci % 64) m) long (dm_open (dlci % 64) m is))
pn_open false dlci flow priority frame credits m long grants fits is =
    by_channel (dlci % 64 == m.dlci) (credits % 8) m (hears_acceptance flow frame credits m) (hears_other_offer false (dlci % 64) frame m) fits
    (λ here few. acceptance_open flow frame credits m (grants (eqb-true (dlci % 64) m.dlci here)) long few is)
    (long_open frame m m long is)

signals_open : (asks : Asks) (m : Mux) → Opens m → Opens (signals_answered asks m)
signals_open Nothing m is = is
signals_open (Due command) m is = is
signals_open (Awaited OpenControl) m is = is
signals_open (Awaited Agree) m is = is
signals_open (Awaited OpenUser) m is = is
signals_open (Awaited Signal) m is = is
signals_open (Awaited LeaveUser) m is = is
signals_open (Awaited LeaveControl) m is = is

msc_open : (command : Bool) (address signals : ℕ) (m : Mux) → Opens m → Opens (hears_msc command address signals m)
msc_open true address signals m is =
    let x : Mux = cond (address / 4 == m.dlci) (record m { ready = peer_answered m.ready }) m in
    keep_cond Opens (has_room m) (answering (control_frame m.role (msc false address signals)) x) m (keep_cond Opens (address / 4 == m.dlci) (record m { ready = peer_answered m.ready }) m is is) is
msc_open false address signals m is = keep_cond Opens (address / 4 == m.dlci) (signals_answered m.asks m) m (signals_open m.asks m is) is

told_open : (asked : Bool) (control : PlainControl) (m : Mux) → Opens m → Opens (cond asked (tells control m) m)
told_open asked control m is =
    keep_cond Opens asked (tells control m) m (keep_cond Opens (nat_le (length (written control)) 40 && has_room m) (answering (control_frame m.role control) m) m is is) is

allowed_open : (message : MessageAnswer) (m : Mux) → m.account.held + stated_by m.dlci message ≤ 65535 → IsAllowed m.dlci message → Opens m → Opens (hears_message message m)
allowed_open (Ok (pn command dlci flow priority timer frame retransmissions credits)) m fits a is = pn_open command dlci flow priority frame credits m a.0 a.1 fits is
allowed_open (Ok (msc command address signals)) m fits a is = msc_open command address signals m is
allowed_open (Ok (test command octets)) m fits a is = told_open command (test false octets) m is
allowed_open (Ok (rpn command value)) m fits a is = told_open command (rpn false (settings_of value)) m is
allowed_open (Ok (rls command value)) m fits a is = told_open command (rls false value) m is
allowed_open (Ok (nsc kind)) m fits a is = is
allowed_open (Ok (other kind value)) m fits a is = told_open (kind / 2 % 2 == 1) (nsc kind) m is
allowed_open (Err refusal) m fits a is = absurd a

-- ---- and nothing else

-- where it stays open, the test that closes it fails
passed : (b : Bool) (reason : MuxReason) (m x : Mux) → Opens (cond b (closes reason m) x) → (b ≡ false) × Opens x
passed true reason m x is = let never : Some reason ≡ None = is in cc
passed false reason m x is = (refl, is)

not_false : (b : Bool) → not b ≡ false → b ≡ true
not_false true is = refl
not_false false is = let never : true ≡ false = is in cc

offer_alone : (flow priority frame credits : ℕ) (m : Mux) → Opens (hears_offer flow priority frame credits m) → (23 ≤ frame) × (flow / 16 ≡ 0xF)
offer_alone flow priority frame credits m is =
    let one = passed (not (flow / 16 == 0xF)) reasons.NoCreditFlow m _ is in
    let two = passed (nat_lt frame 23) reasons.BadFrame m _ one.1 in
    (ltb-false frame 23 two.0, eqb-true (flow / 16) 0xF (not_false (flow / 16 == 0xF) one.0))

acceptance_alone : (flow frame credits : ℕ) (m : Mux) → Opens (hears_acceptance flow frame credits m) → (23 ≤ frame) × (flow / 16 ≡ 0xE)
acceptance_alone flow frame credits m is =
    let one = passed (not (flow / 16 == 0xE)) reasons.NoCreditFlow m _ is in
    let two = passed (nat_lt frame 23) reasons.BadFrame m _ one.1 in
    (ltb-false frame 23 two.0, eqb-true (flow / 16) 0xE (not_false (flow / 16 == 0xE) one.0))

channel_alone : (here : Bool) (a d flow frame n : ℕ) (m x y z : Mux) → (a == d) ≡ here → (Opens x → (23 ≤ frame) × (flow / 16 ≡ n)) → y ≡ cond (nat_lt frame 23) (closes reasons.BadFrame m) z → Opens (cond here x y) → (23 ≤ frame) × (a ≡ d → flow / 16 ≡ n)
channel_alone true a d flow frame n m x y z at p same is = let both = p is in (both.0, λ e. both.1)
channel_alone false a d flow frame n m x y z at p same is =
    let one = passed (nat_lt frame 23) reasons.BadFrame m z (ap (λ (w : Mux). w.closed) (sym same) ∙ is) in
    (ltb-false frame 23 one.0, λ e. absurd (let never : false ≡ true = sym at ∙ eq-eqb a d e in cc))

pn_alone : (command : Bool) (dlci flow priority frame credits : ℕ) (m : Mux) → Opens (hears_pn command dlci flow priority frame credits m) → (23 ≤ frame) × (dlci % 64 ≡ m.dlci → flow / 16 ≡ cond command 0xF 0xE)
pn_alone true dlci flow priority frame credits m is =
    channel_alone (dlci % 64 == m.dlci) (dlci % 64) m.dlci flow frame 0xF m (hears_offer flow priority frame credits m) (hears_other_offer true (dlci % 64) frame m) (says_dm (dlci % 64) m) refl (offer_alone flow priority frame credits m) refl is
pn_alone false dlci flow priority frame credits m is =
    channel_alone (dlci % 64 == m.dlci) (dlci % 64) m.dlci flow frame 0xE m (hears_acceptance flow frame credits m) (hears_other_offer false (dlci % 64) frame m) m refl (acceptance_alone flow frame credits m) refl is

allowed_alone : (message : MessageAnswer) (m : Mux) → Opens (hears_message message m) → IsAllowed m.dlci message
allowed_alone (Ok (pn command dlci flow priority timer frame retransmissions credits)) m is = pn_alone command dlci flow priority frame credits m is
allowed_alone (Ok (msc command address signals)) m is = tt
allowed_alone (Ok (test command octets)) m is = tt
allowed_alone (Ok (rpn command value)) m is = tt
allowed_alone (Ok (rls command value)) m is = tt
allowed_alone (Ok (nsc kind)) m is = tt
allowed_alone (Ok (other kind value)) m is = tt
allowed_alone (Err refusal) m is = let never : Some reasons.BadFrame ≡ None = is in cc

-- ---- the law

pub allowed-leave_open : AllowedLeaveOpen
allowed-leave_open message m is fits = record { allowed = λ a. allowed_open message m fits a is; alone = allowed_alone message m }
