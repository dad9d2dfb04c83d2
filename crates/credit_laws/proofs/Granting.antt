-- What a frame of the peer leaves of the connections and credits of a side, whatever room there is for answers.
use Rattle.std.proofs.Common.{arith, ◌≡◌, ◌≤◌, ℕ, ◌==◌, ◌+◌, ◌-◌, ◌/◌, ◌%◌, Bool, true, false, ◌&&◌, ◌||◌, cond, List, [], ◌∷◌, Option, Some, None, Ok, Err, refl, sym, ap, subst, ◌∙◌}
use Rattle.std.specs.Prelude.{not, nat_lt, nat_le, sum_by, length}
use Rattle.std.specs.List.{AllByRecursion}
use Rattle.std.proofs.lemmas.List.Sums.{sum_by-cons}
use Rattle.inbox_laws.specs.rfcomm_frames.specs.declared.frame.MuxKind.{MuxKind}
use Rattle.inbox_laws.specs.rfcomm_frames.specs.declared.frame.MuxKind.TheVariants.{Sabm, Ua, Dm, Disc, Uih}
use Rattle.inbox_laws.specs.rfcomm_frames.specs.declared.connection.Dlc.{Dlc}
use Rattle.inbox_laws.specs.rfcomm_frames.specs.declared.connection.Dlc.TheVariants.{Idle, Asked, Open, Ended}
use Rattle.inbox_laws.specs.rfcomm_frames.specs.Frames.{PlainFrame}
use Rattle.inbox_laws.specs.rfcomm_frames.specs.Controls.{PlainControl, pn, msc, test, rpn, rls, nsc, other, written}
use Rattle.inbox_laws.specs.rfcomm_frames.specs.FrameReading.{MessageAnswer, messages}
use Rattle.inbox_laws.specs.rfcomm_frames.specs.Connections.{is_ended}
use Rattle.inbox_laws.specs.rfcomm_frames.specs.Multiplexing.{stated_by, credit_octet}
use Rattle.inbox_laws.specs.rfcomm_model.specs.declared.state.MuxReason.{MuxReason}
use Rattle.inbox_laws.specs.rfcomm_model.specs.declared.state.MuxReason.TheVariants as reasons
use Rattle.inbox_laws.specs.rfcomm_model.specs.declared.state.Command.TheVariants.{OpenControl, Agree, OpenUser, Signal, LeaveUser, LeaveControl}
use Rattle.inbox_laws.specs.rfcomm_model.specs.declared.state.Asks.{Asks}
use Rattle.inbox_laws.specs.rfcomm_model.specs.declared.state.Asks.TheVariants.{Nothing, Due, Awaited}
use Rattle.inbox_laws.specs.rfcomm_model.specs.Machine.{Mux, may_pass, closes}
use Rattle.inbox_laws.specs.rfcomm_model.specs.Written.{response_frame, control_frame}
use Rattle.inbox_laws.specs.rfcomm_model.specs.Hearing.{has_room, answering, says_dm, tells, lesser, own_credits, terms_agreed, peer_answered, settings_of, credited, charged, with_credits, hears_data, counts, pn_credited, hears_offer, hears_acceptance, hears_other_offer, hears_pn, signals_answered, hears_msc, hears_message, hears_messages, if_stands, hears_uih}
use Rattle.inbox_laws.specs.rfcomm_model.proofs.Closing.{keep_cond}
use Rattle.inbox_laws.specs.rfcomm_model.proofs.Stepping.{all_more}

-- ---- answers that agree to a connection

abbrev pub is_idle : Dlc → Bool
is_idle Idle = true
is_idle Asked = false
is_idle Open = false
is_idle Ended = false

abbrev pub agrees : MuxKind → Bool
agrees Sabm = false
agrees Ua = true
agrees Dm = false
agrees Disc = false
agrees Uih = false

-- UA waits only for a connection that was asked for
abbrev pub IsAwaited : ℕ → Dlc → Dlc → PlainFrame → Type 0
IsAwaited d control user frame = (not (agrees frame.kind) || (not ((frame.dlci == 0) && is_idle control) && not ((frame.dlci == d) && is_idle user))) ≡ true

abbrev pub AllAwaited : ℕ → Dlc → Dlc → List PlainFrame → Type 0
AllAwaited d control user frames = AllByRecursion (IsAwaited d control user) frames

-- the connections are these, at most so many credits are held, and no UA waits that was not asked for
pub record Bound (d : ℕ) (control user : Dlc) (held : ℕ) (x : Mux) : Type 0 where
  pub dlci_is : x.dlci ≡ d
  pub control_is : x.control ≡ control
  pub user_is : x.user ≡ user
  pub held_is : x.account.held ≤ held
  pub awaited : AllAwaited d control user x.answers

module _ (d : ℕ) (control user : Dlc) where
  more_bound : (h k : ℕ) (x : Mux) → h ≤ k → Bound d control user h x → Bound d control user k x
  more_bound h k x less b = let held = b.held_is in record { dlci_is = b.dlci_is; control_is = b.control_is; user_is = b.user_is; held_is = omega (arith, held, less); awaited = b.awaited }

  shut : (h : ℕ) (reason : MuxReason) (x : Mux) → Bound d control user h x → Bound d control user h (closes reason x)
  shut h reason x b = record { dlci_is = b.dlci_is; control_is = b.control_is; user_is = b.user_is; held_is = b.held_is; awaited = b.awaited }

  more : (h : ℕ) (f : PlainFrame) (x : Mux) → IsAwaited d control user f → Bound d control user h x → Bound d control user h (answering f x)
  more h f x ok b = record { dlci_is = b.dlci_is; control_is = b.control_is; user_is = b.user_is; held_is = b.held_is; awaited = all_more (IsAwaited d control user) x.answers f b.awaited ok }

  pub dm_bound : (h n : ℕ) (x : Mux) → Bound d control user h x → Bound d control user h (says_dm n x)
  dm_bound h n x b = keep_cond (Bound d control user h) (has_room x) (answering (response_frame x.role Dm n) x) x (more h (response_frame x.role Dm n) x refl b) b

  tells_bound : (h : ℕ) (message : PlainControl) (x : Mux) → Bound d control user h x → Bound d control user h (tells message x)
  tells_bound h message x b = keep_cond (Bound d control user h) (nat_le (length (written message)) 40 && has_room x) (answering (control_frame x.role message) x) x (more h (control_frame x.role message) x refl b) b

  -- ---- credits

  credited_bound : (h n : ℕ) (x : Mux) → Bound d control user h x → Bound d control user (h + n) (credited n x)
  credited_bound h n x b =
      let held = b.held_is in
      keep_cond (Bound d control user (h + n)) (nat_lt 65535 (x.account.held + n)) (closes reasons.CreditOverflow x) (record x { account = record { cap = x.account.cap; held = x.account.held + n; peer = x.account.peer } })
      (shut (h + n) reasons.CreditOverflow x (more_bound h (h + n) x (omega arith) b))
      (record { dlci_is = b.dlci_is; control_is = b.control_is; user_is = b.user_is; held_is = omega (arith, held); awaited = b.awaited })

  charged_bound : (h : ℕ) (octets : List ℕ) (x : Mux) → Bound d control user h x → Bound d control user h (charged octets x)
  charged_bound h [] x b = b
  charged_bound h (octet ∷ octets) x b =
      keep_cond (Bound d control user h) (x.account.peer == 0) (closes reasons.Overdrawn x) (record x { account = record { cap = x.account.cap; held = x.account.held; peer = x.account.peer - 1 } }) (shut h reasons.Overdrawn x b)
      (record { dlci_is = b.dlci_is; control_is = b.control_is; user_is = b.user_is; held_is = b.held_is; awaited = b.awaited })

  octet_bound : (h : ℕ) (credits : Option ℕ) (x : Mux) → Bound d control user h x → Bound d control user (h + credit_octet credits) (with_credits credits x)
  octet_bound h None x b = more_bound h (h + 0) x (omega arith) b
  octet_bound h (Some n) x b = credited_bound h n x b

  stands_bound : (h k : ℕ) (f : Mux → Mux) (closed : Option MuxReason) (x : Mux) → h ≤ k → Bound d control user k (f x) → Bound d control user h x → Bound d control user k (if_stands f closed x)
  stands_bound h k f None x less q b = q
  stands_bound h k f (Some reason) x less q b = more_bound h k x less b

  data_bound : (h : ℕ) (f : PlainFrame) (x : Mux) → Bound d control user h x → Bound d control user (h + credit_octet f.credits) (hears_data f x)
  data_bound h f x b =
      let n : ℕ = h + credit_octet f.credits in
      let granted : Mux = with_credits f.credits x in
      let q = octet_bound h f.credits x b in
      stands_bound n n (charged f.octets) granted.closed granted (omega arith) (charged_bound n f.octets granted q) q

  -- ---- PN

  abbrev stated : ℕ → ℕ
  stated n = cond (not (is_ended user) && not (is_ended control)) n 0

  if_bound : (h n : ℕ) (b : Bool) (x : Mux) → Bound d control user h x → Bound d control user (h + cond b n 0) (cond b (credited n x) x)
  if_bound h n true x b = credited_bound h n x b
  if_bound h n false x b = more_bound h (h + 0) x (omega arith) b

  pn_bound : (h credits : ℕ) (x : Mux) → Bound d control user h x → Bound d control user (h + stated (credits % 8)) (pn_credited credits x)
  pn_bound h credits x b =
      subst (λ (k : Bool). Bound d control user (h + cond k (credits % 8) 0) (pn_credited credits x))
      (ap (λ (dlc : Dlc). not (is_ended dlc) && not (is_ended x.control)) b.user_is ∙ ap (λ (dlc : Dlc). not (is_ended user) && not (is_ended dlc)) b.control_is)
      (if_bound h (credits % 8) (counts x) x b)

  grown : (h n : ℕ) (x : Mux) → Bound d control user h x → Bound d control user (h + n) x
  grown h n x b = more_bound h (h + n) x (omega arith) b

  offer_bound : (h flow priority frame credits : ℕ) (x : Mux) → Bound d control user h x → Bound d control user (h + stated (credits % 8)) (hears_offer flow priority frame credits x)
  offer_bound h flow priority frame credits x b =
      let n : ℕ = stated (credits % 8) in
      let message : PlainControl = pn false x.dlci 0xE0 priority 0 (lesser x.own frame) 0 (own_credits x) in
      let agreed : Mux = record x { frame = lesser x.own frame; agreed = true; stated = true } in
      let same : Bound d control user h agreed = record { dlci_is = b.dlci_is; control_is = b.control_is; user_is = b.user_is; held_is = b.held_is; awaited = b.awaited } in
      let room : Mux = cond (has_room x) (pn_credited credits (answering (control_frame x.role message) agreed)) x in
      keep_cond (Bound d control user (h + n)) (not (flow / 16 == 0xF)) (closes reasons.NoCreditFlow x) (cond (nat_lt frame 23) (closes reasons.BadFrame x) room) (shut (h + n) reasons.NoCreditFlow x (grown h n x b))
      (keep_cond (Bound d control user (h + n)) (nat_lt frame 23) (closes reasons.BadFrame x) room (shut (h + n) reasons.BadFrame x (grown h n x b))
      (keep_cond (Bound d control user (h + n)) (has_room x) (pn_credited credits (answering (control_frame x.role message) agreed)) x
      (pn_bound h credits (answering (control_frame x.role message) agreed) (more h (control_frame x.role message) agreed refl same)) (grown h n x b)))

  acceptance_bound : (h flow frame credits : ℕ) (x : Mux) → Bound d control user h x → Bound d control user (h + stated (credits % 8)) (hears_acceptance flow frame credits x)
  acceptance_bound h flow frame credits x b =
      let n : ℕ = stated (credits % 8) in
      let agreed : Mux = record x { frame = lesser x.own frame; agreed = true; asks = terms_agreed x.asks } in
      let same : Bound d control user h agreed = record { dlci_is = b.dlci_is; control_is = b.control_is; user_is = b.user_is; held_is = b.held_is; awaited = b.awaited } in
      keep_cond (Bound d control user (h + n)) (not (flow / 16 == 0xE)) (closes reasons.NoCreditFlow x) (cond (nat_lt frame 23) (closes reasons.BadFrame x) (pn_credited credits agreed)) (shut (h + n) reasons.NoCreditFlow x (grown h n x b))
      (keep_cond (Bound d control user (h + n)) (nat_lt frame 23) (closes reasons.BadFrame x) (pn_credited credits agreed) (shut (h + n) reasons.BadFrame x (grown h n x b)) (pn_bound h credits agreed same))

  other_bound : (h : ℕ) (command : Bool) (n frame : ℕ) (x : Mux) → Bound d control user h x → Bound d control user h (hears_other_offer command n frame x)
  other_bound h command n frame x b =
      keep_cond (Bound d control user h) (nat_lt frame 23) (closes reasons.BadFrame x) (cond command (says_dm n x) x) (shut h reasons.BadFrame x b) (keep_cond (Bound d control user h) command (says_dm n x) x (dm_bound h n x b) b)

  here_bound : (h n k : ℕ) (x y z : Mux) → z.dlci ≡ d → Bound d control user (h + stated n) x → Bound d control user h y → Bound d control user (h + stated (cond (k == d) n 0)) (cond (k == z.dlci) x y)
  here_bound h n k x y z same p q = subst (λ (e : ℕ). Bound d control user (h + stated (cond (k == d) n 0)) (cond (k == e) x y)) (sym same) (by (k == d))
    where
      by : (c : Bool) → Bound d control user (h + stated (cond c n 0)) (cond c x y)
      by true = p
      by false = grown h (stated 0) y q

  pn_heard : (h : ℕ) (command : Bool) (n flow priority frame credits : ℕ) (x : Mux) → Bound d control user h x
      → Bound d control user (h + stated (cond (n % 64 == d) (credits % 8) 0)) (hears_pn command n flow priority frame credits x)
  pn_heard h true n flow priority frame credits x b =
      here_bound h (credits % 8) (n % 64) (hears_offer flow priority frame credits x) (hears_other_offer true (n % 64) frame x) x b.dlci_is (offer_bound h flow priority frame credits x b) (other_bound h true (n % 64) frame x b)
  pn_heard h false n flow priority frame credits x b =
      here_bound h (credits % 8) (n % 64) (hears_acceptance flow frame credits x) (hears_other_offer false (n % 64) frame x) x b.dlci_is (acceptance_bound h flow frame credits x b) (other_bound h false (n % 64) frame x b)

  -- ---- the other messages

  signals_bound : (h : ℕ) (asks : Asks) (x : Mux) → Bound d control user h x → Bound d control user h (signals_answered asks x)
  signals_bound h Nothing x b = b
  signals_bound h (Due command) x b = b
  signals_bound h (Awaited OpenControl) x b = b
  signals_bound h (Awaited Agree) x b = b
  signals_bound h (Awaited OpenUser) x b = b
  signals_bound h (Awaited Signal) x b = record { dlci_is = b.dlci_is; control_is = b.control_is; user_is = b.user_is; held_is = b.held_is; awaited = b.awaited }
  signals_bound h (Awaited LeaveUser) x b = b
  signals_bound h (Awaited LeaveControl) x b = b

  msc_bound : (h : ℕ) (command : Bool) (address signals : ℕ) (x : Mux) → Bound d control user h x → Bound d control user h (hears_msc command address signals x)
  msc_bound h true address signals x b =
      let y : Mux = record x { ready = peer_answered x.ready } in
      let noted : Mux = cond (address / 4 == x.dlci) y x in
      let same : Bound d control user h y = record { dlci_is = b.dlci_is; control_is = b.control_is; user_is = b.user_is; held_is = b.held_is; awaited = b.awaited } in
      keep_cond (Bound d control user h) (has_room x) (answering (control_frame x.role (msc false address signals)) noted) x
      (more h (control_frame x.role (msc false address signals)) noted refl (keep_cond (Bound d control user h) (address / 4 == x.dlci) y x same b)) b
  msc_bound h false address signals x b = keep_cond (Bound d control user h) (address / 4 == x.dlci) (signals_answered x.asks x) x (signals_bound h x.asks x b) b

  message_bound : (h : ℕ) (message : MessageAnswer) (x : Mux) → Bound d control user h x → Bound d control user (h + stated (stated_by d message)) (hears_message message x)
  message_bound h (Ok (pn command n flow priority timer frame retransmissions credits)) x b = pn_heard h command n flow priority frame credits x b
  message_bound h (Ok (msc command address signals)) x b = grown h (stated 0) (hears_msc command address signals x) (msc_bound h command address signals x b)
  message_bound h (Ok (test command octets)) x b = grown h (stated 0) (cond command (tells (test false octets) x) x) (keep_cond (Bound d control user h) command (tells (test false octets) x) x (tells_bound h (test false octets) x b) b)
  message_bound h (Ok (rpn command value)) x b = grown h (stated 0) (cond command (tells (rpn false (settings_of value)) x) x) (keep_cond (Bound d control user h) command (tells (rpn false (settings_of value)) x) x (tells_bound h (rpn false (settings_of value)) x b) b)
  message_bound h (Ok (rls command value)) x b = grown h (stated 0) (cond command (tells (rls false value) x) x) (keep_cond (Bound d control user h) command (tells (rls false value) x) x (tells_bound h (rls false value) x b) b)
  message_bound h (Ok (nsc kind)) x b = grown h (stated 0) x b
  message_bound h (Ok (other kind value)) x b = grown h (stated 0) (cond (kind / 2 % 2 == 1) (tells (nsc kind) x) x) (keep_cond (Bound d control user h) (kind / 2 % 2 == 1) (tells (nsc kind) x) x (tells_bound h (nsc kind) x b) b)
  message_bound h (Err refusal) x b = grown h (stated 0) (closes reasons.BadFrame x) (shut h reasons.BadFrame x b)

  together : (a b s : ℕ) → s ≡ a + b → stated a + stated b ≡ stated s
  together a b s is = by (not (is_ended user) && not (is_ended control))
    where
      by : (c : Bool) → cond c a 0 + cond c b 0 ≡ cond c s 0
      by true = sym is
      by false = refl

  messages_bound : (h : ℕ) (list : List MessageAnswer) (x : Mux) → Bound d control user h x → Bound d control user (h + stated (sum_by (stated_by d) list)) (hears_messages list x)
  messages_bound h [] x b = grown h (stated (sum_by (stated_by d) [])) x b
  messages_bound h (message ∷ rest) x b =
      let a : ℕ = stated_by d message in
      let s : ℕ = sum_by (stated_by d) rest in
      let sum = together a s (sum_by (stated_by d) (message ∷ rest)) (sum_by-cons (stated_by d) message rest) in
      let y : Mux = if_stands (hears_message message) x.closed x in
      let one : Bound d control user (h + stated a) y = stands_bound h (h + stated a) (hears_message message) x.closed x (omega arith) (message_bound h message x b) b in
      more_bound ((h + stated a) + stated s) (h + stated (sum_by (stated_by d) (message ∷ rest))) (hears_messages rest y) (omega (arith, sum)) (messages_bound (h + stated a) rest y one)

  -- a UIH frame: on the control channel, or on the user channel while it may pass
  pub uih_bound : (h : ℕ) (f : PlainFrame) (x : Mux) → Bound d control user h x
      → Bound d control user (h + cond (f.dlci == 0) (stated (sum_by (stated_by d) (messages f.octets))) (cond ((f.dlci == d) && may_pass x) (credit_octet f.credits) 0)) (hears_uih f x)
  uih_bound h f x b =
      subst (λ (e : ℕ). Bound d control user (h + cond (f.dlci == 0) s (cond ((f.dlci == d) && may_pass x) (credit_octet f.credits) 0)) (cond (f.dlci == 0) (hears_messages (messages f.octets) x) (cond ((f.dlci == e) && may_pass x) (hears_data f x) x)))
      (sym b.dlci_is) (by (f.dlci == 0) ((f.dlci == d) && may_pass x))
    where
      s : ℕ
      s = stated (sum_by (stated_by d) (messages f.octets))

      by : (a c : Bool) → Bound d control user (h + cond a s (cond c (credit_octet f.credits) 0)) (cond a (hears_messages (messages f.octets) x) (cond c (hears_data f x) x))
      by true c = messages_bound h (messages f.octets) x b
      by false true = data_bound h f x b
      by false false = grown h 0 x b
