-- A command is answered once at most, and nothing else is.
use Rattle.std.proofs.Common.{arith, ◌≡◌, ◌≤◌, ℕ, ◌==◌, ◌+◌, ◌/◌, ◌%◌, ◌&&◌, Bool, true, false, cond, List, [], ◌∷◌, length, Option, Some, None, Ok, Err, refl, sym, ap, subst, ◌∙◌}
use Rattle.std.specs.Prelude.{not, nat_lt, nat_le}
use Rattle.std.proofs.lemmas.List.{length-append}
use Rattle.rfcomm_frames.specs.declared.frame.MuxKind.{MuxKind}
use Rattle.rfcomm_frames.specs.declared.frame.MuxKind.TheVariants.{Sabm, Ua, Dm, Disc, Uih}
use Rattle.rfcomm_frames.specs.Frames.{PlainFrame, bit}
use Rattle.rfcomm_frames.specs.Controls.{PlainControl, pn, msc, test, rpn, rls, nsc, other, written}
use Rattle.rfcomm_frames.specs.FrameReading.{MessageAnswer, messages}
use Rattle.rfcomm_model.specs.declared.state.MuxReason.{MuxReason}
use Rattle.rfcomm_model.specs.declared.state.MuxReason.TheVariants as reasons
use Rattle.rfcomm_model.specs.declared.state.Command.TheVariants.{OpenControl, Agree, OpenUser, Signal, LeaveUser, LeaveControl}
use Rattle.rfcomm_model.specs.declared.state.Asks.{Asks}
use Rattle.rfcomm_model.specs.declared.state.Asks.TheVariants.{Nothing, Due, Awaited}
use Rattle.rfcomm_model.specs.Machine.{Mux, closes, may_pass}
use Rattle.rfcomm_model.specs.Sides.{asks_of}
use Rattle.rfcomm_model.specs.Written.{response_frame, control_frame}
use Rattle.rfcomm_model.specs.Hearing.{has_room, answering, says_dm, tells, credited, if_stands, hears_data, counts, pn_credited, lesser, own_credits, hears_offer, terms_agreed, hears_acceptance, hears_other_offer, hears_pn, peer_answered, signals_answered, hears_msc, settings_of, hears_message, hears_messages, hears_kind, hears_settled, hears_frame, hears_answer}
use Rattle.rfcomm_model.proofs.Closing.{keep_cond}
use Rattle.rfcomm_model.proofs.Flooding.{answer_waits}
use Rattle.rfcomm_laws.specs.SingleAnswers.{told_to, due_to, all_due, due_in, CommandsAreAnsweredOnce, FramesAreAnsweredOnce}

-- no more than so many answers wait
abbrev Few : ℕ → Mux → Type 0
Few n x = length x.answers ≤ n

more : (n k : ℕ) (x : Mux) → n ≤ k → Few n x → Few k x
more n k x less few = omega (arith, less, few)

one : (n : ℕ) (f : PlainFrame) (x : Mux) → Few n x → Few (n + 1) (answering f x)
one n f x few = let sum = length-append x.answers (f ∷ []) in omega (arith, few, sum)

-- where there is room for it, an answer waits
if_room : (n : ℕ) (room : Bool) (f : PlainFrame) (x m : Mux) → Few n x → Few n m → Few (n + 1) (cond room (answering f x) m)
if_room n room f x m few also = keep_cond (Few (n + 1)) room (answering f x) m (one n f x few) (more n (n + 1) m (omega arith) also)

-- ---- messages

-- credits answer nothing
pn_credited_few : (n credits : ℕ) (x : Mux) → Few n x → Few n (pn_credited credits x)
pn_credited_few n credits x few =
    keep_cond (Few n) (counts x) (credited (credits % 8) x) x
    (keep_cond (Few n) (nat_lt 65535 (x.account.held + credits % 8)) (closes reasons.CreditOverflow x) (record x { account = record { cap = x.account.cap; held = x.account.held + credits % 8; peer = x.account.peer } }) few few)
    few

offer_few : (n flow priority frame credits : ℕ) (m : Mux) → Few n m → Few (n + 1) (hears_offer flow priority frame credits m)
offer_few n flow priority frame credits m few =
    let x : Mux = record m { frame = lesser m.own frame; agreed = true; stated = true } in
    let answer : PlainFrame = control_frame m.role (pn false m.dlci 0xE0 priority 0 (lesser m.own frame) 0 (own_credits m)) in
    let told : Mux = pn_credited credits (answering answer x) in
    let same : Few (n + 1) m = more n (n + 1) m (omega arith) few in
    keep_cond (Few (n + 1)) (not (flow / 16 == 0xF)) (closes reasons.NoCreditFlow m) (cond (nat_lt frame 23) (closes reasons.BadFrame m) (cond (has_room m) told m)) same
    (keep_cond (Few (n + 1)) (nat_lt frame 23) (closes reasons.BadFrame m) (cond (has_room m) told m) same
    (keep_cond (Few (n + 1)) (has_room m) told m (pn_credited_few (n + 1) credits (answering answer x) (one n answer x few)) same))

acceptance_few : (n flow frame credits : ℕ) (m : Mux) → Few n m → Few n (hears_acceptance flow frame credits m)
acceptance_few n flow frame credits m few =
    let x : Mux = record m { frame = lesser m.own frame; agreed = true; asks = terms_agreed m.asks } in
    keep_cond (Few n) (not (flow / 16 == 0xE)) (closes reasons.NoCreditFlow m) (cond (nat_lt frame 23) (closes reasons.BadFrame m) (pn_credited credits x)) few
    (keep_cond (Few n) (nat_lt frame 23) (closes reasons.BadFrame m) (pn_credited credits x) few (pn_credited_few n credits x few))

pn_few : (n : ℕ) (command : Bool) (dlci flow priority frame credits : ℕ) (m : Mux) → Few n m → Few (n + bit command) (hears_pn command dlci flow priority frame credits m)
pn_few n true dlci flow priority frame credits m few =
    keep_cond (Few (n + 1)) (dlci % 64 == m.dlci) (hears_offer flow priority frame credits m) (hears_other_offer true (dlci % 64) frame m) (offer_few n flow priority frame credits m few)
    (keep_cond (Few (n + 1)) (nat_lt frame 23) (closes reasons.BadFrame m) (says_dm (dlci % 64) m) (more n (n + 1) m (omega arith) few) (if_room n (has_room m) (response_frame m.role Dm (dlci % 64)) m m few few))
pn_few n false dlci flow priority frame credits m few =
    more n (n + 0) (hears_pn false dlci flow priority frame credits m) (omega arith)
    (keep_cond (Few n) (dlci % 64 == m.dlci) (hears_acceptance flow frame credits m) (hears_other_offer false (dlci % 64) frame m) (acceptance_few n flow frame credits m few)
    (keep_cond (Few n) (nat_lt frame 23) (closes reasons.BadFrame m) m few few))

signals_few : (n : ℕ) (asks : Asks) (m : Mux) → Few n m → Few n (signals_answered asks m)
signals_few n Nothing m few = few
signals_few n (Due command) m few = few
signals_few n (Awaited OpenControl) m few = few
signals_few n (Awaited Agree) m few = few
signals_few n (Awaited OpenUser) m few = few
signals_few n (Awaited Signal) m few = few
signals_few n (Awaited LeaveUser) m few = few
signals_few n (Awaited LeaveControl) m few = few

msc_few : (n : ℕ) (command : Bool) (address signals : ℕ) (m : Mux) → Few n m → Few (n + bit command) (hears_msc command address signals m)
msc_few n true address signals m few =
    let x : Mux = cond (address / 4 == m.dlci) (record m { ready = peer_answered m.ready }) m in
    if_room n (has_room m) (control_frame m.role (msc false address signals)) x m (keep_cond (Few n) (address / 4 == m.dlci) (record m { ready = peer_answered m.ready }) m few few) few
msc_few n false address signals m few =
    more n (n + 0) (hears_msc false address signals m) (omega arith) (keep_cond (Few n) (address / 4 == m.dlci) (signals_answered m.asks m) m (signals_few n m.asks m few) few)

told_few : (n : ℕ) (asked : Bool) (control : PlainControl) (m : Mux) → Few n m → Few (n + told_to asked control) (cond asked (tells control m) m)
told_few n true control m few = by (nat_le (length (written control)) 40)
  where
    answer : PlainFrame
    answer = control_frame m.role control

    by : (short : Bool) → Few (n + cond short 1 0) (cond (short && has_room m) (answering answer m) m)
    by true = if_room n (has_room m) answer m m few few
    by false = more n (n + 0) m (omega arith) few
told_few n false control m few = more n (n + 0) m (omega arith) few

message_few : (n : ℕ) (message : MessageAnswer) (m : Mux) → Few n m → Few (n + due_to message) (hears_message message m)
message_few n (Ok (pn command dlci flow priority timer frame retransmissions credits)) m few = pn_few n command dlci flow priority frame credits m few
message_few n (Ok (msc command address signals)) m few = msc_few n command address signals m few
message_few n (Ok (test command octets)) m few = told_few n command (test false octets) m few
message_few n (Ok (rpn command value)) m few = told_few n command (rpn false (settings_of value)) m few
message_few n (Ok (rls command value)) m few = told_few n command (rls false value) m few
message_few n (Ok (nsc kind)) m few = more n (n + 0) m (omega arith) few
message_few n (Ok (other kind value)) m few = told_few n (kind / 2 % 2 == 1) (nsc kind) m few
message_few n (Err refusal) m few = more n (n + 0) m (omega arith) few

messages_few : (n : ℕ) (list : List MessageAnswer) (m : Mux) → Few n m → Few (n + all_due list) (hears_messages list m)
messages_few n [] m few = more n (n + 0) m (omega arith) few
messages_few n (message ∷ rest) m few =
    let k : ℕ = n + due_to message in
    let x : Mux = if_stands (hears_message message) m.closed m in
    more (k + all_due rest) (n + (due_to message + all_due rest)) (hears_messages rest x) (omega arith) (messages_few k rest x (stands m.closed))
  where
    stands : (closed : Option MuxReason) → Few (n + due_to message) (if_stands (hears_message message) closed m)
    stands None = message_few n message m few
    stands (Some reason) = more n (n + due_to message) m (omega arith) few

pub commands-are_answered_once : CommandsAreAnsweredOnce
commands-are_answered_once message m = message_few (length m.answers) message m (omega arith)

-- ---- frames

module _ (f : PlainFrame) (m : Mux) where
  -- messages on the control channel
  control_few : f.kind ≡ Uih → (f.dlci == 0) ≡ true → Few (length m.answers + all_due (messages f.octets)) (hears_answer (Ok f) m)
  control_few is here = heard m.closed
    where
      n : ℕ
      n = length m.answers + all_due (messages f.octets)

      same : Few n m
      same = more (length m.answers) n m (omega arith) (omega arith)

      heard : (closed : Option MuxReason) → Few n (hears_frame closed f m)
      heard None =
          subst (λ (k : MuxKind). Few n (hears_kind k f m)) (sym is)
          (subst (λ (b : Bool). Few n (cond b (hears_messages (messages f.octets) m) (cond ((f.dlci == m.dlci) && may_pass m) (hears_data f m) m))) (sym here) (messages_few (length m.answers) (messages f.octets) m (omega arith)))
      heard (Some reasons.Dm) = subst (λ (k : MuxKind). Few n (hears_settled k f m)) (sym is) same
      heard (Some reasons.Disc) = subst (λ (k : MuxKind). Few n (hears_settled k f m)) (sym is) same
      heard (Some reasons.NoCreditFlow) = same
      heard (Some reasons.Overdrawn) = same
      heard (Some reasons.BadFrame) = same
      heard (Some reasons.CreditOverflow) = same

  -- any other frame asks for as much as it is given
  kind_few : (kind : MuxKind) → f.kind ≡ kind → Few (length m.answers + due_in kind f) (hears_answer (Ok f) m)
  kind_few Sabm is = let all = answer_waits (Ok f) m in let asks : asks_of f.kind f ≡ 1 = ap (λ (k : MuxKind). asks_of k f) is in omega (arith, all, asks)
  kind_few Ua is = let all = answer_waits (Ok f) m in let asks : asks_of f.kind f ≡ 0 = ap (λ (k : MuxKind). asks_of k f) is in omega (arith, all, asks)
  kind_few Dm is = let all = answer_waits (Ok f) m in let asks : asks_of f.kind f ≡ 0 = ap (λ (k : MuxKind). asks_of k f) is in omega (arith, all, asks)
  kind_few Disc is = let all = answer_waits (Ok f) m in let asks : asks_of f.kind f ≡ 1 = ap (λ (k : MuxKind). asks_of k f) is in omega (arith, all, asks)
  kind_few Uih is = by (f.dlci == 0) refl
    where
      by : (control : Bool) → (f.dlci == 0) ≡ control → Few (length m.answers + cond control (all_due (messages f.octets)) 0) (hears_answer (Ok f) m)
      by true here = control_few is here
      by false there =
          let all = answer_waits (Ok f) m in
          let asks : asks_of f.kind f ≡ 0 = ap (λ (k : MuxKind). asks_of k f) is ∙ ap (λ (b : Bool). cond b (length (messages f.octets)) 0) there in
          omega (arith, all, asks)

pub frames-are_answered_once : FramesAreAnsweredOnce
frames-are_answered_once f m = kind_few f m f.kind refl
