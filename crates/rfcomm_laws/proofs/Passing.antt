-- What a frame hands up, and how octets come to pass.
use Rattle.std.proofs.Common.{arith, ◌≡◌, ◌≤◌, ℕ, ◌==◌, ◌+◌, ◌-◌, Bool, true, false, ◌&&◌, ◌||◌, cond, List, [], ◌∷◌, Option, Some, None, Ok, refl, sym, ap, subst, ◌∙◌}
use Rattle.std.specs.Prelude.{not, is_none, is_some}
use Rattle.std.proofs.lemmas.Bool.{le-ltb, ne_eqb, eqb-true}
use Rattle.rfcomm_frames.specs.declared.frame.MuxKind.{MuxKind}
use Rattle.rfcomm_frames.specs.declared.frame.MuxKind.TheVariants.{Sabm, Ua, Dm, Disc, Uih}
use Rattle.rfcomm_frames.specs.declared.connection.Role.{Role}
use Rattle.rfcomm_frames.specs.declared.connection.Role.TheVariants.{Initiator, Responder}
use Rattle.rfcomm_frames.specs.declared.connection.Dlc.{Dlc}
use Rattle.rfcomm_frames.specs.declared.connection.Dlc.TheVariants.{Idle, Asked, Open, Ended}
use Rattle.rfcomm_frames.specs.Frames.{PlainFrame}
use Rattle.rfcomm_frames.specs.FrameReading.{messages, is_empty}
use Rattle.rfcomm_frames.specs.Connections.{other_role, turned, agreed, is_open, is_ended}
use Rattle.rfcomm_frames.specs.Multiplexing.{credit_octet}
use Rattle.rfcomm_model.specs.declared.state.MuxReason.{MuxReason}
use Rattle.rfcomm_model.specs.declared.state.MuxReason.TheVariants as reasons
use Rattle.rfcomm_model.specs.Machine.{Mux, closes, may_pass, is_ready}
use Rattle.rfcomm_model.specs.Hearing.{hears_messages, charged, if_stands, with_credits, hears_data, control_answered, user_answered, hears_ua, hears_kind, hears_frame, hears_answer, news, data_kind, data_of}
use Rattle.rfcomm_model.specs.Sides.{handed}
use Rattle.rfcomm_model.proofs.Stepping.{and_false}
use Rattle.rfcomm_laws.specs.Pairs.{handed_by}
use Rattle.rfcomm_laws.proofs.Running.{both_true}
use Rattle.rfcomm_laws.specs.Totals.{bonus_in, bonus_of, cost_in, cost_of, stated_sum}
use Rattle.rfcomm_laws.proofs.Harm.{is_over, is_far}
use Rattle.rfcomm_laws.proofs.Turning.{Fit}
use Rattle.rfcomm_laws.proofs.Harmless.{opens_in}
use Rattle.rfcomm_laws.proofs.Telling.{flow_in, flow_of}

-- ---- whether octets pass

passes_if : (c : Option MuxReason) (u control : Dlc) → (is_some c || (is_ended u || is_ended control)) ≡ false → is_far u ≡ true → (is_none c && (is_open u && not (is_ended control))) ≡ true
passes_if (Some reason) u control over far = let never : true ≡ false = over in cc
passes_if None Idle control over far = let never : false ≡ true = far in cc
passes_if None Asked control over far = let never : false ≡ true = far in cc
passes_if None Ended control over far = let never : true ≡ false = over in cc
passes_if None Open Idle over far = refl
passes_if None Open Asked over far = refl
passes_if None Open Open over far = refl
passes_if None Open Ended over far = let never : true ≡ false = over in cc

pub over_passes : (m : Mux) → is_over m ≡ false → is_far m.user ≡ true → may_pass m ≡ true
over_passes m over far = passes_if m.closed m.user m.control over far

if_passes : (c : Option MuxReason) (u control : Dlc) → (is_none c && (is_open u && not (is_ended control))) ≡ true → ((is_some c || (is_ended u || is_ended control)) ≡ false) × (is_far u ≡ true) × (c ≡ None)
if_passes (Some reason) u control is = let never : false ≡ true = is in cc
if_passes None Idle control is = let never : false ≡ true = is in cc
if_passes None Asked control is = let never : false ≡ true = is in cc
if_passes None Ended control is = let never : false ≡ true = is in cc
if_passes None Open Idle is = (refl, refl, refl)
if_passes None Open Asked is = (refl, refl, refl)
if_passes None Open Open is = (refl, refl, refl)
if_passes None Open Ended is = let never : false ≡ true = is in cc

pub passing_is : (m : Mux) → may_pass m ≡ true → (is_over m ≡ false) × (is_far m.user ≡ true) × (m.closed ≡ None)
passing_is m may = if_passes m.closed m.user m.control may

pub not_far : (m : Mux) → is_far m.user ≡ false → may_pass m ≡ false
not_far m near = by_pass (may_pass m) refl
  where
    by_pass : (b : Bool) → may_pass m ≡ b → b ≡ false
    by_pass true is = let far = (passing_is m is).1 in let never : true ≡ false = sym far ∙ near in cc
    by_pass false is = refl

-- ---- what is handed up

handed_none : (c c' : Option MuxReason) (flag : Bool) → handed (news c c' flag []) ≡ []
handed_none (Some reason) c' flag = refl
handed_none None (Some reason) flag = refl
handed_none None None true = refl
handed_none None None false = refl

handed_up : (octets : List ℕ) → handed (news None None false octets) ≡ octets
handed_up [] = refl
handed_up (octet ∷ octets) = refl

-- hearing information that is paid for leaves the rest as it is
abbrev Same : Mux → Mux → Type 0
Same m x = (x.closed ≡ m.closed) × (is_ready x ≡ is_ready m) × (x.account.peer ≡ m.account.peer)

with_same : (credits : Option ℕ) (m : Mux) → m.account.held + credit_octet credits ≤ 65535 → Same m (with_credits credits m)
with_same None m fits = (refl, refl, refl)
with_same (Some n) m fits =
    subst (λ (b : Bool). Same m (cond b (closes reasons.CreditOverflow m) (record m { account = record { cap = m.account.cap; held = m.account.held + n; peer = m.account.peer } }))) (sym (le-ltb 65535 (m.account.held + n) fits)) (refl, refl, refl)

abbrev Stays : Mux → Mux → Type 0
Stays m x = (x.closed ≡ m.closed) × (is_ready x ≡ is_ready m)

charged_same : (octets : List ℕ) (m : Mux) → cond (is_empty octets) 0 1 ≤ m.account.peer → Stays m (charged octets m)
charged_same [] m paid = (refl, refl)
charged_same (octet ∷ octets) m paid =
    subst (λ (b : Bool). Stays m (cond b (closes reasons.Overdrawn m) (record m { account = record { cap = m.account.cap; held = m.account.held; peer = m.account.peer - 1 } }))) (sym (ne_eqb m.account.peer 0 (λ e. omega (arith, e, paid)))) (refl, refl)

stands_same : (f : Mux → Mux) (closed : Option MuxReason) (m : Mux) → Stays m (f m) → Stays m (if_stands f closed m)
stands_same f None m s = s
stands_same f (Some reason) m s = (refl, refl)

data_same : (f : PlainFrame) (m : Mux) → m.account.held + credit_octet f.credits ≤ 65535 → cond (is_empty f.octets) 0 1 ≤ m.account.peer → Stays m (hears_data f m)
data_same f m fits paid =
    let granted : Mux = with_credits f.credits m in
    let s = with_same f.credits m fits in
    let t = stands_same (charged f.octets) granted.closed granted (charged_same f.octets granted (let same = s.2 in omega (arith, same, paid))) in
    (t.0 ∙ s.0, t.1 ∙ s.1)

no_rise : (a : Bool) → (a && not a) ≡ false
no_rise true = refl
no_rise false = refl

-- a frame without information for the user channel
quiet_hands : (f : PlainFrame) (m : Mux) → data_of f m ≡ [] → handed_by f m ≡ []
quiet_hands f m none =
    let after : Mux = hears_answer (Ok f) m in
    ap (λ (xs : List ℕ). handed (news m.closed after.closed (is_ready after && not (is_ready m)) xs)) none ∙ handed_none m.closed after.closed (is_ready after && not (is_ready m))

-- information for the user channel
data_hands : (f : PlainFrame) (m : Mux) → f.kind ≡ Uih → may_pass m ≡ true → (f.dlci == 0) ≡ false → (f.dlci == m.dlci) ≡ true → m.account.held + credit_octet f.credits ≤ 65535 → cond (is_empty f.octets) 0 1 ≤ m.account.peer → handed_by f m ≡ f.octets
data_hands f m kind may off here fits paid =
    let stands = (passing_is m may).2 in
    let after : hears_answer (Ok f) m ≡ hears_data f m =
    ap (λ (c : Option MuxReason). hears_frame c f m) stands ∙ ap (λ (k : MuxKind). hears_kind k f m) kind ∙ ap (λ (b : Bool). cond b (hears_messages (messages f.octets) m) (cond ((f.dlci == m.dlci) && may_pass m) (hears_data f m) m)) off
    ∙ ap (λ (b : Bool). cond (b && may_pass m) (hears_data f m) m) here ∙ ap (λ (b : Bool). cond b (hears_data f m) m) may in
    let same = data_same f m fits paid in
    let carried : data_of f m ≡ f.octets = ap (λ (k : MuxKind). data_kind k f m) kind ∙ ap (λ (b : Bool). cond (not b && ((f.dlci == m.dlci) && may_pass m)) f.octets []) off ∙ ap (λ (b : Bool). cond (b && may_pass m) f.octets []) here ∙ ap (λ (b : Bool). cond b f.octets []) may in
    ap (λ (x : Mux). handed (news m.closed x.closed (is_ready x && not (is_ready m)) (data_of f m))) after
    ∙ ap (λ (c : Option MuxReason). handed (news m.closed c (is_ready (hears_data f m) && not (is_ready m)) (data_of f m))) (same.0 ∙ stands)
    ∙ ap (λ (b : Bool). handed (news m.closed None (b && not (is_ready m)) (data_of f m))) same.1
    ∙ ap (λ (b : Bool). handed (news m.closed None b (data_of f m))) (no_rise (is_ready m))
    ∙ ap (λ (c : Option MuxReason). handed (news c None false (data_of f m))) stands ∙ handed_up (data_of f m) ∙ carried

-- while octets pass, what is handed up is what the frame carries; else nothing is
pub record Hands (d : ℕ) (f : PlainFrame) (m : Mux) : Type 0 where
  pub open_is : may_pass m ≡ true → handed_by f m ≡ flow_of d f
  pub shut_is : may_pass m ≡ false → handed_by f m ≡ []

quiet : (d : ℕ) (f : PlainFrame) (m : Mux) → data_of f m ≡ [] → flow_of d f ≡ [] → Hands d f m
quiet d f m none no_flow = record { open_is = λ may. quiet_hands f m none ∙ sym no_flow; shut_is = λ may. quiet_hands f m none }

uih_hands : (d : ℕ) (f : PlainFrame) (m : Mux) → Fit d m → f.kind ≡ Uih → m.account.held + bonus_in d Uih f ≤ 65535 → cost_in Uih f ≤ m.account.peer → (off here : Bool) → (f.dlci == 0) ≡ off → (f.dlci == d) ≡ here → Hands d f m
uih_hands d f m fit kind fits paid true here io ih =
    quiet d f m (ap (λ (k : MuxKind). data_kind k f m) kind ∙ ap (λ (b : Bool). cond (not b && ((f.dlci == m.dlci) && may_pass m)) f.octets []) io)
    (ap (λ (k : MuxKind). flow_in d k f) kind ∙ ap (λ (b : Bool). cond (not b && (f.dlci == d)) f.octets []) io)
uih_hands d f m fit kind fits paid false false io ih =
    quiet d f m (ap (λ (k : MuxKind). data_kind k f m) kind ∙ ap (λ (b : Bool). cond (not b && ((f.dlci == m.dlci) && may_pass m)) f.octets []) io ∙ ap (λ (b : Bool). cond (b && may_pass m) f.octets []) (ap (λ (n : ℕ). f.dlci == n) fit.dlci ∙ ih))
    (ap (λ (k : MuxKind). flow_in d k f) kind ∙ ap (λ (b : Bool). cond (not b && (f.dlci == d)) f.octets []) io ∙ ap (λ (b : Bool). cond b f.octets []) ih)
uih_hands d f m fit kind fits paid false true io ih =
    let brings : cond (f.dlci == 0) (stated_sum d (messages f.octets)) (credit_octet f.credits) ≡ credit_octet f.credits = ap (λ (b : Bool). cond b (stated_sum d (messages f.octets)) (credit_octet f.credits)) io in
    let costs : cost_in Uih f ≡ 0 + cond (is_empty f.octets) 0 1 = let plain = ap (λ (b : Bool). 0 + cond b 0 (cond (is_empty f.octets) 0 1)) io in omega (arith, plain) in
    record {
      open_is = λ may.
          data_hands f m kind may io (ap (λ (n : ℕ). f.dlci == n) fit.dlci ∙ ih) (omega (arith, fits, brings)) (omega (arith, paid, costs))
          ∙ sym (ap (λ (k : MuxKind). flow_in d k f) kind ∙ ap (λ (b : Bool). cond (not b && (f.dlci == d)) f.octets []) io ∙ ap (λ (b : Bool). cond b f.octets []) ih);
      shut_is = λ may.
          quiet_hands f m
          (ap (λ (k : MuxKind). data_kind k f m) kind ∙ ap (λ (b : Bool). cond (not (f.dlci == 0) && ((f.dlci == m.dlci) && b)) f.octets []) may ∙ ap (λ (b : Bool). cond (not (f.dlci == 0) && b) f.octets []) (and_false (f.dlci == m.dlci))
          ∙ ap (λ (b : Bool). cond b f.octets []) (and_false (not (f.dlci == 0))));
    }

kind_hands : (d : ℕ) (f : PlainFrame) (m : Mux) → Fit d m → (kind : MuxKind) → f.kind ≡ kind → m.account.held + bonus_in d kind f ≤ 65535 → cost_in kind f ≤ m.account.peer → Hands d f m
kind_hands d f m fit Sabm kind fits paid = quiet d f m (ap (λ (k : MuxKind). data_kind k f m) kind) (ap (λ (k : MuxKind). flow_in d k f) kind)
kind_hands d f m fit Ua kind fits paid = quiet d f m (ap (λ (k : MuxKind). data_kind k f m) kind) (ap (λ (k : MuxKind). flow_in d k f) kind)
kind_hands d f m fit Dm kind fits paid = quiet d f m (ap (λ (k : MuxKind). data_kind k f m) kind) (ap (λ (k : MuxKind). flow_in d k f) kind)
kind_hands d f m fit Disc kind fits paid = quiet d f m (ap (λ (k : MuxKind). data_kind k f m) kind) (ap (λ (k : MuxKind). flow_in d k f) kind)
kind_hands d f m fit Uih kind fits paid = uih_hands d f m fit kind fits paid (f.dlci == 0) (f.dlci == d) refl refl

pub hands : (d : ℕ) (f : PlainFrame) (m : Mux) → Fit d m → m.account.held + bonus_of d f ≤ 65535 → cost_of f ≤ m.account.peer → Hands d f m
hands d f m fit fits paid = kind_hands d f m fit f.kind refl fits paid

-- ---- the responder's UA opens the channel that was asked for

agreed_far : (dlc : Dlc) → (dlc ≡ Idle → ⊥) → is_far (agreed dlc) ≡ true
agreed_far Idle used = absurd (used refl)
agreed_far Asked used = refl
agreed_far Open used = refl
agreed_far Ended used = refl

pub ua_opens : (d : ℕ) (f : PlainFrame) (m : Mux) → Fit d m → m.closed ≡ None → m.role ≡ Initiator → (m.user ≡ Idle → ⊥) → (kind : MuxKind) → f.kind ≡ kind → opens_in Responder d kind f ≡ true → is_far (hears_answer (Ok f) m).user ≡ true
ua_opens d f m fit stands role used Sabm kind is = let never : false ≡ true = is in cc
ua_opens d f m fit stands role used Dm kind is = let never : false ≡ true = is in cc
ua_opens d f m fit stands role used Disc kind is = let never : false ≡ true = is in cc
ua_opens d f m fit stands role used Uih kind is = let never : false ≡ true = is in cc
ua_opens d f m fit stands role used Ua kind is =
    let parts = both_true (f.dlci == d) f.pf is in
    let here : (f.dlci == m.dlci) ≡ true = ap (λ (n : ℕ). f.dlci == n) fit.dlci ∙ parts.0 in
    let off : (f.dlci == 0) ≡ false = ne_eqb f.dlci 0 (λ e. let same = eqb-true f.dlci d parts.0 in let some = fit.some in omega (arith, e, same, some)) in
    let x : Mux = record m { user = turned (other_role m.role) Ua m.user; asks = user_answered m.asks } in
    let after : hears_answer (Ok f) m ≡ x =
    ap (λ (c : Option MuxReason). hears_frame c f m) stands ∙ ap (λ (k : MuxKind). hears_kind k f m) kind ∙ ap (λ (b : Bool). cond b (hears_ua f.dlci m) m) parts.1
    ∙ ap (λ (b : Bool). cond b (control_answered m.asks (record m { control = turned (other_role m.role) Ua m.control })) (cond (f.dlci == m.dlci) x m)) off ∙ ap (λ (b : Bool). cond b x m) here in
    ap (λ (y : Mux). is_far y.user) after ∙ ap (λ (r : Role). is_far (turned (other_role r) Ua m.user)) role ∙ agreed_far m.user used
