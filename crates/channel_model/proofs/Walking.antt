-- All that comes in, step by step.
use Rattle.std.proofs.Common.{◌≡◌, ℕ, ◌+◌, ◌%◌, List, [], ◌∷◌, ◌++◌, Bool, true, false, cond, eqb, Option, Some, None, Result, Ok, Err, refl, sym, ap, subst, ◌∙◌, inl, inr, ◌||◌}
use Rattle.std.specs.Prelude.{find, nat_le, is_some}
use Rattle.l2cap_signal.specs.Commands.{Content, reject, connection_request, connection_response, configuration_request, configuration_response, disconnection_request, disconnection_response, echo_request, echo_response, information_request, information_response}
use Rattle.l2cap_signal.specs.Reading.{Answer as Read}
use Rattle.l2cap_signal.specs.declared.refusal.SignalRefusal.TheVariants.{ZeroIdentifier, BadLength, UnknownCode, AboveMtu}
use Rattle.l2cap_config.specs.declared.options.Options.{Options}
use Rattle.l2cap_config.specs.declared.options.ConfigRefusal.{ConfigRefusal}
use Rattle.l2cap_config.specs.declared.agreement.ConfigAnswer.{ConfigAnswer}
use Rattle.l2cap_config.specs.declared.agreement.ConfigAnswer.TheVariants.{Accept, Unacceptable, Unknown}
use Rattle.l2cap_config.specs.declared.agreement.Settled.{Settled}
use Rattle.l2cap_config.specs.declared.agreement.Settled.TheVariants.{Accepted, Again, Wait, Never}
use Rattle.l2cap_config.specs.declared.wish.Wish.{Wish}
use Rattle.l2cap_config.specs.Items.{joined}
use Rattle.l2cap_config.specs.Reading.{options_read}
use Rattle.l2cap_config.specs.Agreement.{answered, agreed_on, settled}
use Rattle.channel_model.specs.declared.errand.Errand.TheVariants as errands
use Rattle.channel_model.specs.declared.event.ChannelEvent.{ChannelEvent}
use Rattle.channel_model.specs.declared.event.ChannelEvent.TheVariants.{Opened, Closed, Features}
use Rattle.channel_model.specs.declared.event.CloseReason.{CloseReason}
use Rattle.channel_model.specs.declared.event.CloseReason.TheVariants.{PeerClosed, Refused, NoAgreement, OwnClosed}
use Rattle.channel_model.specs.declared.request_kind.RequestKind.{RequestKind}
use Rattle.channel_model.specs.declared.request_kind.RequestKind.TheVariants as kinds
use Rattle.channel_model.specs.Value.{Request, Own, Unasked, Asking, Granted, Carrier, Setup, no_setup, Stage, Requested, Connected, Leaving, Closing, Crossed, Held, Remembered, Channels}
use Rattle.channel_model.specs.Policies.{Policy}
use Rattle.channel_model.specs.Changing.{has_own, held_at, is_stated, has_fcs_by, is_open, is_peer, setup_of, stage_with, with_setup, to_setup, to_stage, forgets, tells, is_leaving}
use Rattle.channel_model.specs.Telling.{any_reason, closes_for, is_told_closed}
use Rattle.channel_model.specs.Asking.{new_request, first_options, asks_options}
use Rattle.channel_model.specs.Closing.{closes, closes_at, peer_closes_at, ends_at}
use Rattle.channel_model.specs.Configuring.{Verdict, NoChannel, TooLate, Unreadable, Incomplete, Judged, judged_part, judged_read, judged_setup, judged_stage, verdict_on, new_carrier, accepted_setup, accepts_with, without_parts, refused_setup, follows_answer, follows_verdict, opens_if, granted_setup, grants}
use Rattle.channel_model.specs.Answers.{connection_result, kind_of_code, not_understood, too_long, remembered}
use Rattle.channel_model.specs.Following.{follows_setup, follows_configuration, follows_disconnection, follows, remembers, says, can_say, hears_new, hears_again, hears_kind}
use Rattle.channel_model.specs.Responses.{is_fresh_endpoint, connects, hears_connected, hears_grant_at, hears_grant, renewed_setup, hears_settled, hears_options, is_asked, hears_response_on, hears_response, hears_end, has_identifier, hears_features, features_in}
use Rattle.channel_model.specs.Hearing.{hears_content, hears_malformed, is_response_code, is_kind, hears_unread, hears_command, hears_commands}
use Rattle.channel_model.proofs.Lookups.{own_of, found-has, found-placed}
use Rattle.channel_model.proofs.Going.{OwnGoes, IsAccepted, CarrierGoes, SetupGoes, StageGoes, Walks, only-none, only-closed, closed-told, placed, ends-told, dropped}

-- ---- a channel of all

pub stays : (policy : Policy) (C : Carrier → Carrier → Type 0) (R : Channels → Channels → Type 0) (walks : Walks policy C R) (v : Channels) → R v v
stays policy C R walks v = walks.still v v refl refl refl

-- a channel that is found by its endpoint is found by its own
pub found-own : (own : ℕ) (v : Channels) (held : Held) → find (has_own own) v.held ≡ Some held → find (has_own held.own) v.held ≡ Some held
found-own own v held is = ap (λ n. find (has_own n) v.held) (found-has own_of own v.held held is) ∙ is

pub append_none : (events : List ChannelEvent) → events ≡ events ++ []
append_none [] = refl
append_none (event ∷ events) = ap (λ es. event ∷ es) (append_none events)

-- ---- options

pub own-same : (own : Own) → OwnGoes own own
own-same Unasked = tt
own-same (Asking request options) = tt
own-same Granted = tt

carrier-same : (wish : Wish) (C : Carrier → Carrier → Type 0) → ((carrier : Carrier) → C carrier carrier) → (opened : Bool) (carrier : Option Carrier) → CarrierGoes wish C opened carrier carrier
carrier-same wish C same opened None = tt
carrier-same wish C same opened (Some carrier) = inl (same carrier)

stated_on : (before after : Own) → OwnGoes before after → is_stated before ≡ true → is_stated after ≡ true
stated_on Unasked after goes is = cc
stated_on (Asking request options) Unasked goes is = elim goes [ ]
stated_on (Asking request options) (Asking again others) goes is = refl
stated_on (Asking request options) Granted goes is = refl
stated_on Granted Unasked goes is = elim goes [ ]
stated_on Granted (Asking request options) goes is = elim goes [ ]
stated_on Granted Granted goes is = refl

-- the carrier stays
pub setup-goes : (wish : Wish) (C : Carrier → Carrier → Type 0) → ((carrier : Carrier) → C carrier carrier) → (before after : Setup) → after.carrier ≡ before.carrier → OwnGoes before.own after.own → SetupGoes wish C before after
setup-goes wish C same before after is goes = record {
  own_goes = goes;
  carrier_goes = subst (CarrierGoes wish C (is_open before) before.carrier) (sym is) (carrier-same wish C same (is_open before) before.carrier);
  stated = λ stated some. stated_on before.own after.own goes (stated (sym (ap is_some is) ∙ some));
}

staged_goes : (wish : Wish) (C : Carrier → Carrier → Type 0) (stage : Stage) (before after : Setup) → setup_of stage ≡ Some before → SetupGoes wish C before after → StageGoes wish C stage (Some (stage_with after stage)) false
staged_goes wish C (Requested request) before after is goes = cc
staged_goes wish C (Connected peer setup) before after is goes = let same : before ≡ setup = cc in (refl, subst (λ s. SetupGoes wish C s after) same goes, refl)
staged_goes wish C (Leaving peer setup request) before after is goes = let same : before ≡ setup = cc in (refl, subst (λ s. SetupGoes wish C s after) same goes, refl)
staged_goes wish C (Closing peer request checked) before after is goes = cc
staged_goes wish C (Crossed peer request) before after is goes = cc

pub to-setup : (policy : Policy) (C : Carrier → Carrier → Type 0) (R : Channels → Channels → Type 0) (walks : Walks policy C R) (v w : Channels) (held : Held) (before after : Setup) → find (has_own held.own) v.held ≡ Some held
    → setup_of held.stage ≡ Some before → SetupGoes (policy.wish held.psm) C before after → w.held ≡ (to_setup held after v).held → w.next ≡ v.next → w.events ≡ v.events → R v w
to-setup policy C R walks v w held before after found is goes held_is next_is events_are =
    walks.moves v w held (Some (stage_with after held.stage)) []
    (placed policy C v w held (stage_with after held.stage) [] found held_is next_is (events_are ∙ append_none v.events) (only-none held) (staged_goes (policy.wish held.psm) C held.stage before after is goes))

-- the same setup in another place
pub with-found : (v : Channels) (held : Held) (after : Setup) → find (has_own held.own) v.held ≡ Some held → find (has_own held.own) (to_setup held after v).held ≡ Some (with_setup held after)
with-found v held after found = found-placed (with_setup held after) held v.held found

pub with-setup : (stage : Stage) (before after : Setup) → setup_of stage ≡ Some before → setup_of (stage_with after stage) ≡ Some after
with-setup (Requested request) before after is = cc
with-setup (Connected peer setup) before after is = refl
with-setup (Leaving peer setup request) before after is = refl
with-setup (Closing peer request checked) before after is = cc
with-setup (Crossed peer request) before after is = cc

-- ---- a channel is closed

pub closes-goes : (policy : Policy) (C : Carrier → Carrier → Type 0) (R : Channels → Channels → Type 0) (walks : Walks policy C R) (v : Channels) (held : Held) (reason : CloseReason) (stage : Stage) → held.stage ≡ stage
    → find (has_own held.own) v.held ≡ Some held → R v (closes_at stage reason held v)
closes-goes policy C R walks v held reason (Requested request) is found =
    walks.moves v (closes_at (Requested request) reason held v) held None (Closed held.own held.psm reason ∷ [])
    (dropped policy C v (closes_at (Requested request) reason held v) held (Closed held.own held.psm reason ∷ []) found refl refl refl (only-closed held reason)
    (ends-told (policy.wish held.psm) C held.stage (is_told_closed held.own (Closed held.own held.psm reason ∷ [])) (closed-told held.own held.psm reason)))
closes-goes policy C R walks v held reason (Connected peer setup) is found =
    let w : Channels = closes_at (Connected peer setup) reason held v in
    let more : List ChannelEvent = Closed held.own held.psm reason ∷ [] in
    walks.moves v w held (Some (Closing peer (new_request v) (has_fcs_by setup))) more
    (placed policy C v w held (Closing peer (new_request v) (has_fcs_by setup)) more found refl refl refl (only-closed held reason)
    (subst (λ s. StageGoes (policy.wish held.psm) C s (Some (Closing peer (new_request v) (has_fcs_by setup))) (is_told_closed held.own more)) (sym is) (refl, closed-told held.own held.psm reason)))
closes-goes policy C R walks v held reason (Leaving peer setup request) is found =
    let w : Channels = closes_at (Leaving peer setup request) reason held v in
    let more : List ChannelEvent = Closed held.own held.psm reason ∷ [] in
    walks.moves v w held (Some (Closing peer request (has_fcs_by setup))) more
    (placed policy C v w held (Closing peer request (has_fcs_by setup)) more found refl refl refl (only-closed held reason)
    (subst (λ s. StageGoes (policy.wish held.psm) C s (Some (Closing peer request (has_fcs_by setup))) (is_told_closed held.own more)) (sym is) (refl, closed-told held.own held.psm reason)))
closes-goes policy C R walks v held reason (Closing peer request checked) is found = stays policy C R walks v
closes-goes policy C R walks v held reason (Crossed peer request) is found = stays policy C R walks v

pub peer-closes-goes : (policy : Policy) (C : Carrier → Carrier → Type 0) (R : Channels → Channels → Type 0) (walks : Walks policy C R) (v : Channels) (held : Held) (stage : Stage) → held.stage ≡ stage
    → find (has_own held.own) v.held ≡ Some held → R v (peer_closes_at stage held v)
peer-closes-goes policy C R walks v held (Requested request) is found = stays policy C R walks v
peer-closes-goes policy C R walks v held (Connected peer setup) is found =
    walks.moves v (peer_closes_at (Connected peer setup) held v) held None (Closed held.own held.psm PeerClosed ∷ [])
    (dropped policy C v (peer_closes_at (Connected peer setup) held v) held (Closed held.own held.psm PeerClosed ∷ []) found refl refl refl (only-closed held PeerClosed)
    (ends-told (policy.wish held.psm) C held.stage (is_told_closed held.own (Closed held.own held.psm PeerClosed ∷ [])) (closed-told held.own held.psm PeerClosed)))
peer-closes-goes policy C R walks v held (Leaving peer setup request) is found =
    let w : Channels = peer_closes_at (Leaving peer setup request) held v in
    let more : List ChannelEvent = Closed held.own held.psm PeerClosed ∷ [] in
    walks.moves v w held (Some (Crossed peer request)) more
    (placed policy C v w held (Crossed peer request) more found refl refl refl (only-closed held PeerClosed)
    (subst (λ s. StageGoes (policy.wish held.psm) C s (Some (Crossed peer request)) (is_told_closed held.own more)) (sym is) (refl, closed-told held.own held.psm PeerClosed)))
peer-closes-goes policy C R walks v held (Closing peer request checked) is found =
    let w : Channels = to_stage held (Crossed peer request) v in
    walks.moves v w held (Some (Crossed peer request)) []
    (placed policy C v w held (Crossed peer request) [] found refl refl (append_none v.events) (only-none held)
    (subst (λ s. StageGoes (policy.wish held.psm) C s (Some (Crossed peer request)) false) (sym is) refl))
peer-closes-goes policy C R walks v held (Crossed peer request) is found = stays policy C R walks v

pub ends-goes : (policy : Policy) (C : Carrier → Carrier → Type 0) (R : Channels → Channels → Type 0) (walks : Walks policy C R) (v : Channels) (held : Held) (reason : CloseReason) (stage : Stage) → held.stage ≡ stage
    → find (has_own held.own) v.held ≡ Some held → R v (ends_at stage reason held v)
ends-goes policy C R walks v held reason (Requested request) is found = stays policy C R walks v
ends-goes policy C R walks v held reason (Connected peer setup) is found = stays policy C R walks v
ends-goes policy C R walks v held reason (Leaving peer setup request) is found =
    let w : Channels = ends_at (Leaving peer setup request) reason held v in
    walks.moves v w held None (Closed held.own held.psm reason ∷ [])
    (dropped policy C v w held (Closed held.own held.psm reason ∷ []) found refl refl refl (only-closed held reason)
    (ends-told (policy.wish held.psm) C held.stage (is_told_closed held.own (Closed held.own held.psm reason ∷ [])) (closed-told held.own held.psm reason)))
ends-goes policy C R walks v held reason (Closing peer request checked) is found =
    walks.moves v (ends_at (Closing peer request checked) reason held v) held None [] (dropped policy C v (ends_at (Closing peer request checked) reason held v) held [] found refl refl (append_none v.events) (only-none held)
    (subst (λ s. StageGoes (policy.wish held.psm) C s None false) (sym is) tt))
ends-goes policy C R walks v held reason (Crossed peer request) is found =
    walks.moves v (ends_at (Crossed peer request) reason held v) held None [] (dropped policy C v (ends_at (Crossed peer request) reason held v) held [] found refl refl (append_none v.events) (only-none held)
    (subst (λ s. StageGoes (policy.wish held.psm) C s None false) (sym is) tt))

-- ---- options of the peer

-- a verdict that follows from the options
abbrev pub Fair : Wish → Setup → Verdict → Type 0
Fair wish setup NoChannel = Unit {0}
Fair wish setup (TooLate peer) = Unit {0}
Fair wish setup (Unreadable peer) = Unit {0}
Fair wish setup (Incomplete peer options) = Unit {0}
Fair wish setup (Judged peer options answer) = (is_open setup ≡ false) × (answered wish options ≡ answer)

part_fair : (peer : ℕ) (wish : Wish) (setup : Setup) (options : Options) (more : Bool) → is_open setup ≡ false → Fair wish setup (judged_part more peer wish options)
part_fair peer wish setup options true shut = tt
part_fair peer wish setup options false shut = (shut, refl)

read_fair : (peer flags : ℕ) (wish : Wish) (setup : Setup) (found : Result Options ConfigRefusal) → is_open setup ≡ false → Fair wish setup (judged_read peer flags wish setup found)
read_fair peer flags wish setup (Ok options) shut = part_fair peer wish setup (joined setup.parts options) (eqb (flags % 2) 1) shut
read_fair peer flags wish setup (Err refusal) shut = tt

setup_fair : (peer flags : ℕ) (wish : Wish) (setup : Setup) (octets : List ℕ) → Fair wish setup (judged_setup peer flags wish setup octets)
setup_fair peer flags wish setup octets = by (is_open setup) refl
  where
    by : (opened : Bool) → is_open setup ≡ opened → Fair wish setup (cond opened (TooLate peer) (judged_read peer flags wish setup (options_read octets)))
    by true is = tt
    by false is = read_fair peer flags wish setup (options_read octets) is

verdict_fair : (policy : Policy) (held : Held) (setup : Setup) (flags : ℕ) (octets : List ℕ) (stage : Stage) → setup_of stage ≡ Some setup → Fair (policy.wish held.psm) setup (judged_stage stage (policy.wish held.psm) flags octets)
verdict_fair policy held setup flags octets (Requested request) is = cc
verdict_fair policy held setup flags octets (Connected peer s) is = let same : s ≡ setup = cc in subst (λ x. Fair (policy.wish held.psm) x (judged_setup peer flags (policy.wish held.psm) s octets)) same (setup_fair peer flags (policy.wish held.psm) s octets)
verdict_fair policy held setup flags octets (Leaving peer s request) is = let same : s ≡ setup = cc in subst (λ x. Fair (policy.wish held.psm) x (judged_setup peer flags (policy.wish held.psm) s octets)) same (setup_fair peer flags (policy.wish held.psm) s octets)
verdict_fair policy held setup flags octets (Closing peer request checked) is = cc
verdict_fair policy held setup flags octets (Crossed peer request) is = cc

-- a carrier in place of any before
new_goes : (wish : Wish) (C : Carrier → Carrier → Type 0) (opened : Bool) (before : Option Carrier) (after : Carrier) → opened ≡ false → IsAccepted wish after → CarrierGoes wish C opened before (Some after)
new_goes wish C opened None after shut accepted = accepted
new_goes wish C opened (Some before) after shut accepted = inr (shut, accepted)

accepted-goes : (wish : Wish) (C : Carrier → Carrier → Type 0) (options given : Options) (before after : Setup) → is_open before ≡ false → answered wish options ≡ Accept given → after.carrier ≡ Some (new_carrier (agreed_on wish options))
    → OwnGoes before.own after.own → is_stated after.own ≡ true → SetupGoes wish C before after
accepted-goes wish C options given before after shut accepts is goes stated = record {
  own_goes = goes;
  carrier_goes = subst (CarrierGoes wish C (is_open before) before.carrier) (sym is)
      (new_goes wish C (is_open before) before.carrier (new_carrier (agreed_on wish options)) shut (record { options = options; given = given; accepts = accepts; is = refl }));
  stated = λ before_stated some. stated;
}

opened_is : (held : Held) → (own : ℕ) → closes_for any_reason own (Opened held.own held.psm) ≡ false
opened_is held own = refl

accepts_by : (policy : Policy) (C : Carrier → Carrier → Type 0) (R : Channels → Channels → Type 0) (walks : Walks policy C R) (v : Channels) (held : Held) (setup : Setup) (options given : Options) (own : Own) → setup.own ≡ own
    → find (has_own held.own) v.held ≡ Some held → setup_of held.stage ≡ Some setup → is_open setup ≡ false → answered (policy.wish held.psm) options ≡ Accept given
    → R v (accepts_with own (policy.wish held.psm) held (accepted_setup (policy.wish held.psm) options setup) v)
accepts_by policy C R walks v held setup options given Unasked own_is found is shut accepts =
    let wish : Wish = policy.wish held.psm in
    let base : Setup = accepted_setup wish options setup in
    let after : Setup = record base { own = Asking (new_request v) (first_options wish) } in
    to-setup policy C R walks v (asks_options held base (first_options wish) v) held setup after found is
    (accepted-goes wish C options given setup after shut accepts refl (subst (λ o. OwnGoes o after.own) (sym own_is) tt) refl) refl refl refl
accepts_by policy C R walks v held setup options given (Asking request asked) own_is found is shut accepts =
    let wish : Wish = policy.wish held.psm in
    let after : Setup = accepted_setup wish options setup in
    to-setup policy C R walks v (to_setup held after v) held setup after found is
    (accepted-goes wish C options given setup after shut accepts refl (own-same setup.own) (ap is_stated own_is)) refl refl refl
accepts_by policy C R walks v held setup options given Granted own_is found is shut accepts =
    let wish : Wish = policy.wish held.psm in
    let after : Setup = accepted_setup wish options setup in
    let u : Channels = to_setup held after v in
    walks.both v u (accepts_with Granted wish held after v)
    (to-setup policy C R walks v u held setup after found is (accepted-goes wish C options given setup after shut accepts refl (own-same setup.own) (ap is_stated own_is)) refl refl refl)
    (walks.tells u (accepts_with Granted wish held after v) (Opened held.own held.psm) refl refl refl (opened_is held))

parts_go : (policy : Policy) (C : Carrier → Carrier → Type 0) (R : Channels → Channels → Type 0) (walks : Walks policy C R) (v : Channels) (held : Held) (setup after : Setup) → find (has_own held.own) v.held ≡ Some held → setup_of held.stage ≡ Some setup
    → after.carrier ≡ setup.carrier → after.own ≡ setup.own → R v (to_setup held after v)
parts_go policy C R walks v held setup after found is same own_is =
    to-setup policy C R walks v (to_setup held after v) held setup after found is
    (setup-goes (policy.wish held.psm) C walks.same setup after same (subst (OwnGoes setup.own) (sym own_is) (own-same setup.own))) refl refl refl

refuses_go : (policy : Policy) (C : Carrier → Carrier → Type 0) (R : Channels → Channels → Type 0) (walks : Walks policy C R) (v : Channels) (held : Held) (setup after : Setup) (third : Bool) → find (has_own held.own) v.held ≡ Some held → setup_of held.stage ≡ Some setup
    → after.carrier ≡ setup.carrier → after.own ≡ setup.own → R v (cond third (closes NoAgreement (with_setup held after) (to_setup held after v)) (to_setup held after v))
refuses_go policy C R walks v held setup after true found is same own_is =
    let u : Channels = to_setup held after v in
    walks.both v u (closes NoAgreement (with_setup held after) u) (parts_go policy C R walks v held setup after found is same own_is)
    (closes-goes policy C R walks u (with_setup held after) NoAgreement (stage_with after held.stage) refl (with-found v held after found))
refuses_go policy C R walks v held setup after false found is same own_is = parts_go policy C R walks v held setup after found is same own_is

answer_goes : (policy : Policy) (C : Carrier → Carrier → Type 0) (R : Channels → Channels → Type 0) (walks : Walks policy C R) (v : Channels) (held : Held) (setup : Setup) (options : Options) (answer : ConfigAnswer)
    → find (has_own held.own) v.held ≡ Some held → setup_of held.stage ≡ Some setup → is_open setup ≡ false → answered (policy.wish held.psm) options ≡ answer → R v (follows_answer answer (policy.wish held.psm) options held setup v)
answer_goes policy C R walks v held setup options (Accept given) found is shut accepts = accepts_by policy C R walks v held setup options given setup.own refl found is shut accepts
answer_goes policy C R walks v held setup options (Unacceptable refusal given) found is shut accepts =
    refuses_go policy C R walks v held setup (refused_setup setup) (nat_le 3 (refused_setup setup).refused) found is refl refl
answer_goes policy C R walks v held setup options Unknown found is shut accepts = parts_go policy C R walks v held setup (without_parts setup) found is refl refl

verdict_goes : (policy : Policy) (C : Carrier → Carrier → Type 0) (R : Channels → Channels → Type 0) (walks : Walks policy C R) (v : Channels) (held : Held) (setup : Setup) (verdict : Verdict)
    → find (has_own held.own) v.held ≡ Some held → setup_of held.stage ≡ Some setup → Fair (policy.wish held.psm) setup verdict → R v (follows_verdict verdict (policy.wish held.psm) held setup v)
verdict_goes policy C R walks v held setup NoChannel found is fair = stays policy C R walks v
verdict_goes policy C R walks v held setup (TooLate peer) found is fair = stays policy C R walks v
verdict_goes policy C R walks v held setup (Unreadable peer) found is fair = parts_go policy C R walks v held setup (without_parts setup) found is refl refl
verdict_goes policy C R walks v held setup (Incomplete peer options) found is fair =
    let after : Setup = record setup { parts = options } in
    parts_go policy C R walks v held setup after found is refl refl
verdict_goes policy C R walks v held setup (Judged peer options answer) found is (shut, says) = answer_goes policy C R walks v held setup options answer found is shut says

options_go : (policy : Policy) (C : Carrier → Carrier → Type 0) (R : Channels → Channels → Type 0) (walks : Walks policy C R) (v : Channels) (held : Held) (flags : ℕ) (octets : List ℕ) (setup : Option Setup)
    → find (has_own held.own) v.held ≡ Some held → setup_of held.stage ≡ setup → R v (follows_setup setup policy held flags octets v)
options_go policy C R walks v held flags octets None found is = stays policy C R walks v
options_go policy C R walks v held flags octets (Some setup) found is =
    subst (λ one. R v (follows_verdict one (policy.wish held.psm) held setup v)) (sym (ap (λ h. verdict_on h policy flags octets) found))
    (verdict_goes policy C R walks v held setup (judged_stage held.stage (policy.wish held.psm) flags octets) found is (verdict_fair policy held setup flags octets held.stage is))

-- ---- what follows from a request

configuration_goes : (policy : Policy) (C : Carrier → Carrier → Type 0) (R : Channels → Channels → Type 0) (walks : Walks policy C R) (v : Channels) (own flags : ℕ) (octets : List ℕ) (held : Option Held) → find (has_own own) v.held ≡ held
    → R v (follows_configuration held policy flags octets v)
configuration_goes policy C R walks v own flags octets None is = stays policy C R walks v
configuration_goes policy C R walks v own flags octets (Some held) is = options_go policy C R walks v held flags octets (setup_of held.stage) (found-own own v held is) refl

disconnection_goes : (policy : Policy) (C : Carrier → Carrier → Type 0) (R : Channels → Channels → Type 0) (walks : Walks policy C R) (v : Channels) (own peer : ℕ) (held : Option Held) → find (has_own own) v.held ≡ held
    → R v (follows_disconnection held peer v)
disconnection_goes policy C R walks v own peer None is = stays policy C R walks v
disconnection_goes policy C R walks v own peer (Some held) is = by (is_peer peer held.stage)
  where
    by : (same : Bool) → R v (cond same (peer_closes_at held.stage held v) v)
    by true = peer-closes-goes policy C R walks v held held.stage refl (found-own own v held is)
    by false = stays policy C R walks v

connection_goes : (policy : Policy) (C : Carrier → Carrier → Type 0) (R : Channels → Channels → Type 0) (walks : Walks policy C R) (v : Channels) (psm source : ℕ) (granted : Bool)
    → (let w : Channels = record v { held = v.held ++ record { psm = psm; own = v.next; stage = Connected source no_setup } ∷ []; next = v.next + 1 } in R v (cond granted w v))
connection_goes policy C R walks v psm source true =
    let w : Channels = record v { held = v.held ++ record { psm = psm; own = v.next; stage = Connected source no_setup } ∷ []; next = v.next + 1 } in
    walks.made v w psm (Connected source no_setup) refl refl refl refl
connection_goes policy C R walks v psm source false = stays policy C R walks v

pub follows-goes : (policy : Policy) (C : Carrier → Carrier → Type 0) (R : Channels → Channels → Type 0) (walks : Walks policy C R) (content : Content) (v : Channels) → R v (follows policy content v)
follows-goes policy C R walks (reject reason rest) v = stays policy C R walks v
follows-goes policy C R walks (connection_request psm source) v = connection_goes policy C R walks v psm source (eqb (connection_result policy psm source v) 0)
follows-goes policy C R walks (connection_response destination source answer status) v = stays policy C R walks v
follows-goes policy C R walks (configuration_request destination flags options) v = configuration_goes policy C R walks v destination flags options (held_at destination v) refl
follows-goes policy C R walks (configuration_response source flags answer options) v = stays policy C R walks v
follows-goes policy C R walks (disconnection_request destination source) v = disconnection_goes policy C R walks v destination source (held_at destination v) refl
follows-goes policy C R walks (disconnection_response destination source) v = stays policy C R walks v
follows-goes policy C R walks (echo_request octets) v = stays policy C R walks v
follows-goes policy C R walks (echo_response octets) v = stays policy C R walks v
follows-goes policy C R walks (information_request kind) v = stays policy C R walks v
follows-goes policy C R walks (information_response kind answer rest) v = stays policy C R walks v

-- ---- a request

says-goes : (policy : Policy) (C : Carrier → Carrier → Type 0) (R : Channels → Channels → Type 0) (walks : Walks policy C R) (v u : Channels) (identifier : ℕ) (response : Option Content) → u.held ≡ v.held → u.next ≡ v.next → u.events ≡ v.events
    → R v (says identifier response u)
says-goes policy C R walks v u identifier None held_is next_is events_are = walks.still v u held_is next_is events_are
says-goes policy C R walks v u identifier (Some response) held_is next_is events_are = walks.still v (says identifier (Some response) u) held_is next_is events_are

again-goes : (policy : Policy) (C : Carrier → Carrier → Type 0) (R : Channels → Channels → Type 0) (walks : Walks policy C R) (v : Channels) (identifier : ℕ) (response : Option Content) → R v (hears_again identifier response v)
again-goes policy C R walks v identifier response = by (can_say response v)
  where
    by : (can : Bool) → R v (cond can (says identifier response v) v)
    by true = says-goes policy C R walks v v identifier response refl refl refl
    by false = stays policy C R walks v

new-goes : (policy : Policy) (C : Carrier → Carrier → Type 0) (R : Channels → Channels → Type 0) (walks : Walks policy C R) (kind : RequestKind) (identifier : ℕ) (response : Option Content) (more : Channels → Channels) (v : Channels)
    → ((u : Channels) → R u (more u)) → R v (hears_new kind identifier response more v)
new-goes policy C R walks kind identifier response more v goes = by (can_say response v)
  where
    by : (can : Bool) → R v (cond can (more (says identifier response (remembers kind identifier response v))) v)
    by true =
        let u : Channels = says identifier response (remembers kind identifier response v) in
        walks.both v u (more u) (says-goes policy C R walks v (remembers kind identifier response v) identifier response refl refl refl) (goes u)
    by false = stays policy C R walks v

request-goes : (policy : Policy) (C : Carrier → Carrier → Type 0) (R : Channels → Channels → Type 0) (walks : Walks policy C R) (last : Option Remembered) (kind : RequestKind) (identifier : ℕ) (response : Option Content) (more : Channels → Channels) (v : Channels)
    → ((u : Channels) → R u (more u)) → R v (hears_kind last kind identifier response more v)
request-goes policy C R walks None kind identifier response more v goes = new-goes policy C R walks kind identifier response more v goes
request-goes policy C R walks (Some last) kind identifier response more v goes = by (eqb last.identifier identifier)
  where
    by : (again : Bool) → R v (cond again (hears_again identifier last.response v) (hears_new kind identifier response more v))
    by true = again-goes policy C R walks v identifier last.response
    by false = new-goes policy C R walks kind identifier response more v goes

-- ---- a response

pub grants-goes : (policy : Policy) (C : Carrier → Carrier → Type 0) (R : Channels → Channels → Type 0) (walks : Walks policy C R) (v : Channels) (held : Held) (setup : Setup) → find (has_own held.own) v.held ≡ Some held → setup_of held.stage ≡ Some setup
    → is_stated setup.own ≡ true → R v (grants held setup v)
grants-goes policy C R walks v held setup found is stated =
    walks.both v u (grants held setup v)
    (to-setup policy C R walks v u held setup (granted_setup setup) found is
    (setup-goes (policy.wish held.psm) C walks.same setup (granted_setup setup) refl (to_granted setup.own stated)) refl refl refl)
    (by (is_some setup.carrier))
  where
    u : Channels
    u = to_setup held (granted_setup setup) (forgets (errands.Configuration held.own) v)

    to_granted : (own : Own) → is_stated own ≡ true → OwnGoes own Granted
    to_granted Unasked is_made = cc
    to_granted (Asking request options) is_made = tt
    to_granted Granted is_made = tt

    by : (some : Bool) → R u (opens_if some held u)
    by true = walks.tells u (opens_if true held u) (Opened held.own held.psm) refl refl refl (opened_is held)
    by false = stays policy C R walks u

connects-goes : (policy : Policy) (C : Carrier → Carrier → Type 0) (R : Channels → Channels → Type 0) (walks : Walks policy C R) (v : Channels) (held : Held) (request : Request) (peer : ℕ) → held.stage ≡ Requested request
    → find (has_own held.own) v.held ≡ Some held → R v (connects (policy.wish held.psm) peer held v)
connects-goes policy C R walks v held request peer is found =
    let wish : Wish = policy.wish held.psm in
    let asked : Setup = record no_setup { own = Asking (new_request v) (first_options wish) } in
    let w : Channels = connects wish peer held v in
    walks.moves v w held (Some (Connected peer asked)) []
    (placed policy C v w held (Connected peer asked) [] found refl refl (append_none v.events) (only-none held)
    (subst (λ s. StageGoes wish C s (Some (Connected peer asked)) false) (sym is) (refl, refl)))

granted-goes : (policy : Policy) (C : Carrier → Carrier → Type 0) (R : Channels → Channels → Type 0) (walks : Walks policy C R) (v : Channels) (held : Held) (request : Request) (endpoint result : ℕ) → held.stage ≡ Requested request
    → find (has_own held.own) v.held ≡ Some held → R v (hears_connected policy endpoint result held v)
granted-goes policy C R walks v held request endpoint result is found = by (eqb result 0) (eqb result 1) (is_fresh_endpoint endpoint v)
  where
    by : (granted waits fresh : Bool) → R v (cond granted (cond fresh (connects (policy.wish held.psm) endpoint held v) v) (cond waits v (closes (Refused result) held v)))
    by true waits true = connects-goes policy C R walks v held request endpoint is found
    by true waits false = stays policy C R walks v
    by false true fresh = stays policy C R walks v
    by false false fresh = closes-goes policy C R walks v held (Refused result) held.stage refl found

grant_at : (policy : Policy) (C : Carrier → Carrier → Type 0) (R : Channels → Channels → Type 0) (walks : Walks policy C R) (v : Channels) (held : Held) (identifier endpoint result : ℕ) (stage : Stage) → held.stage ≡ stage
    → find (has_own held.own) v.held ≡ Some held → R v (hears_grant_at stage policy identifier endpoint result held v)
grant_at policy C R walks v held identifier endpoint result (Requested request) is found = by (eqb request.identifier identifier)
  where
    by : (same : Bool) → R v (cond same (hears_connected policy endpoint result held v) v)
    by true = granted-goes policy C R walks v held request endpoint result is found
    by false = stays policy C R walks v
grant_at policy C R walks v held identifier endpoint result (Connected peer setup) is found = stays policy C R walks v
grant_at policy C R walks v held identifier endpoint result (Leaving peer setup request) is found = stays policy C R walks v
grant_at policy C R walks v held identifier endpoint result (Closing peer request checked) is found = stays policy C R walks v
grant_at policy C R walks v held identifier endpoint result (Crossed peer request) is found = stays policy C R walks v

grant_goes : (policy : Policy) (C : Carrier → Carrier → Type 0) (R : Channels → Channels → Type 0) (walks : Walks policy C R) (v : Channels) (own identifier endpoint result : ℕ) (held : Option Held) → find (has_own own) v.held ≡ held
    → R v (hears_grant held policy identifier endpoint result v)
grant_goes policy C R walks v own identifier endpoint result None is = stays policy C R walks v
grant_goes policy C R walks v own identifier endpoint result (Some held) is = grant_at policy C R walks v held identifier endpoint result held.stage refl (found-own own v held is)

renews_go : (policy : Policy) (C : Carrier → Carrier → Type 0) (R : Channels → Channels → Type 0) (walks : Walks policy C R) (v : Channels) (held : Held) (setup after : Setup) (options : Options) (third : Bool) → find (has_own held.own) v.held ≡ Some held
    → setup_of held.stage ≡ Some setup → after.carrier ≡ setup.carrier → after.own ≡ setup.own → (request : Request) → OwnGoes setup.own (Asking request options)
    → request ≡ new_request v → R v (cond third (closes NoAgreement (with_setup held after) (to_setup held after v)) (asks_options held after options v))
renews_go policy C R walks v held setup after options true found is same own_is request goes new = refuses_go policy C R walks v held setup after true found is same own_is
renews_go policy C R walks v held setup after options false found is same own_is request goes new =
    let asked : Setup = record after { own = Asking (new_request v) options } in
    to-setup policy C R walks v (asks_options held after options v) held setup asked found is
    (setup-goes (policy.wish held.psm) C walks.same setup asked same (subst (λ r. OwnGoes setup.own (Asking r options)) new goes)) refl refl refl

asked_goes : (identifier : ℕ) (own : Own) (request : Request) (options : Options) → is_asked identifier own ≡ true → OwnGoes own (Asking request options)
asked_goes identifier Unasked request options is = cc
asked_goes identifier (Asking before others) request options is = tt
asked_goes identifier Granted request options is = cc

asked_stated : (identifier : ℕ) (own : Own) → is_asked identifier own ≡ true → is_stated own ≡ true
asked_stated identifier Unasked is = cc
asked_stated identifier (Asking before others) is = refl
asked_stated identifier Granted is = refl

settled_goes : (policy : Policy) (C : Carrier → Carrier → Type 0) (R : Channels → Channels → Type 0) (walks : Walks policy C R) (v : Channels) (held : Held) (setup : Setup) (identifier : ℕ) (now : Settled) → find (has_own held.own) v.held ≡ Some held
    → setup_of held.stage ≡ Some setup → is_asked identifier setup.own ≡ true → R v (hears_settled now held setup v)
settled_goes policy C R walks v held setup identifier Accepted found is asked = grants-goes policy C R walks v held setup found is (asked_stated identifier setup.own asked)
settled_goes policy C R walks v held setup identifier (Again options) found is asked =
    renews_go policy C R walks v held setup (renewed_setup setup) options (is_leaving held.stage || nat_le 3 (renewed_setup setup).renewed) found is refl refl (new_request v) (asked_goes identifier setup.own (new_request v) options asked) refl
settled_goes policy C R walks v held setup identifier Wait found is asked = stays policy C R walks v
settled_goes policy C R walks v held setup identifier Never found is asked = closes-goes policy C R walks v held NoAgreement held.stage refl found

response_by : (policy : Policy) (C : Carrier → Carrier → Type 0) (R : Channels → Channels → Type 0) (walks : Walks policy C R) (v : Channels) (held : Held) (setup : Setup) (identifier answer : ℕ) (found_options : Result Options ConfigRefusal) (asked : Bool)
    → is_asked identifier setup.own ≡ asked → find (has_own held.own) v.held ≡ Some held → setup_of held.stage ≡ Some setup → R v (cond asked (hears_options found_options policy answer held setup v) v)
response_by policy C R walks v held setup identifier answer (Ok options) true asked found is = settled_goes policy C R walks v held setup identifier (settled (policy.wish held.psm) answer options) found is asked
response_by policy C R walks v held setup identifier answer (Err refusal) true asked found is = stays policy C R walks v
response_by policy C R walks v held setup identifier answer found_options false asked found is = stays policy C R walks v

response_on : (policy : Policy) (C : Carrier → Carrier → Type 0) (R : Channels → Channels → Type 0) (walks : Walks policy C R) (v : Channels) (held : Held) (identifier answer : ℕ) (octets : List ℕ) (setup : Option Setup) → find (has_own held.own) v.held ≡ Some held
    → setup_of held.stage ≡ setup → R v (hears_response_on setup policy identifier answer octets held v)
response_on policy C R walks v held identifier answer octets None found is = stays policy C R walks v
response_on policy C R walks v held identifier answer octets (Some setup) found is = response_by policy C R walks v held setup identifier answer (options_read octets) (is_asked identifier setup.own) refl found is

response_goes : (policy : Policy) (C : Carrier → Carrier → Type 0) (R : Channels → Channels → Type 0) (walks : Walks policy C R) (v : Channels) (own identifier answer : ℕ) (octets : List ℕ) (held : Option Held) → find (has_own own) v.held ≡ held
    → R v (hears_response held policy identifier answer octets v)
response_goes policy C R walks v own identifier answer octets None is = stays policy C R walks v
response_goes policy C R walks v own identifier answer octets (Some held) is = response_on policy C R walks v held identifier answer octets (setup_of held.stage) (found-own own v held is) refl

end_goes : (policy : Policy) (C : Carrier → Carrier → Type 0) (R : Channels → Channels → Type 0) (walks : Walks policy C R) (v : Channels) (own peer : ℕ) (held : Option Held) → find (has_own own) v.held ≡ held → R v (hears_end held peer v)
end_goes policy C R walks v own peer None is = stays policy C R walks v
end_goes policy C R walks v own peer (Some held) is = by (is_peer peer held.stage)
  where
    by : (same : Bool) → R v (cond same (ends_at held.stage OwnClosed held v) v)
    by true = ends-goes policy C R walks v held OwnClosed held.stage refl (found-own own v held is)
    by false = stays policy C R walks v

features_go : (policy : Policy) (C : Carrier → Carrier → Type 0) (R : Channels → Channels → Type 0) (walks : Walks policy C R) (v : Channels) (identifier : ℕ) (features : Option ℕ) → R v (hears_features identifier features v)
features_go policy C R walks v identifier features = by (has_identifier identifier v.features)
  where
    by : (same : Bool) → R v (cond same (tells (Features features) (forgets errands.Features (record v { features = None }))) v)
    by true = walks.tells v (tells (Features features) (forgets errands.Features (record v { features = None }))) (Features features) refl refl refl (λ own. refl)
    by false = stays policy C R walks v

-- ---- a command

content-goes : (policy : Policy) (C : Carrier → Carrier → Type 0) (R : Channels → Channels → Type 0) (walks : Walks policy C R) (identifier : ℕ) (content : Content) (v : Channels) → R v (hears_content policy identifier content v)
content-goes policy C R walks identifier (reject reason rest) v = features_go policy C R walks v identifier None
content-goes policy C R walks identifier (connection_request psm source) v = request-goes policy C R walks v.memory.connection kinds.Connection identifier _ (follows policy (connection_request psm source)) v (follows-goes policy C R walks (connection_request psm source))
content-goes policy C R walks identifier (connection_response destination source answer status) v = grant_goes policy C R walks v source identifier destination answer (held_at source v) refl
content-goes policy C R walks identifier (configuration_request destination flags options) v =
    request-goes policy C R walks v.memory.configuration kinds.Configuration identifier _ (follows policy (configuration_request destination flags options)) v (follows-goes policy C R walks (configuration_request destination flags options))
content-goes policy C R walks identifier (configuration_response source flags answer options) v = response_goes policy C R walks v source identifier answer options (held_at source v) refl
content-goes policy C R walks identifier (disconnection_request destination source) v =
    request-goes policy C R walks v.memory.disconnection kinds.Disconnection identifier _ (follows policy (disconnection_request destination source)) v (follows-goes policy C R walks (disconnection_request destination source))
content-goes policy C R walks identifier (disconnection_response destination source) v = end_goes policy C R walks v source destination (held_at source v) refl
content-goes policy C R walks identifier (echo_request octets) v = request-goes policy C R walks v.memory.echo kinds.Echo identifier _ (follows policy (echo_request octets)) v (follows-goes policy C R walks (echo_request octets))
content-goes policy C R walks identifier (echo_response octets) v = stays policy C R walks v
content-goes policy C R walks identifier (information_request kind) v = request-goes policy C R walks v.memory.information kinds.Information identifier _ (follows policy (information_request kind)) v (follows-goes policy C R walks (information_request kind))
content-goes policy C R walks identifier (information_response kind answer rest) v = features_go policy C R walks v identifier (features_in kind answer rest)

malformed_goes : (policy : Policy) (C : Carrier → Carrier → Type 0) (R : Channels → Channels → Type 0) (walks : Walks policy C R) (kind : Option RequestKind) (identifier : ℕ) (v : Channels) → R v (hears_malformed kind identifier v)
malformed_goes policy C R walks None identifier v = stays policy C R walks v
malformed_goes policy C R walks (Some kind) identifier v = request-goes policy C R walks (remembered kind v.memory) kind identifier (Some not_understood) (λ w. w) v (stays policy C R walks)

unread_goes : (policy : Policy) (C : Carrier → Carrier → Type 0) (R : Channels → Channels → Type 0) (walks : Walks policy C R) (code identifier : ℕ) (v : Channels) → R v (hears_unread code identifier v)
unread_goes policy C R walks code identifier v = by (eqb identifier 0) (is_response_code code) (is_kind (kind_of_code code))
  where
    by : (none response kind : Bool) → R v (cond none v (cond response v (cond kind (hears_malformed (kind_of_code code) identifier v) (hears_again identifier (Some not_understood) v))))
    by true response kind = stays policy C R walks v
    by false true kind = stays policy C R walks v
    by false false true = malformed_goes policy C R walks (kind_of_code code) identifier v
    by false false false = again-goes policy C R walks v identifier (Some not_understood)

long_goes : (policy : Policy) (C : Carrier → Carrier → Type 0) (R : Channels → Channels → Type 0) (walks : Walks policy C R) (identifier : ℕ) (v : Channels) (none : Bool) → R v (cond none v (hears_again identifier (Some too_long) v))
long_goes policy C R walks identifier v true = stays policy C R walks v
long_goes policy C R walks identifier v false = again-goes policy C R walks v identifier (Some too_long)

pub command-goes : (policy : Policy) (C : Carrier → Carrier → Type 0) (R : Channels → Channels → Type 0) (walks : Walks policy C R) (one : Read) (v : Channels) → R v (hears_command policy one v)
command-goes policy C R walks (Ok command) v = content-goes policy C R walks command.identifier command.content v
command-goes policy C R walks (Err (ZeroIdentifier code identifier)) v = stays policy C R walks v
command-goes policy C R walks (Err (BadLength code None)) v = stays policy C R walks v
command-goes policy C R walks (Err (BadLength code (Some identifier))) v = unread_goes policy C R walks code identifier v
command-goes policy C R walks (Err (UnknownCode code None)) v = stays policy C R walks v
command-goes policy C R walks (Err (UnknownCode code (Some identifier))) v = unread_goes policy C R walks code identifier v
command-goes policy C R walks (Err (AboveMtu code None)) v = stays policy C R walks v
command-goes policy C R walks (Err (AboveMtu code (Some identifier))) v = long_goes policy C R walks identifier v (eqb identifier 0)

pub commands-go : (policy : Policy) (C : Carrier → Carrier → Type 0) (R : Channels → Channels → Type 0) (walks : Walks policy C R) (given : List Read) (v : Channels) → R v (hears_commands policy given v)
commands-go policy C R walks [] v = stays policy C R walks v
commands-go policy C R walks (one ∷ given) v =
    let u : Channels = hears_command policy one v in
    walks.both v u (hears_commands policy given u) (command-goes policy C R walks one v) (commands-go policy C R walks given u)
