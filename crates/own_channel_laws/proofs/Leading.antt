-- Whatever happens but a firing, a host that offers no channel asks for the options of a channel that it leaves as often as for its end.
use Rattle.std.proofs.Common.{◌≡◌, ℕ, ◌+◌, ◌≤◌, List, [], ◌∷◌, ◌++◌, drop, Bool, true, false, cond, ◌||◌, eqb, not, Option, Some, None, Result, Ok, Err, refl, sym, ap, subst, ◌∙◌, arith}
use Rattle.std.specs.Prelude.{find, filter, option_map, is_some, length, nat_le, nat_lt}
use Rattle.std.specs.Option.{option_or}
use Rattle.std.specs.List.{list_any}
use Rattle.talk_laws.specs.acl_fragments.specs.Pieces.{channel_of}
use Rattle.talk_laws.specs.l2cap_signal.specs.Commands.{Content, reject, connection_request, connection_response, configuration_request, configuration_response, disconnection_request, disconnection_response, echo_request, echo_response, information_request, information_response}
use Rattle.talk_laws.specs.l2cap_signal.specs.Reading.{Answer as Read, answers}
use Rattle.talk_laws.specs.l2cap_signal.specs.declared.refusal.SignalRefusal.TheVariants.{ZeroIdentifier, BadLength, UnknownCode, AboveMtu}
use Rattle.talk_laws.specs.l2cap_config.specs.declared.options.Options.{Options}
use Rattle.talk_laws.specs.l2cap_config.specs.declared.options.ConfigRefusal.{ConfigRefusal}
use Rattle.talk_laws.specs.l2cap_config.specs.declared.agreement.ConfigAnswer.{ConfigAnswer}
use Rattle.talk_laws.specs.l2cap_config.specs.declared.agreement.ConfigAnswer.TheVariants.{Accept, Unacceptable, Unknown}
use Rattle.talk_laws.specs.l2cap_config.specs.declared.agreement.Settled.{Settled}
use Rattle.talk_laws.specs.l2cap_config.specs.declared.agreement.Settled.TheVariants.{Accepted, Again, Wait, Never}
use Rattle.talk_laws.specs.l2cap_config.specs.declared.wish.Wish.{Wish}
use Rattle.talk_laws.specs.l2cap_config.specs.Reading.{options_read}
use Rattle.talk_laws.specs.l2cap_config.specs.Agreement.{settled}
use Rattle.channel_model.specs.ertm_model.specs.declared.reason.ErtmReason.{ErtmReason}
use Rattle.channel_model.specs.ertm_model.specs.Value.{Ertm}
use Rattle.channel_model.specs.declared.errand.Errand.{Errand}
use Rattle.channel_model.specs.declared.errand.Errand.TheVariants as errands
use Rattle.channel_model.specs.declared.event.ChannelEvent.TheVariants.{Features}
use Rattle.channel_model.specs.declared.event.CloseReason.{CloseReason}
use Rattle.channel_model.specs.declared.event.CloseReason.TheVariants.{NoAgreement, Refused, OwnClosed}
use Rattle.channel_model.specs.declared.request_kind.RequestKind.{RequestKind}
use Rattle.channel_model.specs.declared.request_kind.RequestKind.TheVariants as kinds
use Rattle.channel_model.specs.Value.{Request, Queued, Answer, Ask, Own, Unasked, Asking, Granted, Carrier, Plain, Retransmitting, Setup, no_setup, Stage, Requested, Connected, Leaving, Closing, Crossed, Held, Remembered, Channels}
use Rattle.channel_model.specs.Policies.{Policy}
use Rattle.channel_model.specs.Changing.{has_own, has_fcs_by, has_peer, held_at, is_peer, is_leaving, is_open, setup_of, stage_with, with_setup, to_setup, is_copy, is_copy_about, forgets, tells}
use Rattle.channel_model.specs.Asking.{new_request, asks, first_options, asks_options}
use Rattle.channel_model.specs.Closing.{closes, closes_at, peer_closes_at, ends, ends_at}
use Rattle.channel_model.specs.Configuring.{Verdict, NoChannel, TooLate, Unreadable, Incomplete, Judged, verdict, accepted_setup, without_parts, accepts_with, refused_setup, follows_answer, follows_verdict, opens_if, granted_setup, grants}
use Rattle.channel_model.specs.Answers.{kind_of_code, remembered, not_understood, too_long, answer_to}
use Rattle.channel_model.specs.Following.{with_channel, follows_connection, follows_setup, follows_configuration, follows_disconnection, follows, remembers, says, can_say, hears_new, hears_again, hears_kind}
use Rattle.channel_model.specs.Responses.{is_fresh_endpoint, connects, hears_connected, hears_grant_at, hears_grant, renewed_setup, hears_settled, hears_options, is_asked, hears_response_on, hears_response, hears_end, has_identifier, hears_features, features_in}
use Rattle.channel_model.specs.Hearing.{hears_content, hears_malformed, is_response_code, is_kind, hears_unread, hears_command, hears_commands}
use Rattle.channel_model.specs.Carrying.{reason_of, settles_machine, machine_heard, read_by, carries, is_taken_with, shows, opens_with, takes_with, takes_on, takes_held, takes}
use Rattle.channel_model.specs.Giving.{gives, connection_given, configuration_given, disconnection_given, stage_given, counted, carrier_given, carrier_spent, held_given, queue_given}
use Rattle.channel_model.specs.Calls.{disconnected_at, disconnected_held, sends_setup, sends_on, sends_held, carrier_with}
use Rattle.channel_model.proofs.Lookups.{own_of, Distinct, found-has, find-append, found-distinct, eqb-same, eqb-away}
use Rattle.channel_model.proofs.Going.{new_held}
use Rattle.channel_model.proofs.Walking.{found-own, with-found, with-setup}
use Rattle.channel_model.proofs.Calling.{granted-same}
use Rattle.own_channel_laws.specs.Pace.{OffersNothing}
use Rattle.own_channel_laws.specs.Runs.{Comes, value_after}
use Rattle.own_channel_laws.proofs.Marking.{marks, unnamed, marks-append, marks-answer, marks-forgotten, marks-asked, marks-gone, connection-apart, features-apart, options-apart, end-apart, ones, ones-last, zeros-last, lag-last, ends-forgotten}
use Rattle.own_channel_laws.proofs.Pacing.{lead, Paced, StagePaced, FoundPaced, KeepsPace, At, paced-at, Others, still-paced, moves-paced, drops-paced, none-paced, setup-paced, granted-paced, never-unasked, options-given, end-given, call-given}

pub either : (b : Bool) (x y : Channels) → KeepsPace x → KeepsPace y → KeepsPace (cond b x y)
either true x y one other = one
either false x y one other = other

same_others : (own : ℕ) (v : Channels) → Others own v v
same_others own v n apart = refl

-- copies of the request for options wait no more
forgotten_others : (own : ℕ) (v : Channels) → Others own v (forgets (errands.Configuration own) v)
forgotten_others own v n apart = marks-forgotten n (errands.Configuration own) v.queue (options-apart own n apart)

-- ---- a channel is closed

gone_paced : (v w : Channels) (held : Held) → w.held ≡ filter (λ other. not (eqb other.own held.own)) v.held → w.queue ≡ filter (λ x. not (is_copy_about held.own x)) v.queue → KeepsPace v → KeepsPace w
gone_paced v w held held_is queue_is k = drops-paced v w held held_is (λ n apart. ap (marks n) queue_is ∙ marks-gone held.own n v.queue apart) k

closes_paced : (v : Channels) (held : Held) (reason : CloseReason) (stage : Stage) → At v held → KeepsPace v → KeepsPace (closes_at stage reason held v)
closes_paced v held reason (Requested request) found k = gone_paced v (closes_at (Requested request) reason held v) held refl refl k
closes_paced v held reason (Connected peer setup) found k =
    let u : Channels = forgets (errands.Configuration held.own) v in
    moves-paced v (closes_at (Connected peer setup) reason held v) held (Closing peer (new_request v) (has_fcs_by setup)) found refl
    (λ n apart. marks-asked n (errands.Disconnection held.own) u.queue (eqb-away held.own n apart) (end-apart held.own n apart) ∙ forgotten_others held.own v n apart) tt k
closes_paced v held reason (Leaving peer setup request) found k =
    moves-paced v (closes_at (Leaving peer setup request) reason held v) held (Closing peer request (has_fcs_by setup)) found refl (forgotten_others held.own v) tt k
closes_paced v held reason (Closing peer request checked) found k = k
closes_paced v held reason (Crossed peer request) found k = k

pub close : (v : Channels) (held : Held) (reason : CloseReason) → At v held → KeepsPace v → KeepsPace (closes reason held v)
close v held reason found k = closes_paced v held reason held.stage found k

peer_paced : (v : Channels) (held : Held) (stage : Stage) → At v held → KeepsPace v → KeepsPace (peer_closes_at stage held v)
peer_paced v held (Requested request) found k = k
peer_paced v held (Connected peer setup) found k = gone_paced v (peer_closes_at (Connected peer setup) held v) held refl refl k
peer_paced v held (Leaving peer setup request) found k = moves-paced v (peer_closes_at (Leaving peer setup request) held v) held (Crossed peer request) found refl (forgotten_others held.own v) tt k
peer_paced v held (Closing peer request checked) found k = moves-paced v (peer_closes_at (Closing peer request checked) held v) held (Crossed peer request) found refl (same_others held.own v) tt k
peer_paced v held (Crossed peer request) found k = k

pub ends-paced : (v : Channels) (held : Held) (reason : CloseReason) (stage : Stage) → KeepsPace v → KeepsPace (ends_at stage reason held v)
ends-paced v held reason (Requested request) k = k
ends-paced v held reason (Connected peer setup) k = k
ends-paced v held reason (Leaving peer setup request) k = gone_paced v (ends_at (Leaving peer setup request) reason held v) held refl refl k
ends-paced v held reason (Closing peer request checked) k = gone_paced v (ends_at (Closing peer request checked) reason held v) held refl refl k
ends-paced v held reason (Crossed peer request) k = gone_paced v (ends_at (Crossed peer request) reason held v) held refl refl k

-- ---- options

abbrev pub Has : Held → Setup → Type 0
Has held setup = setup_of held.stage ≡ Some setup

-- the own request for them stays as it was
pub set-up : (v w : Channels) (held : Held) (setup after : Setup) → At v held → Has held setup → after.own ≡ setup.own → w.held ≡ (to_setup held after v).held → w.queue ≡ v.queue → KeepsPace v → KeepsPace w
set-up v w held setup after found is same held_is queue_is k =
    moves-paced v w held (stage_with after held.stage) found held_is (λ n apart. ap (marks n) queue_is)
    (subst (λ (q : List Queued). StagePaced (stage_with after held.stage) (marks held.own q)) (sym queue_is) (setup-paced held.stage setup after (marks held.own v.queue) is same (paced-at v held found k))) k

-- a new request waits as its one copy
asked_once : (own : ℕ) (queue : List Queued) (request : Request) → 1 ≤ ones (marks own (queue ++ Ask (errands.Configuration own) ∷ [])) + request.given
asked_once own queue request =
    let whole = ap ones (marks-append own queue (Ask (errands.Configuration own)) ∙ ap (λ b. marks own queue ++ cond b (true ∷ []) []) (eqb-same own)) in
    let last = ones-last (marks own queue) true in
    omega (arith, whole, last)

-- of a channel whose end the host did not ask for
anew_paced : (stage : Stage) (after : Setup) (request : Request) (options : Options) (ms : List Bool) → is_leaving stage ≡ false → after.own ≡ Asking request options → 1 ≤ ones ms + request.given → StagePaced (stage_with after stage) ms
anew_paced (Requested r) after request options ms there own some = tt
anew_paced (Connected peer setup) after request options ms there own some = subst (λ (o : Own). Paced None o ms) (sym own) some
anew_paced (Leaving peer setup r) after request options ms there own some = cc
anew_paced (Closing peer r checked) after request options ms there own some = tt
anew_paced (Crossed peer r) after request options ms there own some = tt

asked_paced : (v : Channels) (held : Held) (after : Setup) (options : Options) → At v held → is_leaving held.stage ≡ false → KeepsPace v → KeepsPace (asks_options held after options v)
asked_paced v held after options found there k =
    let asked : Setup = record after { own = Asking (new_request v) options } in
    moves-paced v (asks_options held after options v) held (stage_with asked held.stage) found refl
    (λ n apart. marks-asked n (errands.Configuration held.own) v.queue (eqb-away held.own n apart) (options-apart held.own n apart))
    (anew_paced held.stage asked (new_request v) options (marks held.own (asks_options held after options v).queue) there refl
    (asked_once held.own (filter (λ x. not (is_copy (errands.Configuration held.own) x)) v.queue) (new_request v))) k

opened : (b : Bool) (held : Held) (v : Channels) → KeepsPace v → KeepsPace (opens_if b held v)
opened true held v k = k
opened false held v k = k

grants_paced : (v : Channels) (held : Held) (setup : Setup) → At v held → KeepsPace v → KeepsPace (grants held setup v)
grants_paced v held setup found k =
    let after : Setup = granted_setup setup in
    let w : Channels = to_setup held after (forgets (errands.Configuration held.own) v) in
    opened (is_some setup.carrier) held w (moves-paced v w held (stage_with after held.stage) found refl (forgotten_others held.own v) (granted-paced held.stage after (marks held.own w.queue) refl) k)

third_paced : (v : Channels) (held : Held) (setup after : Setup) → after.own ≡ setup.own → At v held → Has held setup → KeepsPace v → KeepsPace (closes NoAgreement (with_setup held after) (to_setup held after v))
third_paced v held setup after same found is k =
    let u : Channels = to_setup held after v in close u (with_setup held after) NoAgreement (with-found v held after found) (set-up v u held setup after found is same refl refl k)

accepts_paced : (v : Channels) (own : Own) (wish : Wish) (held : Held) (setup after : Setup) → setup.own ≡ own → after.own ≡ setup.own → At v held → Has held setup → KeepsPace v → KeepsPace (accepts_with own wish held after v)
accepts_paced v Unasked wish held setup after own same found is k = absurd (never-unasked held.stage setup (marks held.own v.queue) is own (paced-at v held found k))
accepts_paced v (Asking request options) wish held setup after own same found is k = set-up v (to_setup held after v) held setup after found is same refl refl k
accepts_paced v Granted wish held setup after own same found is k = set-up v (accepts_with Granted wish held after v) held setup after found is same refl refl k

answer_paced : (v : Channels) (answer : ConfigAnswer) (wish : Wish) (options : Options) (held : Held) (setup : Setup) → At v held → Has held setup → KeepsPace v → KeepsPace (follows_answer answer wish options held setup v)
answer_paced v (Accept given) wish options held setup found is k = accepts_paced v setup.own wish held setup (accepted_setup wish options setup) refl refl found is k
answer_paced v (Unacceptable refusal given) wish options held setup found is k =
    let after : Setup = refused_setup setup in
    either (nat_le 3 after.refused) (closes NoAgreement (with_setup held after) (to_setup held after v)) (to_setup held after v) (third_paced v held setup after refl found is k) (set-up v (to_setup held after v) held setup after found is refl refl refl k)
answer_paced v Unknown wish options held setup found is k = set-up v (to_setup held (without_parts setup) v) held setup (without_parts setup) found is refl refl refl k

verdict_paced : (v : Channels) (now : Verdict) (wish : Wish) (held : Held) (setup : Setup) → At v held → Has held setup → KeepsPace v → KeepsPace (follows_verdict now wish held setup v)
verdict_paced v NoChannel wish held setup found is k = k
verdict_paced v (TooLate peer) wish held setup found is k = k
verdict_paced v (Unreadable peer) wish held setup found is k = set-up v (to_setup held (without_parts setup) v) held setup (without_parts setup) found is refl refl refl k
verdict_paced v (Incomplete peer options) wish held setup found is k = let after : Setup = record setup { parts = options } in set-up v (to_setup held after v) held setup after found is refl refl refl k
verdict_paced v (Judged peer options answer) wish held setup found is k = answer_paced v answer wish options held setup found is k

setup_follows : (v : Channels) (setup : Option Setup) (policy : Policy) (held : Held) (flags : ℕ) (octets : List ℕ) → At v held → setup_of held.stage ≡ setup → KeepsPace v → KeepsPace (follows_setup setup policy held flags octets v)
setup_follows v None policy held flags octets found is k = k
setup_follows v (Some setup) policy held flags octets found is k = verdict_paced v (verdict policy held.own flags octets v) (policy.wish held.psm) held setup found is k

configuration_paced : (v : Channels) (own : ℕ) (found : Option Held) (policy : Policy) (flags : ℕ) (octets : List ℕ) → held_at own v ≡ found → KeepsPace v → KeepsPace (follows_configuration found policy flags octets v)
configuration_paced v own None policy flags octets is k = k
configuration_paced v own (Some held) policy flags octets is k = setup_follows v (setup_of held.stage) policy held flags octets (found-own own v held is) refl k

disconnection_paced : (v : Channels) (own : ℕ) (found : Option Held) (peer : ℕ) → held_at own v ≡ found → KeepsPace v → KeepsPace (follows_disconnection found peer v)
disconnection_paced v own None peer is k = k
disconnection_paced v own (Some held) peer is k = either (is_peer peer held.stage) (peer_closes_at held.stage held v) v (peer_paced v held held.stage (found-own own v held is) k) k

follows_paced : (policy : Policy) → OffersNothing policy → (content : Content) (v : Channels) → KeepsPace v → KeepsPace (follows policy content v)
follows_paced policy none (reject reason rest) v k = k
follows_paced policy none (connection_request psm source) v k =
    subst (λ b. KeepsPace (follows_connection (cond (not b) 2 (cond (nat_le 4 (length v.held)) 4 (cond (nat_lt 0xFFFF v.next) 4 (cond (nat_lt source 0x0040) 6 (cond (list_any (has_peer source) v.held) 7 0))))) psm source v)) (sym (none psm)) k
follows_paced policy none (connection_response destination source answer status) v k = k
follows_paced policy none (configuration_request destination flags options) v k = configuration_paced v destination (held_at destination v) policy flags options refl k
follows_paced policy none (configuration_response source flags answer options) v k = k
follows_paced policy none (disconnection_request destination source) v k = disconnection_paced v destination (held_at destination v) source refl k
follows_paced policy none (disconnection_response destination source) v k = k
follows_paced policy none (echo_request octets) v k = k
follows_paced policy none (echo_response octets) v k = k
follows_paced policy none (information_request kind) v k = k
follows_paced policy none (information_response kind answer rest) v k = k

-- ---- what the peer responds

connects_paced : (v : Channels) (wish : Wish) (endpoint : ℕ) (held : Held) → At v held → KeepsPace v → KeepsPace (connects wish endpoint held v)
connects_paced v wish endpoint held found k =
    let asked : Setup = record no_setup { own = Asking (new_request v) (first_options wish) } in
    let u : Channels = forgets (errands.Connection held.own) v in
    moves-paced v (connects wish endpoint held v) held (Connected endpoint asked) found refl
    (λ n apart. marks-asked n (errands.Configuration held.own) u.queue (eqb-away held.own n apart) (options-apart held.own n apart) ∙ marks-forgotten n (errands.Connection held.own) v.queue (connection-apart held.own n))
    (asked_once held.own (filter (λ x. not (is_copy (errands.Configuration held.own) x)) u.queue) (new_request v)) k

connected_paced : (v : Channels) (policy : Policy) (endpoint result : ℕ) (held : Held) → At v held → KeepsPace v → KeepsPace (hears_connected policy endpoint result held v)
connected_paced v policy endpoint result held found k =
    let made : Channels = connects (policy.wish held.psm) endpoint held v in
    let refused : Channels = closes (Refused result) held v in
    either (eqb result 0) (cond (is_fresh_endpoint endpoint v) made v) (cond (eqb result 1) v refused) (either (is_fresh_endpoint endpoint v) made v (connects_paced v (policy.wish held.psm) endpoint held found k) k)
    (either (eqb result 1) v refused k (close v held (Refused result) found k))

grant_at : (v : Channels) (stage : Stage) (policy : Policy) (identifier endpoint result : ℕ) (held : Held) → At v held → KeepsPace v → KeepsPace (hears_grant_at stage policy identifier endpoint result held v)
grant_at v (Requested request) policy identifier endpoint result held found k = either (eqb request.identifier identifier) (hears_connected policy endpoint result held v) v (connected_paced v policy endpoint result held found k) k
grant_at v (Connected peer setup) policy identifier endpoint result held found k = k
grant_at v (Leaving peer setup request) policy identifier endpoint result held found k = k
grant_at v (Closing peer request checked) policy identifier endpoint result held found k = k
grant_at v (Crossed peer request) policy identifier endpoint result held found k = k

grant_paced : (v : Channels) (own : ℕ) (found : Option Held) (policy : Policy) (identifier endpoint result : ℕ) → held_at own v ≡ found → KeepsPace v → KeepsPace (hears_grant found policy identifier endpoint result v)
grant_paced v own None policy identifier endpoint result is k = k
grant_paced v own (Some held) policy identifier endpoint result is k = grant_at v held.stage policy identifier endpoint result held (found-own own v held is) k

settled_paced : (v : Channels) (now : Settled) (held : Held) (setup : Setup) → At v held → Has held setup → KeepsPace v → KeepsPace (hears_settled now held setup v)
settled_paced v Accepted held setup found is k = grants_paced v held setup found k
settled_paced v (Again options) held setup found is k = by (is_leaving held.stage) refl
  where
    after : Setup
    after = renewed_setup setup

    shut : Channels
    shut = closes NoAgreement (with_setup held after) (to_setup held after v)

    by : (b : Bool) → is_leaving held.stage ≡ b → KeepsPace (cond (b || nat_le 3 after.renewed) shut (asks_options held after options v))
    by true there = third_paced v held setup after refl found is k
    by false there = either (nat_le 3 after.renewed) shut (asks_options held after options v) (third_paced v held setup after refl found is k) (asked_paced v held after options found there k)
settled_paced v Wait held setup found is k = k
settled_paced v Never held setup found is k = close v held NoAgreement found k

options_paced : (v : Channels) (given : Result Options ConfigRefusal) (policy : Policy) (result : ℕ) (held : Held) (setup : Setup) → At v held → Has held setup → KeepsPace v → KeepsPace (hears_options given policy result held setup v)
options_paced v (Ok options) policy result held setup found is k = settled_paced v (settled (policy.wish held.psm) result options) held setup found is k
options_paced v (Err refusal) policy result held setup found is k = k

response_on : (v : Channels) (setup : Option Setup) (policy : Policy) (identifier result : ℕ) (octets : List ℕ) (held : Held) → At v held → setup_of held.stage ≡ setup → KeepsPace v → KeepsPace (hears_response_on setup policy identifier result octets held v)
response_on v None policy identifier result octets held found is k = k
response_on v (Some setup) policy identifier result octets held found is k =
    either (is_asked identifier setup.own) (hears_options (options_read octets) policy result held setup v) v (options_paced v (options_read octets) policy result held setup found is k) k

response_paced : (v : Channels) (own : ℕ) (found : Option Held) (policy : Policy) (identifier result : ℕ) (octets : List ℕ) → held_at own v ≡ found → KeepsPace v → KeepsPace (hears_response found policy identifier result octets v)
response_paced v own None policy identifier result octets is k = k
response_paced v own (Some held) policy identifier result octets is k = response_on v (setup_of held.stage) policy identifier result octets held (found-own own v held is) refl k

end_paced : (v : Channels) (found : Option Held) (peer : ℕ) → KeepsPace v → KeepsPace (hears_end found peer v)
end_paced v None peer k = k
end_paced v (Some held) peer k = either (is_peer peer held.stage) (ends OwnClosed held v) v (ends-paced v held OwnClosed held.stage k) k

features_paced : (v : Channels) (identifier : ℕ) (given : Option ℕ) → KeepsPace v → KeepsPace (hears_features identifier given v)
features_paced v identifier given k =
    let w : Channels = tells (Features given) (forgets errands.Features (record v { features = None })) in
    either (has_identifier identifier v.features) w v (still-paced v w refl (λ n. marks-forgotten n errands.Features v.queue (features-apart n)) k) k

-- ---- commands

says_paced : (v : Channels) (identifier : ℕ) (response : Option Content) → KeepsPace v → KeepsPace (says identifier response v)
says_paced v identifier None k = k
says_paced v identifier (Some content) k = still-paced v (says identifier (Some content) v) refl (λ n. marks-answer n v.queue (Answer (record { identifier = identifier; content = content })) refl) k

new_paced : (v : Channels) (kind : RequestKind) (identifier : ℕ) (response : Option Content) (more : Channels → Channels) → ((u : Channels) → KeepsPace u → KeepsPace (more u)) → KeepsPace v → KeepsPace (hears_new kind identifier response more v)
new_paced v kind identifier response more goes k =
    let t : Channels = remembers kind identifier response v in
    let u : Channels = says identifier response t in
    either (can_say response v) (more u) v (goes u (says_paced t identifier response k)) k

again_paced : (v : Channels) (identifier : ℕ) (response : Option Content) → KeepsPace v → KeepsPace (hears_again identifier response v)
again_paced v identifier response k = either (can_say response v) (says identifier response v) v (says_paced v identifier response k) k

kind_paced : (v : Channels) (last : Option Remembered) (kind : RequestKind) (identifier : ℕ) (response : Option Content) (more : Channels → Channels) → ((u : Channels) → KeepsPace u → KeepsPace (more u)) → KeepsPace v → KeepsPace (hears_kind last kind identifier response more v)
kind_paced v None kind identifier response more goes k = new_paced v kind identifier response more goes k
kind_paced v (Some last) kind identifier response more goes k =
    either (eqb last.identifier identifier) (hears_again identifier last.response v) (hears_new kind identifier response more v) (again_paced v identifier last.response k) (new_paced v kind identifier response more goes k)

content_paced : (policy : Policy) → OffersNothing policy → (identifier : ℕ) (content : Content) (v : Channels) → KeepsPace v → KeepsPace (hears_content policy identifier content v)
content_paced policy none identifier (reject reason rest) v k = features_paced v identifier None k
content_paced policy none identifier (connection_request psm source) v k = let c : Content = connection_request psm source in kind_paced v v.memory.connection kinds.Connection identifier (answer_to policy c v) (follows policy c) (follows_paced policy none c) k
content_paced policy none identifier (connection_response destination source answer status) v k = grant_paced v source (held_at source v) policy identifier destination answer refl k
content_paced policy none identifier (configuration_request destination flags options) v k = let c : Content = configuration_request destination flags options in kind_paced v v.memory.configuration kinds.Configuration identifier (answer_to policy c v) (follows policy c) (follows_paced policy none c) k
content_paced policy none identifier (configuration_response source flags answer options) v k = response_paced v source (held_at source v) policy identifier answer options refl k
content_paced policy none identifier (disconnection_request destination source) v k = let c : Content = disconnection_request destination source in kind_paced v v.memory.disconnection kinds.Disconnection identifier (answer_to policy c v) (follows policy c) (follows_paced policy none c) k
content_paced policy none identifier (disconnection_response destination source) v k = end_paced v (held_at source v) destination k
content_paced policy none identifier (echo_request octets) v k = let c : Content = echo_request octets in kind_paced v v.memory.echo kinds.Echo identifier (answer_to policy c v) (follows policy c) (follows_paced policy none c) k
content_paced policy none identifier (echo_response octets) v k = k
content_paced policy none identifier (information_request kind) v k = let c : Content = information_request kind in kind_paced v v.memory.information kinds.Information identifier (answer_to policy c v) (follows policy c) (follows_paced policy none c) k
content_paced policy none identifier (information_response kind answer rest) v k = features_paced v identifier (features_in kind answer rest) k

malformed_paced : (kind : Option RequestKind) (identifier : ℕ) (v : Channels) → KeepsPace v → KeepsPace (hears_malformed kind identifier v)
malformed_paced None identifier v k = k
malformed_paced (Some kind) identifier v k = kind_paced v (remembered kind v.memory) kind identifier (Some not_understood) (λ w. w) (λ u now. now) k

unread_paced : (code identifier : ℕ) (v : Channels) → KeepsPace v → KeepsPace (hears_unread code identifier v)
unread_paced code identifier v k =
    let malformed : Channels = hears_malformed (kind_of_code code) identifier v in
    let again : Channels = hears_again identifier (Some not_understood) v in
    either (eqb identifier 0) v (cond (is_response_code code) v (cond (is_kind (kind_of_code code)) malformed again)) k
    (either (is_response_code code) v (cond (is_kind (kind_of_code code)) malformed again) k
    (either (is_kind (kind_of_code code)) malformed again (malformed_paced (kind_of_code code) identifier v k) (again_paced v identifier (Some not_understood) k)))

command_paced : (policy : Policy) → OffersNothing policy → (one : Read) (v : Channels) → KeepsPace v → KeepsPace (hears_command policy one v)
command_paced policy none (Ok command) v k = content_paced policy none command.identifier command.content v k
command_paced policy none (Err (ZeroIdentifier code identifier)) v k = k
command_paced policy none (Err (BadLength code None)) v k = k
command_paced policy none (Err (BadLength code (Some identifier))) v k = unread_paced code identifier v k
command_paced policy none (Err (UnknownCode code None)) v k = k
command_paced policy none (Err (UnknownCode code (Some identifier))) v k = unread_paced code identifier v k
command_paced policy none (Err (AboveMtu code None)) v k = k
command_paced policy none (Err (AboveMtu code (Some identifier))) v k = either (eqb identifier 0) v (hears_again identifier (Some too_long) v) k (again_paced v identifier (Some too_long) k)

commands_paced : (policy : Policy) → OffersNothing policy → (list : List Read) (v : Channels) → KeepsPace v → KeepsPace (hears_commands policy list v)
commands_paced policy none [] v k = k
commands_paced policy none (one ∷ list) v k = commands_paced policy none list (hears_command policy one v) (command_paced policy none one v k)

-- ---- a PDU on a channel

settles_paced : (v : Channels) (closed : Option ErtmReason) (machine : Ertm) (held : Held) (setup : Setup) → At v held → Has held setup → KeepsPace v → KeepsPace (settles_machine closed machine held setup v)
settles_paced v None machine held setup found is k = let after : Setup = record setup { carrier = Some (Retransmitting machine) } in set-up v (to_setup held after v) held setup after found is refl refl refl k
settles_paced v (Some reason) machine held setup found is k = close v held (reason_of reason) found k

carries_paced : (v : Channels) (carrier : Carrier) (pdu : List ℕ) (held : Held) (setup : Setup) → At v held → Has held setup → KeepsPace v → KeepsPace (carries carrier pdu held setup v)
carries_paced v (Plain agreed waiting) pdu held setup found is k = k
carries_paced v (Retransmitting machine) pdu held setup found is k = let after : Ertm = machine_heard (read_by machine pdu) machine in settles_paced v after.closed after held setup found is k

opened_paced : (v : Channels) (pdu : List ℕ) (held : Held) (setup : Setup) (carrier : Carrier) (own : Own) → setup.own ≡ own → At v held → Has held setup → KeepsPace v
    → KeepsPace (cond (is_taken_with own carrier pdu) (carries carrier pdu (with_setup held (granted_setup setup)) (granted_setup setup) (opens_with own held setup v)) v)
opened_paced v pdu held setup carrier Unasked own_is found is k = k
opened_paced v pdu held setup carrier (Asking request options) own_is found is k =
    let u : Channels = grants held setup v in
    let w : Channels = carries carrier pdu (with_setup held (granted_setup setup)) (granted_setup setup) u in
    either (shows carrier pdu) w v
    (carries_paced u carrier pdu (with_setup held (granted_setup setup)) (granted_setup setup) (there (is_some setup.carrier)) (with-setup held.stage setup (granted_setup setup) is) (grants_paced v held setup found k)) k
  where
    there : (b : Bool) → find (has_own held.own) (opens_if b held (to_setup held (granted_setup setup) (forgets (errands.Configuration held.own) v))).held ≡ Some (with_setup held (granted_setup setup))
    there true = with-found v held (granted_setup setup) found
    there false = with-found v held (granted_setup setup) found
opened_paced v pdu held setup carrier Granted own_is found is k =
    let same : with_setup held (granted_setup setup) ≡ held = ap (λ (s : Stage). let h : Held = record held { stage = s } in h) (granted-same held.stage setup is own_is) in
    carries_paced v carrier pdu (with_setup held (granted_setup setup)) (granted_setup setup) (found ∙ ap Some (sym same)) (with-setup held.stage setup (granted_setup setup) is) k

taken_with : (v : Channels) (carrier : Option Carrier) (pdu : List ℕ) (held : Held) (setup : Setup) → At v held → Has held setup → KeepsPace v → KeepsPace (takes_with carrier pdu held setup v)
taken_with v None pdu held setup found is k = k
taken_with v (Some carrier) pdu held setup found is k = opened_paced v pdu held setup carrier setup.own refl found is k

taken_on : (v : Channels) (setup : Option Setup) (pdu : List ℕ) (held : Held) → At v held → setup_of held.stage ≡ setup → KeepsPace v → KeepsPace (takes_on setup pdu held v)
taken_on v None pdu held found is k = k
taken_on v (Some setup) pdu held found is k = taken_with v setup.carrier pdu held setup found is k

taken_held : (v : Channels) (own : ℕ) (found : Option Held) (pdu : List ℕ) → held_at own v ≡ found → KeepsPace v → KeepsPace (takes_held found pdu v)
taken_held v own None pdu is k = k
taken_held v own (Some held) pdu is k = taken_on v (setup_of held.stage) pdu held (found-own own v held is) refl k

pub comes-paced : (policy : Policy) → OffersNothing policy → (pdu : List ℕ) (v : Channels) → KeepsPace v → KeepsPace (value_after policy (Comes pdu) v)
comes-paced policy none pdu v k =
    either (eqb (channel_of pdu) 0x0001) (hears_commands policy (answers (drop 4 pdu)) v) (takes (channel_of pdu) pdu v) (commands_paced policy none (answers (drop 4 pdu)) v k) (taken_held v (channel_of pdu) (held_at (channel_of pdu) v) pdu refl k)

-- ---- what the host does by itself

-- a channel that is asked for asks for nothing else
pub called-paced : (v : Channels) (psm : ℕ) → KeepsPace v → KeepsPace (asks (errands.Connection v.next) (with_channel psm (Requested (new_request v)) v))
called-paced v psm k n =
    subst (λ (h : Option Held). FoundPaced h (marks n w.queue)) (sym (find-append own_of n v.held new))
    (subst (λ (ms : List Bool). FoundPaced (option_or (held_at n v) (cond (eqb v.next n) (Some new) None)) ms) (sym (marks-asked n (errands.Connection v.next) v.queue refl (connection-apart v.next n))) (by (held_at n v) (eqb v.next n) (k n)))
  where
    new : Held
    new = new_held psm v.next (Requested (new_request v))

    w : Channels
    w = asks (errands.Connection v.next) (with_channel psm (Requested (new_request v)) v)

    by : (found : Option Held) (t : Bool) → FoundPaced found (marks n v.queue) → FoundPaced (option_or found (cond t (Some new) None)) (marks n v.queue)
    by None true now = tt
    by None false now = tt
    by (Some held) t now = now

pub asks-paced : (v : Channels) → KeepsPace v → KeepsPace (asks errands.Features (record v { features = Some (new_request v) }))
asks-paced v k = still-paced v (asks errands.Features (record v { features = Some (new_request v) })) refl (λ n. marks-asked n errands.Features v.queue refl (features-apart n)) k

-- the end is asked for once
left_own : (own : Own) (queue : List Queued) (n : ℕ) (request : Request) → request.given ≡ 0 → Paced None own (marks n queue) → Paced (Some request) own (marks n (filter (λ x. not (is_copy (errands.Disconnection n) x)) queue ++ Ask (errands.Disconnection n) ∷ []))
left_own Unasked queue n request new never = never
left_own (Asking asked options) queue n request new now =
    let rest : List Queued = filter (λ x. not (is_copy (errands.Disconnection n) x)) queue in
    let ms : List Bool = marks n rest in
    let whole : marks n (rest ++ Ask (errands.Disconnection n) ∷ []) ≡ ms ++ false ∷ [] = marks-append n rest (Ask (errands.Disconnection n)) ∙ ap (λ b. ms ++ cond b (false ∷ []) []) (eqb-same n) in
    subst (λ (bs : List Bool). lead (Some request) bs ≤ ones bs + asked.given) (sym whole)
    (let both = ends-forgotten n queue in
    let none = both.0 in
    let same = both.1 in
    let zero = zeros-last ms false in
    let one = ones-last ms false in
    let last = lag-last ms false in
    omega (arith, none, same, zero, one, last, new, now))
left_own Granted queue n request new now = tt

left_at : (v : Channels) (held : Held) (stage : Stage) → held.stage ≡ stage → At v held → KeepsPace v → KeepsPace (disconnected_at stage held v)
left_at v held (Requested request) is found k = close v held OwnClosed found k
left_at v held (Connected peer setup) is found k =
    moves-paced v (disconnected_at (Connected peer setup) held v) held (Leaving peer setup (new_request v)) found refl
    (λ n apart. marks-asked n (errands.Disconnection held.own) v.queue (eqb-away held.own n apart) (end-apart held.own n apart))
    (left_own setup.own v.queue held.own (new_request v) refl (subst (λ s. StagePaced s (marks held.own v.queue)) is (paced-at v held found k))) k
left_at v held (Leaving peer setup request) is found k = k
left_at v held (Closing peer request checked) is found k = k
left_at v held (Crossed peer request) is found k = k

pub left-held : (v : Channels) (own : ℕ) (found : Option Held) → held_at own v ≡ found → KeepsPace v → KeepsPace (disconnected_held found v)
left-held v own None is k = k
left-held v own (Some held) is k = left_at v held held.stage refl (found-own own v held is) k

sent_own : (setup : Setup) (sdu : List ℕ) → (sends_setup setup sdu).own ≡ setup.own
sent_own setup sdu = by (is_open setup)
  where
    by : (b : Bool) → (let after : Setup = record setup { carrier = option_map (λ carrier. carrier_with carrier sdu) setup.carrier } in (cond b after setup).own ≡ setup.own)
    by true = refl
    by false = refl

sent_on : (v : Channels) (setup : Option Setup) (sdu : List ℕ) (held : Held) → At v held → setup_of held.stage ≡ setup → KeepsPace v → KeepsPace (sends_on setup sdu held v)
sent_on v None sdu held found is k = k
sent_on v (Some setup) sdu held found is k = set-up v (to_setup held (sends_setup setup sdu) v) held setup (sends_setup setup sdu) found is (sent_own setup sdu) refl refl k

pub sent-held : (v : Channels) (own : ℕ) (found : Option Held) (sdu : List ℕ) → held_at own v ≡ found → KeepsPace v → KeepsPace (sends_held found sdu v)
sent-held v own None sdu is k = k
sent-held v own (Some held) sdu is k = sent_on v (setup_of held.stage) sdu held (found-own own v held is) refl k

-- ---- the next PDU is given

abbrev waiting : List Queued → Channels → Channels
waiting queue v = record v { queue = queue }

-- of the channel that it is about
own_mark : (own : ℕ) (b : Bool) (ms : List Bool) → cond (eqb own own) (b ∷ ms) ms ≡ b ∷ ms
own_mark own b ms = ap (λ t. cond t (b ∷ ms) ms) (eqb-same own)

options_counted : (v : Channels) (own : ℕ) (behind : List Queued) (found : Option Held) → held_at own v ≡ found → KeepsPace (waiting (Ask (errands.Configuration own) ∷ behind) v) → KeepsPace (stage_given configuration_given found (waiting behind v))
options_counted v own behind None is k =
    none-paced own (waiting (Ask (errands.Configuration own) ∷ behind) v) (waiting behind v) is refl (λ n apart. sym (unnamed n (errands.Configuration own) (marks n behind) (eqb-away own n apart))) k
options_counted v own behind (Some held) is k =
    let u : Channels = waiting (Ask (errands.Configuration own) ∷ behind) v in
    let here : held.own ≡ own = found-has own_of own v.held held is in
    let found : At u held = found-own own v held is in
    let mine : StagePaced held.stage (true ∷ marks held.own behind) =
    subst (StagePaced held.stage) (ap (λ m. cond (eqb held.own m) (true ∷ marks held.own behind) (marks held.own behind)) (sym here) ∙ own_mark held.own true (marks held.own behind)) (paced-at u held found k) in
    moves-paced u (stage_given configuration_given (Some held) (waiting behind v)) held (configuration_given held.stage) found refl
    (λ n apart. sym (unnamed n (errands.Configuration own) (marks n behind) (ap (eqb n) (sym here) ∙ eqb-away held.own n apart)))
    (options-given held.stage (marks held.own behind) mine) k

end_counted : (v : Channels) (own : ℕ) (behind : List Queued) (found : Option Held) → held_at own v ≡ found → KeepsPace (waiting (Ask (errands.Disconnection own) ∷ behind) v) → KeepsPace (stage_given disconnection_given found (waiting behind v))
end_counted v own behind None is k =
    none-paced own (waiting (Ask (errands.Disconnection own) ∷ behind) v) (waiting behind v) is refl (λ n apart. sym (unnamed n (errands.Disconnection own) (marks n behind) (eqb-away own n apart))) k
end_counted v own behind (Some held) is k =
    let u : Channels = waiting (Ask (errands.Disconnection own) ∷ behind) v in
    let here : held.own ≡ own = found-has own_of own v.held held is in
    let found : At u held = found-own own v held is in
    let mine : StagePaced held.stage (false ∷ marks held.own behind) =
    subst (StagePaced held.stage) (ap (λ m. cond (eqb held.own m) (false ∷ marks held.own behind) (marks held.own behind)) (sym here) ∙ own_mark held.own false (marks held.own behind)) (paced-at u held found k) in
    moves-paced u (stage_given disconnection_given (Some held) (waiting behind v)) held (disconnection_given held.stage) found refl
    (λ n apart. sym (unnamed n (errands.Disconnection own) (marks n behind) (ap (eqb n) (sym here) ∙ eqb-away held.own n apart)))
    (end-given held.stage (marks held.own behind) mine) k

call_counted : (v : Channels) (own : ℕ) (behind : List Queued) (found : Option Held) → held_at own v ≡ found → KeepsPace (waiting behind v) → KeepsPace (stage_given connection_given found (waiting behind v))
call_counted v own behind None is k = k
call_counted v own behind (Some held) is k =
    let u : Channels = waiting behind v in
    let found : At u held = found-own own v held is in
    moves-paced u (stage_given connection_given (Some held) u) held (connection_given held.stage) found refl (same_others held.own u) (call-given held.stage (marks held.own behind) (paced-at u held found k)) k

counted_paced : (v : Channels) (errand : Errand) (behind : List Queued) → KeepsPace (waiting (Ask errand ∷ behind) v) → KeepsPace (counted errand (waiting behind v))
counted_paced v (errands.Connection own) behind k = call_counted v own behind (held_at own v) refl k
counted_paced v (errands.Configuration own) behind k = options_counted v own behind (held_at own v) refl k
counted_paced v (errands.Disconnection own) behind k = end_counted v own behind (held_at own v) refl k
counted_paced v errands.Features behind k = k

spent_paced : (v : Channels) (setup : Option Setup) (held : Held) → At v held → setup_of held.stage ≡ setup → KeepsPace v → KeepsPace (carrier_spent setup held v)
spent_paced v None held found is k = k
spent_paced v (Some setup) held found is k = let after : Setup = record setup { carrier = option_map carrier_given setup.carrier } in set-up v (to_setup held after v) held setup after found is refl refl refl k

held_paced : (v : Channels) (found : Option Held) → Distinct own_of v.held → find gives v.held ≡ found → KeepsPace v → KeepsPace (held_given found v)
held_paced v None lone is k = k
held_paced v (Some held) lone is k = spent_paced v (setup_of held.stage) held (found-distinct own_of gives v.held held lone is) refl k

pub gives-paced : (v : Channels) (queue : List Queued) → v.queue ≡ queue → Distinct own_of v.held → KeepsPace v → KeepsPace (queue_given queue v)
gives-paced v [] is lone k = held_paced v (find gives v.held) lone refl k
gives-paced v (Answer command ∷ behind) is lone k = still-paced v (waiting behind v) refl (λ n. sym (ap (marks n) is)) k
gives-paced v (Ask errand ∷ behind) is lone k = counted_paced v errand behind (subst (λ q. KeepsPace (waiting q v)) is k)
