-- What a host asks of its peer's features, and what it remembers of its answers, changes only with a question or an answer.
use Rattle.std.proofs.Common.{◌≡◌, ℕ, List, [], ◌∷◌, ◌++◌, Bool, true, false, cond, eqb, not, Option, Some, None, Result, Ok, Err, refl, ap, ◌∙◌, ◌||◌}
use Rattle.std.specs.Prelude.{find, filter, option_map, is_some, nat_le}
use Rattle.talk_laws.specs.l2cap_signal.specs.Commands.{Content, reject, connection_request, connection_response, configuration_request, configuration_response, disconnection_request, disconnection_response, echo_request, echo_response, information_request, information_response}
use Rattle.talk_laws.specs.l2cap_config.specs.declared.options.Options.{Options}
use Rattle.talk_laws.specs.l2cap_config.specs.declared.options.ConfigRefusal.{ConfigRefusal}
use Rattle.talk_laws.specs.l2cap_config.specs.declared.agreement.ConfigAnswer.{ConfigAnswer}
use Rattle.talk_laws.specs.l2cap_config.specs.declared.agreement.ConfigAnswer.TheVariants.{Accept, Unacceptable, Unknown}
use Rattle.talk_laws.specs.l2cap_config.specs.declared.agreement.Settled.{Settled}
use Rattle.talk_laws.specs.l2cap_config.specs.declared.agreement.Settled.TheVariants.{Accepted, Again, Wait, Never}
use Rattle.talk_laws.specs.l2cap_config.specs.declared.wish.Wish.{Wish}
use Rattle.talk_laws.specs.l2cap_config.specs.Reading.{options_read}
use Rattle.talk_laws.specs.l2cap_config.specs.Agreement.{settled}
use Rattle.channel_model.specs.ertm_model.specs.declared.reason.ErtmReason.{ErtmReason}
use Rattle.channel_model.specs.ertm_model.specs.Value.{Ertm}
use Rattle.channel_model.specs.ertm_model.specs.Giving.{timed}
use Rattle.channel_model.specs.declared.errand.Errand.{Errand}
use Rattle.channel_model.specs.declared.errand.Errand.TheVariants as errands
use Rattle.channel_model.specs.declared.event.CloseReason.{CloseReason}
use Rattle.channel_model.specs.declared.event.CloseReason.TheVariants.{NoAgreement, Refused, OwnClosed, RetryLimit}
use Rattle.channel_model.specs.Value.{Request, Queued, Answer, Ask, Own, Unasked, Asking, Granted, Carrier, Plain, Retransmitting, Setup, no_setup, Stage, Requested, Connected, Leaving, Closing, Crossed, Held, Channels}
use Rattle.channel_model.specs.Policies.{Policy}
use Rattle.talk_laws.specs.l2cap_signal.specs.Commands.{Command}
use Rattle.channel_model.specs.Changing.{is_copy, is_copy_about, forgets, held_at, is_peer, setup_of, stage_with, with_setup, to_setup, is_leaving}
use Rattle.channel_model.specs.Asking.{new_request, asks, asks_options, Fired, StillDue, OnceMore, Spent, fired}
use Rattle.channel_model.specs.Closing.{closes, closes_at, peer_closes_at, ends_at, ends}
use Rattle.channel_model.specs.Configuring.{Verdict, NoChannel, TooLate, Unreadable, Incomplete, Judged, verdict, accepted_setup, accepts_with, refused_setup, follows_answer, follows_verdict, opens_if, granted_setup, grants}
use Rattle.channel_model.specs.Answers.{connection_result}
use Rattle.channel_model.specs.Following.{with_channel, follows_setup, follows_configuration, follows_disconnection, follows}
use Rattle.channel_model.specs.Responses.{is_fresh_endpoint, connects, hears_connected, hears_grant_at, hears_grant, renewed_setup, hears_settled, hears_options, is_asked, hears_response_on, hears_response, hears_end}
use Rattle.channel_model.specs.Carrying.{reason_of, settles_machine, machine_heard, read_by, carries, is_taken_with, opens_with, takes_with, takes_on, takes_held, takes}
use Rattle.channel_model.specs.Timing.{fires, times_carrier, times_setup, times_stage, times_held, loses_end, times_end_at, times_end}
use Rattle.channel_model.specs.Giving.{gives, one_more, stage_given, counted, carrier_spent, held_given, queue_given, after_given}
use Rattle.channel_model.specs.Calls.{can_connect, connected, disconnected_at, disconnected_held, disconnected, sends_on, sends_held, sends}

-- the identifier of the question for the peer's features, where it waits
abbrev pub asked_by : Option Request → Option ℕ
asked_by features = option_map (λ (r : Request). r.identifier) features

-- the answers that wait to be given
abbrev pub answers_of : List Queued → List Command
answers_of [] = []
answers_of (Answer command ∷ queue) = command ∷ answers_of queue
answers_of (Ask errand ∷ queue) = answers_of queue

pub answers-asked : (queue : List Queued) (errand : Errand) → answers_of (queue ++ Ask errand ∷ []) ≡ answers_of queue
answers-asked [] errand = refl
answers-asked (Answer command ∷ queue) errand = ap (λ cs. command ∷ cs) (answers-asked queue errand)
answers-asked (Ask other ∷ queue) errand = answers-asked queue errand

answers_less : (keeps : Queued → Bool) (queue : List Queued) → ((command : Command) → keeps (Answer command) ≡ true) → answers_of (filter keeps queue) ≡ answers_of queue
answers_less keeps [] all = refl
answers_less keeps (Answer command ∷ queue) all = ap (λ t. answers_of (cond t (Answer command ∷ filter keeps queue) (filter keeps queue))) (all command) ∙ ap (λ cs. command ∷ cs) (answers_less keeps queue all)
answers_less keeps (Ask errand ∷ queue) all = by (keeps (Ask errand)) (answers_less keeps queue all)
  where
    by : (kept : Bool) → answers_of (filter keeps queue) ≡ answers_of queue → answers_of (cond kept (Ask errand ∷ filter keeps queue) (filter keeps queue)) ≡ answers_of queue
    by true later = later
    by false later = later

pub forgotten : (errand : Errand) (queue : List Queued) → answers_of (filter (λ x. not (is_copy errand x)) queue) ≡ answers_of queue
forgotten errand queue = answers_less (λ x. not (is_copy errand x)) queue (λ command. refl)

gone_with : (own : ℕ) (queue : List Queued) → answers_of (filter (λ x. not (is_copy_about own x)) queue) ≡ answers_of queue
gone_with own queue = answers_less (λ x. not (is_copy_about own x)) queue (λ command. refl)

pub asked-with : (errand : Errand) (queue : List Queued) → answers_of (filter (λ x. not (is_copy errand x)) queue ++ Ask errand ∷ []) ≡ answers_of queue
asked-with errand queue = answers-asked (filter (λ x. not (is_copy errand x)) queue) errand ∙ forgotten errand queue

abbrev pub Lasts : Channels → Channels → Type 0
Lasts v w = (asked_by w.features ≡ asked_by v.features) × (w.memory ≡ v.memory) × (answers_of w.queue ≡ answers_of v.queue)

pub both-last : (v u w : Channels) → Lasts v u → Lasts u w → Lasts v w
both-last v u w (features, memory, answers) (features', memory', answers') = (features' ∙ features, memory' ∙ memory, answers' ∙ answers)

either : (b : Bool) (v x y : Channels) → Lasts v x → Lasts v y → Lasts v (cond b x y)
either true v x y one other = one
either false v x y one other = other

-- ---- a channel is closed

closes_lasts : (v : Channels) (held : Held) (reason : CloseReason) (stage : Stage) → Lasts v (closes_at stage reason held v)
closes_lasts v held reason (Requested request) = (refl, refl, gone_with held.own v.queue)
closes_lasts v held reason (Connected peer setup) =
    (refl, refl, asked-with (errands.Disconnection held.own) (filter (λ x. not (is_copy (errands.Configuration held.own) x)) v.queue) ∙ forgotten (errands.Configuration held.own) v.queue)
closes_lasts v held reason (Leaving peer setup request) = (refl, refl, forgotten (errands.Configuration held.own) v.queue)
closes_lasts v held reason (Closing peer request checked) = (refl, refl, refl)
closes_lasts v held reason (Crossed peer request) = (refl, refl, refl)

peer_lasts : (v : Channels) (held : Held) (stage : Stage) → Lasts v (peer_closes_at stage held v)
peer_lasts v held (Requested request) = (refl, refl, refl)
peer_lasts v held (Connected peer setup) = (refl, refl, gone_with held.own v.queue)
peer_lasts v held (Leaving peer setup request) = (refl, refl, forgotten (errands.Configuration held.own) v.queue)
peer_lasts v held (Closing peer request checked) = (refl, refl, refl)
peer_lasts v held (Crossed peer request) = (refl, refl, refl)

ends_last : (v : Channels) (held : Held) (reason : CloseReason) (stage : Stage) → Lasts v (ends_at stage reason held v)
ends_last v held reason (Requested request) = (refl, refl, refl)
ends_last v held reason (Connected peer setup) = (refl, refl, refl)
ends_last v held reason (Leaving peer setup request) = (refl, refl, gone_with held.own v.queue)
ends_last v held reason (Closing peer request checked) = (refl, refl, gone_with held.own v.queue)
ends_last v held reason (Crossed peer request) = (refl, refl, gone_with held.own v.queue)

-- ---- what follows from a request of the peer

opened_lasts : (b : Bool) (held : Held) (v : Channels) → Lasts v (opens_if b held v)
opened_lasts true held v = (refl, refl, refl)
opened_lasts false held v = (refl, refl, refl)

grants_last : (v : Channels) (held : Held) (setup : Setup) → Lasts v (grants held setup v)
grants_last v held setup =
    let u : Channels = to_setup held (granted_setup setup) (forgets (errands.Configuration held.own) v) in
    both-last v u (opens_if (is_some setup.carrier) held u) (refl, refl, forgotten (errands.Configuration held.own) v.queue) (opened_lasts (is_some setup.carrier) held u)

accepts_last : (v : Channels) (own : Own) (wish : Wish) (held : Held) (setup : Setup) → Lasts v (accepts_with own wish held setup v)
accepts_last v Unasked wish held setup = (refl, refl, asked-with (errands.Configuration held.own) v.queue)
accepts_last v (Asking request options) wish held setup = (refl, refl, refl)
accepts_last v Granted wish held setup = (refl, refl, refl)

third_lasts : (v : Channels) (held : Held) (setup : Setup) → Lasts v (closes NoAgreement (with_setup held setup) (to_setup held setup v))
third_lasts v held setup = closes_lasts (to_setup held setup v) (with_setup held setup) NoAgreement (stage_with setup held.stage)

answer_lasts : (v : Channels) (answer : ConfigAnswer) (wish : Wish) (options : Options) (held : Held) (setup : Setup) → Lasts v (follows_answer answer wish options held setup v)
answer_lasts v (Accept given) wish options held setup = accepts_last v setup.own wish held (accepted_setup wish options setup)
answer_lasts v (Unacceptable refusal given) wish options held setup =
    let after : Setup = refused_setup setup in
    either (nat_le 3 after.refused) v (closes NoAgreement (with_setup held after) (to_setup held after v)) (to_setup held after v) (third_lasts v held after) (refl, refl, refl)
answer_lasts v Unknown wish options held setup = (refl, refl, refl)

verdict_lasts : (v : Channels) (now : Verdict) (wish : Wish) (held : Held) (setup : Setup) → Lasts v (follows_verdict now wish held setup v)
verdict_lasts v NoChannel wish held setup = (refl, refl, refl)
verdict_lasts v (TooLate peer) wish held setup = (refl, refl, refl)
verdict_lasts v (Unreadable peer) wish held setup = (refl, refl, refl)
verdict_lasts v (Incomplete peer options) wish held setup = (refl, refl, refl)
verdict_lasts v (Judged peer options answer) wish held setup = answer_lasts v answer wish options held setup

setup_lasts : (v : Channels) (setup : Option Setup) (policy : Policy) (held : Held) (flags : ℕ) (octets : List ℕ) → Lasts v (follows_setup setup policy held flags octets v)
setup_lasts v None policy held flags octets = (refl, refl, refl)
setup_lasts v (Some setup) policy held flags octets = verdict_lasts v (verdict policy held.own flags octets v) (policy.wish held.psm) held setup

configuration_lasts : (v : Channels) (held : Option Held) (policy : Policy) (flags : ℕ) (octets : List ℕ) → Lasts v (follows_configuration held policy flags octets v)
configuration_lasts v None policy flags octets = (refl, refl, refl)
configuration_lasts v (Some held) policy flags octets = setup_lasts v (setup_of held.stage) policy held flags octets

disconnection_lasts : (v : Channels) (held : Option Held) (peer : ℕ) → Lasts v (follows_disconnection held peer v)
disconnection_lasts v None peer = (refl, refl, refl)
disconnection_lasts v (Some held) peer = either (is_peer peer held.stage) v (peer_closes_at held.stage held v) v (peer_lasts v held held.stage) (refl, refl, refl)

pub follows-lasts : (policy : Policy) (content : Content) (v : Channels) → Lasts v (follows policy content v)
follows-lasts policy (reject reason rest) v = (refl, refl, refl)
follows-lasts policy (connection_request psm source) v = either (eqb (connection_result policy psm source v) 0) v (with_channel psm (Connected source no_setup) v) v (refl, refl, refl) (refl, refl, refl)
follows-lasts policy (connection_response destination source answer status) v = (refl, refl, refl)
follows-lasts policy (configuration_request destination flags options) v = configuration_lasts v (held_at destination v) policy flags options
follows-lasts policy (configuration_response source flags answer options) v = (refl, refl, refl)
follows-lasts policy (disconnection_request destination source) v = disconnection_lasts v (held_at destination v) source
follows-lasts policy (disconnection_response destination source) v = (refl, refl, refl)
follows-lasts policy (echo_request octets) v = (refl, refl, refl)
follows-lasts policy (echo_response octets) v = (refl, refl, refl)
follows-lasts policy (information_request kind) v = (refl, refl, refl)
follows-lasts policy (information_response kind answer rest) v = (refl, refl, refl)

-- ---- what the peer responds about channels

connected_lasts : (v : Channels) (policy : Policy) (endpoint result : ℕ) (held : Held) → Lasts v (hears_connected policy endpoint result held v)
connected_lasts v policy endpoint result held =
    let made : Channels = connects (policy.wish held.psm) endpoint held v in
    let refused : Channels = closes (Refused result) held v in
    either (eqb result 0) v (cond (is_fresh_endpoint endpoint v) made v) (cond (eqb result 1) v refused) (either (is_fresh_endpoint endpoint v) v made v
    (refl, refl, asked-with (errands.Configuration held.own) (filter (λ x. not (is_copy (errands.Connection held.own) x)) v.queue) ∙ forgotten (errands.Connection held.own) v.queue) (refl, refl, refl))
    (either (eqb result 1) v v refused (refl, refl, refl) (closes_lasts v held (Refused result) held.stage))

grant_at : (v : Channels) (stage : Stage) (policy : Policy) (identifier endpoint result : ℕ) (held : Held) → Lasts v (hears_grant_at stage policy identifier endpoint result held v)
grant_at v (Requested request) policy identifier endpoint result held = either (eqb request.identifier identifier) v (hears_connected policy endpoint result held v) v (connected_lasts v policy endpoint result held) (refl, refl, refl)
grant_at v (Connected peer setup) policy identifier endpoint result held = (refl, refl, refl)
grant_at v (Leaving peer setup request) policy identifier endpoint result held = (refl, refl, refl)
grant_at v (Closing peer request checked) policy identifier endpoint result held = (refl, refl, refl)
grant_at v (Crossed peer request) policy identifier endpoint result held = (refl, refl, refl)

pub grant-lasts : (v : Channels) (held : Option Held) (policy : Policy) (identifier endpoint result : ℕ) → Lasts v (hears_grant held policy identifier endpoint result v)
grant-lasts v None policy identifier endpoint result = (refl, refl, refl)
grant-lasts v (Some held) policy identifier endpoint result = grant_at v held.stage policy identifier endpoint result held

settled_lasts : (v : Channels) (now : Settled) (held : Held) (setup : Setup) → Lasts v (hears_settled now held setup v)
settled_lasts v Accepted held setup = grants_last v held setup
settled_lasts v (Again options) held setup =
    let after : Setup = renewed_setup setup in
    either (is_leaving held.stage || nat_le 3 after.renewed) v (closes NoAgreement (with_setup held after) (to_setup held after v)) (asks_options held after options v) (third_lasts v held after) (refl, refl, asked-with (errands.Configuration held.own) v.queue)
settled_lasts v Wait held setup = (refl, refl, refl)
settled_lasts v Never held setup = closes_lasts v held NoAgreement held.stage

options_last : (v : Channels) (found : Result Options ConfigRefusal) (policy : Policy) (result : ℕ) (held : Held) (setup : Setup) → Lasts v (hears_options found policy result held setup v)
options_last v (Ok options) policy result held setup = settled_lasts v (settled (policy.wish held.psm) result options) held setup
options_last v (Err refusal) policy result held setup = (refl, refl, refl)

response_on : (v : Channels) (setup : Option Setup) (policy : Policy) (identifier result : ℕ) (octets : List ℕ) (held : Held) → Lasts v (hears_response_on setup policy identifier result octets held v)
response_on v None policy identifier result octets held = (refl, refl, refl)
response_on v (Some setup) policy identifier result octets held =
    either (is_asked identifier setup.own) v (hears_options (options_read octets) policy result held setup v) v (options_last v (options_read octets) policy result held setup) (refl, refl, refl)

pub response-lasts : (v : Channels) (held : Option Held) (policy : Policy) (identifier result : ℕ) (octets : List ℕ) → Lasts v (hears_response held policy identifier result octets v)
response-lasts v None policy identifier result octets = (refl, refl, refl)
response-lasts v (Some held) policy identifier result octets = response_on v (setup_of held.stage) policy identifier result octets held

pub end-lasts : (v : Channels) (held : Option Held) (peer : ℕ) → Lasts v (hears_end held peer v)
end-lasts v None peer = (refl, refl, refl)
end-lasts v (Some held) peer = either (is_peer peer held.stage) v (ends OwnClosed held v) v (ends_last v held OwnClosed held.stage) (refl, refl, refl)

-- ---- a PDU on a channel

settles_lasts : (v : Channels) (closed : Option ErtmReason) (machine : Ertm) (held : Held) (setup : Setup) → Lasts v (settles_machine closed machine held setup v)
settles_lasts v None machine held setup = (refl, refl, refl)
settles_lasts v (Some reason) machine held setup = closes_lasts v held (reason_of reason) held.stage

carries_lasts : (v : Channels) (carrier : Carrier) (pdu : List ℕ) (held : Held) (setup : Setup) → Lasts v (carries carrier pdu held setup v)
carries_lasts v (Plain agreed waiting) pdu held setup = (refl, refl, refl)
carries_lasts v (Retransmitting machine) pdu held setup = let after : Ertm = machine_heard (read_by machine pdu) machine in settles_lasts v after.closed after held setup

opens_last : (v : Channels) (own : Own) (held : Held) (setup : Setup) → Lasts v (opens_with own held setup v)
opens_last v Unasked held setup = (refl, refl, refl)
opens_last v (Asking request options) held setup = grants_last v held setup
opens_last v Granted held setup = (refl, refl, refl)

taken_lasts : (v : Channels) (carrier : Option Carrier) (pdu : List ℕ) (held : Held) (setup : Setup) → Lasts v (takes_with carrier pdu held setup v)
taken_lasts v None pdu held setup = (refl, refl, refl)
taken_lasts v (Some carrier) pdu held setup =
    let u : Channels = opens_with setup.own held setup v in
    let w : Channels = carries carrier pdu (with_setup held (granted_setup setup)) (granted_setup setup) u in
    either (is_taken_with setup.own carrier pdu) v w v (both-last v u w (opens_last v setup.own held setup) (carries_lasts u carrier pdu (with_setup held (granted_setup setup)) (granted_setup setup))) (refl, refl, refl)

taken_on : (v : Channels) (setup : Option Setup) (pdu : List ℕ) (held : Held) → Lasts v (takes_on setup pdu held v)
taken_on v None pdu held = (refl, refl, refl)
taken_on v (Some setup) pdu held = taken_lasts v setup.carrier pdu held setup

taken_held : (v : Channels) (held : Option Held) (pdu : List ℕ) → Lasts v (takes_held held pdu v)
taken_held v None pdu = (refl, refl, refl)
taken_held v (Some held) pdu = taken_on v (setup_of held.stage) pdu held

pub takes-lasts : (own : ℕ) (pdu : List ℕ) (v : Channels) → Lasts v (takes own pdu v)
takes-lasts own pdu v = taken_held v (held_at own v) pdu

-- ---- what the host does by itself

pub connects-lasts : (psm : ℕ) (v : Channels) → Lasts v (connected psm v)
connects-lasts psm v = let w : Channels = asks (errands.Connection v.next) (with_channel psm (Requested (new_request v)) v) in either (can_connect v) v w v (refl, refl, asked-with (errands.Connection v.next) v.queue) (refl, refl, refl)

left_at : (v : Channels) (held : Held) (stage : Stage) → Lasts v (disconnected_at stage held v)
left_at v held (Requested request) = closes_lasts v held OwnClosed held.stage
left_at v held (Connected peer setup) = (refl, refl, asked-with (errands.Disconnection held.own) v.queue)
left_at v held (Leaving peer setup request) = (refl, refl, refl)
left_at v held (Closing peer request checked) = (refl, refl, refl)
left_at v held (Crossed peer request) = (refl, refl, refl)

left_held : (v : Channels) (held : Option Held) → Lasts v (disconnected_held held v)
left_held v None = (refl, refl, refl)
left_held v (Some held) = left_at v held held.stage

pub disconnects-last : (own : ℕ) (v : Channels) → Lasts v (disconnected own v)
disconnects-last own v = left_held v (held_at own v)

sent_on : (v : Channels) (setup : Option Setup) (sdu : List ℕ) (held : Held) → Lasts v (sends_on setup sdu held v)
sent_on v None sdu held = (refl, refl, refl)
sent_on v (Some setup) sdu held = (refl, refl, refl)

sent_held : (v : Channels) (held : Option Held) (sdu : List ℕ) → Lasts v (sends_held held sdu v)
sent_held v None sdu = (refl, refl, refl)
sent_held v (Some held) sdu = sent_on v (setup_of held.stage) sdu held

pub sends-last : (own : ℕ) (sdu : List ℕ) (v : Channels) → Lasts v (sends own sdu v)
sends-last own sdu v = sent_held v (held_at own v) sdu

-- ---- the next PDU

-- of a request that is given an answer may go
abbrev pub Stays : Channels → Channels → Type 0
Stays v w = (asked_by w.features ≡ asked_by v.features) × (w.memory ≡ v.memory)

stage_lasts : (v : Channels) (f : Stage → Stage) (held : Option Held) → Stays v (stage_given f held v)
stage_lasts v f None = (refl, refl)
stage_lasts v f (Some held) = (refl, refl)

one_more_lasts : (features : Option Request) → asked_by (option_map one_more features) ≡ asked_by features
one_more_lasts None = refl
one_more_lasts (Some request) = refl

counted_lasts : (v : Channels) (errand : Errand) → Stays v (counted errand v)
counted_lasts v (errands.Connection own) = stage_lasts v _ (held_at own v)
counted_lasts v (errands.Configuration own) = stage_lasts v _ (held_at own v)
counted_lasts v (errands.Disconnection own) = stage_lasts v _ (held_at own v)
counted_lasts v errands.Features = (one_more_lasts v.features, refl)

spent_lasts : (v : Channels) (setup : Option Setup) (held : Held) → Stays v (carrier_spent setup held v)
spent_lasts v None held = (refl, refl)
spent_lasts v (Some setup) held = (refl, refl)

given_lasts : (v : Channels) (held : Option Held) → Stays v (held_given held v)
given_lasts v None = (refl, refl)
given_lasts v (Some held) = spent_lasts v (setup_of held.stage) held

queue_lasts : (v : Channels) (queue : List Queued) → Stays v (queue_given queue v)
queue_lasts v [] = given_lasts v (find gives v.held)
queue_lasts v (Answer command ∷ behind) = (refl, refl)
queue_lasts v (Ask errand ∷ behind) = let u : Channels = record v { queue = behind } in counted_lasts u errand

pub gives-last : (v : Channels) → Stays v (after_given v)
gives-last v = queue_lasts v v.queue

-- ---- the timer, of a channel

fires_last : (v : Channels) (now : Fired) (errand : Errand) (spent : Channels → Channels) → Lasts v (spent v) → Lasts v (fires now errand spent v)
fires_last v StillDue errand spent goes = (refl, refl, refl)
fires_last v OnceMore errand spent goes = (refl, refl, answers-asked v.queue errand)
fires_last v Spent errand spent goes = goes

timed_carrier : (v : Channels) (carrier : Option Carrier) (held : Held) (setup : Setup) → Lasts v (times_carrier carrier held setup v)
timed_carrier v None held setup = (refl, refl, refl)
timed_carrier v (Some (Plain agreed waiting)) held setup = (refl, refl, refl)
timed_carrier v (Some (Retransmitting machine)) held setup = settles_lasts v (timed machine).closed (timed machine) held setup

timed_setup : (v : Channels) (own : Own) (tries : ℕ) (held : Held) (setup : Setup) → Lasts v (times_setup own tries held setup v)
timed_setup v Unasked tries held setup = timed_carrier v setup.carrier held setup
timed_setup v (Asking request options) tries held setup =
    fires_last v (fired tries (errands.Configuration held.own) request v) (errands.Configuration held.own) (closes RetryLimit held) (closes_lasts v held RetryLimit held.stage)
timed_setup v Granted tries held setup = timed_carrier v setup.carrier held setup

timed_stage : (v : Channels) (stage : Stage) (tries : ℕ) (held : Held) → Lasts v (times_stage stage tries held v)
timed_stage v (Requested request) tries held =
    fires_last v (fired tries (errands.Connection held.own) request v) (errands.Connection held.own) (closes RetryLimit held) (closes_lasts v held RetryLimit held.stage)
timed_stage v (Connected peer setup) tries held = timed_setup v setup.own tries held setup
timed_stage v (Leaving peer setup request) tries held = timed_setup v setup.own tries held setup
timed_stage v (Closing peer request checked) tries held = (refl, refl, refl)
timed_stage v (Crossed peer request) tries held = (refl, refl, refl)

timed_held : (v : Channels) (held : Option Held) (tries : ℕ) → Lasts v (times_held held tries v)
timed_held v None tries = (refl, refl, refl)
timed_held v (Some held) tries = timed_stage v held.stage tries held

timed_end : (v : Channels) (stage : Stage) (tries : ℕ) (held : Held) → Lasts v (times_end_at stage tries held v)
timed_end v (Requested request) tries held = (refl, refl, refl)
timed_end v (Connected peer setup) tries held = (refl, refl, refl)
timed_end v (Leaving peer setup request) tries held =
    fires_last v (fired tries (errands.Disconnection held.own) request v) (errands.Disconnection held.own) (ends RetryLimit held) (ends_last v held RetryLimit held.stage)
timed_end v (Closing peer request checked) tries held =
    fires_last v (fired tries (errands.Disconnection held.own) request v) (errands.Disconnection held.own) (loses_end held) (ends_last v held RetryLimit held.stage)
timed_end v (Crossed peer request) tries held =
    fires_last v (fired tries (errands.Disconnection held.own) request v) (errands.Disconnection held.own) (loses_end held) (ends_last v held RetryLimit held.stage)

ended_held : (v : Channels) (held : Option Held) (tries : ℕ) → Lasts v (times_end held tries v)
ended_held v None tries = (refl, refl, refl)
ended_held v (Some held) tries = timed_end v held.stage tries held

pub times-last : (tries own : ℕ) (v : Channels) → Lasts v (times_held (held_at own v) tries v)
times-last tries own v = timed_held v (held_at own v) tries

pub ends-last : (tries own : ℕ) (v : Channels) → Lasts v (times_end (held_at own v) tries v)
ends-last tries own v = ended_held v (held_at own v) tries
