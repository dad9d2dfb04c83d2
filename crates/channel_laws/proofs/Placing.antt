-- An endpoint is given to a new channel alone: whatever else happens, the next one stays.
use Rattle.std.proofs.Common.{◌≡◌, ℕ, List, [], ◌∷◌, Bool, true, false, cond, eqb, Option, Some, None, Result, Ok, Err, refl, ◌∙◌, ◌||◌}
use Rattle.std.specs.Prelude.{find, is_some, nat_le}
use Rattle.own_channel_laws.specs.talk_laws.specs.l2cap_config.specs.declared.agreement.ConfigAnswer.{ConfigAnswer}
use Rattle.own_channel_laws.specs.talk_laws.specs.l2cap_config.specs.declared.agreement.ConfigAnswer.TheVariants.{Accept, Unacceptable, Unknown}
use Rattle.own_channel_laws.specs.talk_laws.specs.l2cap_config.specs.declared.agreement.Settled.{Settled}
use Rattle.own_channel_laws.specs.talk_laws.specs.l2cap_config.specs.declared.agreement.Settled.TheVariants.{Accepted, Again, Wait, Never}
use Rattle.own_channel_laws.specs.talk_laws.specs.l2cap_config.specs.declared.options.Options.{Options}
use Rattle.own_channel_laws.specs.talk_laws.specs.l2cap_config.specs.declared.options.ConfigRefusal.{ConfigRefusal}
use Rattle.own_channel_laws.specs.talk_laws.specs.l2cap_config.specs.declared.wish.Wish.{Wish}
use Rattle.own_channel_laws.specs.talk_laws.specs.l2cap_config.specs.Agreement.{settled}
use Rattle.own_channel_laws.specs.talk_laws.specs.l2cap_config.specs.Reading.{options_read}
use Rattle.own_channel_laws.specs.talk_laws.specs.l2cap_signal.specs.Commands.{Content, reject, connection_request, connection_response, configuration_request, configuration_response, disconnection_request, disconnection_response, echo_request, echo_response, information_request, information_response}
use Rattle.own_channel_laws.specs.channel_model.specs.ertm_model.specs.declared.reason.ErtmReason.{ErtmReason}
use Rattle.own_channel_laws.specs.channel_model.specs.ertm_model.specs.Value.{Ertm}
use Rattle.own_channel_laws.specs.channel_model.specs.ertm_model.specs.Giving.{timed}
use Rattle.own_channel_laws.specs.channel_model.specs.declared.errand.Errand.{Errand}
use Rattle.own_channel_laws.specs.channel_model.specs.declared.errand.Errand.TheVariants as errands
use Rattle.own_channel_laws.specs.channel_model.specs.declared.event.ChannelEvent.TheVariants as events
use Rattle.own_channel_laws.specs.channel_model.specs.declared.event.CloseReason.{CloseReason}
use Rattle.own_channel_laws.specs.channel_model.specs.declared.event.CloseReason.TheVariants.{Refused, NoAgreement, RetryLimit, OwnClosed}
use Rattle.own_channel_laws.specs.channel_model.specs.Value.{Request, Queued, Answer, Ask, Own, Unasked, Asking, Granted, Carrier, Plain, Retransmitting, Setup, Stage, Requested, Connected, Leaving, Closing, Crossed, Held, Channels}
use Rattle.own_channel_laws.specs.channel_model.specs.Policies.{Policy}
use Rattle.own_channel_laws.specs.channel_model.specs.Changing.{held_at, setup_of, with_setup, to_setup, is_peer, forgets, tells, is_leaving}
use Rattle.own_channel_laws.specs.channel_model.specs.Asking.{Fired, StillDue, OnceMore, Spent, fired, asks, asks_options, new_request}
use Rattle.own_channel_laws.specs.channel_model.specs.Closing.{closes_at, closes, peer_closes_at, ends_at, ends}
use Rattle.own_channel_laws.specs.channel_model.specs.Configuring.{Verdict, NoChannel, TooLate, Unreadable, Incomplete, Judged, verdict, accepts_with, accepted_setup, refused_setup, follows_answer, follows_verdict, opens_if, granted_setup}
use Rattle.own_channel_laws.specs.channel_model.specs.Following.{follows_setup, follows_configuration, follows_disconnection, follows}
use Rattle.own_channel_laws.specs.channel_model.specs.Responses.{connects, is_fresh_endpoint, hears_connected, hears_grant_at, hears_grant, renewed_setup, hears_settled, hears_options, is_asked, hears_response_on, hears_response, hears_end, has_identifier, hears_features, features_in}
use Rattle.own_channel_laws.specs.channel_model.specs.Hearing.{hears_content}
use Rattle.own_channel_laws.specs.channel_model.specs.Carrying.{reason_of, settles_machine, read_by, machine_heard, carries, is_taken_with, opens_with, takes_with, takes_on, takes_held, takes}
use Rattle.own_channel_laws.specs.channel_model.specs.Timing.{fires, times_carrier, times_setup, times_stage, times_held, loses_end, times_end_at, times_end, loses_features, times_features}
use Rattle.own_channel_laws.specs.channel_model.specs.Giving.{connection_given, configuration_given, disconnection_given, stage_given, counted, carrier_spent, held_given, queue_given, gives}
use Rattle.own_channel_laws.specs.channel_model.specs.Calls.{asks_features, disconnected_at, disconnected_held, sends_on, sends_held}
use Rattle.own_channel_laws.specs.Runs.{Occurrence, Comes, Connects, AsksFeatures, Disconnects, Sends, Gives, Fires, Tells, value_after}
use Rattle.channel_laws.specs.Singly.{AsksForNoChannel}
use Rattle.own_channel_laws.proofs.Converses.{is_single}
use Rattle.own_channel_laws.proofs.Replying.{is_response}

-- ---- steps of one channel

closes_next : (stage : Stage) (reason : CloseReason) (held : Held) (v : Channels) → (closes_at stage reason held v).next ≡ v.next
closes_next (Requested request) reason held v = refl
closes_next (Connected peer setup) reason held v = refl
closes_next (Leaving peer setup request) reason held v = refl
closes_next (Closing peer request checked) reason held v = refl
closes_next (Crossed peer request) reason held v = refl

peer_closes_next : (stage : Stage) (held : Held) (v : Channels) → (peer_closes_at stage held v).next ≡ v.next
peer_closes_next (Requested request) held v = refl
peer_closes_next (Connected peer setup) held v = refl
peer_closes_next (Leaving peer setup request) held v = refl
peer_closes_next (Closing peer request checked) held v = refl
peer_closes_next (Crossed peer request) held v = refl

ends_next : (stage : Stage) (reason : CloseReason) (held : Held) (v : Channels) → (ends_at stage reason held v).next ≡ v.next
ends_next (Requested request) reason held v = refl
ends_next (Connected peer setup) reason held v = refl
ends_next (Leaving peer setup request) reason held v = refl
ends_next (Closing peer request checked) reason held v = refl
ends_next (Crossed peer request) reason held v = refl

either : (b : Bool) (v x y : Channels) → x.next ≡ v.next → y.next ≡ v.next → (cond b x y).next ≡ v.next
either true v x y one other = one
either false v x y one other = other

opens_next : (b : Bool) (held : Held) (v : Channels) → (opens_if b held v).next ≡ v.next
opens_next true held v = refl
opens_next false held v = refl

-- ---- a request of the peer

accepts_next : (own : Own) (wish : Wish) (held : Held) (setup : Setup) (v : Channels) → (accepts_with own wish held setup v).next ≡ v.next
accepts_next Unasked wish held setup v = refl
accepts_next (Asking request options) wish held setup v = refl
accepts_next Granted wish held setup v = refl

answer_next : (answer : ConfigAnswer) (wish : Wish) (options : Options) (held : Held) (setup : Setup) (v : Channels) → (follows_answer answer wish options held setup v).next ≡ v.next
answer_next (Accept given) wish options held setup v = accepts_next setup.own wish held (accepted_setup wish options setup) v
answer_next (Unacceptable refusal given) wish options held setup v =
    let after = refused_setup setup in
    either (nat_le 3 after.refused) v (closes NoAgreement (with_setup held after) (to_setup held after v)) (to_setup held after v) (closes_next (with_setup held after).stage NoAgreement (with_setup held after) (to_setup held after v)) refl
answer_next Unknown wish options held setup v = refl

verdict_next : (now : Verdict) (wish : Wish) (held : Held) (setup : Setup) (v : Channels) → (follows_verdict now wish held setup v).next ≡ v.next
verdict_next NoChannel wish held setup v = refl
verdict_next (TooLate peer) wish held setup v = refl
verdict_next (Unreadable peer) wish held setup v = refl
verdict_next (Incomplete peer options) wish held setup v = refl
verdict_next (Judged peer options answer) wish held setup v = answer_next answer wish options held setup v

setup_next : (setup : Option Setup) (policy : Policy) (held : Held) (flags : ℕ) (octets : List ℕ) (v : Channels) → (follows_setup setup policy held flags octets v).next ≡ v.next
setup_next None policy held flags octets v = refl
setup_next (Some setup) policy held flags octets v = verdict_next (verdict policy held.own flags octets v) (policy.wish held.psm) held setup v

configuration_next : (held : Option Held) (policy : Policy) (flags : ℕ) (octets : List ℕ) (v : Channels) → (follows_configuration held policy flags octets v).next ≡ v.next
configuration_next None policy flags octets v = refl
configuration_next (Some held) policy flags octets v = setup_next (setup_of held.stage) policy held flags octets v

disconnection_next : (held : Option Held) (peer : ℕ) (v : Channels) → (follows_disconnection held peer v).next ≡ v.next
disconnection_next None peer v = refl
disconnection_next (Some held) peer v = either (is_peer peer held.stage) v (peer_closes_at held.stage held v) v (peer_closes_next held.stage held v) refl

-- the peer asks for a channel
abbrev pub is_call : Content → Bool
is_call (reject reason rest) = false
is_call (connection_request psm source) = true
is_call (connection_response destination source answer status) = false
is_call (configuration_request destination flags options) = false
is_call (configuration_response source flags answer options) = false
is_call (disconnection_request destination source) = false
is_call (disconnection_response destination source) = false
is_call (echo_request octets) = false
is_call (echo_response octets) = false
is_call (information_request kind) = false
is_call (information_response kind answer rest) = false

pub follows-next : (policy : Policy) (content : Content) (v : Channels) → is_call content ≡ false → (follows policy content v).next ≡ v.next
follows-next policy (reject reason rest) v is = refl
follows-next policy (connection_request psm source) v is = cc
follows-next policy (connection_response destination source answer status) v is = refl
follows-next policy (configuration_request destination flags options) v is = configuration_next (held_at destination v) policy flags options v
follows-next policy (configuration_response source flags answer options) v is = refl
follows-next policy (disconnection_request destination source) v is = disconnection_next (held_at destination v) source v
follows-next policy (disconnection_response destination source) v is = refl
follows-next policy (echo_request octets) v is = refl
follows-next policy (echo_response octets) v is = refl
follows-next policy (information_request kind) v is = refl
follows-next policy (information_response kind answer rest) v is = refl

-- ---- a response of the peer

connected_next : (policy : Policy) (endpoint result : ℕ) (held : Held) (v : Channels) → (hears_connected policy endpoint result held v).next ≡ v.next
connected_next policy endpoint result held v =
    let made = connects (policy.wish held.psm) endpoint held v in
    let refused = closes (Refused result) held v in
    either (eqb result 0) v (cond (is_fresh_endpoint endpoint v) made v) (cond (eqb result 1) v refused) (either (is_fresh_endpoint endpoint v) v made v refl refl) (either (eqb result 1) v v refused refl (closes_next held.stage (Refused result) held v))

grant_at_next : (stage : Stage) (policy : Policy) (identifier endpoint result : ℕ) (held : Held) (v : Channels) → (hears_grant_at stage policy identifier endpoint result held v).next ≡ v.next
grant_at_next (Requested request) policy identifier endpoint result held v = either (eqb request.identifier identifier) v (hears_connected policy endpoint result held v) v (connected_next policy endpoint result held v) refl
grant_at_next (Connected peer setup) policy identifier endpoint result held v = refl
grant_at_next (Leaving peer setup request) policy identifier endpoint result held v = refl
grant_at_next (Closing peer request checked) policy identifier endpoint result held v = refl
grant_at_next (Crossed peer request) policy identifier endpoint result held v = refl

grant_next : (held : Option Held) (policy : Policy) (identifier endpoint result : ℕ) (v : Channels) → (hears_grant held policy identifier endpoint result v).next ≡ v.next
grant_next None policy identifier endpoint result v = refl
grant_next (Some held) policy identifier endpoint result v = grant_at_next held.stage policy identifier endpoint result held v

settled_next : (now : Settled) (held : Held) (setup : Setup) (v : Channels) → (hears_settled now held setup v).next ≡ v.next
settled_next Accepted held setup v = opens_next (is_some setup.carrier) held (to_setup held (granted_setup setup) (forgets (errands.Configuration held.own) v))
settled_next (Again options) held setup v =
    let after = renewed_setup setup in
    either (is_leaving held.stage || nat_le 3 after.renewed) v (closes NoAgreement (with_setup held after) (to_setup held after v)) (asks_options held after options v) (closes_next (with_setup held after).stage NoAgreement (with_setup held after) (to_setup held after v)) refl
settled_next Wait held setup v = refl
settled_next Never held setup v = closes_next held.stage NoAgreement held v

options_next : (read : Result Options ConfigRefusal) (policy : Policy) (result : ℕ) (held : Held) (setup : Setup) (v : Channels) → (hears_options read policy result held setup v).next ≡ v.next
options_next (Ok options) policy result held setup v = settled_next (settled (policy.wish held.psm) result options) held setup v
options_next (Err refusal) policy result held setup v = refl

response_on_next : (setup : Option Setup) (policy : Policy) (identifier result : ℕ) (octets : List ℕ) (held : Held) (v : Channels) → (hears_response_on setup policy identifier result octets held v).next ≡ v.next
response_on_next None policy identifier result octets held v = refl
response_on_next (Some setup) policy identifier result octets held v =
    either (is_asked identifier setup.own) v (hears_options (options_read octets) policy result held setup v) v (options_next (options_read octets) policy result held setup v) refl

response_next : (held : Option Held) (policy : Policy) (identifier result : ℕ) (octets : List ℕ) (v : Channels) → (hears_response held policy identifier result octets v).next ≡ v.next
response_next None policy identifier result octets v = refl
response_next (Some held) policy identifier result octets v = response_on_next (setup_of held.stage) policy identifier result octets held v

end_next : (held : Option Held) (peer : ℕ) (v : Channels) → (hears_end held peer v).next ≡ v.next
end_next None peer v = refl
end_next (Some held) peer v = either (is_peer peer held.stage) v (ends OwnClosed held v) v (ends_next held.stage OwnClosed held v) refl

told_next : (identifier : ℕ) (given : Option ℕ) (v : Channels) → (hears_features identifier given v).next ≡ v.next
told_next identifier given v = either (has_identifier identifier v.features) v (tells (events.Features given) (forgets errands.Features (record v { features = None }))) v refl refl

pub responds-next : (policy : Policy) (identifier : ℕ) (content : Content) (v : Channels) → is_response content ≡ true → (hears_content policy identifier content v).next ≡ v.next
responds-next policy identifier (reject reason rest) v is = told_next identifier None v
responds-next policy identifier (connection_request psm source) v is = cc
responds-next policy identifier (connection_response destination source answer status) v is = grant_next (held_at source v) policy identifier destination answer v
responds-next policy identifier (configuration_request destination flags options) v is = cc
responds-next policy identifier (configuration_response source flags answer options) v is = response_next (held_at source v) policy identifier answer options v
responds-next policy identifier (disconnection_request destination source) v is = cc
responds-next policy identifier (disconnection_response destination source) v is = end_next (held_at source v) destination v
responds-next policy identifier (echo_request octets) v is = cc
responds-next policy identifier (echo_response octets) v is = refl
responds-next policy identifier (information_request kind) v is = cc
responds-next policy identifier (information_response kind answer rest) v is = told_next identifier (features_in kind answer rest) v

-- ---- a PDU of a channel, and the timer

machine_next : (closed : Option ErtmReason) (machine : Ertm) (held : Held) (setup : Setup) (v : Channels) → (settles_machine closed machine held setup v).next ≡ v.next
machine_next None machine held setup v = refl
machine_next (Some reason) machine held setup v = closes_next held.stage (reason_of reason) held v

carries_next : (carrier : Carrier) (pdu : List ℕ) (held : Held) (setup : Setup) (v : Channels) → (carries carrier pdu held setup v).next ≡ v.next
carries_next (Plain agreed waiting) pdu held setup v = refl
carries_next (Retransmitting machine) pdu held setup v = let heard = machine_heard (read_by machine pdu) machine in machine_next heard.closed heard held setup v

opened_next : (own : Own) (held : Held) (setup : Setup) (v : Channels) → (opens_with own held setup v).next ≡ v.next
opened_next Unasked held setup v = refl
opened_next (Asking request options) held setup v = opens_next (is_some setup.carrier) held (to_setup held (granted_setup setup) (forgets (errands.Configuration held.own) v))
opened_next Granted held setup v = refl

taken_next : (carrier : Option Carrier) (pdu : List ℕ) (held : Held) (setup : Setup) (v : Channels) → (takes_with carrier pdu held setup v).next ≡ v.next
taken_next None pdu held setup v = refl
taken_next (Some carrier) pdu held setup v =
    let u = opens_with setup.own held setup v in
    let w = carries carrier pdu (with_setup held (granted_setup setup)) (granted_setup setup) u in
    either (is_taken_with setup.own carrier pdu) v w v (carries_next carrier pdu (with_setup held (granted_setup setup)) (granted_setup setup) u ∙ opened_next setup.own held setup v) refl

takes_on_next : (setup : Option Setup) (pdu : List ℕ) (held : Held) (v : Channels) → (takes_on setup pdu held v).next ≡ v.next
takes_on_next None pdu held v = refl
takes_on_next (Some setup) pdu held v = taken_next setup.carrier pdu held setup v

takes_held_next : (held : Option Held) (pdu : List ℕ) (v : Channels) → (takes_held held pdu v).next ≡ v.next
takes_held_next None pdu v = refl
takes_held_next (Some held) pdu v = takes_on_next (setup_of held.stage) pdu held v

pub takes-next : (own : ℕ) (pdu : List ℕ) (v : Channels) → (takes own pdu v).next ≡ v.next
takes-next own pdu v = takes_held_next (held_at own v) pdu v

fires_next : (now : Fired) (errand : Errand) (spent : Channels → Channels) (v : Channels) → (spent v).next ≡ v.next → (fires now errand spent v).next ≡ v.next
fires_next StillDue errand spent v is = refl
fires_next OnceMore errand spent v is = refl
fires_next Spent errand spent v is = is

carrier_next : (carrier : Option Carrier) (held : Held) (setup : Setup) (v : Channels) → (times_carrier carrier held setup v).next ≡ v.next
carrier_next None held setup v = refl
carrier_next (Some (Plain agreed waiting)) held setup v = refl
carrier_next (Some (Retransmitting machine)) held setup v = machine_next (timed machine).closed (timed machine) held setup v

times_setup_next : (own : Own) (tries : ℕ) (held : Held) (setup : Setup) (v : Channels) → (times_setup own tries held setup v).next ≡ v.next
times_setup_next Unasked tries held setup v = carrier_next setup.carrier held setup v
times_setup_next (Asking request options) tries held setup v = fires_next (fired tries (errands.Configuration held.own) request v) (errands.Configuration held.own) (closes RetryLimit held) v (closes_next held.stage RetryLimit held v)
times_setup_next Granted tries held setup v = carrier_next setup.carrier held setup v

stage_next : (stage : Stage) (tries : ℕ) (held : Held) (v : Channels) → (times_stage stage tries held v).next ≡ v.next
stage_next (Requested request) tries held v = fires_next (fired tries (errands.Connection held.own) request v) (errands.Connection held.own) (closes RetryLimit held) v (closes_next held.stage RetryLimit held v)
stage_next (Connected peer setup) tries held v = times_setup_next setup.own tries held setup v
stage_next (Leaving peer setup request) tries held v = times_setup_next setup.own tries held setup v
stage_next (Closing peer request checked) tries held v = refl
stage_next (Crossed peer request) tries held v = refl

pub times-next : (held : Option Held) (tries : ℕ) (v : Channels) → (times_held held tries v).next ≡ v.next
times-next None tries v = refl
times-next (Some held) tries v = stage_next held.stage tries held v

end_at_next : (stage : Stage) (tries : ℕ) (held : Held) (v : Channels) → (times_end_at stage tries held v).next ≡ v.next
end_at_next (Requested request) tries held v = refl
end_at_next (Connected peer setup) tries held v = refl
end_at_next (Leaving peer setup request) tries held v = fires_next (fired tries (errands.Disconnection held.own) request v) (errands.Disconnection held.own) (ends RetryLimit held) v (ends_next held.stage RetryLimit held v)
end_at_next (Closing peer request checked) tries held v = fires_next (fired tries (errands.Disconnection held.own) request v) (errands.Disconnection held.own) (loses_end held) v (ends_next held.stage RetryLimit held v)
end_at_next (Crossed peer request) tries held v = fires_next (fired tries (errands.Disconnection held.own) request v) (errands.Disconnection held.own) (loses_end held) v (ends_next held.stage RetryLimit held v)

pub timed-end-next : (held : Option Held) (tries : ℕ) (v : Channels) → (times_end held tries v).next ≡ v.next
timed-end-next None tries v = refl
timed-end-next (Some held) tries v = end_at_next held.stage tries held v

pub features-next : (features : Option Request) (tries : ℕ) (v : Channels) → (times_features features tries v).next ≡ v.next
features-next None tries v = refl
features-next (Some request) tries v = fires_next (fired tries errands.Features request v) errands.Features loses_features v refl

-- ---- what a host does alone

asks_next : (v : Channels) → (asks_features v).next ≡ v.next
asks_next v = either (is_some v.features) v v (asks errands.Features (record v { features = Some (new_request v) })) refl refl

left_next : (stage : Stage) (held : Held) (v : Channels) → (disconnected_at stage held v).next ≡ v.next
left_next (Requested request) held v = closes_next held.stage OwnClosed held v
left_next (Connected peer setup) held v = refl
left_next (Leaving peer setup request) held v = refl
left_next (Closing peer request checked) held v = refl
left_next (Crossed peer request) held v = refl

left_held_next : (held : Option Held) (v : Channels) → (disconnected_held held v).next ≡ v.next
left_held_next None v = refl
left_held_next (Some held) v = left_next held.stage held v

sends_on_next : (setup : Option Setup) (sdu : List ℕ) (held : Held) (v : Channels) → (sends_on setup sdu held v).next ≡ v.next
sends_on_next None sdu held v = refl
sends_on_next (Some setup) sdu held v = refl

sends_next : (held : Option Held) (sdu : List ℕ) (v : Channels) → (sends_held held sdu v).next ≡ v.next
sends_next None sdu v = refl
sends_next (Some held) sdu v = sends_on_next (setup_of held.stage) sdu held v

stage_given_next : (f : Stage → Stage) (held : Option Held) (v : Channels) → (stage_given f held v).next ≡ v.next
stage_given_next f None v = refl
stage_given_next f (Some held) v = refl

counted_next : (errand : Errand) (v : Channels) → (counted errand v).next ≡ v.next
counted_next (errands.Connection own) v = stage_given_next connection_given (held_at own v) v
counted_next (errands.Configuration own) v = stage_given_next configuration_given (held_at own v) v
counted_next (errands.Disconnection own) v = stage_given_next disconnection_given (held_at own v) v
counted_next errands.Features v = refl

spent_next : (setup : Option Setup) (held : Held) (v : Channels) → (carrier_spent setup held v).next ≡ v.next
spent_next None held v = refl
spent_next (Some setup) held v = refl

held_given_next : (held : Option Held) (v : Channels) → (held_given held v).next ≡ v.next
held_given_next None v = refl
held_given_next (Some held) v = spent_next (setup_of held.stage) held v

given_next : (queue : List Queued) (v : Channels) → (queue_given queue v).next ≡ v.next
given_next [] v = held_given_next (find gives v.held) v
given_next (Answer command ∷ behind) v = refl
given_next (Ask errand ∷ behind) v = counted_next errand (record v { queue = behind })

pub single-next : (policy : Policy) (more : Occurrence) (v : Channels) → is_single more ≡ true → AsksForNoChannel more → (value_after policy more v).next ≡ v.next
single-next policy (Comes pdu) v is none = cc
single-next policy (Connects psm) v is none = absurd none
single-next policy AsksFeatures v is none = asks_next v
single-next policy (Disconnects own) v is none = left_held_next (held_at own v) v
single-next policy (Sends own sdu) v is none = sends_next (held_at own v) sdu v
single-next policy (Gives pdu) v is none = given_next v.queue v
single-next policy Fires v is none = cc
single-next policy Tells v is none = refl
