-- What comes in, and what a host does, tells of no refusal with result 0 or 1.
use Rattle.std.proofs.Common.{◌≡◌, ℕ, List, [], ◌∷◌, ◌++◌, drop, Bool, true, false, cond, eqb, Option, Some, None, Result, Ok, Err, refl, sym, ap, ◌∙◌}
use Rattle.std.specs.Prelude.{find, is_some, nat_le, ◌||◌}
use Rattle.std.specs.List.{AllByRecursion}
use Rattle.channel_laws.specs.acl_fragments.specs.Pieces.{channel_of}
use Rattle.channel_laws.specs.ertm_model.specs.declared.reason.ErtmReason.{ErtmReason}
use Rattle.channel_laws.specs.ertm_model.specs.declared.reason.ErtmReason.TheVariants as machines
use Rattle.channel_laws.specs.ertm_model.specs.Value.{Ertm}
use Rattle.channel_laws.specs.l2cap_config.specs.declared.agreement.ConfigAnswer.TheVariants.{Accept, Unacceptable, Unknown}
use Rattle.channel_laws.specs.l2cap_config.specs.declared.agreement.Settled.{Settled}
use Rattle.channel_laws.specs.l2cap_config.specs.declared.agreement.Settled.TheVariants.{Accepted, Again, Wait, Never}
use Rattle.channel_laws.specs.l2cap_config.specs.declared.options.Options.{Options}
use Rattle.channel_laws.specs.l2cap_config.specs.declared.options.ConfigRefusal.{ConfigRefusal}
use Rattle.channel_laws.specs.l2cap_config.specs.declared.wish.Wish.{Wish}
use Rattle.channel_laws.specs.l2cap_config.specs.Agreement.{settled}
use Rattle.channel_laws.specs.l2cap_config.specs.Reading.{options_read}
use Rattle.channel_laws.specs.l2cap_signal.specs.Commands.{Content, reject, connection_request, connection_response, configuration_request, configuration_response, disconnection_request, disconnection_response, echo_request, echo_response, information_request, information_response}
use Rattle.channel_laws.specs.l2cap_signal.specs.Reading.{Answer as Read, answers}
use Rattle.channel_laws.specs.l2cap_signal.specs.declared.refusal.SignalRefusal.TheVariants.{ZeroIdentifier, BadLength, UnknownCode, AboveMtu}
use Rattle.channel_laws.specs.channel_model.specs.declared.errand.Errand.{Errand}
use Rattle.channel_laws.specs.channel_model.specs.declared.errand.Errand.TheVariants as errands
use Rattle.channel_laws.specs.channel_model.specs.declared.event.ChannelEvent.{ChannelEvent}
use Rattle.channel_laws.specs.channel_model.specs.declared.event.ChannelEvent.TheVariants.{Features}
use Rattle.channel_laws.specs.channel_model.specs.declared.event.CloseReason.{CloseReason}
use Rattle.channel_laws.specs.channel_model.specs.declared.event.CloseReason.TheVariants.{Refused, NoAgreement, OwnClosed}
use Rattle.channel_laws.specs.channel_model.specs.declared.request_kind.RequestKind.{RequestKind}
use Rattle.channel_laws.specs.channel_model.specs.declared.request_kind.RequestKind.TheVariants as kinds
use Rattle.channel_laws.specs.channel_model.specs.Answers.{connection_result, kind_of_code, not_understood, too_long, remembered}
use Rattle.channel_laws.specs.channel_model.specs.Asking.{new_request, asks, asks_options}
use Rattle.channel_laws.specs.channel_model.specs.Calls.{can_connect, disconnected_at, disconnected_held, sends_on, sends_held}
use Rattle.channel_laws.specs.channel_model.specs.Carrying.{machine_heard, read_by, reason_of, is_taken_with, carries, opens_with, settles_machine, takes_with, takes_on, takes_held, takes}
use Rattle.channel_laws.specs.channel_model.specs.Changing.{held_at, is_leaving, is_peer, setup_of, with_setup, to_setup, forgets, tells}
use Rattle.channel_laws.specs.channel_model.specs.Closing.{closes, closes_at, peer_closes_at, ends, ends_at}
use Rattle.channel_laws.specs.channel_model.specs.Configuring.{Verdict, NoChannel, TooLate, Unreadable, Incomplete, Judged, verdict, accepted_setup, accepts_with, refused_setup, refuses, follows_verdict, opens_if, granted_setup, grants}
use Rattle.channel_laws.specs.channel_model.specs.Following.{with_channel, follows_setup, follows_configuration, follows_disconnection, follows, remembers, says, can_say, hears_new, hears_again, hears_kind}
use Rattle.channel_laws.specs.channel_model.specs.Giving.{gives, stage_given, counted, carrier_spent, held_given, queue_given}
use Rattle.channel_laws.specs.channel_model.specs.Hearing.{hears_content, hears_malformed, is_response_code, is_kind, hears_unread, hears_command, hears_commands}
use Rattle.channel_laws.specs.channel_model.specs.Policies.{Policy}
use Rattle.channel_laws.specs.channel_model.specs.Responses.{is_fresh_endpoint, connects, hears_connected, hears_grant_at, hears_grant, renewed_setup, renews, hears_settled, hears_options, is_asked, hears_response_on, hears_response, hears_end, has_identifier, hears_features, features_in}
use Rattle.channel_laws.specs.channel_model.specs.Value.{Queued, Answer, Ask, Own, Unasked, Asking, Granted, Carrier, Plain, Retransmitting, Setup, no_setup, Stage, Requested, Connected, Leaving, Closing, Crossed, Held, Remembered, Channels}
use Rattle.channel_laws.specs.channel_model.proofs.Lookups.{eqb-same}
use Rattle.channel_laws.specs.Runs.{Occurrence, Comes, Connects, AsksFeatures, Disconnects, Sends, Gives, Fires, Tells, value_after}
use Rattle.refusal_laws.specs.Refused.{ClosesRightly, TellsRightly}

abbrev pub IsRight : Channels → Type 0
IsRight v = AllByRecursion TellsRightly v.events

pub all_and : (events : List ChannelEvent) (event : ChannelEvent) → AllByRecursion TellsRightly events → TellsRightly event → AllByRecursion TellsRightly (events ++ event ∷ [])
all_and [] event all so = (so, tt)
all_and (first ∷ events) event all so = (all.0, all_and events event all.1 so)

pub either : (b : Bool) (v w : Channels) → IsRight v → IsRight w → IsRight (cond b v w)
either true v w one other = one
either false v w one other = other

-- ---- a channel closes

pub closed_so : (v : Channels) (held : Held) (stage : Stage) (reason : CloseReason) → ClosesRightly reason → IsRight v → IsRight (closes_at stage reason held v)
closed_so v held (Requested request) reason so all = all_and v.events _ all so
closed_so v held (Connected peer setup) reason so all = all_and v.events _ all so
closed_so v held (Leaving peer setup request) reason so all = all_and v.events _ all so
closed_so v held (Closing peer request checked) reason so all = all
closed_so v held (Crossed peer request) reason so all = all

pub ended_so : (v : Channels) (held : Held) (stage : Stage) (reason : CloseReason) → ClosesRightly reason → IsRight v → IsRight (ends_at stage reason held v)
ended_so v held (Requested request) reason so all = all
ended_so v held (Connected peer setup) reason so all = all
ended_so v held (Leaving peer setup request) reason so all = all_and v.events _ all so
ended_so v held (Closing peer request checked) reason so all = all
ended_so v held (Crossed peer request) reason so all = all

left_by_peer : (v : Channels) (held : Held) (stage : Stage) → IsRight v → IsRight (peer_closes_at stage held v)
left_by_peer v held (Requested request) all = all
left_by_peer v held (Connected peer setup) all = all_and v.events _ all tt
left_by_peer v held (Leaving peer setup request) all = all_and v.events _ all tt
left_by_peer v held (Closing peer request checked) all = all
left_by_peer v held (Crossed peer request) all = all

machine_so : (reason : ErtmReason) → ClosesRightly (reason_of reason)
machine_so machines.BadReqSeq = tt
machine_so machines.Srej = tt
machine_so machines.BadSegment = tt
machine_so machines.RetryLimit = tt
machine_so machines.TooLongSdu = tt
machine_so machines.BadFrame = tt

pub settled_so : (v : Channels) (held : Held) (setup : Setup) (machine : Ertm) (shut : Option ErtmReason) → IsRight v → IsRight (settles_machine shut machine held setup v)
settled_so v held setup machine None all = all
settled_so v held setup machine (Some reason) all = closed_so v held held.stage (reason_of reason) (machine_so reason) all

-- ---- the peer asks for options

accepted : (v : Channels) (own : Own) (wish : Wish) (held : Held) (setup : Setup) → IsRight v → IsRight (accepts_with own wish held setup v)
accepted v Unasked wish held setup all = all
accepted v (Asking request options) wish held setup all = all
accepted v Granted wish held setup all = all_and v.events _ all tt

refused : (v : Channels) (held : Held) (setup : Setup) → IsRight v → IsRight (refuses held setup v)
refused v held setup all = either (nat_le 3 setup.refused) (closes NoAgreement (with_setup held setup) (to_setup held setup v)) (to_setup held setup v) (closed_so (to_setup held setup v) (with_setup held setup) (with_setup held setup).stage NoAgreement tt all) all

judged : (v : Channels) (now : Verdict) (wish : Wish) (held : Held) (setup : Setup) → IsRight v → IsRight (follows_verdict now wish held setup v)
judged v NoChannel wish held setup all = all
judged v (TooLate peer) wish held setup all = all
judged v (Unreadable peer) wish held setup all = all
judged v (Incomplete peer options) wish held setup all = all
judged v (Judged peer options (Accept given)) wish held setup all = accepted v setup.own wish held (accepted_setup wish options setup) all
judged v (Judged peer options (Unacceptable refusal given)) wish held setup all = refused v held (refused_setup setup) all
judged v (Judged peer options Unknown) wish held setup all = all

configured : (policy : Policy) (flags : ℕ) (options : List ℕ) (v : Channels) (found : Option Held) → IsRight v → IsRight (follows_configuration found policy flags options v)
configured policy flags options v None all = all
configured policy flags options v (Some held) all = on (setup_of held.stage)
  where
    on : (setup : Option Setup) → IsRight (follows_setup setup policy held flags options v)
    on None = all
    on (Some setup) = judged v (verdict policy held.own flags options v) (policy.wish held.psm) held setup all

parted : (peer : ℕ) (v : Channels) (found : Option Held) → IsRight v → IsRight (follows_disconnection found peer v)
parted peer v None all = all
parted peer v (Some held) all = either (is_peer peer held.stage) (peer_closes_at held.stage held v) v (left_by_peer v held held.stage all) all

followed : (policy : Policy) (content : Content) (v : Channels) → IsRight v → IsRight (follows policy content v)
followed policy (reject reason rest) v all = all
followed policy (connection_request psm source) v all = either (eqb (connection_result policy psm source v) 0) (with_channel psm (Connected source no_setup) v) v all all
followed policy (connection_response destination source answer status) v all = all
followed policy (configuration_request destination flags options) v all = configured policy flags options v (held_at destination v) all
followed policy (configuration_response source flags answer options) v all = all
followed policy (disconnection_request destination source) v all = parted source v (held_at destination v) all
followed policy (disconnection_response destination source) v all = all
followed policy (echo_request octets) v all = all
followed policy (echo_response octets) v all = all
followed policy (information_request kind) v all = all
followed policy (information_response kind answer rest) v all = all

-- ---- any request of the peer

said_so : (identifier : ℕ) (response : Option Content) (v : Channels) → IsRight v → IsRight (says identifier response v)
said_so identifier None v all = all
said_so identifier (Some content) v all = all

asked_again : (identifier : ℕ) (response : Option Content) (v : Channels) → IsRight v → IsRight (hears_again identifier response v)
asked_again identifier response v all = either (can_say response v) (says identifier response v) v (said_so identifier response v all) all

asked_new : (kind : RequestKind) (identifier : ℕ) (response : Option Content) (more : Channels → Channels) (v : Channels) → ((u : Channels) → IsRight u → IsRight (more u)) → IsRight v → IsRight (hears_new kind identifier response more v)
asked_new kind identifier response more v keeps all =
    let u : Channels = says identifier response (remembers kind identifier response v) in
    either (can_say response v) (more u) v (keeps u (said_so identifier response (remembers kind identifier response v) all)) all

asked : (last : Option Remembered) (kind : RequestKind) (identifier : ℕ) (response : Option Content) (more : Channels → Channels) (v : Channels) → ((u : Channels) → IsRight u → IsRight (more u)) → IsRight v
    → IsRight (hears_kind last kind identifier response more v)
asked None kind identifier response more v keeps all = asked_new kind identifier response more v keeps all
asked (Some last) kind identifier response more v keeps all =
    either (eqb last.identifier identifier) (hears_again identifier last.response v) (hears_new kind identifier response more v) (asked_again identifier last.response v all) (asked_new kind identifier response more v keeps all)

-- ---- what the peer responds

granted : (v : Channels) (held : Held) (setup : Setup) → IsRight v → IsRight (grants held setup v)
granted v held setup all = by (is_some setup.carrier)
  where
    by : (b : Bool) → IsRight (opens_if b held (to_setup held (granted_setup setup) (forgets (errands.Configuration held.own) v)))
    by true = all_and v.events _ all tt
    by false = all

-- here alone a refusal is told
opened : (v : Channels) (policy : Policy) (endpoint result : ℕ) (held : Held) → IsRight v → IsRight (hears_connected policy endpoint result held v)
opened v policy endpoint result held all = by (eqb result 0) (eqb result 1) refl refl
  where
    made : Channels
    made = connects (policy.wish held.psm) endpoint held v

    refusing : Channels
    refusing = closes (Refused result) held v

    apart : (other : ℕ) → eqb result other ≡ false → result ≡ other → ⊥
    apart other differs same = let never : true ≡ false = sym (ap (λ n. eqb n other) same ∙ eqb-same other) ∙ differs in cc

    by : (grants waits : Bool) → eqb result 0 ≡ grants → eqb result 1 ≡ waits → IsRight (cond grants (cond (is_fresh_endpoint endpoint v) made v) (cond waits v refusing))
    by true waits zero one = either (is_fresh_endpoint endpoint v) made v all all
    by false true zero one = all
    by false false zero one = closed_so v held held.stage (Refused result) (record { no_grant = apart 0 zero; not_pending = apart 1 one }) all

grant_heard : (v : Channels) (policy : Policy) (identifier endpoint result : ℕ) (found : Option Held) → IsRight v → IsRight (hears_grant found policy identifier endpoint result v)
grant_heard v policy identifier endpoint result None all = all
grant_heard v policy identifier endpoint result (Some held) all = at held.stage
  where
    at : (stage : Stage) → IsRight (hears_grant_at stage policy identifier endpoint result held v)
    at (Requested request) = either (eqb request.identifier identifier) (hears_connected policy endpoint result held v) v (opened v policy endpoint result held all) all
    at (Connected peer setup) = all
    at (Leaving peer setup request) = all
    at (Closing peer request checked) = all
    at (Crossed peer request) = all

renewed : (v : Channels) (options : Options) (held : Held) (setup : Setup) → IsRight v → IsRight (renews options held setup v)
renewed v options held setup all =
    either (is_leaving held.stage || nat_le 3 setup.renewed) (closes NoAgreement (with_setup held setup) (to_setup held setup v)) (asks_options held setup options v)
    (closed_so (to_setup held setup v) (with_setup held setup) (with_setup held setup).stage NoAgreement tt all) all

response_heard : (v : Channels) (policy : Policy) (identifier result : ℕ) (octets : List ℕ) (found : Option Held) → IsRight v → IsRight (hears_response found policy identifier result octets v)
response_heard v policy identifier result octets None all = all
response_heard v policy identifier result octets (Some held) all = on (setup_of held.stage)
  where
    so : (setup : Setup) (now : Settled) → IsRight (hears_settled now held setup v)
    so setup Accepted = granted v held setup all
    so setup (Again options) = renewed v options held (renewed_setup setup) all
    so setup Wait = all
    so setup Never = closed_so v held held.stage NoAgreement tt all

    read : (setup : Setup) (options : Result Options ConfigRefusal) → IsRight (hears_options options policy result held setup v)
    read setup (Ok options) = so setup (settled (policy.wish held.psm) result options)
    read setup (Err refusal) = all

    on : (setup : Option Setup) → IsRight (hears_response_on setup policy identifier result octets held v)
    on None = all
    on (Some setup) = either (is_asked identifier setup.own) (hears_options (options_read octets) policy result held setup v) v (read setup (options_read octets)) all

end_heard : (v : Channels) (peer : ℕ) (found : Option Held) → IsRight v → IsRight (hears_end found peer v)
end_heard v peer None all = all
end_heard v peer (Some held) all = either (is_peer peer held.stage) (ends OwnClosed held v) v (ended_so v held held.stage OwnClosed tt all) all

features_heard : (identifier : ℕ) (given : Option ℕ) (v : Channels) → IsRight v → IsRight (hears_features identifier given v)
features_heard identifier given v all =
    either (has_identifier identifier v.features) (tells (Features given) (forgets errands.Features (record v { features = None }))) v (all_and v.events _ all tt) all

-- ---- a command

content_so : (policy : Policy) (identifier : ℕ) (content : Content) (v : Channels) → IsRight v → IsRight (hears_content policy identifier content v)
content_so policy identifier (reject reason rest) v all = features_heard identifier None v all
content_so policy identifier (connection_request psm source) v all = asked v.memory.connection kinds.Connection identifier _ (follows policy (connection_request psm source)) v (followed policy (connection_request psm source)) all
content_so policy identifier (connection_response destination source answer status) v all = grant_heard v policy identifier destination answer (held_at source v) all
content_so policy identifier (configuration_request destination flags options) v all =
    asked v.memory.configuration kinds.Configuration identifier _ (follows policy (configuration_request destination flags options)) v (followed policy (configuration_request destination flags options)) all
content_so policy identifier (configuration_response source flags answer options) v all = response_heard v policy identifier answer options (held_at source v) all
content_so policy identifier (disconnection_request destination source) v all =
    asked v.memory.disconnection kinds.Disconnection identifier _ (follows policy (disconnection_request destination source)) v (followed policy (disconnection_request destination source)) all
content_so policy identifier (disconnection_response destination source) v all = end_heard v destination (held_at source v) all
content_so policy identifier (echo_request octets) v all = asked v.memory.echo kinds.Echo identifier _ (follows policy (echo_request octets)) v (followed policy (echo_request octets)) all
content_so policy identifier (echo_response octets) v all = all
content_so policy identifier (information_request kind) v all = asked v.memory.information kinds.Information identifier _ (follows policy (information_request kind)) v (followed policy (information_request kind)) all
content_so policy identifier (information_response kind answer rest) v all = features_heard identifier (features_in kind answer rest) v all

malformed_so : (kind : Option RequestKind) (identifier : ℕ) (v : Channels) → IsRight v → IsRight (hears_malformed kind identifier v)
malformed_so None identifier v all = all
malformed_so (Some kind) identifier v all = asked (remembered kind v.memory) kind identifier (Some not_understood) (λ w. w) v (λ u so. so) all

unread_so : (code identifier : ℕ) (v : Channels) → IsRight v → IsRight (hears_unread code identifier v)
unread_so code identifier v all =
    let malformed : Channels = hears_malformed (kind_of_code code) identifier v in
    let again : Channels = hears_again identifier (Some not_understood) v in
    let request : Channels = cond (is_kind (kind_of_code code)) malformed again in
    let unless : Channels = cond (is_response_code code) v request in
    either (eqb identifier 0) v unless all (either (is_response_code code) v request all
    (either (is_kind (kind_of_code code)) malformed again (malformed_so (kind_of_code code) identifier v all) (asked_again identifier (Some not_understood) v all)))

command_so : (policy : Policy) (one : Read) (v : Channels) → IsRight v → IsRight (hears_command policy one v)
command_so policy (Ok command) v all = content_so policy command.identifier command.content v all
command_so policy (Err (ZeroIdentifier code identifier)) v all = all
command_so policy (Err (BadLength code None)) v all = all
command_so policy (Err (BadLength code (Some identifier))) v all = unread_so code identifier v all
command_so policy (Err (UnknownCode code None)) v all = all
command_so policy (Err (UnknownCode code (Some identifier))) v all = unread_so code identifier v all
command_so policy (Err (AboveMtu code None)) v all = all
command_so policy (Err (AboveMtu code (Some identifier))) v all = either (eqb identifier 0) v (hears_again identifier (Some too_long) v) all (asked_again identifier (Some too_long) v all)

commands_so : (policy : Policy) (given : List Read) (v : Channels) → IsRight v → IsRight (hears_commands policy given v)
commands_so policy [] v all = all
commands_so policy (one ∷ given) v all = commands_so policy given (hears_command policy one v) (command_so policy one v all)

-- ---- a PDU on a channel

carried : (v : Channels) (carrier : Carrier) (pdu : List ℕ) (held : Held) (setup : Setup) → IsRight v → IsRight (carries carrier pdu held setup v)
carried v (Plain agreed waiting) pdu held setup all = all
carried v (Retransmitting m) pdu held setup all = let after : Ertm = machine_heard (read_by m pdu) m in settled_so v held setup after after.closed all

opened_with : (v : Channels) (own : Own) (held : Held) (setup : Setup) → IsRight v → IsRight (opens_with own held setup v)
opened_with v Unasked held setup all = all
opened_with v (Asking request options) held setup all = granted v held setup all
opened_with v Granted held setup all = all

taken_so : (pdu : List ℕ) (v : Channels) (found : Option Held) → IsRight v → IsRight (takes_held found pdu v)
taken_so pdu v None all = all
taken_so pdu v (Some held) all = on (setup_of held.stage)
  where
    with_carrier : (setup : Setup) (carrier : Option Carrier) → IsRight (takes_with carrier pdu held setup v)
    with_carrier setup None = all
    with_carrier setup (Some carrier) =
        let u : Channels = opens_with setup.own held setup v in
        either (is_taken_with setup.own carrier pdu) (carries carrier pdu (with_setup held (granted_setup setup)) (granted_setup setup) u) v
        (carried u carrier pdu (with_setup held (granted_setup setup)) (granted_setup setup) (opened_with v setup.own held setup all)) all

    on : (setup : Option Setup) → IsRight (takes_on setup pdu held v)
    on None = all
    on (Some setup) = with_carrier setup setup.carrier

comes_so : (policy : Policy) (v : Channels) (pdu : List ℕ) → IsRight v → IsRight (value_after policy (Comes pdu) v)
comes_so policy v pdu all =
    either (eqb (channel_of pdu) 0x0001) (hears_commands policy (answers (drop 4 pdu)) v) (takes (channel_of pdu) pdu v) (commands_so policy (answers (drop 4 pdu)) v all) (taken_so pdu v (held_at (channel_of pdu) v) all)

-- ---- what the host does

disconnects_so : (v : Channels) (found : Option Held) → IsRight v → IsRight (disconnected_held found v)
disconnects_so v None all = all
disconnects_so v (Some held) all = at held.stage
  where
    at : (stage : Stage) → IsRight (disconnected_at stage held v)
    at (Requested request) = closed_so v held held.stage OwnClosed tt all
    at (Connected peer setup) = all
    at (Leaving peer setup request) = all
    at (Closing peer request checked) = all
    at (Crossed peer request) = all

sends_so : (sdu : List ℕ) (v : Channels) (found : Option Held) → IsRight v → IsRight (sends_held found sdu v)
sends_so sdu v None all = all
sends_so sdu v (Some held) all = on (setup_of held.stage)
  where
    on : (setup : Option Setup) → IsRight (sends_on setup sdu held v)
    on None = all
    on (Some setup) = all

-- ---- what it gives

counted_at : (f : Stage → Stage) (found : Option Held) (v : Channels) → IsRight v → IsRight (stage_given f found v)
counted_at f None v all = all
counted_at f (Some held) v all = all

counts_so : (errand : Errand) (v : Channels) → IsRight v → IsRight (counted errand v)
counts_so (errands.Connection own) v all = counted_at _ (held_at own v) v all
counts_so (errands.Configuration own) v all = counted_at _ (held_at own v) v all
counts_so (errands.Disconnection own) v all = counted_at _ (held_at own v) v all
counts_so errands.Features v all = all

gives_so : (v : Channels) (queue : List Queued) → IsRight v → IsRight (queue_given queue v)
gives_so v (Answer command ∷ behind) all = all
gives_so v (Ask errand ∷ behind) all = counts_so errand (record v { queue = behind }) all
gives_so v [] all = first (find gives v.held)
  where
    on : (held : Held) (setup : Option Setup) → IsRight (carrier_spent setup held v)
    on held None = all
    on held (Some setup) = all

    first : (held : Option Held) → IsRight (held_given held v)
    first None = all
    first (Some held) = on held (setup_of held.stage)

-- ---- all but the timer and the telling

pub untimed_so : (policy : Policy) (one : Occurrence) (v : Channels) → IsRight (value_after policy Fires v) → IsRight (value_after policy Tells v) → IsRight v → IsRight (value_after policy one v)
untimed_so policy (Comes pdu) v timer telling all = comes_so policy v pdu all
untimed_so policy (Connects psm) v timer telling all = either (can_connect v) (asks (errands.Connection v.next) (with_channel psm (Requested (new_request v)) v)) v all all
untimed_so policy AsksFeatures v timer telling all = either (is_some v.features) v (asks errands.Features (record v { features = Some (new_request v) })) all all
untimed_so policy (Disconnects own) v timer telling all = disconnects_so v (held_at own v) all
untimed_so policy (Sends own sdu) v timer telling all = sends_so sdu v (held_at own v) all
untimed_so policy (Gives pdu) v timer telling all = gives_so v v.queue all
untimed_so policy Fires v timer telling all = timer
untimed_so policy Tells v timer telling all = telling
