-- A client asks for channels to PSMs of two octets alone: it reads no other off a service record.
use Rattle.std.proofs.Common.{◌≡◌, ℕ, zero, suc, ◌^◌, ◌<◌, List, [], ◌∷◌, ◌++◌, length, Bool, true, false, cond, ◌&&◌, ◌||◌, not, eqb, Option, Some, None, Result, Ok, Err, refl, arith}
use Rattle.std.specs.Prelude.{nat_lt, is_some}
use Rattle.std.specs.List.{flat_map}
use Rattle.std.specs.Option.{option_or}
use Rattle.std.proofs.lemmas.Bool.{ltb-true, and_parts}
use Rattle.shelf_model.specs.bt_base.specs.declared.ports.PortFault.{PortFault}
use Rattle.shelf_model.specs.bt_base.specs.declared.ports.PortFault.TheVariants as fault
use Rattle.shelf_model.specs.bt_base.specs.declared.settings.Transport.{Transport}
use Rattle.shelf_model.specs.bt_base.specs.declared.settings.Transport.TheVariants.{L2cap, Rfcomm}
use Rattle.shelf_model.specs.push_terms.specs.declared.outcome.Outcome.{Outcome}
use Rattle.shelf_model.specs.push_terms.specs.declared.outcome.Outcome.TheVariants as outcome
use Rattle.shelf_model.specs.rfcomm_model.specs.declared.state.MuxReason.{MuxReason}
use Rattle.shelf_model.specs.rfcomm_model.specs.Hearing.{Up, nothing, opened, bytes, closed, up, hears}
use Rattle.shelf_model.specs.rfcomm_model.specs.Saying.{Said, next}
use Rattle.shelf_model.specs.rfcomm_model.specs.Machine.{is_ready, leaves}
use Rattle.shelf_model.specs.rfcomm_frames.specs.FrameReading.{is_empty}
use Rattle.shelf_model.specs.obex_session.specs.declared.client.Answered.{Answered}
use Rattle.shelf_model.specs.obex_session.specs.declared.client.Answered.TheVariants.{Go, Done, Refused, Bad, Srmp}
use Rattle.shelf_model.specs.obex_session.specs.Views.{answer_at, after_at}
use Rattle.shelf_model.specs.sdp_elements.specs.declared.target.Target.{Target}
use Rattle.shelf_model.specs.sdp_elements.specs.Elements.{PlainValue, Nil, Unsigned, Signed, Uuid, Text, Boolean, Url, Tree, Leaf, SequenceOf, AlternativeOf}
use Rattle.shelf_model.specs.sdp_elements.specs.Optional.{◌>>=◌}
use Rattle.shelf_model.specs.sdp_elements.specs.Records.{Attribute}
use Rattle.shelf_model.specs.sdp_elements.specs.Targets.{value_number, number_of, records_in, is_service_psm, is_server_channel, kept, psm_in, first_found, target_of, target_in}
use Rattle.shelf_model.specs.sdp_client.specs.declared.query.Stage.{Stage as Standing}
use Rattle.shelf_model.specs.sdp_client.specs.declared.query.Stage.TheVariants as queries
use Rattle.shelf_model.specs.sdp_client.specs.declared.reason.Found.{Found}
use Rattle.shelf_model.specs.sdp_client.specs.declared.reason.Found.TheVariants as found
use Rattle.shelf_model.specs.sdp_client.specs.declared.reason.QueryReason.TheVariants.{WrongTransaction, TooLong}
use Rattle.shelf_model.specs.sdp_client.specs.Replies.{PlainPart, PlainSaid, Gives, Failed, said_in, is_of_another}
use Rattle.shelf_model.specs.sdp_client.specs.Replies as replies
use Rattle.shelf_model.specs.sdp_client.specs.Hearing.{found_target, found_in, found_part, found_said, found_by, found_when, found_at, after_reply}
use Rattle.shelf_model.specs.sdp_client.specs.Asking.{Asking, is_due}
use Rattle.push_laws.specs.push_model.specs.declared.closing.CloseCause.{CloseCause}
use Rattle.push_laws.specs.push_model.specs.declared.course.Contact.TheVariants.{Closing}
use Rattle.push_laws.specs.push_model.specs.declared.course.Point.TheVariants.{Due, Asked}
use Rattle.push_laws.specs.push_model.specs.declared.course.Stage.{Stage}
use Rattle.push_laws.specs.push_model.specs.declared.course.Stage.TheVariants.{Rest, Link, SearchChannel, Search, SearchEnd, Features, ObjectChannel, Object, ObjectEnd, LinkEnd, Over}
use Rattle.push_laws.specs.push_model.specs.Causes.{cause_of_link, cause_of_page, cause_of_close, cause_of_query, cause_of_mux, cause_of_obex, small_channel, unawaited_response, unknown_parameters}
use Rattle.push_laws.specs.push_model.specs.Client.{Client, may_cancel, ends_by, ends, ends_if, cancelled, begun_by, begins}
use Rattle.push_laws.specs.push_model.specs.Responding as responding
use Rattle.push_laws.specs.push_model.specs.Responding.{is_early, is_success, hears_answer, hears_response, reads_on, hears_front, hears_stream, is_left, hears_end, hears_up, hears_frame, is_object}
use Rattle.push_laws.specs.push_model.specs.Streams.{Front, Whole, Partial, Broken, front_of}
use Rattle.push_laws.specs.push_model.specs.Events as events
use Rattle.push_laws.specs.push_model.specs.Events.{search_psm, linked_at, is_linked, is_paging, over_by, over, muxed_anew, object_opened, opened_at, search_left, search_closed, closed_at, kept_of, found_psm, found_channel, found_way, finds, hears_reply, hears_object, hears_outside, sdu_at, is_asking_features, armed, fires, hears_news}
use Rattle.push_laws.specs.push_model.specs.Steps as course
use Rattle.push_laws.specs.push_model.specs.Steps.{Part, Stepped, Made, Ask, Connect, Put, Abort, Disconnect, Close, Nothing, Step, Wait, MakeLink, AskFeatures, OpenChannel, SendSdu, CloseChannel, BreakLink, Ended, NoMemory, rests, put_count, requests, puts, puts_part, puts_from, puts_or_leaves, failing, leaves_by, next_ask, may_ask, filled, takes_some, sends_direct, asks_direct, steps_direct, says, sends_muxed, asks_through, asks_muxed, goes_muxed, steps_muxed, steps_object, steps_search, tells_end, steps_at, steps}

-- ---- what a service record names

abbrev pub IsLowNumber : Option ℕ → Type 0
IsLowNumber None = Unit {0}
IsLowNumber (Some number) = number < 2 ^ 16

number_if : (b : Bool) (number : ℕ) → (b ≡ true → number < 2 ^ 16) → IsLowNumber (cond b (Some number) None)
number_if true number low = low refl
number_if false number low = tt

value_low : (width : ℕ) (value : PlainValue) → IsLowNumber (value_number width value)
value_low width Nil = tt
value_low width (Unsigned w number) = number_if _ number (λ is. ltb-true number 65536 (and_parts (eqb w width) (nat_lt number 65536) is).1)
value_low width (Signed w number) = tt
value_low width (Uuid octets) = tt
value_low width (Text octets) = tt
value_low width (Boolean truth) = tt
value_low width (Url octets) = tt

number_low : (width : ℕ) (tree : Tree) → IsLowNumber (number_of width tree)
number_low width (Leaf value) = value_low width value
number_low width (SequenceOf parts) = tt
number_low width (AlternativeOf parts) = tt

kept_low : (found : Option ℕ) → IsLowNumber found → IsLowNumber (found >>= kept is_service_psm)
kept_low None low = tt
kept_low (Some number) low = number_if (is_service_psm number) number (λ is. low)

either_number : (b : Bool) (found : Option ℕ) → IsLowNumber found → IsLowNumber (cond b found None)
either_number true found low = low
either_number false found low = tt

first_low : (attributes : List Attribute) → IsLowNumber (first_found psm_in attributes)
first_low [] = tt
first_low (a ∷ others) = by (psm_in a) (either_number (eqb a.identifier 0x0200) (number_of 2 a.value >>= kept is_service_psm) (kept_low (number_of 2 a.value) (number_low 2 a.value))) (first_low others)
  where
    by : (one : Option ℕ) → IsLowNumber one → IsLowNumber (first_found psm_in others) → IsLowNumber (option_or one (first_found psm_in others))
    by None low later = later
    by (Some number) low later = low

abbrev IsLowTarget : Option Target → Type 0
IsLowTarget None = Unit {0}
IsLowTarget (Some target) = IsLowNumber target.l2cap

target_low : (octets : List ℕ) → IsLowTarget (target_in octets)
target_low octets = by (records_in octets)
  where
    by : (records : Option (List (List Attribute))) → IsLowTarget (records >>= (λ found. Some (target_of (flat_map (λ attributes. attributes) found))))
    by None = tt
    by (Some records) = first_low (flat_map (λ attributes. attributes) records)

abbrev IsLowFound : Found → Type 0
IsLowFound found.More = Unit {0}
IsLowFound (found.Service target) = IsLowNumber target.l2cap
IsLowFound found.NoService = Unit {0}
IsLowFound (found.Refused reason) = Unit {0}

way_low : (l2cap rfcomm : Option ℕ) → IsLowNumber l2cap → IsLowFound (found_target l2cap rfcomm)
way_low None None low = tt
way_low None (Some rfcomm) low = tt
way_low (Some l2cap) rfcomm low = low

either_found : (b : Bool) (x y : Found) → IsLowFound x → IsLowFound y → IsLowFound (cond b x y)
either_found true x y one other = one
either_found false x y one other = other

in_low : (target : Option Target) → IsLowTarget target → IsLowFound (found_in target)
in_low None low = tt
in_low (Some target) low = way_low target.l2cap target.rfcomm low

part_low : (asking : Asking) (part : PlainPart) → IsLowFound (found_part asking part)
part_low asking part = by (nat_lt 4096 (length answer)) (eqb (length part.continuation) 0)
  where
    answer : List ℕ
    answer = asking.joined ++ part.octets

    by : (long last : Bool) → IsLowFound (cond long (found.Refused TooLong) (cond last (found_in (target_in answer)) found.More))
    by true last = tt
    by false true = in_low (target_in answer) (target_low answer)
    by false false = tt

said_low : (asking : Asking) (said : PlainSaid) → IsLowFound (found_said asking said)
said_low asking (Gives part) = part_low asking part
said_low asking (Failed code) = tt
said_low asking replies.Nothing = tt

reply_low : (asking : Asking) (reply : List ℕ) → IsLowFound (found_by asking reply)
reply_low asking reply = either_found (is_of_another reply asking.transaction) (found.Refused WrongTransaction) (found_said asking (said_in reply)) tt (said_low asking (said_in reply))

when_low : (stage : Standing) (asking : Asking) (reply : List ℕ) → IsLowFound (found_when stage asking reply)
when_low queries.Due asking reply = tt
when_low queries.Written asking reply = reply_low asking reply
when_low queries.Again asking reply = reply_low asking reply
when_low queries.Answered asking reply = tt
when_low (queries.Refused reason) asking reply = tt

-- ---- a client

abbrev pub IsLow : Client → Type 0
IsLow client = client.psm < 2 ^ 16

either : (b : Bool) (x y : Client) → IsLow x → IsLow y → IsLow (cond b x y)
either true x y one other = one
either false x y one other = other

ends_low : (outcome : Outcome) (client : Client) → IsLow client → IsLow (ends outcome client)
ends_low outcome client low = by client.cause
  where
    by : (cause : Option Outcome) → IsLow (ends_by cause outcome client)
    by None = low
    by (Some earlier) = low

if_low : (cause : Option Outcome) (client : Client) → IsLow client → IsLow (ends_if cause client)
if_low None client low = low
if_low (Some outcome) client low = ends_low outcome client low

over_low : (outcome : Outcome) (client : Client) → IsLow client → IsLow (over outcome client)
over_low outcome client low = by client.cause
  where
    by : (cause : Option Outcome) → IsLow (over_by cause outcome client)
    by None = low
    by (Some earlier) = low

linked_low : (stage : Stage) (client : Client) → IsLow client → IsLow (linked_at stage client)
linked_low (Link Asked) client low = either (is_some client.cause) _ _ low low
linked_low Rest client low = low
linked_low (Link Due) client low = low
linked_low (SearchChannel point) client low = low
linked_low Search client low = low
linked_low (SearchEnd point) client low = low
linked_low (Features point) client low = low
linked_low (ObjectChannel point) client low = low
linked_low Object client low = low
linked_low (ObjectEnd point) client low = low
linked_low (LinkEnd point) client low = low
linked_low Over client low = low

object_low : (transport : Transport) (mtu : ℕ) (client : Client) → IsLow client → IsLow (object_opened transport mtu client)
object_low L2cap mtu client low = either (nat_lt mtu 255) (ends small_channel client) _ (ends_low small_channel client low) low
object_low Rfcomm mtu client low = low

opened_low : (stage : Stage) (psm mtu : ℕ) (client : Client) → IsLow client → IsLow (opened_at stage psm mtu client)
opened_low (SearchChannel Asked) psm mtu client low = either (eqb psm search_psm) _ client low low
opened_low (ObjectChannel Asked) psm mtu client low = either (eqb psm client.psm) (object_opened client.transport mtu client) client (object_low client.transport mtu client low) low
opened_low Rest psm mtu client low = low
opened_low (Link point) psm mtu client low = low
opened_low (SearchChannel Due) psm mtu client low = low
opened_low Search psm mtu client low = low
opened_low (SearchEnd point) psm mtu client low = low
opened_low (Features point) psm mtu client low = low
opened_low (ObjectChannel Due) psm mtu client low = low
opened_low Object psm mtu client low = low
opened_low (ObjectEnd point) psm mtu client low = low
opened_low (LinkEnd point) psm mtu client low = low
opened_low Over psm mtu client low = low

left_low : (cause : Option Outcome) (client : Client) → IsLow client → IsLow (search_left cause client)
left_low None client low = low
left_low (Some cause) client low = low

search_low : (cause : Option Outcome) (client : Client) → IsLow client → IsLow (search_closed cause client)
search_low None client low = left_low client.cause client low
search_low (Some outcome) client low = ends_low outcome client low

closed_low : (stage : Stage) (psm : ℕ) (cause : CloseCause) (client : Client) → IsLow client → IsLow (closed_at stage psm cause client)
closed_low (SearchChannel Asked) psm cause client low = either (eqb psm search_psm) (ends_if (cause_of_close cause) client) client (if_low (cause_of_close cause) client low) low
closed_low Search psm cause client low = either (eqb psm search_psm) (ends_if (cause_of_close cause) client) client (if_low (cause_of_close cause) client low) low
closed_low (SearchEnd point) psm cause client low = either (eqb psm search_psm) (search_closed (cause_of_close cause) client) client (search_low (cause_of_close cause) client low) low
closed_low (ObjectChannel Asked) psm cause client low = either (eqb psm client.psm) (ends_if (cause_of_close cause) client) client (if_low (cause_of_close cause) client low) low
closed_low Object psm cause client low = either (eqb psm client.psm) (ends_if (cause_of_close cause) client) client (if_low (cause_of_close cause) client low) low
closed_low (ObjectEnd point) psm cause client low = either (eqb psm client.psm) _ client low low
closed_low Rest psm cause client low = low
closed_low (Link point) psm cause client low = low
closed_low (SearchChannel Due) psm cause client low = low
closed_low (Features point) psm cause client low = low
closed_low (ObjectChannel Due) psm cause client low = low
closed_low (LinkEnd point) psm cause client low = low
closed_low Over psm cause client low = low

-- ---- the search

psm_low : (named : Option ℕ) (client : Client) → IsLowNumber named → IsLow client → IsLow (found_psm named client)
psm_low None client number low = ends_low outcome.NoService client low
psm_low (Some psm) client number low = number

channel_low : (named : Option ℕ) (client : Client) → IsLow client → IsLow (found_channel named client)
channel_low None client low = ends_low outcome.NoService client low
channel_low (Some channel) client low = omega arith

kept_number : (named : Option ℕ) → IsLowNumber named → IsLowNumber (kept_of is_service_psm named)
kept_number None low = tt
kept_number (Some number) low = number_if (is_service_psm number) number (λ is. low)

named_low : (transport : Transport) (target : Target) (client : Client) → IsLowNumber target.l2cap → IsLow client → IsLow (found_way transport target client)
named_low L2cap target client number low = psm_low (kept_of is_service_psm target.l2cap) client (kept_number target.l2cap number) low
named_low Rfcomm target client number low = channel_low (kept_of is_server_channel target.rfcomm) client low

finds_low : (one : Found) (client : Client) → IsLowFound one → IsLow client → IsLow (finds one client)
finds_low found.More client so low = low
finds_low (found.Service target) client so low = named_low client.transport target client so low
finds_low found.NoService client so low = ends_low outcome.NoService client low
finds_low (found.Refused reason) client so low = if_low (cause_of_query reason) client low

-- ---- responses

takes_low : (answer : Answered) (client : Client) → IsLow client → IsLow (responding.takes answer client)
takes_low Go client low = low
takes_low Done client low = ends_low outcome.Done client low
takes_low (Refused code) client low = ends_low (outcome.Refused code) client low
takes_low (Bad refusal) client low = ends_low (cause_of_obex refusal) client low
takes_low Srmp client low = ends_low unknown_parameters client low

answer_low : (answer : Option Answered) (packet : List ℕ) (client : Client) → IsLow client → IsLow (hears_answer answer packet client)
answer_low None packet client low = ends_low unawaited_response client low
answer_low (Some answer) packet client low =
    let heard : Client = record client { session = after_at client.session.awaited client.session packet } in
    either (is_success answer && is_early client) (ends unawaited_response heard) (responding.takes answer heard) (ends_low unawaited_response heard low) (takes_low answer heard low)

response_low : (packet : List ℕ) (client : Client) → IsLow client → IsLow (hears_response packet client)
response_low packet client low = answer_low (answer_at client.session.awaited client.session packet) packet client low

front_low : (more : List ℕ → Client → Client) (stream : List ℕ) (front : Front) (client : Client) → ((rest : List ℕ) (next : Client) → IsLow next → IsLow (more rest next)) → IsLow client → IsLow (hears_front more stream front client)
front_low more stream (Whole packet rest) client goes low =
    let after : Client = hears_response packet (record client { held = [] }) in
    let so : IsLow after = response_low packet (record client { held = [] }) low in
    either (is_object after.stage) (more rest after) after (goes rest after so) so
front_low more stream Partial client goes low = low
front_low more stream (Broken refusal) client goes low = ends_low (cause_of_obex refusal) (record client { held = [] }) low

stream_low : (steps : ℕ) (stream : List ℕ) (client : Client) → IsLow client → IsLow (hears_stream steps stream client)
unfolding hears_stream
stream_low zero stream client low = low
stream_low (suc steps) stream client low = front_low (λ rest next. hears_stream steps rest next) stream (front_of client.session.maximum stream) client (λ rest next. stream_low steps rest next) low

end_low : (reason : MuxReason) (client : Client) → IsLow client → IsLow (hears_end reason client)
end_low reason client low = either (is_left client.contact reason) _ (ends (cause_of_mux reason) client) low (ends_low (cause_of_mux reason) client low)

up_low : (up : Up) (client : Client) → IsLow client → IsLow (hears_up up client)
up_low nothing client low = low
up_low opened client low = low
up_low (bytes octets) client low = stream_low (length (client.held ++ octets)) (client.held ++ octets) client low
up_low (closed reason) client low = end_low reason client low

carried_low : (transport : Transport) (sdu : List ℕ) (client : Client) → IsLow client → IsLow (hears_object transport sdu client)
carried_low L2cap sdu client low = response_low sdu client low
carried_low Rfcomm sdu client low = up_low (up sdu client.mux) (record client { mux = hears sdu client.mux }) low

outside_low : (transport : Transport) (client : Client) → IsLow client → IsLow (hears_outside transport client)
outside_low L2cap client low = ends_low unawaited_response client low
outside_low Rfcomm client low = low

sdu_low : (stage : Stage) (psm : ℕ) (sdu : List ℕ) (client : Client) → IsLow client → IsLow (sdu_at stage psm sdu client)
sdu_low Search psm sdu client low =
    either (eqb psm search_psm) (hears_reply sdu client) client (finds_low (found_at client.query sdu) (record client { query = after_reply client.query sdu }) (when_low client.query.stage client.query sdu) low) low
sdu_low (ObjectChannel point) psm sdu client low = either (eqb psm client.psm) (hears_outside client.transport client) client (outside_low client.transport client low) low
sdu_low Object psm sdu client low = either (eqb psm client.psm) (hears_object client.transport sdu client) client (carried_low client.transport sdu client low) low
sdu_low (ObjectEnd point) psm sdu client low = either (eqb psm client.psm) (hears_outside client.transport client) client (outside_low client.transport client low) low
sdu_low Rest psm sdu client low = low
sdu_low (Link point) psm sdu client low = low
sdu_low (SearchChannel point) psm sdu client low = low
sdu_low (SearchEnd point) psm sdu client low = low
sdu_low (Features point) psm sdu client low = low
sdu_low (LinkEnd point) psm sdu client low = low
sdu_low Over psm sdu client low = low

fires_low : (client : Client) → IsLow client → IsLow (fires client)
fires_low client low =
    either (armed client && not (client.given || is_due client.query)) _ client (either (eqb client.left 0) (ends outcome.RetryLimit client) _ (ends_low outcome.RetryLimit client low) low) low

pub news-low : (news : events.News) (client : Client) → IsLow client → IsLow (hears_news news client)
news-low events.LinkUp client low = linked_low client.stage client low
news-low (events.LinkDown reason) client low = either (is_linked client.stage) (over (cause_of_link reason) client) client (over_low (cause_of_link reason) client low) low
news-low (events.LinkFailed status) client low = either (is_paging client.stage) (over (cause_of_page status) client) client (over_low (cause_of_page status) client low) low
news-low (events.ChannelOpen psm mtu) client low = opened_low client.stage psm mtu client low
news-low (events.ChannelClosed psm cause) client low = closed_low client.stage psm cause client low
news-low (events.Sdu psm octets) client low = sdu_low client.stage psm octets client low
news-low events.FeaturesTold client low = either (is_asking_features client.stage) _ client low low
news-low events.FeaturesLost client low = either (is_asking_features client.stage) (ends outcome.RetryLimit client) client (ends_low outcome.RetryLimit client low) low
news-low events.Timer client low = fires_low client low

pub cancelled-low : (client : Client) → IsLow client → IsLow (cancelled client)
cancelled-low client low = either (may_cancel client) (ends outcome.Cancelled client) client (ends_low outcome.Cancelled client low) low

pub begins-low : (size : Result ℕ PortFault) (name : List ℕ) (client : Client) → IsLow client → IsLow (begins size name client)
begins-low size name client low = either client.failed client (begun_by size name client) low (by size)
  where
    by : (size : Result ℕ PortFault) → IsLow (begun_by size name client)
    by (Ok size) = low
    by (Err fault.Failed) = low
    by (Err fault.NoMemory) = low

-- ---- its steps

abbrev pub opens : Step → Option ℕ
opens Wait = None
opens MakeLink = None
opens AskFeatures = None
opens (OpenChannel psm) = Some psm
opens (SendSdu psm payload) = None
opens (CloseChannel psm) = None
opens BreakLink = None
opens (Ended outcome) = None
opens NoMemory = None

-- the client is low then, and the channel that it asks for
pub record IsLowStep (one : Stepped) : Type 0 where
  pub client : IsLow one.client
  pub opens : IsLowNumber (opens one.step)

either_step : (b : Bool) (x y : Stepped) → IsLowStep x → IsLowStep y → IsLowStep (cond b x y)
either_step true x y one other = one
either_step false x y one other = other

either_made : (b : Bool) (x y : Made) → IsLow x.client → IsLow y.client → IsLow (cond b x y).client
either_made true x y one other = one
either_made false x y one other = other

leaves_low : (ask : Ask) (client : Client) (parts : List Part) → IsLow client → IsLow (leaves_by ask client parts).client
leaves_low Connect client parts low = low
leaves_low Put client parts low = low
leaves_low Abort client parts low = low
leaves_low Disconnect client parts low = low
leaves_low Close client parts low = low
leaves_low Nothing client parts low = low

part_puts : (part : Part) (client : Client) (parts : List Part) → IsLow client → IsLow (puts_part part client parts).client
part_puts (Ok part) client parts low = low
part_puts (Err fault) client parts low = low

from_puts : (parts : List Part) (client : Client) → IsLow client → IsLow (puts_from parts client).client
from_puts [] client low = low
from_puts (part ∷ parts) client low = part_puts part client parts low

or_leaves : (result : Result (Unit {0}) PortFault) (put : Made) → IsLow put.client → IsLow (puts_or_leaves result put).client
or_leaves (Ok done) put low = low
or_leaves (Err fault.Failed) put low = leaves_low (next_ask (ends outcome.ShelfFault put.client)) (ends outcome.ShelfFault put.client) put.left (ends_low outcome.ShelfFault put.client low)
or_leaves (Err fault.NoMemory) put low = low

requests_low : (ask : Ask) (client : Client) (parts : List Part) → IsLow client → IsLow (requests ask client parts).client
requests_low Connect client parts low = low
requests_low Put client parts low =
    or_leaves (puts client parts).outcome (puts client parts) (either_made (eqb (put_count client) 0) (puts_part (Ok []) client parts) (puts_from parts client) low (from_puts parts client low))
requests_low Abort client parts low = low
requests_low Disconnect client parts low = low
requests_low Close client parts low = low
requests_low Nothing client parts low = low

direct_low : (result : Result (Unit {0}) PortFault) (request : Made) → IsLow request.client → IsLowStep (sends_direct result request)
direct_low (Ok done) request low = record { client = low; opens = tt }
direct_low (Err fault) request low = record { client = low; opens = tt }

asks_low : (ask : Ask) (client : Client) (parts : List Part) → IsLow client → IsLowStep (asks_direct ask client parts)
asks_low Close client parts low = record { client = low; opens = tt }
asks_low Nothing client parts low = record { client = low; opens = tt }
asks_low Connect client parts low = direct_low (requests Connect client parts).outcome (requests Connect client parts) (requests_low Connect client parts low)
asks_low Put client parts low = direct_low (requests Put client parts).outcome (requests Put client parts) (requests_low Put client parts low)
asks_low Abort client parts low = direct_low (requests Abort client parts).outcome (requests Abort client parts) (requests_low Abort client parts low)
asks_low Disconnect client parts low = direct_low (requests Disconnect client parts).outcome (requests Disconnect client parts) (requests_low Disconnect client parts low)

filled_low : (client : Client) → IsLow client → IsLow (filled client)
filled_low client low = either (is_ready client.mux && not (is_empty client.rest)) _ client low low

said_step : (one : Option Said) (client : Client) (parts : List Part) → IsLow client → IsLowStep (course.said_by one client parts)
said_step None client parts low = record { client = low; opens = tt }
said_step (Some said) client parts low = record { client = low; opens = tt }

says_low : (client : Client) (parts : List Part) → IsLow client → IsLowStep (says client parts)
says_low client parts low = said_step (next (filled client).mux) (filled client) parts (filled_low client low)

muxed_low : (result : Result (Unit {0}) PortFault) (request : Made) → IsLow request.client → IsLowStep (sends_muxed result request)
muxed_low (Ok done) request low = says_low request.client request.left low
muxed_low (Err fault) request low = record { client = low; opens = tt }

through_low : (ask : Ask) (client : Client) (parts : List Part) → IsLow client → IsLowStep (asks_through ask client parts)
through_low ask client parts low =
    let request : Made = requests ask (record client { rest = [] }) parts in
    either_step (takes_some client.mux) (sends_muxed request.outcome request) (rests client parts) (muxed_low request.outcome request (requests_low ask (record client { rest = [] }) parts low)) (record { client = low; opens = tt })

asks_muxed_low : (ask : Ask) (client : Client) (parts : List Part) → IsLow client → IsLowStep (asks_muxed ask client parts)
asks_muxed_low Close client parts low = says_low (record client { mux = leaves client.mux; contact = Closing }) parts low
asks_muxed_low Nothing client parts low = record { client = low; opens = tt }
asks_muxed_low Connect client parts low = through_low Connect client parts low
asks_muxed_low Put client parts low = through_low Put client parts low
asks_muxed_low Abort client parts low = through_low Abort client parts low
asks_muxed_low Disconnect client parts low = through_low Disconnect client parts low

goes_low : (one : Option Said) (client : Client) (parts : List Part) → IsLow client → IsLowStep (goes_muxed one client parts)
goes_low None client parts low =
    let quiet : Client = record client { frame = None } in
    either_step (may_ask quiet) (asks_muxed (next_ask quiet) quiet parts) (rests quiet parts) (asks_muxed_low (next_ask quiet) quiet parts low) (record { client = low; opens = tt })
goes_low (Some said) client parts low = said_step (Some said) client parts low

object_step : (transport : Transport) (client : Client) (parts : List Part) → IsLow client → IsLowStep (steps_object transport client parts)
object_step L2cap client parts low =
    let new : Client = record client { rest = [] } in either_step (may_ask client) (asks_direct (next_ask client) new parts) (rests client parts) (asks_low (next_ask client) new parts low) (record { client = low; opens = tt })
object_step Rfcomm client parts low = goes_low (next (filled client).mux) (filled client) parts (filled_low client low)

end_step : (cause : Option Outcome) (client : Client) (parts : List Part) → IsLow client → IsLowStep (tells_end cause client parts)
end_step None client parts low = record { client = low; opens = tt }
end_step (Some outcome) client parts low = record { client = low; opens = tt }

at_low : (stage : Stage) (client : Client) (parts : List Part) → IsLow client → IsLowStep (steps_at stage client parts)
at_low Rest client parts low = record { client = low; opens = tt }
at_low (Link Due) client parts low = record { client = low; opens = tt }
at_low (Link Asked) client parts low = record { client = low; opens = tt }
at_low (SearchChannel Due) client parts low = record { client = low; opens = omega arith }
at_low (SearchChannel Asked) client parts low = record { client = low; opens = tt }
at_low Search client parts low = either_step (is_due client.query) _ (rests client parts) (record { client = low; opens = tt }) (record { client = low; opens = tt })
at_low (SearchEnd Due) client parts low = record { client = low; opens = tt }
at_low (SearchEnd Asked) client parts low = record { client = low; opens = tt }
at_low (Features Due) client parts low = record { client = low; opens = tt }
at_low (Features Asked) client parts low = record { client = low; opens = tt }
at_low (ObjectChannel Due) client parts low = record { client = low; opens = low }
at_low (ObjectChannel Asked) client parts low = record { client = low; opens = tt }
at_low Object client parts low = object_step client.transport client parts low
at_low (ObjectEnd Due) client parts low = record { client = low; opens = tt }
at_low (ObjectEnd Asked) client parts low = record { client = low; opens = tt }
at_low (LinkEnd Due) client parts low = record { client = low; opens = tt }
at_low (LinkEnd Asked) client parts low = record { client = low; opens = tt }
at_low Over client parts low = end_step client.cause client parts low

pub steps-low : (client : Client) (parts : List Part) → IsLow client → IsLowStep (steps client parts)
steps-low client parts low =
    either_step client.failed _ _ (record { client = low; opens = tt }) (either_step client.given (rests client parts) (steps_at client.stage client parts) (record { client = low; opens = tt }) (at_low client.stage client parts low))
