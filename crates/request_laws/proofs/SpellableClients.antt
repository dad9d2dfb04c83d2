-- Whatever a client over RFCOMM hears and does, its frames can be spelled.
use Rattle.std.proofs.Common.{Bool, true, false, cond, eqb, leb, ltb, ◌&&◌, ◌-◌, ◌*◌, ◌^◌, ◌<◌, ◌≡◌, zero, suc, ℕ, List, [], ◌∷◌, ◌++◌, length, drop, min, Option, Some, None, Result, Ok, Err, arith, refl}
use Rattle.std.specs.Prelude.{not, is_some}
use Rattle.std.specs.List.{AllByRecursion}
use Rattle.std.proofs.lemmas.Bool.{and_parts, leb-true}
use Rattle.pair_laws.specs.bt_base.specs.declared.ports.PortFault.{PortFault}
use Rattle.pair_laws.specs.bt_base.specs.declared.ports.PortFault.TheVariants as fault
use Rattle.pair_laws.specs.bt_base.specs.declared.settings.Settings.{Settings}
use Rattle.pair_laws.specs.bt_base.specs.declared.settings.Transport.{Transport}
use Rattle.pair_laws.specs.bt_base.specs.declared.settings.Transport.TheVariants.{L2cap, Rfcomm}
use Rattle.pair_laws.specs.bt_base.specs.Octets.{IsOctets}
use Rattle.pair_laws.specs.obex_headers.specs.Packets.{bare}
use Rattle.pair_laws.specs.obex_headers.proofs.Numbers.{IsOctets-drop}
use Rattle.pair_laws.specs.obex_session.specs.declared.client.Answered.{Answered}
use Rattle.pair_laws.specs.obex_session.specs.declared.client.Answered.TheVariants.{Go, Done, Refused, Bad, Srmp}
use Rattle.pair_laws.specs.obex_session.specs.Responses.{connect_fields}
use Rattle.pair_laws.specs.obex_session.specs.Views.{answer_at, after_at}
use Rattle.pair_laws.specs.push_terms.specs.declared.outcome.Outcome.{Outcome}
use Rattle.pair_laws.specs.push_terms.specs.declared.outcome.Outcome.TheVariants as outcomes
use Rattle.pair_laws.specs.rfcomm_frames.specs.FrameReading.{is_empty}
use Rattle.pair_laws.specs.rfcomm_frames.specs.declared.connection.Role.TheVariants.{Initiator}
use Rattle.pair_laws.specs.rfcomm_frames.specs.Frames.{PlainFrame}
use Rattle.pair_laws.specs.rfcomm_model.specs.declared.state.MuxReason.{MuxReason}
use Rattle.pair_laws.specs.rfcomm_model.specs.Hearing.{Up, nothing, opened, bytes, closed, up, hears}
use Rattle.pair_laws.specs.rfcomm_model.specs.Machine.{is_ready, sends, taken_count}
use Rattle.pair_laws.specs.rfcomm_model.specs.Saying.{Said, next}
use Rattle.pair_laws.specs.sdp_client.specs.declared.reason.Found.{Found}
use Rattle.pair_laws.specs.sdp_client.specs.declared.reason.Found.TheVariants.{More, Service, NoService}
use Rattle.pair_laws.specs.sdp_client.specs.declared.reason.Found.TheVariants as found
use Rattle.pair_laws.specs.sdp_client.specs.Asking.{is_due, after_resend}
use Rattle.pair_laws.specs.sdp_client.specs.Hearing.{found_at, after_reply}
use Rattle.pair_laws.specs.sdp_elements.specs.declared.target.Target.{Target}
use Rattle.pair_laws.specs.sdp_elements.specs.Targets.{is_service_psm, is_server_channel}
use Rattle.pair_laws.specs.push_model.specs.declared.closing.CloseCause.{CloseCause}
use Rattle.pair_laws.specs.push_model.specs.declared.course.Point.TheVariants.{Due, Asked}
use Rattle.pair_laws.specs.push_model.specs.declared.course.Stage.{Stage}
use Rattle.pair_laws.specs.push_model.specs.declared.course.Stage.TheVariants.{Rest, Link, SearchChannel, Search, SearchEnd, Features, ObjectChannel, Object, ObjectEnd, LinkEnd, Over}
use Rattle.pair_laws.specs.push_model.specs.Causes.{cause_of_close, cause_of_obex, cause_of_query, unawaited_response, unknown_parameters, small_channel}
use Rattle.pair_laws.specs.push_model.specs.Client.{Client, ends_by, ends, ends_if, cancelled, begins, begun_by, new_client, may_cancel}
use Rattle.pair_laws.specs.push_model.specs.Events.{News, LinkUp, LinkFailed, ChannelOpen, ChannelClosed, Sdu, FeaturesTold, FeaturesLost, Timer, linked_at, over_by, own_frame, muxed_anew, object_opened, opened_at, search_left, search_closed, closed_at, kept_of, found_psm, found_channel, found_way, finds, hears_reply, hears_object, hears_outside, sdu_at, fires, armed, hears_news, is_linked, is_paging, is_asking_features}
use Rattle.pair_laws.specs.push_model.specs.Events as news
use Rattle.pair_laws.specs.push_model.specs.Laws.{Deed, Hears, Asks, Finishes, Cancels, done}
use Rattle.pair_laws.specs.push_model.specs.Responding.{takes, hears_answer, hears_response, is_object, hears_front, hears_stream, is_left, hears_end, hears_up, hears_frame}
use Rattle.pair_laws.specs.push_model.specs.Steps.{Part, Stepped, Made, Ask, Connect, Put, Abort, Disconnect, Close, Nothing, rests, next_ask, may_ask, put_count, is_last_put, puts_part, puts_from, puts, aborts, disconnects, leaves_by, failing, requests, puts_or_leaves, sends_direct, asks_direct, steps_direct, filled, said_by, says, sends_muxed, takes_some, asks_through, asks_muxed, goes_muxed, steps_muxed, steps_object, steps_search, tells_end, steps_at, steps, stepped, is_muxed, connect_octets, abort_octets, disconnect_octets, put_octets}
use Rattle.pair_laws.specs.push_model.specs.Streams.{Front, Whole, Partial, Broken, front_of}
use Rattle.pair_laws.specs.push_laws.specs.Carriage.{frames_of, frames_by}
use Rattle.request_laws.specs.Carried.{IsReadSo}
use Rattle.request_laws.specs.Spellable.{IsSpellable, IsSaidSpellable}
use Rattle.pair_laws.specs.shelf_model.specs.Held.{IsPartOctets}
use Rattle.request_laws.specs.SpellableClients.{BringsOctets, IsOfOctets, IsState, SpellsAll, ClientFramesAreRead}
use Rattle.request_laws.proofs.PacketOctets.{packet_are_octets, connect_are_octets, put_are_octets, request_are_octets, after_reply_state}
use Rattle.request_laws.proofs.Spellable.{frames_are_spellable}
use Rattle.request_laws.proofs.SpellableParts.{none_octets, read_so}

either : (b : Bool) (x y : Client) → SpellsAll x → SpellsAll y → SpellsAll (cond b x y)
either true x y s t = s
either false x y s t = t

ends_fit : (cause : Option Outcome) (outcome : Outcome) (client : Client) → SpellsAll client → SpellsAll (ends_by cause outcome client)
ends_fit None outcome client s = s
ends_fit (Some earlier) outcome client s = s

ended_fit : (outcome : Outcome) (client : Client) → SpellsAll client → SpellsAll (ends outcome client)
ended_fit outcome client s = ends_fit client.cause outcome client s

if_fit : (cause : Option Outcome) (client : Client) → SpellsAll client → SpellsAll (ends_if cause client)
if_fit None client s = s
if_fit (Some outcome) client s = ended_fit outcome client s

-- ---- responses

takes_fit : (answer : Answered) (client : Client) → SpellsAll client → SpellsAll (takes answer client)
takes_fit Go client s = s
takes_fit Done client s = ended_fit outcomes.Done client s
takes_fit (Refused code) client s = ended_fit (outcomes.Refused code) client s
takes_fit (Bad refusal) client s = ended_fit (cause_of_obex refusal) client s
takes_fit Srmp client s = ended_fit unknown_parameters client s

response_by : (answer : Option Answered) (packet : List ℕ) (client : Client) → SpellsAll client → SpellsAll (hears_answer answer packet client)
response_by None packet client s = ended_fit unawaited_response client s
response_by (Some answer) packet client s =
    let heard : Client = record client { session = after_at client.session.awaited client.session packet } in
    either _ (ends unawaited_response heard) (takes answer heard) (ended_fit unawaited_response heard s) (takes_fit answer heard s)

response_fit : (packet : List ℕ) (client : Client) → SpellsAll client → SpellsAll (hears_response packet client)
response_fit packet client s = response_by (answer_at client.session.awaited client.session packet) packet client s

front_fit : (steps : ℕ) (stream : List ℕ) (front : Front) (client : Client) → SpellsAll client → ((rest : List ℕ) (next : Client) → SpellsAll next → SpellsAll (hears_stream steps rest next))
    → SpellsAll (hears_front (λ rest next. hears_stream steps rest next) stream front client)
front_fit steps stream (Whole packet rest) client s more =
    let heard : Client = hears_response packet (record client { held = [] }) in
    let t : SpellsAll heard = response_fit packet (record client { held = [] }) s in
    either (is_object heard.stage) (hears_stream steps rest heard) heard (more rest heard t) t
front_fit steps stream Partial client s more = s
front_fit steps stream (Broken refusal) client s more = ended_fit (cause_of_obex refusal) (record client { held = [] }) s

stream_fit : (steps : ℕ) (stream : List ℕ) (client : Client) → SpellsAll client → SpellsAll (hears_stream steps stream client)
unfolding hears_stream
stream_fit zero stream client s = s
stream_fit (suc steps) stream client s = front_fit steps stream (front_of client.session.maximum stream) client s (λ rest next t. stream_fit steps rest next t)

end_fit : (reason : MuxReason) (client : Client) → SpellsAll client → SpellsAll (hears_end reason client)
end_fit reason client s = either (is_left client.contact reason) _ _ s (ended_fit _ client s)

up_fit : (u : Up) (client : Client) → SpellsAll client → SpellsAll (hears_up u client)
up_fit nothing client s = s
up_fit opened client s = s
up_fit (bytes octets) client s = stream_fit (length (client.held ++ octets)) (client.held ++ octets) client s
up_fit (closed reason) client s = end_fit reason client s

frame_fit : (sdu : List ℕ) (client : Client) → IsOctets sdu → SpellsAll client → SpellsAll (hears_frame sdu client)
frame_fit sdu client fits (mux, channel, rest, state) = up_fit (up sdu client.mux) (record client { mux = hears sdu client.mux }) (frames_are_spellable.hearing sdu client.mux fits mux, channel, rest, state)

-- ---- links and channels

linked_fit : (stage : Stage) (client : Client) → SpellsAll client → SpellsAll (linked_at stage client)
linked_fit (Link Asked) client s = either (is_some client.cause) (record client { stage = LinkEnd Due }) (record client { stage = SearchChannel Due }) s s
linked_fit Rest client s = s
linked_fit (Link Due) client s = s
linked_fit (SearchChannel point) client s = s
linked_fit Search client s = s
linked_fit (SearchEnd point) client s = s
linked_fit (Features point) client s = s
linked_fit (ObjectChannel point) client s = s
linked_fit Object client s = s
linked_fit (ObjectEnd point) client s = s
linked_fit (LinkEnd point) client s = s
linked_fit Over client s = s

over_fit : (cause : Option Outcome) (outcome : Outcome) (client : Client) → SpellsAll client → SpellsAll (over_by cause outcome client)
over_fit None outcome client s = s
over_fit (Some earlier) outcome client s = s

own_fits : (largest mtu : ℕ) → largest < 2 ^ 15 → own_frame largest mtu < 2 ^ 15
own_fits largest mtu fits = omega (arith, fits)

anew_fit : (mtu : ℕ) (client : Client) → SpellsAll client → SpellsAll (record (muxed_anew mtu client) { limit = 32767 })
anew_fit mtu client ((numbers, answers, waiting), channel, rest, state) =
    let least = channel.least in
    let most = channel.most in
    let own = own_fits client.mux.largest mtu numbers.largest_fits in (
      frames_are_spellable.made client.mux.role (2 * client.channel) client.mux.largest (own_frame client.mux.largest mtu) client.mux.account.cap
          (record { user = omega (arith, least); below = omega (arith, most); largest_fits = numbers.largest_fits; own_fits = own; frame_fits = own; cap_fits = numbers.cap_fits }),
      channel,
      rest,
      state,
    )

object_fit : (transport : Transport) (mtu : ℕ) (client : Client) → SpellsAll client → SpellsAll (object_opened transport mtu client)
object_fit L2cap mtu client s = either (ltb mtu 255) (ends small_channel client) (record client { stage = Object; limit = min mtu 32767 }) (ended_fit small_channel client s) s
object_fit Rfcomm mtu client s = anew_fit mtu client s

opened_fit : (stage : Stage) (psm mtu : ℕ) (client : Client) → SpellsAll client → SpellsAll (opened_at stage psm mtu client)
opened_fit (SearchChannel Asked) psm mtu client s = either _ (record client { stage = Search }) client s s
opened_fit (ObjectChannel Asked) psm mtu client s = either _ (object_opened client.transport mtu client) client (object_fit client.transport mtu client s) s
opened_fit Rest psm mtu client s = s
opened_fit (Link point) psm mtu client s = s
opened_fit (SearchChannel Due) psm mtu client s = s
opened_fit Search psm mtu client s = s
opened_fit (SearchEnd point) psm mtu client s = s
opened_fit (Features point) psm mtu client s = s
opened_fit (ObjectChannel Due) psm mtu client s = s
opened_fit Object psm mtu client s = s
opened_fit (ObjectEnd point) psm mtu client s = s
opened_fit (LinkEnd point) psm mtu client s = s
opened_fit Over psm mtu client s = s

left_fit : (cause : Option Outcome) (client : Client) → SpellsAll client → SpellsAll (search_left cause client)
left_fit None client s = s
left_fit (Some cause) client s = s

search_fit : (cause : Option Outcome) (client : Client) → SpellsAll client → SpellsAll (search_closed cause client)
search_fit None client s = left_fit client.cause client s
search_fit (Some outcome) client s = ended_fit outcome client s

closed_fit : (stage : Stage) (psm : ℕ) (cause : CloseCause) (client : Client) → SpellsAll client → SpellsAll (closed_at stage psm cause client)
closed_fit (SearchChannel Asked) psm cause client s = either _ _ client (if_fit (cause_of_close cause) client s) s
closed_fit Search psm cause client s = either _ _ client (if_fit (cause_of_close cause) client s) s
closed_fit (SearchEnd point) psm cause client s = either _ _ client (search_fit (cause_of_close cause) client s) s
closed_fit (ObjectChannel Asked) psm cause client s = either _ _ client (if_fit (cause_of_close cause) client s) s
closed_fit Object psm cause client s = either _ _ client (if_fit (cause_of_close cause) client s) s
closed_fit (ObjectEnd point) psm cause client s = either _ (record client { stage = LinkEnd Due }) client s s
closed_fit Rest psm cause client s = s
closed_fit (Link point) psm cause client s = s
closed_fit (SearchChannel Due) psm cause client s = s
closed_fit (Features point) psm cause client s = s
closed_fit (ObjectChannel Due) psm cause client s = s
closed_fit (LinkEnd point) psm cause client s = s
closed_fit Over psm cause client s = s

-- ---- the search

psm_fit : (o : Option ℕ) (client : Client) → SpellsAll client → SpellsAll (found_psm o client)
psm_fit None client s = ended_fit outcomes.NoService client s
psm_fit (Some psm) client s = s

kept_by : (b : Bool) (n : ℕ) (client : Client) → is_server_channel n ≡ b → SpellsAll client → SpellsAll (found_channel (cond b (Some n) None) client)
kept_by true n client is (mux, channel, rest, state) =
    let parts = and_parts (leb 1 n) (leb n 30) is in
    (mux, record { least = leb-true 1 n parts.0; most = leb-true n 30 parts.1 }, rest, state)
kept_by false n client is s = ended_fit outcomes.NoService client s

channel_fit : (o : Option ℕ) (client : Client) → SpellsAll client → SpellsAll (found_channel (kept_of is_server_channel o) client)
channel_fit None client s = ended_fit outcomes.NoService client s
channel_fit (Some n) client s = kept_by (is_server_channel n) n client refl s

way_fit : (transport : Transport) (target : Target) (client : Client) → SpellsAll client → SpellsAll (found_way transport target client)
way_fit L2cap target client s = psm_fit (kept_of is_service_psm target.l2cap) client s
way_fit Rfcomm target client s = channel_fit target.rfcomm client s

finds_fit : (f : Found) (client : Client) → SpellsAll client → SpellsAll (finds f client)
finds_fit More client s = s
finds_fit (Service target) client s = way_fit client.transport target client s
finds_fit NoService client s = ended_fit outcomes.NoService client s
finds_fit (found.Refused reason) client s = if_fit (cause_of_query reason) client s

reply_fit : (reply : List ℕ) (client : Client) → IsOctets reply → SpellsAll client → SpellsAll (hears_reply reply client)
reply_fit reply client fits (mux, channel, rest, state) = finds_fit (found_at client.query reply) (record client { query = after_reply client.query reply }) (mux, channel, rest, after_reply_state client.query reply fits state)

-- ---- what it hears

on_object_fit : (transport : Transport) (sdu : List ℕ) (client : Client) → IsOctets sdu → SpellsAll client → SpellsAll (hears_object transport sdu client)
on_object_fit L2cap sdu client fits s = response_fit sdu client s
on_object_fit Rfcomm sdu client fits s = frame_fit sdu client fits s

outside_fit : (transport : Transport) (client : Client) → SpellsAll client → SpellsAll (hears_outside transport client)
outside_fit L2cap client s = ended_fit unawaited_response client s
outside_fit Rfcomm client s = s

sdu_fit : (stage : Stage) (psm : ℕ) (sdu : List ℕ) (client : Client) → IsOctets sdu → SpellsAll client → SpellsAll (sdu_at stage psm sdu client)
sdu_fit Search psm sdu client fits s = either _ (hears_reply sdu client) client (reply_fit sdu client fits s) s
sdu_fit (ObjectChannel point) psm sdu client fits s = either _ (hears_outside client.transport client) client (outside_fit client.transport client s) s
sdu_fit Object psm sdu client fits s = either _ (hears_object client.transport sdu client) client (on_object_fit client.transport sdu client fits s) s
sdu_fit (ObjectEnd point) psm sdu client fits s = either _ (hears_outside client.transport client) client (outside_fit client.transport client s) s
sdu_fit Rest psm sdu client fits s = s
sdu_fit (Link point) psm sdu client fits s = s
sdu_fit (SearchChannel point) psm sdu client fits s = s
sdu_fit (SearchEnd point) psm sdu client fits s = s
sdu_fit (Features point) psm sdu client fits s = s
sdu_fit (LinkEnd point) psm sdu client fits s = s
sdu_fit Over psm sdu client fits s = s

fires_fit : (client : Client) → SpellsAll client → SpellsAll (fires client)
fires_fit client s = either _ _ client (either _ (ends outcomes.RetryLimit client) (record client { query = after_resend client.query }) (ended_fit outcomes.RetryLimit client s) s) s

news_fit : (one : News) (client : Client) → BringsOctets one → SpellsAll client → SpellsAll (hears_news one client)
news_fit LinkUp client fits s = linked_fit client.stage client s
news_fit (news.LinkDown reason) client fits s = either _ _ client (over_fit client.cause _ client s) s
news_fit (LinkFailed status) client fits s = either _ _ client (over_fit client.cause _ client s) s
news_fit (ChannelOpen psm mtu) client fits s = opened_fit client.stage psm mtu client s
news_fit (ChannelClosed psm cause) client fits s = closed_fit client.stage psm cause client s
news_fit (Sdu psm octets) client fits s = sdu_fit client.stage psm octets client fits s
news_fit FeaturesTold client fits s = either _ (record client { stage = ObjectChannel Due }) client s s
news_fit FeaturesLost client fits s = either _ (ends outcomes.RetryLimit client) client (ended_fit outcomes.RetryLimit client s) s
news_fit Timer client fits s = fires_fit client s

-- ---- requests

-- what is left to send is made anew
rest_fit : (octets : List ℕ) (client : Client) → IsOctets octets → SpellsAll client → SpellsAll (record client { rest = octets })
rest_fit octets client fits (mux, channel, rest, state) = (mux, channel, fits, state)

abort_are_octets : IsOctets abort_octets
abort_are_octets = packet_are_octets (bare 0xFF []) (omega arith) none_octets tt

disconnect_are_octets : IsOctets disconnect_octets
disconnect_are_octets = packet_are_octets (bare 0x81 []) (omega arith) none_octets tt

part_fit : (part : Part) (client : Client) (parts : List Part) → IsPartOctets part → SpellsAll client → SpellsAll (puts_part part client parts).client
part_fit (Ok part) client parts is s = rest_fit (put_octets client part) client (put_are_octets (is_last_put client) client.session.wanted client.session.put client.name client.size part is) s
part_fit (Err fault) client parts is s = s

from_fit : (parts : List Part) (client : Client) → AllByRecursion IsPartOctets parts → SpellsAll client → SpellsAll (puts_from parts client).client
from_fit [] client all s = s
from_fit (part ∷ parts) client all s = part_fit part client parts all.0 s

either_made : (b : Bool) (x y : Made) → SpellsAll x.client → SpellsAll y.client → SpellsAll (cond b x y).client
either_made true x y s t = s
either_made false x y s t = t

puts_fit : (client : Client) (parts : List Part) → AllByRecursion IsPartOctets parts → SpellsAll client → SpellsAll (puts client parts).client
puts_fit client parts all s = either_made (eqb (put_count client) 0) (puts_part (Ok []) client parts) (puts_from parts client) (part_fit (Ok []) client parts none_octets s) (from_fit parts client all s)

aborts_fit : (client : Client) (parts : List Part) → SpellsAll client → SpellsAll (aborts client parts).client
aborts_fit client parts s = rest_fit abort_octets client abort_are_octets s

disconnects_fit : (client : Client) (parts : List Part) → SpellsAll client → SpellsAll (disconnects client parts).client
disconnects_fit client parts s = rest_fit disconnect_octets client disconnect_are_octets s

leaves_fit : (ask : Ask) (client : Client) (parts : List Part) → SpellsAll client → SpellsAll (leaves_by ask client parts).client
leaves_fit Connect client parts s = disconnects_fit client parts s
leaves_fit Put client parts s = disconnects_fit client parts s
leaves_fit Abort client parts s = aborts_fit client parts s
leaves_fit Disconnect client parts s = disconnects_fit client parts s
leaves_fit Close client parts s = disconnects_fit client parts s
leaves_fit Nothing client parts s = disconnects_fit client parts s

failing_fit : (client : Client) (parts : List Part) → SpellsAll client → SpellsAll (failing client parts).client
failing_fit client parts s = let ended : Client = ends outcomes.ShelfFault client in leaves_fit (next_ask ended) ended parts (ended_fit outcomes.ShelfFault client s)

or_leaves_fit : (outcome : Result (Unit {0}) PortFault) (put : Made) → SpellsAll put.client → SpellsAll (puts_or_leaves outcome put).client
or_leaves_fit (Ok done) put s = s
or_leaves_fit (Err fault.Failed) put s = failing_fit put.client put.left s
or_leaves_fit (Err fault.NoMemory) put s = s

requests_fit : (ask : Ask) (client : Client) (parts : List Part) → AllByRecursion IsPartOctets parts → SpellsAll client → SpellsAll (requests ask client parts).client
requests_fit Connect client parts all s = rest_fit (connect_octets client.session) client (packet_are_octets (bare 0x80 (connect_fields client.session.maximum)) (omega arith) (connect_are_octets client.session.maximum) tt) s
requests_fit Put client parts all s = or_leaves_fit (puts client parts).outcome (puts client parts) (puts_fit client parts all s)
requests_fit Abort client parts all s = aborts_fit client parts s
requests_fit Disconnect client parts all s = disconnects_fit client parts s
requests_fit Close client parts all s = disconnects_fit client parts s
requests_fit Nothing client parts all s = disconnects_fit client parts s

-- ---- steps

-- the client behind a step, and the frame that is sent with it
abbrev StepsFit : Stepped → Type 0
StepsFit x = SpellsAll x.client × AllByRecursion IsSpellable (frames_of x.step)

either_step : (b : Bool) (x y : Stepped) → StepsFit x → StepsFit y → StepsFit (cond b x y)
either_step true x y p q = p
either_step false x y p q = q

direct_by : (outcome : Result (Unit {0}) PortFault) (made : Made) → SpellsAll made.client → StepsFit (sends_direct outcome made)
direct_by (Ok done) made s = (s, tt)
direct_by (Err fault) made s = (s, tt)

direct_made : (ask : Ask) (client : Client) (parts : List Part) → AllByRecursion IsPartOctets parts → SpellsAll client → StepsFit (sends_direct (requests ask client parts).outcome (requests ask client parts))
direct_made ask client parts all s = direct_by (requests ask client parts).outcome (requests ask client parts) (requests_fit ask client parts all s)

asks_direct_fit : (ask : Ask) (client : Client) (parts : List Part) → AllByRecursion IsPartOctets parts → SpellsAll client → StepsFit (asks_direct ask client parts)
asks_direct_fit Close client parts all s = (s, tt)
asks_direct_fit Nothing client parts all s = (s, tt)
asks_direct_fit Connect client parts all s = direct_made Connect client parts all s
asks_direct_fit Put client parts all s = direct_made Put client parts all s
asks_direct_fit Abort client parts all s = direct_made Abort client parts all s
asks_direct_fit Disconnect client parts all s = direct_made Disconnect client parts all s

direct_fit : (client : Client) (parts : List Part) → AllByRecursion IsPartOctets parts → SpellsAll client → StepsFit (steps_direct client parts)
direct_fit client parts all s =
    either_step (may_ask client) _ (rests client parts) (asks_direct_fit (next_ask client) (record client { rest = [] }) parts all (rest_fit [] client none_octets s)) (s, tt)

filled_fit : (client : Client) → SpellsAll client → SpellsAll (filled client)
filled_fit client (mux, channel, rest, state) =
    let count = taken_count (length client.rest) client.mux in
    either (is_ready client.mux && not (is_empty client.rest)) (record client { mux = sends client.rest client.mux; rest = drop count client.rest }) client
    (frames_are_spellable.giving client.rest client.mux rest mux, channel, IsOctets-drop count client.rest rest, state) (mux, channel, rest, state)

said_fit : (said : Option Said) (client : Client) (parts : List Part) → IsSaidSpellable said → SpellsAll client → StepsFit (said_by said client parts)
said_fit None client parts is s = (s, tt)
said_fit (Some said) client parts is (mux, channel, rest, state) = ((is.1, channel, rest, state), (is.0, tt))

next_said : (client : Client) → SpellsAll client → IsSaidSpellable (next client.mux)
next_said client (mux, channel, rest, state) = frames_are_spellable.saying client.mux mux

says_fit : (client : Client) (parts : List Part) → SpellsAll client → StepsFit (says client parts)
says_fit client parts s = let full = filled_fit client s in said_fit (next (filled client).mux) (filled client) parts (next_said (filled client) full) full

muxed_by : (outcome : Result (Unit {0}) PortFault) (made : Made) → SpellsAll made.client → StepsFit (sends_muxed outcome made)
muxed_by (Ok done) made s = says_fit made.client made.left s
muxed_by (Err fault) made s = (s, tt)

through_fit : (ask : Ask) (client : Client) (parts : List Part) → AllByRecursion IsPartOctets parts → SpellsAll client → StepsFit (asks_through ask client parts)
through_fit ask client parts all s =
    let bare : Client = record client { rest = [] } in
    either_step (takes_some client.mux) _ (rests client parts) (muxed_by (requests ask bare parts).outcome (requests ask bare parts) (requests_fit ask bare parts all (rest_fit [] client none_octets s))) (s, tt)

closing_fit : (client : Client) (parts : List Part) → SpellsAll client → StepsFit (asks_muxed Close client parts)
closing_fit client parts (mux, channel, rest, state) = says_fit _ parts (frames_are_spellable.leaving client.mux mux, channel, rest, state)

asks_muxed_fit : (ask : Ask) (client : Client) (parts : List Part) → AllByRecursion IsPartOctets parts → SpellsAll client → StepsFit (asks_muxed ask client parts)
asks_muxed_fit Close client parts all s = closing_fit client parts s
asks_muxed_fit Nothing client parts all s = (s, tt)
asks_muxed_fit Connect client parts all s = through_fit Connect client parts all s
asks_muxed_fit Put client parts all s = through_fit Put client parts all s
asks_muxed_fit Abort client parts all s = through_fit Abort client parts all s
asks_muxed_fit Disconnect client parts all s = through_fit Disconnect client parts all s

goes_fit : (said : Option Said) (client : Client) (parts : List Part) → IsSaidSpellable said → AllByRecursion IsPartOctets parts → SpellsAll client → StepsFit (goes_muxed said client parts)
goes_fit None client parts is all s = let quiet : Client = record client { frame = None } in either_step (may_ask quiet) _ (rests quiet parts) (asks_muxed_fit (next_ask quiet) quiet parts all s) (s, tt)
goes_fit (Some said) client parts is all s = said_fit (Some said) client parts is s

muxed_fit : (client : Client) (parts : List Part) → AllByRecursion IsPartOctets parts → SpellsAll client → StepsFit (steps_muxed client parts)
muxed_fit client parts all s = let full = filled_fit client s in goes_fit (next (filled client).mux) (filled client) parts (next_said (filled client) full) all full

object_steps_fit : (transport : Transport) (client : Client) (parts : List Part) → AllByRecursion IsPartOctets parts → SpellsAll client → StepsFit (steps_object transport client parts)
object_steps_fit L2cap client parts all s = direct_fit client parts all s
object_steps_fit Rfcomm client parts all s = muxed_fit client parts all s

search_steps_fit : (client : Client) (parts : List Part) → SpellsAll client → StepsFit (steps_search client parts)
search_steps_fit client parts (mux, channel, rest, state) = either_step (is_due client.query) _ (rests client parts) ((mux, channel, request_are_octets client.query state, state), tt) ((mux, channel, rest, state), tt)

tells_fit : (cause : Option Outcome) (client : Client) (parts : List Part) → SpellsAll client → StepsFit (tells_end cause client parts)
tells_fit None client parts s = (s, tt)
tells_fit (Some outcome) client parts s = (s, tt)

at_fit : (stage : Stage) (client : Client) (parts : List Part) → AllByRecursion IsPartOctets parts → SpellsAll client → StepsFit (steps_at stage client parts)
at_fit Rest client parts all s = (s, tt)
at_fit (Link Due) client parts all s = (s, tt)
at_fit (Link Asked) client parts all s = (s, tt)
at_fit (SearchChannel Due) client parts all s = (s, tt)
at_fit (SearchChannel Asked) client parts all s = (s, tt)
at_fit Search client parts all s = search_steps_fit client parts s
at_fit (SearchEnd Due) client parts all s = (s, tt)
at_fit (SearchEnd Asked) client parts all s = (s, tt)
at_fit (Features Due) client parts all s = (s, tt)
at_fit (Features Asked) client parts all s = (s, tt)
at_fit (ObjectChannel Due) client parts all s = (s, tt)
at_fit (ObjectChannel Asked) client parts all s = (s, tt)
at_fit Object client parts all s = object_steps_fit client.transport client parts all s
at_fit (ObjectEnd Due) client parts all s = (s, tt)
at_fit (ObjectEnd Asked) client parts all s = (s, tt)
at_fit (LinkEnd Due) client parts all s = (s, tt)
at_fit (LinkEnd Asked) client parts all s = (s, tt)
at_fit Over client parts all s = tells_fit client.cause client parts s

steps_fit : (client : Client) (parts : List Part) → AllByRecursion IsPartOctets parts → SpellsAll client → StepsFit (steps client parts)
steps_fit client parts all s =
    either_step client.failed _ _ (s, tt) (either_step client.given (rests client parts) (steps_at client.stage client parts) (s, tt) (at_fit client.stage client parts all s))

-- ---- all of it

kept_octets : (b : Bool) (octets : List ℕ) → IsOctets octets → IsOctets (cond b octets [])
kept_octets true octets fits = fits
kept_octets false octets fits = none_octets

finishes_fit : (client : Client) → SpellsAll client → SpellsAll (stepped client)
finishes_fit client (mux, channel, rest, state) = (mux, channel, kept_octets (is_muxed client) client.rest rest, state)

cancels_fit : (client : Client) → SpellsAll client → SpellsAll (cancelled client)
cancels_fit client s = either (may_cancel client) (ends outcomes.Cancelled client) client (ended_fit outcomes.Cancelled client s) s

no_state : IsState []
no_state = record { are_octets = none_octets; short = omega arith }

begun_fit : (size : Result ℕ PortFault) (name : List ℕ) (client : Client) → SpellsAll client → SpellsAll (begun_by size name client)
begun_fit (Ok size) name client (mux, channel, rest, state) = (mux, channel, none_octets, no_state)
begun_fit (Err fault.Failed) name client (mux, channel, rest, state) = (mux, channel, none_octets, no_state)
begun_fit (Err fault.NoMemory) name client s = s

pub begins_fit : (size : Result ℕ PortFault) (name : List ℕ) (client : Client) → SpellsAll client → SpellsAll (begins size name client)
begins_fit size name client s = either client.failed client (begun_by size name client) s (begun_fit size name client s)

all_read : (frames : List PlainFrame) → AllByRecursion IsSpellable frames → AllByRecursion IsReadSo frames
all_read [] all = tt
all_read (frame ∷ frames) all = ((read_so frame all.0).1, all_read frames all.1)

pub done_fit : (deed : Deed) (client : Client) → IsOfOctets deed → SpellsAll client → SpellsAll (done deed client) × AllByRecursion IsReadSo (frames_by deed client)
done_fit (Hears one) client is s = (news_fit one client is s, tt)
done_fit (Asks parts) client is s = let step = steps_fit client parts is s in (step.0, all_read (frames_of (steps client parts).step) step.1)
done_fit Finishes client is s = (finishes_fit client s, tt)
done_fit Cancels client is s = (cancels_fit client s, tt)

pub first_fit : (settings : Settings) → SpellsAll (new_client settings)
first_fit settings =
    let high = settings.mtu_high in
    let credits = settings.credits_high in (
      frames_are_spellable.made Initiator 2 (settings.mtu - 6) (settings.mtu - 6) settings.credits
          (record { user = omega arith; below = omega arith; largest_fits = omega (arith, high); own_fits = omega (arith, high); frame_fits = omega (arith, high); cap_fits = omega (arith, credits) }),
      record { least = omega arith; most = omega arith },
      none_octets,
      no_state,
    )

pub client_frames_are_read : ClientFramesAreRead
client_frames_are_read = record { first = first_fit; beginning = begins_fit; doing = done_fit }
