-- The outcome of a push is the first cause that is shown.
use Rattle.std.proofs.Common.{◌≡◌, ℕ, zero, suc, ◌-◌, ◌==◌, ◌&&◌, ◌||◌, ◌++◌, not, min, nat_lt, length, drop, Bool, true, false, List, [], ◌∷◌, Option, Some, None, is_some, is_none, Result, Ok, Err, refl, sym, ap, ◌∙◌, if◌then◌else◌}
use Rattle.bt_base.specs.declared.ports.PortFault.{PortFault}
use Rattle.bt_base.specs.declared.ports.PortFault.TheVariants as fault
use Rattle.bt_base.specs.declared.settings.Transport.{Transport}
use Rattle.bt_base.specs.declared.settings.Transport.TheVariants.{L2cap, Rfcomm}
use Rattle.push_terms.specs.declared.outcome.Outcome.{Outcome}
use Rattle.push_terms.specs.declared.outcome.Outcome.TheVariants as outcomes
use Rattle.rfcomm_frames.specs.FrameReading.{is_empty}
use Rattle.rfcomm_model.specs.declared.state.MuxReason.{MuxReason}
use Rattle.rfcomm_model.specs.Hearing.{Up, nothing, opened, bytes, closed, up, hears}
use Rattle.rfcomm_model.specs.Machine.{leaves, is_ready, sends, taken_count}
use Rattle.rfcomm_model.specs.Saying.{Said, next}
use Rattle.sdp_client.specs.Asking.{is_due, after_resend, after_request, request_octets}
use Rattle.sdp_client.specs.Hearing.{found_at, after_reply}
use Rattle.sdp_client.specs.declared.reason.Found.{Found}
use Rattle.sdp_client.specs.declared.reason.Found.TheVariants as found
use Rattle.sdp_elements.specs.Targets.{is_service_psm, is_server_channel}
use Rattle.sdp_elements.specs.declared.target.Target.{Target}
use Rattle.obex_session.specs.Views.{answer_at, after_at}
use Rattle.obex_session.specs.declared.client.Answered.{Answered}
use Rattle.obex_session.specs.declared.client.Answered.TheVariants as answer
use Rattle.push_model.specs.declared.closing.CloseCause.{CloseCause}
use Rattle.push_model.specs.declared.course.Contact.TheVariants.{Closing}
use Rattle.push_model.specs.declared.course.Point.TheVariants.{Due, Asked}
use Rattle.push_model.specs.declared.course.Stage.{Stage}
use Rattle.push_model.specs.declared.course.Stage.TheVariants.{Rest, Link, SearchChannel, Search, SearchEnd, Features, ObjectChannel, Object, ObjectEnd, LinkEnd, Over}
use Rattle.push_model.specs.Causes.{cause_of_link, cause_of_page, cause_of_close, cause_of_query, cause_of_mux, cause_of_obex, small_channel, unawaited_response, unknown_parameters}
use Rattle.push_model.specs.Client.{Client, ends, ends_by, ends_if, may_cancel, is_direct}
use Rattle.push_model.specs.Events as events
use Rattle.push_model.specs.Events.{News, over, over_by, object_opened, search_left, search_closed, kept_of, found_psm, found_channel, found_way, finds, hears_reply, hears_outside, hears_object, sdu_at, armed, linked_at, opened_at, closed_at, is_linked, is_paging, is_asking_features, search_psm}
use Rattle.push_model.specs.Laws as laws
use Rattle.push_model.specs.Laws.{Deed, done, all_done}
use Rattle.push_model.specs.Payloads.{Octets}
use Rattle.push_model.specs.Responding.{takes, hears_answer, hears_response, is_object, reads_on, hears_front, hears_stream, hears_end, hears_up, is_left, is_success, is_early}
use Rattle.push_model.specs.Shown.{first_of, watched, closed_shows, opened_shows, way_of, found_shows, says, answer_shows, response_shows, front_shows, stream_shows, up_shows, object_shows, outside_shows, sdu_shows, news_show, part_shows, ask_shows, said_shows, step_shows, shows, first_shown, OutcomesAreShown}
use Rattle.push_model.specs.Steps as steps
use Rattle.push_model.specs.Steps.{Part, Stepped, Made, Ask, Connect, Put, Abort, Disconnect, Close, Nothing, put_count, puts_part, puts_from, puts, leaves_by, puts_or_leaves, requests, sends_direct, asks_direct, filled, said_by, sends_muxed, takes_some, asks_muxed, goes_muxed, steps_object, tells_end, steps_at, rests, sends_sdu, may_ask, next_ask}
use Rattle.push_model.specs.Streams.{Front, Whole, Partial, Broken, front_of}
use Rattle.push_model.proofs.CauseLaws.{first_causes_stay, stream_keeps}

-- where the one has no cause, the other has this one
abbrev Shows : Client → Client → Option Outcome → Type 0
Shows client new shown = client.cause ≡ None → new.cause ≡ shown

either : (test : Bool) (client a b : Client) (x y : Option Outcome) → Shows client a x → Shows client b y → Shows client (if test then a else b) (if test then x else y)
either true client a b x y p q = p
either false client a b x y p q = q

both : (test : Bool) (client a b : Client) (x : Option Outcome) → Shows client a x → Shows client b x → Shows client (if test then a else b) x
both true client a b x p q = p
both false client a b x p q = q

ends_show : (outcome : Outcome) (client : Client) → Shows client (ends outcome client) (Some outcome)
ends_show outcome client = λ e. ap (λ (c : Option Outcome). (ends_by c outcome client).cause) e

ends_if_show : (found : Option Outcome) (client : Client) → Shows client (ends_if found client) found
ends_if_show None client = λ e. e
ends_if_show (Some outcome) client = ends_show outcome client

over_shows : (outcome : Outcome) (client : Client) → Shows client (over outcome client) (Some outcome)
over_shows outcome client = λ e. ap (λ (c : Option Outcome). (over_by c outcome client).cause) e

-- ---- links and channels

linked_shows : (stage : Stage) (client : Client) → Shows client (linked_at stage client) None
linked_shows Rest client = λ e. e
linked_shows (Link Due) client = λ e. e
linked_shows (Link Asked) client = both (is_some client.cause) client (record client { stage = LinkEnd Due }) (record client { stage = SearchChannel Due }) None (λ e. e) (λ e. e)
linked_shows (SearchChannel point) client = λ e. e
linked_shows Search client = λ e. e
linked_shows (SearchEnd point) client = λ e. e
linked_shows (Features point) client = λ e. e
linked_shows (ObjectChannel point) client = λ e. e
linked_shows Object client = λ e. e
linked_shows (ObjectEnd point) client = λ e. e
linked_shows (LinkEnd point) client = λ e. e
linked_shows Over client = λ e. e

object_opens : (test : Bool) (t : Transport) (mtu : ℕ) (client : Client) → Shows client (if test then object_opened t mtu client else client) (if test && (is_direct t && nat_lt mtu 255) then Some small_channel else None)
object_opens false t mtu client = λ e. e
object_opens true L2cap mtu client = either (nat_lt mtu 255) client (ends small_channel client) (record client { stage = Object; limit = min mtu 32767 }) (Some small_channel) None (ends_show small_channel client) (λ e. e)
object_opens true Rfcomm mtu client = λ e. e

opens_show : (stage : Stage) (psm mtu : ℕ) (client : Client) → Shows client (opened_at stage psm mtu client) (opened_shows stage psm mtu client)
opens_show Rest psm mtu client = λ e. e
opens_show (Link point) psm mtu client = λ e. e
opens_show (SearchChannel Due) psm mtu client = λ e. e
opens_show (SearchChannel Asked) psm mtu client = both (psm == search_psm) client (record client { stage = Search }) client None (λ e. e) (λ e. e)
opens_show Search psm mtu client = λ e. e
opens_show (SearchEnd point) psm mtu client = λ e. e
opens_show (Features point) psm mtu client = λ e. e
opens_show (ObjectChannel Due) psm mtu client = λ e. e
opens_show (ObjectChannel Asked) psm mtu client = object_opens (psm == client.psm) client.transport mtu client
opens_show Object psm mtu client = λ e. e
opens_show (ObjectEnd point) psm mtu client = λ e. e
opens_show (LinkEnd point) psm mtu client = λ e. e
opens_show Over psm mtu client = λ e. e

left_shows : (cause : Option Outcome) (client : Client) → Shows client (search_left cause client) None
left_shows None client = λ e. e
left_shows (Some outcome) client = λ e. e

search_shows : (found : Option Outcome) (client : Client) → Shows client (search_closed found client) found
search_shows None client = left_shows client.cause client
search_shows (Some outcome) client = ends_show outcome client

ends_watched : (psm own : ℕ) (cause : CloseCause) (client : Client) → Shows client (if psm == own then ends_if (cause_of_close cause) client else client) (if psm == own then cause_of_close cause else None)
ends_watched psm own cause client = either (psm == own) client (ends_if (cause_of_close cause) client) client (cause_of_close cause) None (ends_if_show (cause_of_close cause) client) (λ e. e)

closes_show : (stage : Stage) (psm : ℕ) (cause : CloseCause) (client : Client) → Shows client (closed_at stage psm cause client) (closed_shows psm cause (watched stage client))
closes_show Rest psm cause client = λ e. e
closes_show (Link point) psm cause client = λ e. e
closes_show (SearchChannel Due) psm cause client = λ e. e
closes_show (SearchChannel Asked) psm cause client = ends_watched psm search_psm cause client
closes_show Search psm cause client = ends_watched psm search_psm cause client
closes_show (SearchEnd point) psm cause client = either (psm == search_psm) client (search_closed (cause_of_close cause) client) client (cause_of_close cause) None (search_shows (cause_of_close cause) client) (λ e. e)
closes_show (Features point) psm cause client = λ e. e
closes_show (ObjectChannel Due) psm cause client = λ e. e
closes_show (ObjectChannel Asked) psm cause client = ends_watched psm client.psm cause client
closes_show Object psm cause client = ends_watched psm client.psm cause client
closes_show (ObjectEnd point) psm cause client = both (psm == client.psm) client (record client { stage = LinkEnd Due }) client None (λ e. e) (λ e. e)
closes_show (LinkEnd point) psm cause client = λ e. e
closes_show Over psm cause client = λ e. e

-- ---- replies and responses

psm_shows : (way : Option ℕ) (client : Client) → Shows client (found_psm way client) (if is_none way then Some outcomes.NoService else None)
psm_shows None client = ends_show outcomes.NoService client
psm_shows (Some psm) client = λ e. e

channel_shows : (way : Option ℕ) (client : Client) → Shows client (found_channel way client) (if is_none way then Some outcomes.NoService else None)
channel_shows None client = ends_show outcomes.NoService client
channel_shows (Some channel) client = λ e. e

way_shows : (t : Transport) (target : Target) (client : Client) → Shows client (found_way t target client) (if is_none (way_of t target) then Some outcomes.NoService else None)
way_shows L2cap target client = psm_shows (kept_of is_service_psm target.l2cap) client
way_shows Rfcomm target client = channel_shows (kept_of is_server_channel target.rfcomm) client

finds_show : (what : Found) (client : Client) → Shows client (finds what client) (found_shows client.transport what)
finds_show found.More client = λ e. e
finds_show (found.Service target) client = way_shows client.transport target client
finds_show found.NoService client = ends_show outcomes.NoService client
finds_show (found.Refused reason) client = ends_if_show (cause_of_query reason) client

takes_show : (answered : Answered) (client : Client) → Shows client (takes answered client) (says answered)
takes_show answer.Go client = λ e. e
takes_show answer.Done client = ends_show outcomes.Done client
takes_show (answer.Refused code) client = ends_show (outcomes.Refused code) client
takes_show (answer.Bad refusal) client = ends_show (cause_of_obex refusal) client
takes_show answer.Srmp client = ends_show unknown_parameters client

answers_show : (answered : Option Answered) (packet : List ℕ) (client : Client) → Shows client (hears_answer answered packet client) (answer_shows answered client)
answers_show None packet client = ends_show unawaited_response client
answers_show (Some answered) packet client =
    let heard : Client = record client { session = after_at client.session.awaited client.session packet } in
    either (is_success answered && is_early client) client (ends unawaited_response heard) (takes answered heard) (Some unawaited_response) (says answered) (ends_show unawaited_response heard) (takes_show answered heard)

responses_show : (packet : List ℕ) (client : Client) → Shows client (hears_response packet client) (response_shows packet client)
responses_show packet client = answers_show (answer_at client.session.awaited client.session packet) packet client

-- one that shows nothing leaves the push where it is
takes_stays : (answered : Answered) (client : Client) → says answered ≡ None → (takes answered client).stage ≡ client.stage
takes_stays answer.Go client e = refl
takes_stays answer.Done client e = absurd (let f : Some outcomes.Done ≡ None = e in cc)
takes_stays (answer.Refused code) client e = absurd (let f : Some (outcomes.Refused code) ≡ None = e in cc)
takes_stays (answer.Bad refusal) client e = absurd (let f : Some (cause_of_obex refusal) ≡ None = e in cc)
takes_stays answer.Srmp client e = absurd (let f : Some unknown_parameters ≡ None = e in cc)

tested_stays : (test : Bool) (answered : Answered) (early heard : Client) → (if test then Some unawaited_response else says answered) ≡ None → (if test then early else takes answered heard).stage ≡ heard.stage
tested_stays true answered early heard e = absurd (let f : Some unawaited_response ≡ None = e in cc)
tested_stays false answered early heard e = takes_stays answered heard e

answer_stays : (answered : Option Answered) (packet : List ℕ) (client : Client) → answer_shows answered client ≡ None → (hears_answer answered packet client).stage ≡ client.stage
answer_stays None packet client e = absurd (let f : Some unawaited_response ≡ None = e in cc)
answer_stays (Some answered) packet client e =
    let heard : Client = record client { session = after_at client.session.awaited client.session packet } in
    tested_stays (is_success answered && is_early client) answered (ends unawaited_response heard) heard e

-- ---- the stream

first_then : (first later : Option Outcome) (heard after : Client) → heard.cause ≡ first → ((o : Outcome) → heard.cause ≡ Some o → after.cause ≡ Some o) → (first ≡ None → heard.cause ≡ None → after.cause ≡ later) → after.cause ≡ first_of first later
first_then None later heard after is stays goes = goes refl is
first_then (Some o) later heard after is stays goes = stays o is

both_keep : (test : Bool) (heard after : Client) (o : Outcome) → (heard.cause ≡ Some o → after.cause ≡ Some o) → heard.cause ≡ Some o → (if test then after else heard).cause ≡ Some o
both_keep true heard after o keeps e = keeps e
both_keep false heard after o keeps e = e

fronts_show : (more : List ℕ → Client → Client) (more_shows : List ℕ → Client → Option Outcome) → ((rest : List ℕ) (client : Client) (o : Outcome) → client.cause ≡ Some o → (more rest client).cause ≡ Some o)
    → ((rest : List ℕ) (client : Client) → is_object client.stage ≡ true → Shows client (more rest client) (more_shows rest client))
    → (stream : List ℕ) (front : Front) (client : Client) → is_object client.stage ≡ true → Shows client (hears_front more stream front client) (front_shows more_shows front client)
fronts_show more more_shows keeps follows stream (Whole packet rest) client works = λ e.
    let alone : Client = record client { held = [] } in
    let heard = hears_response packet alone in
    first_then (response_shows packet alone) (more_shows rest heard) heard (reads_on (λ next. more rest next) heard) (responses_show packet alone e)
    (λ o. both_keep (is_object heard.stage) heard (more rest heard) o (keeps rest heard o))
    (λ quiet none. let still = ap is_object (answer_stays (answer_at alone.session.awaited alone.session packet) packet alone quiet) ∙ works in
    ap (λ (b : Bool). (if b then more rest heard else heard).cause) still ∙ follows rest heard still none)
fronts_show more more_shows keeps follows stream Partial client works = λ e. e
fronts_show more more_shows keeps follows stream (Broken refusal) client works = ends_show (cause_of_obex refusal) (record client { held = [] })

streams_show : (count : ℕ) (stream : List ℕ) (client : Client) → is_object client.stage ≡ true → Shows client (hears_stream count stream client) (stream_shows count stream client)
unfolding hears_stream stream_shows
streams_show zero stream client works = λ e. e
streams_show (suc count) stream client works =
    fronts_show (λ rest next. hears_stream count rest next) (λ rest next. stream_shows count rest next) (λ rest next o. stream_keeps count rest next o) (λ rest next. streams_show count rest next) stream (front_of client.session.maximum stream) client works

-- ---- SDUs

end_shows : (reason : MuxReason) (client : Client) → Shows client (hears_end reason client) (if is_left client.contact reason then None else Some (cause_of_mux reason))
end_shows reason client = either (is_left client.contact reason) client (record client { stage = ObjectEnd Due }) (ends (cause_of_mux reason) client) None (Some (cause_of_mux reason)) (λ e. e) (ends_show (cause_of_mux reason) client)

ups_show : (what : Up) (client : Client) → is_object client.stage ≡ true → Shows client (hears_up what client) (up_shows what client)
ups_show nothing client works = λ e. e
ups_show opened client works = λ e. e
ups_show (bytes octets) client works = streams_show (length (client.held ++ octets)) (client.held ++ octets) client works
ups_show (closed reason) client works = end_shows reason client

objects_show : (t : Transport) (sdu : List ℕ) (client : Client) → is_object client.stage ≡ true → Shows client (hears_object t sdu client) (object_shows t sdu client)
objects_show L2cap sdu client works = responses_show sdu client
objects_show Rfcomm sdu client works = ups_show (up sdu client.mux) (record client { mux = hears sdu client.mux }) works

outsides_show : (t : Transport) (client : Client) → Shows client (hears_outside t client) (outside_shows t)
outsides_show L2cap client = ends_show unawaited_response client
outsides_show Rfcomm client = λ e. e

sdus_show : (stage : Stage) (psm : ℕ) (sdu : List ℕ) (client : Client) → client.stage ≡ stage → Shows client (sdu_at stage psm sdu client) (sdu_shows stage psm sdu client)
sdus_show Search psm sdu client is = either (psm == search_psm) client (hears_reply sdu client) client (found_shows client.transport (found_at client.query sdu)) None (finds_show (found_at client.query sdu) (record client { query = after_reply client.query sdu })) (λ e. e)
sdus_show (ObjectChannel point) psm sdu client is = either (psm == client.psm) client (hears_outside client.transport client) client (outside_shows client.transport) None (outsides_show client.transport client) (λ e. e)
sdus_show Object psm sdu client is = either (psm == client.psm) client (hears_object client.transport sdu client) client (object_shows client.transport sdu client) None (objects_show client.transport sdu client (ap is_object is)) (λ e. e)
sdus_show (ObjectEnd point) psm sdu client is = either (psm == client.psm) client (hears_outside client.transport client) client (outside_shows client.transport) None (outsides_show client.transport client) (λ e. e)
sdus_show Rest psm sdu client is = λ e. e
sdus_show (Link point) psm sdu client is = λ e. e
sdus_show (SearchChannel point) psm sdu client is = λ e. e
sdus_show (SearchEnd point) psm sdu client is = λ e. e
sdus_show (Features point) psm sdu client is = λ e. e
sdus_show (LinkEnd point) psm sdu client is = λ e. e
sdus_show Over psm sdu client is = λ e. e

-- ---- all that is told

fires_by : (waits none : Bool) (client : Client)
    → Shows client (if waits then (if none then ends outcomes.RetryLimit client else record client { query = after_resend client.query }) else client) (if waits && none then Some outcomes.RetryLimit else None)
fires_by true true client = ends_show outcomes.RetryLimit client
fires_by true false client = λ e. e
fires_by false none client = λ e. e

news_shows : (news : News) (client : Client) → Shows client (events.hears_news news client) (news_show news client)
news_shows events.LinkUp client = linked_shows client.stage client
news_shows (events.LinkDown reason) client = either (is_linked client.stage) client (over (cause_of_link reason) client) client (Some (cause_of_link reason)) None (over_shows (cause_of_link reason) client) (λ e. e)
news_shows (events.LinkFailed status) client = either (is_paging client.stage) client (over (cause_of_page status) client) client (Some (cause_of_page status)) None (over_shows (cause_of_page status) client) (λ e. e)
news_shows (events.ChannelOpen psm mtu) client = opens_show client.stage psm mtu client
news_shows (events.ChannelClosed psm cause) client = closes_show client.stage psm cause client
news_shows (events.Sdu psm octets) client = sdus_show client.stage psm octets client refl
news_shows events.FeaturesTold client = both (is_asking_features client.stage) client (record client { stage = ObjectChannel Due }) client None (λ e. e) (λ e. e)
news_shows events.FeaturesLost client = either (is_asking_features client.stage) client (ends outcomes.RetryLimit client) client (Some outcomes.RetryLimit) None (ends_show outcomes.RetryLimit client) (λ e. e)
news_shows events.Timer client = fires_by (armed client && not (client.given || is_due client.query)) (client.left == 0) client

-- ---- the shelf

part_stays : (part : Part) (client : Client) (parts : List Part) → (puts_part part client parts).client.cause ≡ client.cause
part_stays (Ok part) client parts = refl
part_stays (Err fault) client parts = refl

from_stays : (parts : List Part) (client : Client) → (puts_from parts client).client.cause ≡ client.cause
from_stays [] client = refl
from_stays (part ∷ parts) client = part_stays part client parts

by_count : (test : Bool) (client : Client) (parts : List Part) → (if test then puts_part (Ok []) client parts else puts_from parts client).client.cause ≡ client.cause
by_count true client parts = part_stays (Ok []) client parts
by_count false client parts = from_stays parts client

puts_stay : (client : Client) (parts : List Part) → (puts client parts).client.cause ≡ client.cause
puts_stay client parts = by_count (put_count client == 0) client parts

leaves_stay : (ask : Ask) (client : Client) (parts : List Part) → (leaves_by ask client parts).client.cause ≡ client.cause
leaves_stay Connect client parts = refl
leaves_stay Put client parts = refl
leaves_stay Abort client parts = refl
leaves_stay Disconnect client parts = refl
leaves_stay Close client parts = refl
leaves_stay Nothing client parts = refl

leaves_or_not : (outcome : Result (Unit {0}) PortFault) (client : Client) (put : Made) → put.client.cause ≡ client.cause → Shows client (puts_or_leaves outcome put).client (part_shows outcome)
leaves_or_not (Ok done) client put same = λ e. same ∙ e
leaves_or_not (Err fault.Failed) client put same = λ e. let ended = ends outcomes.ShelfFault put.client in leaves_stay (next_ask ended) ended put.left ∙ ends_show outcomes.ShelfFault put.client (same ∙ e)
leaves_or_not (Err fault.NoMemory) client put same = λ e. same ∙ e

requests_show : (ask : Ask) (client : Client) (parts : List Part) → Shows client (requests ask client parts).client (ask_shows ask client parts)
requests_show Connect client parts = λ e. e
requests_show Put client parts = leaves_or_not (puts client parts).outcome client (puts client parts) (puts_stay client parts)
requests_show Abort client parts = λ e. e
requests_show Disconnect client parts = λ e. e
requests_show Close client parts = λ e. e
requests_show Nothing client parts = λ e. e

direct_stays : (outcome : Result (Unit {0}) PortFault) (request : Made) → (sends_direct outcome request).client.cause ≡ request.client.cause
direct_stays (Ok done) request = refl
direct_stays (Err fault) request = refl

direct_shows : (ask : Ask) (client : Client) (parts : List Part) → Shows client (asks_direct ask client parts).client (ask_shows ask client parts)
direct_shows Close client parts = λ e. e
direct_shows Nothing client parts = λ e. e
direct_shows Connect client parts = λ e. e
direct_shows Put client parts = λ e. direct_stays (requests Put client parts).outcome (requests Put client parts) ∙ requests_show Put client parts e
direct_shows Abort client parts = λ e. e
direct_shows Disconnect client parts = λ e. e

direct_by : (test : Bool) (ask : Ask) (client : Client) (parts : List Part)
    → Shows client (if test then asks_direct ask (record client { rest = [] }) parts else rests client parts).client (if test then ask_shows ask (record client { rest = [] }) parts else None)
direct_by true ask client parts = direct_shows ask (record client { rest = [] }) parts
direct_by false ask client parts = λ e. e

-- ---- through the multiplexer

cause_either : (test : Bool) (a b : Client) → a.cause ≡ b.cause → (if test then a else b).cause ≡ b.cause
cause_either true a b e = e
cause_either false a b e = refl

filled_stays : (client : Client) → (filled client).cause ≡ client.cause
filled_stays client = cause_either (is_ready client.mux && not (is_empty client.rest)) (record client { mux = sends client.rest client.mux; rest = drop (taken_count (length client.rest) client.mux) client.rest }) client refl

said_stays : (said : Option Said) (client : Client) (parts : List Part) → (said_by said client parts).client.cause ≡ client.cause
said_stays None client parts = refl
said_stays (Some said) client parts = refl

says_stays : (client : Client) (parts : List Part) → (steps.says client parts).client.cause ≡ client.cause
says_stays client parts = let full = filled client in said_stays (next full.mux) full parts ∙ filled_stays client

muxed_stays : (outcome : Result (Unit {0}) PortFault) (request : Made) → (sends_muxed outcome request).client.cause ≡ request.client.cause
muxed_stays (Ok done) request = says_stays request.client request.left
muxed_stays (Err fault) request = refl

through_by : (test : Bool) (ask : Ask) (client : Client) (parts : List Part)
    → Shows client (if test then (let request = requests ask (record client { rest = [] }) parts in sends_muxed request.outcome request) else rests client parts).client (if test then ask_shows ask (record client { rest = [] }) parts else None)
through_by true ask client parts = λ e. let request = requests ask (record client { rest = [] }) parts in muxed_stays request.outcome request ∙ requests_show ask (record client { rest = [] }) parts e
through_by false ask client parts = λ e. e

none_by : (test : Bool) (cause : Option Outcome) → cause ≡ None → cause ≡ (if test then None else None)
none_by true cause e = e
none_by false cause e = e

muxed_shows : (ask : Ask) (client : Client) (parts : List Part) → Shows client (asks_muxed ask client parts).client (if takes_some client.mux then ask_shows ask (record client { rest = [] }) parts else None)
muxed_shows Close client parts = λ e. none_by (takes_some client.mux) _ (says_stays (record client { mux = leaves client.mux; contact = Closing }) parts ∙ e)
muxed_shows Nothing client parts = λ e. none_by (takes_some client.mux) _ e
muxed_shows Connect client parts = through_by (takes_some client.mux) Connect client parts
muxed_shows Put client parts = through_by (takes_some client.mux) Put client parts
muxed_shows Abort client parts = through_by (takes_some client.mux) Abort client parts
muxed_shows Disconnect client parts = through_by (takes_some client.mux) Disconnect client parts

asks_by : (may takes : Bool) (ask : Ask) (quiet : Client) (parts : List Part) → takes ≡ takes_some quiet.mux
    → Shows quiet (if may then asks_muxed ask quiet parts else rests quiet parts).client (if may && takes then ask_shows ask (record quiet { rest = [] }) parts else None)
asks_by true takes ask quiet parts is = λ e. muxed_shows ask quiet parts e ∙ ap (λ (b : Bool). (if b then ask_shows ask (record quiet { rest = [] }) parts else None)) (sym is)
asks_by false takes ask quiet parts is = λ e. e

goes_show : (said : Option Said) (full : Client) (parts : List Part) → Shows full (goes_muxed said full parts).client (said_shows said full parts)
goes_show None full parts = let quiet : Client = record full { frame = None } in asks_by (may_ask full) (takes_some full.mux) (next_ask quiet) quiet parts refl
goes_show (Some said) full parts = λ e. e

object_steps_show : (t : Transport) (client : Client) (parts : List Part) → Shows client (steps_object t client parts).client (step_shows t client parts)
object_steps_show L2cap client parts = direct_by (may_ask client) (next_ask client) client parts
object_steps_show Rfcomm client parts = λ e. let full = filled client in goes_show (next full.mux) full parts (filled_stays client ∙ e)

-- ---- all steps

search_stays : (test : Bool) (client : Client) (parts : List Part)
    → Shows client (if test then sends_sdu search_psm (Octets (request_octets client.query)) (record client { query = after_request client.query; left = client.left - 1; rest = request_octets client.query }) parts else rests client parts).client None
search_stays true client parts = λ e. e
search_stays false client parts = λ e. e

tells_stay : (cause : Option Outcome) (client : Client) (parts : List Part) → Shows client (tells_end cause client parts).client None
tells_stay None client parts = λ e. e
tells_stay (Some outcome) client parts = λ e. e

at_shows : (stage : Stage) (client : Client) (parts : List Part) → Shows client (steps_at stage client parts).client (if is_object stage then step_shows client.transport client parts else None)
at_shows Rest client parts = λ e. e
at_shows (Link Due) client parts = λ e. e
at_shows (Link Asked) client parts = λ e. e
at_shows (SearchChannel Due) client parts = λ e. e
at_shows (SearchChannel Asked) client parts = λ e. e
at_shows Search client parts = search_stays (is_due client.query) client parts
at_shows (SearchEnd Due) client parts = λ e. e
at_shows (SearchEnd Asked) client parts = λ e. e
at_shows (Features Due) client parts = λ e. e
at_shows (Features Asked) client parts = λ e. e
at_shows (ObjectChannel Due) client parts = λ e. e
at_shows (ObjectChannel Asked) client parts = λ e. e
at_shows Object client parts = object_steps_show client.transport client parts
at_shows (ObjectEnd Due) client parts = λ e. e
at_shows (ObjectEnd Asked) client parts = λ e. e
at_shows (LinkEnd Due) client parts = λ e. e
at_shows (LinkEnd Asked) client parts = λ e. e
at_shows Over client parts = tells_stay client.cause client parts

steps_by : (failed given : Bool) (client : Client) (parts : List Part)
    → Shows client (if failed then (let r : Stepped = record { client = client; step = steps.NoMemory; left = parts } in r) else if given then rests client parts else steps_at client.stage client parts).client
    (if not failed && (not given && is_object client.stage) then step_shows client.transport client parts else None)
steps_by true given client parts = λ e. e
steps_by false true client parts = λ e. e
steps_by false false client parts = at_shows client.stage client parts

-- ---- the first

deeds_show : (deed : Deed) (client : Client) → Shows client (done deed client) (shows deed client)
deeds_show (laws.Hears news) client = news_shows news client
deeds_show (laws.Asks parts) client = steps_by client.failed client.given client parts
deeds_show laws.Finishes client = λ e. e
deeds_show laws.Cancels client = either (may_cancel client) client (ends outcomes.Cancelled client) client (Some outcomes.Cancelled) None (ends_show outcomes.Cancelled client) (λ e. e)

pub outcomes_are_shown : OutcomesAreShown
outcomes_are_shown [] client e = e
outcomes_are_shown (deed ∷ deeds) client e =
    first_then (shows deed client) (first_shown deeds (done deed client)) (done deed client) (all_done deeds (done deed client)) (deeds_show deed client e)
    (λ o. first_causes_stay deeds (done deed client) o) (λ shown none. outcomes_are_shown deeds (done deed client) none)
