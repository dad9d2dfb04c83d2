-- The first cause of a push stays.
use Rattle.std.proofs.Common.{◌≡◌, ℕ, zero, suc, ◌-◌, ◌++◌, ◌==◌, length, drop, Bool, true, false, not, ◌&&◌, ◌||◌, nat_lt, min, List, [], ◌∷◌, Option, Some, None, is_some, Result, Ok, Err, refl, ◌∙◌, if◌then◌else◌}
use Rattle.bt_base.specs.declared.ports.PortFault.{PortFault}
use Rattle.bt_base.specs.declared.ports.PortFault.TheVariants as fault
use Rattle.bt_base.specs.declared.settings.Transport.{Transport}
use Rattle.bt_base.specs.declared.settings.Transport.TheVariants.{L2cap, Rfcomm}
use Rattle.push_terms.specs.declared.outcome.Outcome.{Outcome}
use Rattle.push_terms.specs.declared.outcome.Outcome.TheVariants as outcomes
use Rattle.rfcomm_model.specs.declared.state.MuxReason.{MuxReason}
use Rattle.rfcomm_model.specs.Hearing.{Up, nothing, opened, bytes, closed, up, hears}
use Rattle.rfcomm_model.specs.Machine.{leaves, is_ready, sends, taken_count}
use Rattle.rfcomm_model.specs.Saying.{Said, next}
use Rattle.rfcomm_frames.specs.FrameReading.{is_empty}
use Rattle.sdp_elements.specs.declared.target.Target.{Target}
use Rattle.sdp_elements.specs.Targets.{is_service_psm, is_server_channel}
use Rattle.sdp_client.specs.declared.reason.Found.{Found}
use Rattle.sdp_client.specs.declared.reason.Found.TheVariants.{More, Service, NoService, Refused}
use Rattle.sdp_client.specs.Asking.{is_due, after_resend, after_request, request_octets}
use Rattle.sdp_client.specs.Hearing.{found_at, after_reply}
use Rattle.obex_session.specs.declared.client.Answered.{Answered}
use Rattle.obex_session.specs.declared.client.Answered.TheVariants as answer
use Rattle.obex_session.specs.Views.{answer_at, after_at}
use Rattle.push_model.specs.declared.closing.CloseCause.{CloseCause}
use Rattle.push_model.specs.declared.course.Contact.TheVariants.{Closing}
use Rattle.push_model.specs.declared.course.Point.TheVariants.{Due, Asked}
use Rattle.push_model.specs.declared.course.Stage.{Stage}
use Rattle.push_model.specs.declared.course.Stage.TheVariants.{Rest, Link, SearchChannel, Search, SearchEnd, Features, ObjectChannel, Object, ObjectEnd, LinkEnd, Over}
use Rattle.push_model.specs.Causes.{cause_of_link, cause_of_page, cause_of_close, cause_of_query, cause_of_mux, cause_of_obex, small_channel, unawaited_response, unknown_parameters}
use Rattle.push_model.specs.Client.{Client, ends, ends_by, ends_if, cancelled, may_cancel}
use Rattle.push_model.specs.Streams.{Front, Whole, Partial, Broken, front_of}
use Rattle.push_model.specs.Responding.{takes, hears_answer, hears_response, is_object, hears_front, hears_stream, hears_end, hears_up, hears_frame, is_left, is_success, is_early}
use Rattle.push_model.specs.Events as events
use Rattle.push_model.specs.Payloads.{Octets}
use Rattle.push_model.specs.Steps.{Part, NoMemory, Stepped, Made, Ask, Connect, Put, Abort, Disconnect, Close, Nothing, put_count, puts_part, puts_from, puts, leaves_by, failing, puts_or_leaves, requests, sends_direct, asks_direct, filled, said_by, says, sends_muxed, takes_some, asks_through, asks_muxed, goes_muxed, steps_object, steps_search, tells_end, steps_at, steps, sends_sdu, rests, may_ask, next_ask}
use Rattle.push_model.specs.Laws as laws
use Rattle.push_model.specs.Laws.{Deed, done, all_done, FirstCausesStay}

-- a cause that one has, the other has
abbrev pub Keeps : Client → Client → Type 0
Keeps a b = (first : Outcome) → a.cause ≡ Some first → b.cause ≡ Some first

pub same : (a : Client) → Keeps a a
same a first e = e

pub follows : (a b c : Client) → Keeps a b → Keeps b c → Keeps a c
follows a b c ab bc first e = bc first (ab first e)

pub either : (test : Bool) (a b c : Client) → Keeps a b → Keeps a c → Keeps a (if test then b else c)
either true a b c keeps_b keeps_c = keeps_b
either false a b c keeps_b keeps_c = keeps_c

-- ---- ends

ends_by_keeps : (cause : Option Outcome) (outcome : Outcome) (client : Client) → cause ≡ client.cause → Keeps client (ends_by cause outcome client)
ends_by_keeps None outcome client is first e = absurd (let f : None ≡ Some first = is ∙ e in cc)
ends_by_keeps (Some earlier) outcome client is first e = e

pub ends_keeps : (outcome : Outcome) (client : Client) → Keeps client (ends outcome client)
ends_keeps outcome client = ends_by_keeps client.cause outcome client refl

pub ends_if_keeps : (found : Option Outcome) (client : Client) → Keeps client (ends_if found client)
ends_if_keeps None client = λ first e. e
ends_if_keeps (Some outcome) client = ends_keeps outcome client

pub cancelled_keeps : (client : Client) → Keeps client (cancelled client)
cancelled_keeps client = either (may_cancel client) client (ends outcomes.Cancelled client) client (ends_keeps outcomes.Cancelled client) (same client)

-- ---- responses

takes_keeps : (answered : Answered) (client : Client) → Keeps client (takes answered client)
takes_keeps answer.Go client = λ first e. e
takes_keeps answer.Done client = ends_keeps outcomes.Done client
takes_keeps (answer.Refused code) client = ends_keeps (outcomes.Refused code) client
takes_keeps (answer.Bad refusal) client = ends_keeps (cause_of_obex refusal) client
takes_keeps answer.Srmp client = ends_keeps unknown_parameters client

answer_keeps : (answered : Option Answered) (packet : List ℕ) (client : Client) → Keeps client (hears_answer answered packet client)
answer_keeps None packet client = ends_keeps unawaited_response client
answer_keeps (Some answered) packet client =
    let heard : Client = record client { session = after_at client.session.awaited client.session packet } in
    either (is_success answered && is_early client) client (ends unawaited_response heard) (takes answered heard) (ends_keeps unawaited_response heard) (takes_keeps answered heard)

response_keeps : (packet : List ℕ) (client : Client) → Keeps client (hears_response packet client)
response_keeps packet client = answer_keeps (answer_at client.session.awaited client.session packet) packet client

front_keeps : (more : List ℕ → Client → Client) → ((rest : List ℕ) (client : Client) → Keeps client (more rest client)) → (stream : List ℕ) (front : Front) (client : Client) → Keeps client (hears_front more stream front client)
front_keeps more keeps stream (Whole packet rest) client =
    let heard = hears_response packet (record client { held = [] }) in
    either (is_object heard.stage) client (more rest heard) heard (follows client heard (more rest heard) (response_keeps packet (record client { held = [] })) (keeps rest heard)) (response_keeps packet (record client { held = [] }))
front_keeps more keeps stream Partial client = λ first e. e
front_keeps more keeps stream (Broken refusal) client = ends_keeps (cause_of_obex refusal) (record client { held = [] })

pub stream_keeps : (count : ℕ) (stream : List ℕ) (client : Client) → Keeps client (hears_stream count stream client)
unfolding hears_stream
stream_keeps zero stream client = λ first e. e
stream_keeps (suc count) stream client = front_keeps (λ rest next. hears_stream count rest next) (λ rest next. stream_keeps count rest next) stream (front_of client.session.maximum stream) client

end_keeps : (reason : MuxReason) (client : Client) → Keeps client (hears_end reason client)
end_keeps reason client = either (is_left client.contact reason) client (record client { stage = ObjectEnd Due }) (ends (cause_of_mux reason) client) (λ first e. e) (ends_keeps (cause_of_mux reason) client)

up_keeps : (news : Up) (client : Client) → Keeps client (hears_up news client)
up_keeps nothing client = λ first e. e
up_keeps opened client = λ first e. e
up_keeps (bytes octets) client = stream_keeps (length (client.held ++ octets)) (client.held ++ octets) client
up_keeps (closed reason) client = end_keeps reason client

frame_keeps : (sdu : List ℕ) (client : Client) → Keeps client (hears_frame sdu client)
frame_keeps sdu client = up_keeps (up sdu client.mux) (record client { mux = hears sdu client.mux })

-- ---- links and channels

over_by_keeps : (cause : Option Outcome) (outcome : Outcome) (client : Client) → cause ≡ client.cause → Keeps client (events.over_by cause outcome client)
over_by_keeps None outcome client is first e = absurd (let f : None ≡ Some first = is ∙ e in cc)
over_by_keeps (Some earlier) outcome client is first e = e

linked_keeps : (stage : Stage) (client : Client) → Keeps client (events.linked_at stage client)
linked_keeps (Link Asked) client = either (is_some client.cause) client (record client { stage = LinkEnd Due }) (record client { stage = SearchChannel Due }) (λ first e. e) (λ first e. e)
linked_keeps Rest client = λ first e. e
linked_keeps (Link Due) client = λ first e. e
linked_keeps (SearchChannel point) client = λ first e. e
linked_keeps Search client = λ first e. e
linked_keeps (SearchEnd point) client = λ first e. e
linked_keeps (Features point) client = λ first e. e
linked_keeps (ObjectChannel point) client = λ first e. e
linked_keeps Object client = λ first e. e
linked_keeps (ObjectEnd point) client = λ first e. e
linked_keeps (LinkEnd point) client = λ first e. e
linked_keeps Over client = λ first e. e

object_opened_keeps : (transport : Transport) (mtu : ℕ) (client : Client) → Keeps client (events.object_opened transport mtu client)
object_opened_keeps L2cap mtu client = either (nat_lt mtu 255) client (ends small_channel client) (record client { stage = Object; limit = min mtu 32767 }) (ends_keeps small_channel client) (λ first e. e)
object_opened_keeps Rfcomm mtu client = λ first e. e

opened_keeps : (stage : Stage) (psm mtu : ℕ) (client : Client) → Keeps client (events.opened_at stage psm mtu client)
opened_keeps (SearchChannel Asked) psm mtu client = either (psm == events.search_psm) client (record client { stage = Search }) client (λ first e. e) (λ first e. e)
opened_keeps (ObjectChannel Asked) psm mtu client = either (psm == client.psm) client (events.object_opened client.transport mtu client) client (object_opened_keeps client.transport mtu client) (λ first e. e)
opened_keeps Rest psm mtu client = λ first e. e
opened_keeps (Link point) psm mtu client = λ first e. e
opened_keeps (SearchChannel Due) psm mtu client = λ first e. e
opened_keeps Search psm mtu client = λ first e. e
opened_keeps (SearchEnd point) psm mtu client = λ first e. e
opened_keeps (Features point) psm mtu client = λ first e. e
opened_keeps (ObjectChannel Due) psm mtu client = λ first e. e
opened_keeps Object psm mtu client = λ first e. e
opened_keeps (ObjectEnd point) psm mtu client = λ first e. e
opened_keeps (LinkEnd point) psm mtu client = λ first e. e
opened_keeps Over psm mtu client = λ first e. e

search_left_keeps : (cause : Option Outcome) (client : Client) → Keeps client (events.search_left cause client)
search_left_keeps None client = λ first e. e
search_left_keeps (Some cause) client = λ first e. e

search_closed_keeps : (found : Option Outcome) (client : Client) → Keeps client (events.search_closed found client)
search_closed_keeps None client = search_left_keeps client.cause client
search_closed_keeps (Some outcome) client = ends_keeps outcome client

closed_keeps : (stage : Stage) (psm : ℕ) (cause : CloseCause) (client : Client) → Keeps client (events.closed_at stage psm cause client)
closed_keeps (SearchChannel Asked) psm cause client = either (psm == events.search_psm) client (ends_if (cause_of_close cause) client) client (ends_if_keeps (cause_of_close cause) client) (λ first e. e)
closed_keeps Search psm cause client = either (psm == events.search_psm) client (ends_if (cause_of_close cause) client) client (ends_if_keeps (cause_of_close cause) client) (λ first e. e)
closed_keeps (SearchEnd point) psm cause client = either (psm == events.search_psm) client (events.search_closed (cause_of_close cause) client) client (search_closed_keeps (cause_of_close cause) client) (λ first e. e)
closed_keeps (ObjectChannel Asked) psm cause client = either (psm == client.psm) client (ends_if (cause_of_close cause) client) client (ends_if_keeps (cause_of_close cause) client) (λ first e. e)
closed_keeps Object psm cause client = either (psm == client.psm) client (ends_if (cause_of_close cause) client) client (ends_if_keeps (cause_of_close cause) client) (λ first e. e)
closed_keeps (ObjectEnd point) psm cause client = either (psm == client.psm) client (record client { stage = LinkEnd Due }) client (λ first e. e) (λ first e. e)
closed_keeps Rest psm cause client = λ first e. e
closed_keeps (Link point) psm cause client = λ first e. e
closed_keeps (SearchChannel Due) psm cause client = λ first e. e
closed_keeps (Features point) psm cause client = λ first e. e
closed_keeps (ObjectChannel Due) psm cause client = λ first e. e
closed_keeps (LinkEnd point) psm cause client = λ first e. e
closed_keeps Over psm cause client = λ first e. e

-- ---- the search, SDUs and the timer

psm_keeps : (found : Option ℕ) (client : Client) → Keeps client (events.found_psm found client)
psm_keeps None client = ends_keeps outcomes.NoService client
psm_keeps (Some psm) client = λ first e. e

channel_keeps : (found : Option ℕ) (client : Client) → Keeps client (events.found_channel found client)
channel_keeps None client = ends_keeps outcomes.NoService client
channel_keeps (Some channel) client = λ first e. e

way_keeps : (transport : Transport) (target : Target) (client : Client) → Keeps client (events.found_way transport target client)
way_keeps L2cap target client = psm_keeps (events.kept_of is_service_psm target.l2cap) client
way_keeps Rfcomm target client = channel_keeps (events.kept_of is_server_channel target.rfcomm) client

finds_keeps : (found : Found) (client : Client) → Keeps client (events.finds found client)
finds_keeps More client = λ first e. e
finds_keeps (Service target) client = way_keeps client.transport target client
finds_keeps NoService client = ends_keeps outcomes.NoService client
finds_keeps (Refused reason) client = ends_if_keeps (cause_of_query reason) client

object_keeps : (transport : Transport) (sdu : List ℕ) (client : Client) → Keeps client (events.hears_object transport sdu client)
object_keeps L2cap sdu client = response_keeps sdu client
object_keeps Rfcomm sdu client = frame_keeps sdu client

outside_keeps : (transport : Transport) (client : Client) → Keeps client (events.hears_outside transport client)
outside_keeps L2cap client = ends_keeps unawaited_response client
outside_keeps Rfcomm client = λ first e. e

sdu_keeps : (stage : Stage) (psm : ℕ) (sdu : List ℕ) (client : Client) → Keeps client (events.sdu_at stage psm sdu client)
sdu_keeps Search psm sdu client = either (psm == events.search_psm) client (events.finds (found_at client.query sdu) (record client { query = after_reply client.query sdu })) client (finds_keeps (found_at client.query sdu) (record client { query = after_reply client.query sdu })) (λ first e. e)
sdu_keeps (ObjectChannel point) psm sdu client = either (psm == client.psm) client (events.hears_outside client.transport client) client (outside_keeps client.transport client) (λ first e. e)
sdu_keeps Object psm sdu client = either (psm == client.psm) client (events.hears_object client.transport sdu client) client (object_keeps client.transport sdu client) (λ first e. e)
sdu_keeps (ObjectEnd point) psm sdu client = either (psm == client.psm) client (events.hears_outside client.transport client) client (outside_keeps client.transport client) (λ first e. e)
sdu_keeps Rest psm sdu client = λ first e. e
sdu_keeps (Link point) psm sdu client = λ first e. e
sdu_keeps (SearchChannel point) psm sdu client = λ first e. e
sdu_keeps (SearchEnd point) psm sdu client = λ first e. e
sdu_keeps (Features point) psm sdu client = λ first e. e
sdu_keeps (LinkEnd point) psm sdu client = λ first e. e
sdu_keeps Over psm sdu client = λ first e. e

fires_keeps : (client : Client) → Keeps client (events.fires client)
fires_keeps client =
    let fired = record client { query = after_resend client.query } in
    either (events.armed client && not (client.given || is_due client.query)) client (if client.left == 0 then ends outcomes.RetryLimit client else fired) client
    (either (client.left == 0) client (ends outcomes.RetryLimit client) fired (ends_keeps outcomes.RetryLimit client) (λ first e. e)) (λ first e. e)

pub news_keeps : (news : events.News) (client : Client) → Keeps client (events.hears_news news client)
news_keeps events.LinkUp client = linked_keeps client.stage client
news_keeps (events.LinkDown reason) client = either (events.is_linked client.stage) client (events.over (cause_of_link reason) client) client (over_by_keeps client.cause (cause_of_link reason) client refl) (λ first e. e)
news_keeps (events.LinkFailed status) client = either (events.is_paging client.stage) client (events.over (cause_of_page status) client) client (over_by_keeps client.cause (cause_of_page status) client refl) (λ first e. e)
news_keeps (events.ChannelOpen psm mtu) client = opened_keeps client.stage psm mtu client
news_keeps (events.ChannelClosed psm cause) client = closed_keeps client.stage psm cause client
news_keeps (events.Sdu psm octets) client = sdu_keeps client.stage psm octets client
news_keeps events.FeaturesTold client = either (events.is_asking_features client.stage) client (record client { stage = ObjectChannel Due }) client (λ first e. e) (λ first e. e)
news_keeps events.FeaturesLost client = either (events.is_asking_features client.stage) client (ends outcomes.RetryLimit client) client (ends_keeps outcomes.RetryLimit client) (λ first e. e)
news_keeps events.Timer client = fires_keeps client

-- ---- steps

-- a step of a client that was made from another one, whatever it is
abbrev StepKeeps : Client → Stepped → Type 0
StepKeeps client stepped = Keeps client stepped.client

abbrev MadeKeeps : Client → Made → Type 0
MadeKeeps client made = Keeps client made.client

step_either : (test : Bool) (a : Client) (b c : Stepped) → StepKeeps a b → StepKeeps a c → StepKeeps a (if test then b else c)
step_either true a b c keeps_b keeps_c = keeps_b
step_either false a b c keeps_b keeps_c = keeps_c

made_either : (test : Bool) (a : Client) (b c : Made) → MadeKeeps a b → MadeKeeps a c → MadeKeeps a (if test then b else c)
made_either true a b c keeps_b keeps_c = keeps_b
made_either false a b c keeps_b keeps_c = keeps_c

part_keeps : (part : Part) (client : Client) (parts : List Part) → MadeKeeps client (puts_part part client parts)
part_keeps (Ok part) client parts = λ first e. e
part_keeps (Err fault) client parts = λ first e. e

puts_from_keeps : (parts : List Part) (client : Client) → MadeKeeps client (puts_from parts client)
puts_from_keeps [] client = λ first e. e
puts_from_keeps (part ∷ parts) client = part_keeps part client parts

puts_keeps : (client : Client) (parts : List Part) → MadeKeeps client (puts client parts)
puts_keeps client parts = made_either (put_count client == 0) client (puts_part (Ok []) client parts) (puts_from parts client) (part_keeps (Ok []) client parts) (puts_from_keeps parts client)

leaves_keeps : (ask : Ask) (client : Client) (parts : List Part) → MadeKeeps client (leaves_by ask client parts)
leaves_keeps Connect client parts = λ first e. e
leaves_keeps Put client parts = λ first e. e
leaves_keeps Abort client parts = λ first e. e
leaves_keeps Disconnect client parts = λ first e. e
leaves_keeps Close client parts = λ first e. e
leaves_keeps Nothing client parts = λ first e. e

failing_keeps : (client : Client) (parts : List Part) → MadeKeeps client (failing client parts)
failing_keeps client parts = let ended = ends outcomes.ShelfFault client in follows client ended (leaves_by (next_ask ended) ended parts).client (ends_keeps outcomes.ShelfFault client) (leaves_keeps (next_ask ended) ended parts)

or_leaves_keeps : (outcome : Result (Unit {0}) PortFault) (client : Client) (put : Made) → MadeKeeps client put → MadeKeeps client (puts_or_leaves outcome put)
or_leaves_keeps (Ok done) client put keeps = keeps
or_leaves_keeps (Err fault.Failed) client put keeps = follows client put.client (failing put.client put.left).client keeps (failing_keeps put.client put.left)
or_leaves_keeps (Err fault.NoMemory) client put keeps = keeps

requests_keep : (ask : Ask) (client : Client) (parts : List Part) → MadeKeeps client (requests ask client parts)
requests_keep Connect client parts = λ first e. e
requests_keep Put client parts = or_leaves_keeps (puts client parts).outcome client (puts client parts) (puts_keeps client parts)
requests_keep Abort client parts = λ first e. e
requests_keep Disconnect client parts = λ first e. e
requests_keep Close client parts = λ first e. e
requests_keep Nothing client parts = λ first e. e

sends_keep : (outcome : Result (Unit {0}) PortFault) (client : Client) (request : Made) → MadeKeeps client request → StepKeeps client (sends_direct outcome request)
sends_keep (Ok done) client request keeps = keeps
sends_keep (Err fault) client request keeps = keeps

direct_keeps : (ask : Ask) (client : Client) (parts : List Part) → StepKeeps client (asks_direct ask client parts)
direct_keeps Close client parts = λ first e. e
direct_keeps Nothing client parts = λ first e. e
direct_keeps Connect client parts = sends_keep (requests Connect client parts).outcome client (requests Connect client parts) (requests_keep Connect client parts)
direct_keeps Put client parts = sends_keep (requests Put client parts).outcome client (requests Put client parts) (requests_keep Put client parts)
direct_keeps Abort client parts = sends_keep (requests Abort client parts).outcome client (requests Abort client parts) (requests_keep Abort client parts)
direct_keeps Disconnect client parts = sends_keep (requests Disconnect client parts).outcome client (requests Disconnect client parts) (requests_keep Disconnect client parts)

filled_keeps : (client : Client) → Keeps client (filled client)
filled_keeps client = either (is_ready client.mux && not (is_empty client.rest)) client (record client { mux = sends client.rest client.mux; rest = drop (taken_count (length client.rest) client.mux) client.rest }) client (λ first e. e) (λ first e. e)

said_keeps : (said : Option Said) (client : Client) (parts : List Part) → StepKeeps client (said_by said client parts)
said_keeps None client parts = λ first e. e
said_keeps (Some said) client parts = λ first e. e

says_keep : (client : Client) (parts : List Part) → StepKeeps client (says client parts)
says_keep client parts = let full = filled client in follows client full (said_by (next full.mux) full parts).client (filled_keeps client) (said_keeps (next full.mux) full parts)

muxed_keep : (outcome : Result (Unit {0}) PortFault) (client : Client) (request : Made) → MadeKeeps client request → StepKeeps client (sends_muxed outcome request)
muxed_keep (Ok done) client request keeps = follows client request.client (says request.client request.left).client keeps (says_keep request.client request.left)
muxed_keep (Err fault) client request keeps = keeps

through_keeps : (ask : Ask) (client : Client) (parts : List Part) → StepKeeps client (asks_through ask client parts)
through_keeps ask client parts =
    let request = requests ask (record client { rest = [] }) parts in
    step_either (takes_some client.mux) client (sends_muxed request.outcome request) (rests client parts) (muxed_keep request.outcome client request (requests_keep ask (record client { rest = [] }) parts)) (λ first e. e)

asks_muxed_keeps : (ask : Ask) (client : Client) (parts : List Part) → StepKeeps client (asks_muxed ask client parts)
asks_muxed_keeps Close client parts = says_keep (record client { mux = leaves client.mux; contact = Closing }) parts
asks_muxed_keeps Nothing client parts = λ first e. e
asks_muxed_keeps Connect client parts = through_keeps Connect client parts
asks_muxed_keeps Put client parts = through_keeps Put client parts
asks_muxed_keeps Abort client parts = through_keeps Abort client parts
asks_muxed_keeps Disconnect client parts = through_keeps Disconnect client parts

goes_keeps : (said : Option Said) (client : Client) (parts : List Part) → StepKeeps client (goes_muxed said client parts)
goes_keeps None client parts = let quiet = record client { frame = None } in step_either (may_ask quiet) client (asks_muxed (next_ask quiet) quiet parts) (rests quiet parts) (asks_muxed_keeps (next_ask quiet) quiet parts) (λ first e. e)
goes_keeps (Some said) client parts = said_keeps (Some said) client parts

object_step_keeps : (transport : Transport) (client : Client) (parts : List Part) → StepKeeps client (steps_object transport client parts)
object_step_keeps L2cap client parts = step_either (may_ask client) client (asks_direct (next_ask client) (record client { rest = [] }) parts) (rests client parts) (direct_keeps (next_ask client) (record client { rest = [] }) parts) (λ first e. e)
object_step_keeps Rfcomm client parts = let full = filled client in follows client full (goes_muxed (next full.mux) full parts).client (filled_keeps client) (goes_keeps (next full.mux) full parts)

search_step_keeps : (client : Client) (parts : List Part) → StepKeeps client (steps_search client parts)
search_step_keeps client parts =
    step_either (is_due client.query) client (sends_sdu events.search_psm (Octets (request_octets client.query)) (record client { query = after_request client.query; left = client.left - 1; rest = request_octets client.query }) parts) (rests client parts) (λ first e. e) (λ first e. e)

tells_keeps : (cause : Option Outcome) (client : Client) (parts : List Part) → StepKeeps client (tells_end cause client parts)
tells_keeps None client parts = λ first e. e
tells_keeps (Some outcome) client parts = λ first e. e

at_keeps : (stage : Stage) (client : Client) (parts : List Part) → StepKeeps client (steps_at stage client parts)
at_keeps Rest client parts = λ first e. e
at_keeps (Link Due) client parts = λ first e. e
at_keeps (Link Asked) client parts = λ first e. e
at_keeps (SearchChannel Due) client parts = λ first e. e
at_keeps (SearchChannel Asked) client parts = λ first e. e
at_keeps Search client parts = search_step_keeps client parts
at_keeps (SearchEnd Due) client parts = λ first e. e
at_keeps (SearchEnd Asked) client parts = λ first e. e
at_keeps (Features Due) client parts = λ first e. e
at_keeps (Features Asked) client parts = λ first e. e
at_keeps (ObjectChannel Due) client parts = λ first e. e
at_keeps (ObjectChannel Asked) client parts = λ first e. e
at_keeps Object client parts = object_step_keeps client.transport client parts
at_keeps (ObjectEnd Due) client parts = λ first e. e
at_keeps (ObjectEnd Asked) client parts = λ first e. e
at_keeps (LinkEnd Due) client parts = λ first e. e
at_keeps (LinkEnd Asked) client parts = λ first e. e
at_keeps Over client parts = tells_keeps client.cause client parts

pub steps_keep : (client : Client) (parts : List Part) → StepKeeps client (steps client parts)
steps_keep client parts =
    step_either client.failed client (record { client = client; step = NoMemory; left = parts }) (if client.given then rests client parts else steps_at client.stage client parts) (λ first e. e)
    (step_either client.given client (rests client parts) (steps_at client.stage client parts) (λ first e. e) (at_keeps client.stage client parts))

-- ---- all that may happen

done_keeps : (deed : Deed) (client : Client) → Keeps client (done deed client)
done_keeps (laws.Hears news) client = news_keeps news client
done_keeps (laws.Asks parts) client = steps_keep client parts
done_keeps laws.Finishes client = λ first e. e
done_keeps laws.Cancels client = cancelled_keeps client

pub first_causes_stay : FirstCausesStay
first_causes_stay [] client outcome e = e
first_causes_stay (deed ∷ deeds) client outcome e = first_causes_stay deeds (done deed client) outcome (done_keeps deed client outcome e)
