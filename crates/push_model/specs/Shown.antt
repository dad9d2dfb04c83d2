-- What ends a push, by what is told to its client and by what the shelf answers it: a table, and the first that it shows.
use Rattle.std.specs.Prelude.{ℕ, zero, suc, ◌==◌, ◌&&◌, ◌||◌, ◌≡◌, not, nat_lt, List, [], ◌∷◌, ◌++◌, length, Option, Some, None, is_none, Result, Ok, Err, if◌then◌else◌}
use Rattle.bt_base.specs.declared.ports.PortFault.{PortFault}
use Rattle.bt_base.specs.declared.ports.PortFault.TheVariants as fault
use Rattle.bt_base.specs.declared.settings.Transport.{Transport}
use Rattle.bt_base.specs.declared.settings.Transport.TheVariants.{L2cap, Rfcomm}
use Rattle.push_terms.specs.declared.outcome.Outcome.{Outcome}
use Rattle.push_terms.specs.declared.outcome.Outcome.TheVariants as outcome
use Rattle.rfcomm_model.specs.Hearing.{Up, nothing, opened, bytes, closed, up, hears}
use Rattle.rfcomm_model.specs.Saying.{Said, next}
use Rattle.sdp_client.specs.Asking.{is_due}
use Rattle.sdp_client.specs.Hearing.{found_at}
use Rattle.sdp_client.specs.declared.reason.Found.{Found}
use Rattle.sdp_client.specs.declared.reason.Found.TheVariants as found
use Rattle.sdp_elements.specs.Targets.{is_service_psm, is_server_channel}
use Rattle.sdp_elements.specs.declared.target.Target.{Target}
use Rattle.obex_session.specs.Views.{answer_at}
use Rattle.obex_session.specs.declared.client.Answered.{Answered}
use Rattle.obex_session.specs.declared.client.Answered.TheVariants as answer
use Rattle.push_model.specs.declared.closing.CloseCause.{CloseCause}
use Rattle.push_model.specs.declared.course.Point.TheVariants.{Due, Asked}
use Rattle.push_model.specs.declared.course.Stage.{Stage}
use Rattle.push_model.specs.declared.course.Stage.TheVariants.{Rest, Link, SearchChannel, Search, SearchEnd, Features, ObjectChannel, Object, ObjectEnd, LinkEnd, Over}
use Rattle.push_model.specs.Causes.{cause_of_link, cause_of_page, cause_of_close, cause_of_query, cause_of_mux, cause_of_obex, small_channel, unknown_parameters, unawaited_response}
use Rattle.push_model.specs.Client.{Client, is_direct, may_cancel}
use Rattle.push_model.specs.Events as events
use Rattle.push_model.specs.Events.{News, search_psm, is_linked, is_paging, is_asking_features, armed, kept_of}
use Rattle.push_model.specs.Laws as laws
use Rattle.push_model.specs.Laws.{Deed, done, all_done}
use Rattle.push_model.specs.Responding.{is_early, is_success, is_left, is_object, hears_response}
use Rattle.push_model.specs.Steps.{Part, Ask, Put, next_ask, may_ask, puts, takes_some, filled}
use Rattle.push_model.specs.Streams.{Front, Whole, Partial, Broken, front_of}

abbrev pub first_of : Option Outcome → Option Outcome → Option Outcome
first_of None later = later
first_of (Some first) later = Some first

-- ---- channels

-- the channel whose end ends the push: the one that is made or used, and that of the search until it is gone
abbrev pub watched : Stage → Client → Option ℕ
watched Rest client = None
watched (Link point) client = None
watched (SearchChannel Due) client = None
watched (SearchChannel Asked) client = Some search_psm
watched Search client = Some search_psm
watched (SearchEnd point) client = Some search_psm
watched (Features point) client = None
watched (ObjectChannel Due) client = None
watched (ObjectChannel Asked) client = Some client.psm
watched Object client = Some client.psm
watched (ObjectEnd point) client = None
watched (LinkEnd point) client = None
watched Over client = None

abbrev pub closed_shows : ℕ → CloseCause → Option ℕ → Option Outcome
closed_shows psm cause None = None
closed_shows psm cause (Some own) = if psm == own then cause_of_close cause else None

-- one that takes too few octets for an object
abbrev pub opened_shows : Stage → ℕ → ℕ → Client → Option Outcome
opened_shows (ObjectChannel Asked) psm mtu client = if (psm == client.psm) && (is_direct client.transport && nat_lt mtu 255) then Some small_channel else None
opened_shows stage psm mtu client = None

-- ---- replies of the service records

abbrev pub way_of : Transport → Target → Option ℕ
way_of L2cap target = kept_of is_service_psm target.l2cap
way_of Rfcomm target = kept_of is_server_channel target.rfcomm

abbrev pub found_shows : Transport → Found → Option Outcome
found_shows transport found.More = None
found_shows transport (found.Service target) = if is_none (way_of transport target) then Some outcome.NoService else None
found_shows transport found.NoService = Some outcome.NoService
found_shows transport (found.Refused reason) = cause_of_query reason

-- ---- responses

abbrev pub says : Answered → Option Outcome
says answer.Go = None
says answer.Done = Some outcome.Done
says (answer.Refused code) = Some (outcome.Refused code)
says (answer.Bad refusal) = Some (cause_of_obex refusal)
says answer.Srmp = Some unknown_parameters

abbrev pub answer_shows : Option Answered → Client → Option Outcome
answer_shows None client = Some unawaited_response
answer_shows (Some answered) client = if is_success answered && is_early client then Some unawaited_response else says answered

abbrev pub response_shows : List ℕ → Client → Option Outcome
response_shows packet client = answer_shows (answer_at client.session.awaited client.session packet) client

abbrev pub front_shows : (List ℕ → Client → Option Outcome) → Front → Client → Option Outcome
front_shows more (Whole packet rest) client = let alone = record client { held = [] } in first_of (response_shows packet alone) (more rest (hears_response packet alone))
front_shows more Partial client = None
front_shows more (Broken refusal) client = Some (cause_of_obex refusal)

-- packet by packet
unfoldable pub stream_shows : ℕ → List ℕ → Client → Option Outcome
stream_shows zero stream client = None
stream_shows (suc steps) stream client = front_shows (λ rest next. stream_shows steps rest next) (front_of client.session.maximum stream) client

-- the answer to the own last DISC is no cause
abbrev pub up_shows : Up → Client → Option Outcome
up_shows nothing client = None
up_shows opened client = None
up_shows (bytes octets) client = stream_shows (length (client.held ++ octets)) (client.held ++ octets) client
up_shows (closed reason) client = if is_left client.contact reason then None else Some (cause_of_mux reason)

-- ---- SDUs

abbrev pub object_shows : Transport → List ℕ → Client → Option Outcome
object_shows L2cap sdu client = response_shows sdu client
object_shows Rfcomm sdu client = up_shows (up sdu client.mux) (record client { mux = hears sdu client.mux })

abbrev pub outside_shows : Transport → Option Outcome
outside_shows L2cap = Some unawaited_response
outside_shows Rfcomm = None

abbrev pub sdu_shows : Stage → ℕ → List ℕ → Client → Option Outcome
sdu_shows Search psm sdu client = if psm == search_psm then found_shows client.transport (found_at client.query sdu) else None
sdu_shows (ObjectChannel point) psm sdu client = if psm == client.psm then outside_shows client.transport else None
sdu_shows Object psm sdu client = if psm == client.psm then object_shows client.transport sdu client else None
sdu_shows (ObjectEnd point) psm sdu client = if psm == client.psm then outside_shows client.transport else None
sdu_shows stage psm sdu client = None

-- ---- all that is told

abbrev pub news_show : News → Client → Option Outcome
news_show events.LinkUp client = None
news_show (events.LinkDown reason) client = if is_linked client.stage then Some (cause_of_link reason) else None
news_show (events.LinkFailed status) client = if is_paging client.stage then Some (cause_of_page status) else None
news_show (events.ChannelOpen psm mtu) client = opened_shows client.stage psm mtu client
news_show (events.ChannelClosed psm cause) client = closed_shows psm cause (watched client.stage client)
news_show (events.Sdu psm octets) client = sdu_shows client.stage psm octets client
news_show events.FeaturesTold client = None
news_show events.FeaturesLost client = if is_asking_features client.stage then Some outcome.RetryLimit else None
-- the request was sent as often as may be
news_show events.Timer client = if (armed client && not (client.given || is_due client.query)) && (client.left == 0) then Some outcome.RetryLimit else None

-- ---- the shelf

abbrev pub part_shows : Result (Unit {0}) PortFault → Option Outcome
part_shows (Ok done) = None
part_shows (Err fault.Failed) = Some outcome.ShelfFault
part_shows (Err fault.NoMemory) = None

abbrev pub ask_shows : Ask → Client → List Part → Option Outcome
ask_shows Put client parts = part_shows (puts client parts).outcome
ask_shows ask client parts = None

-- it is asked where a PUT is made: over RFCOMM behind the frames that go first
abbrev pub said_shows : Option Said → Client → List Part → Option Outcome
said_shows None client parts = if may_ask client && takes_some client.mux then ask_shows (next_ask client) (record client { frame = None; rest = [] }) parts else None
said_shows (Some said) client parts = None

abbrev pub step_shows : Transport → Client → List Part → Option Outcome
step_shows L2cap client parts = if may_ask client then ask_shows (next_ask client) (record client { rest = [] }) parts else None
step_shows Rfcomm client parts = let full = filled client in said_shows (next full.mux) full parts

abbrev pub steps_show : Client → List Part → Option Outcome
steps_show client parts = if not client.failed && (not client.given && is_object client.stage) then step_shows client.transport client parts else None

-- ---- the first

abbrev pub shows : Deed → Client → Option Outcome
shows (laws.Hears news) client = news_show news client
shows (laws.Asks parts) client = steps_show client parts
shows laws.Finishes client = None
shows laws.Cancels client = if may_cancel client then Some outcome.Cancelled else None

abbrev pub first_shown : List Deed → Client → Option Outcome
first_shown [] client = None
first_shown (deed ∷ deeds) client = first_of (shows deed client) (first_shown deeds (done deed client))

-- The outcome of a push is the first cause that anything shows, from where it had none.
abbrev pub OutcomesAreShown : Type 0
OutcomesAreShown = (deeds : List Deed) (client : Client) → client.cause ≡ None → (all_done deeds client).cause ≡ first_shown deeds client
