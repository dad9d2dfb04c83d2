-- What a client hears, and what it is then. What does not fit the stage of its push is passed over (this project's own).
use Rattle.std.specs.Prelude.{ℕ, ◌-◌, ◌*◌, ◌==◌, ◌&&◌, ◌||◌, not, min, max, nat_lt, Bool, true, false, List, Option, Some, None, is_some, if◌then◌else◌}
use Rattle.bt_base.specs.declared.settings.Transport.{Transport}
use Rattle.bt_base.specs.declared.settings.Transport.TheVariants.{L2cap, Rfcomm}
use Rattle.push_terms.specs.declared.outcome.Outcome.{Outcome}
use Rattle.push_terms.specs.declared.outcome.Outcome.TheVariants as outcome
use Rattle.rfcomm_model.specs.Machine.{new_mux}
use Rattle.sdp_elements.specs.declared.target.Target.{Target}
use Rattle.sdp_elements.specs.Targets.{is_service_psm, is_server_channel, kept}
use Rattle.sdp_client.specs.declared.reason.Found.{Found}
use Rattle.sdp_client.specs.declared.reason.Found.TheVariants.{More, Service, NoService, Refused}
use Rattle.sdp_client.specs.Asking.{is_due, after_resend}
use Rattle.sdp_client.specs.Hearing.{found_at, after_reply}
use Rattle.sdp_client.specs.Views.{is_awaiting}
use Rattle.push_model.specs.declared.closing.CloseCause.{CloseCause}
use Rattle.push_model.specs.declared.course.Point.TheVariants.{Due, Asked}
use Rattle.push_model.specs.declared.course.Stage.{Stage}
use Rattle.push_model.specs.declared.course.Stage.TheVariants.{Rest, Link, SearchChannel, Search, SearchEnd, Features, ObjectChannel, Object, ObjectEnd, LinkEnd, Over}
use Rattle.push_model.specs.Causes.{cause_of_link, cause_of_page, cause_of_close, cause_of_query, small_channel, unawaited_response}
use Rattle.push_model.specs.Client.{Client, ends, ends_if}
use Rattle.push_model.specs.Responding.{hears_response, hears_frame}

pub data News : Type 0 where
  LinkUp : News
  LinkDown : (reason : ℕ) → News
  LinkFailed : (status : ℕ) → News
  -- SDUs may be sent on the channel to that PSM, of so many octets at most
  ChannelOpen : (psm mtu : ℕ) → News
  ChannelClosed : (psm : ℕ) (cause : CloseCause) → News
  Sdu : (psm : ℕ) (octets : List ℕ) → News
  -- the peer told its features or that it does not tell them, or it never answered
  FeaturesTold : News
  FeaturesLost : News
  Timer : News

abbrev pub search_psm : ℕ
search_psm = 0x0001

abbrev pub rfcomm_psm : ℕ
rfcomm_psm = 0x0003

-- ---- links

-- a push that was cancelled meanwhile breaks it again
abbrev pub linked_at : Stage → Client → Client
linked_at (Link Asked) client = if is_some client.cause then record client { stage = LinkEnd Due } else record client { stage = SearchChannel Due }
linked_at Rest client = client
linked_at (Link Due) client = client
linked_at (SearchChannel point) client = client
linked_at Search client = client
linked_at (SearchEnd point) client = client
linked_at (Features point) client = client
linked_at (ObjectChannel point) client = client
linked_at Object client = client
linked_at (ObjectEnd point) client = client
linked_at (LinkEnd point) client = client
linked_at Over client = client

abbrev pub is_linked : Stage → Bool
is_linked Rest = false
is_linked (Link point) = false
is_linked (SearchChannel point) = true
is_linked Search = true
is_linked (SearchEnd point) = true
is_linked (Features point) = true
is_linked (ObjectChannel point) = true
is_linked Object = true
is_linked (ObjectEnd point) = true
is_linked (LinkEnd point) = true
is_linked Over = false

abbrev pub is_paging : Stage → Bool
is_paging Rest = false
is_paging (Link Due) = false
is_paging (Link Asked) = true
is_paging (SearchChannel point) = false
is_paging Search = false
is_paging (SearchEnd point) = false
is_paging (Features point) = false
is_paging (ObjectChannel point) = false
is_paging Object = false
is_paging (ObjectEnd point) = false
is_paging (LinkEnd point) = false
is_paging Over = false

-- no link is there: the push is over, with its first cause
abbrev pub over_by : Option Outcome → Outcome → Client → Client
over_by None outcome client = record client { stage = Over; cause = Some outcome; given = false }
over_by (Some earlier) outcome client = record client { stage = Over; given = false }

abbrev pub over : Outcome → Client → Client
over outcome client = over_by client.cause outcome client

-- ---- channels

-- the largest own frame of the multiplexer: an SDU less the six octets that a frame may have around its information
abbrev pub own_frame : ℕ → ℕ → ℕ
own_frame largest mtu = max 23 (min largest (mtu - 6))

-- the multiplexer is begun anew, on the server channel that the service record names
abbrev pub muxed_anew : ℕ → Client → Client
muxed_anew mtu client = record client { stage = Object; mux = new_mux client.mux.role (2 * client.channel) client.mux.largest (own_frame client.mux.largest mtu) client.mux.account.cap }

abbrev pub object_opened : Transport → ℕ → Client → Client
object_opened L2cap mtu client = if nat_lt mtu 255 then ends small_channel client else record client { stage = Object; limit = min mtu 32767 }
object_opened Rfcomm mtu client = record (muxed_anew mtu client) { limit = 32767 }

abbrev pub opened_at : Stage → ℕ → ℕ → Client → Client
opened_at (SearchChannel Asked) psm mtu client = if psm == search_psm then record client { stage = Search } else client
opened_at (ObjectChannel Asked) psm mtu client = if psm == client.psm then object_opened client.transport mtu client else client
opened_at Rest psm mtu client = client
opened_at (Link point) psm mtu client = client
opened_at (SearchChannel Due) psm mtu client = client
opened_at Search psm mtu client = client
opened_at (SearchEnd point) psm mtu client = client
opened_at (Features point) psm mtu client = client
opened_at (ObjectChannel Due) psm mtu client = client
opened_at Object psm mtu client = client
opened_at (ObjectEnd point) psm mtu client = client
opened_at (LinkEnd point) psm mtu client = client
opened_at Over psm mtu client = client

-- behind the search: over L2CAP the features are asked for, over RFCOMM the channel is made
abbrev pub stage_behind : Transport → Stage
stage_behind L2cap = Features Due
stage_behind Rfcomm = ObjectChannel Due

abbrev pub search_left : Option Outcome → Client → Client
search_left None client = record client { stage = stage_behind client.transport }
search_left (Some cause) client = record client { stage = LinkEnd Due }

-- the channel to the service records is no more, where the client closes it
abbrev pub search_closed : Option Outcome → Client → Client
search_closed None client = search_left client.cause client
search_closed (Some outcome) client = ends outcome client

abbrev pub closed_at : Stage → ℕ → CloseCause → Client → Client
closed_at (SearchChannel Asked) psm cause client = if psm == search_psm then ends_if (cause_of_close cause) client else client
closed_at Search psm cause client = if psm == search_psm then ends_if (cause_of_close cause) client else client
closed_at (SearchEnd point) psm cause client = if psm == search_psm then search_closed (cause_of_close cause) client else client
closed_at (ObjectChannel Asked) psm cause client = if psm == client.psm then ends_if (cause_of_close cause) client else client
closed_at Object psm cause client = if psm == client.psm then ends_if (cause_of_close cause) client else client
closed_at (ObjectEnd point) psm cause client = if psm == client.psm then record client { stage = LinkEnd Due } else client
closed_at Rest psm cause client = client
closed_at (Link point) psm cause client = client
closed_at (SearchChannel Due) psm cause client = client
closed_at (Features point) psm cause client = client
closed_at (ObjectChannel Due) psm cause client = client
closed_at (LinkEnd point) psm cause client = client
closed_at Over psm cause client = client

-- ---- the search

-- the channel to be made, where the record names one for the transport
abbrev pub kept_of : (ℕ → Bool) → Option ℕ → Option ℕ
kept_of test None = None
kept_of test (Some number) = kept test number

abbrev pub found_psm : Option ℕ → Client → Client
found_psm None client = ends outcome.NoService client
found_psm (Some psm) client = record client { psm = psm; stage = SearchEnd Due }

abbrev pub found_channel : Option ℕ → Client → Client
found_channel None client = ends outcome.NoService client
found_channel (Some channel) client = record client { psm = rfcomm_psm; channel = channel; stage = SearchEnd Due }

abbrev pub found_way : Transport → Target → Client → Client
found_way L2cap target client = found_psm (kept_of is_service_psm target.l2cap) client
found_way Rfcomm target client = found_channel (kept_of is_server_channel target.rfcomm) client

abbrev pub finds : Found → Client → Client
finds More client = record client { left = client.tries }
finds (Service target) client = found_way client.transport target client
finds NoService client = ends outcome.NoService client
finds (Refused reason) client = ends_if (cause_of_query reason) client

abbrev pub hears_reply : List ℕ → Client → Client
hears_reply reply client = finds (found_at client.query reply) (record client { query = after_reply client.query reply })

-- ---- SDUs

-- one on the channel of the object ahead of its opening is a response that no request waits for; the multiplexer has not
-- begun by then, and hears none
abbrev pub hears_object : Transport → List ℕ → Client → Client
hears_object L2cap sdu client = hears_response sdu client
hears_object Rfcomm sdu client = hears_frame sdu client

abbrev pub hears_outside : Transport → Client → Client
hears_outside L2cap client = ends unawaited_response client
hears_outside Rfcomm client = client

abbrev pub sdu_at : Stage → ℕ → List ℕ → Client → Client
sdu_at Search psm sdu client = if psm == search_psm then hears_reply sdu client else client
sdu_at (ObjectChannel point) psm sdu client = if psm == client.psm then hears_outside client.transport client else client
sdu_at Object psm sdu client = if psm == client.psm then hears_object client.transport sdu client else client
sdu_at (ObjectEnd point) psm sdu client = if psm == client.psm then hears_outside client.transport client else client
sdu_at Rest psm sdu client = client
sdu_at (Link point) psm sdu client = client
sdu_at (SearchChannel point) psm sdu client = client
sdu_at (SearchEnd point) psm sdu client = client
sdu_at (Features point) psm sdu client = client
sdu_at (LinkEnd point) psm sdu client = client
sdu_at Over psm sdu client = client

-- ---- features and the timer

abbrev pub is_asking_features : Stage → Bool
is_asking_features Rest = false
is_asking_features (Link point) = false
is_asking_features (SearchChannel point) = false
is_asking_features Search = false
is_asking_features (SearchEnd point) = false
is_asking_features (Features Due) = false
is_asking_features (Features Asked) = true
is_asking_features (ObjectChannel point) = false
is_asking_features Object = false
is_asking_features (ObjectEnd point) = false
is_asking_features (LinkEnd point) = false
is_asking_features Over = false

abbrev pub is_search : Stage → Bool
is_search Rest = false
is_search (Link point) = false
is_search (SearchChannel point) = false
is_search Search = true
is_search (SearchEnd point) = false
is_search (Features point) = false
is_search (ObjectChannel point) = false
is_search Object = false
is_search (ObjectEnd point) = false
is_search (LinkEnd point) = false
is_search Over = false

-- a request to the service records waits for its reply
abbrev pub armed : Client → Bool
armed client = is_search client.stage && is_awaiting client.query

-- It is asked once more, unless its last sending still waits or it was sent as often as may be.
abbrev pub fires : Client → Client
fires client =
    if armed client && not (client.given || is_due client.query) then
    (if client.left == 0 then ends outcome.RetryLimit client else record client { query = after_resend client.query })
    else client

-- ---- any of these

abbrev pub hears_news : News → Client → Client
hears_news LinkUp client = linked_at client.stage client
hears_news (LinkDown reason) client = if is_linked client.stage then over (cause_of_link reason) client else client
hears_news (LinkFailed status) client = if is_paging client.stage then over (cause_of_page status) client else client
hears_news (ChannelOpen psm mtu) client = opened_at client.stage psm mtu client
hears_news (ChannelClosed psm cause) client = closed_at client.stage psm cause client
hears_news (Sdu psm octets) client = sdu_at client.stage psm octets client
hears_news FeaturesTold client = if is_asking_features client.stage then record client { stage = ObjectChannel Due } else client
hears_news FeaturesLost client = if is_asking_features client.stage then ends outcome.RetryLimit client else client
hears_news Timer client = fires client
