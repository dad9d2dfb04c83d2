-- What a client's channel took is a front of what the client asked to send there: one SDU more at most, and then nothing goes any more.
use Rattle.std.proofs.Common.{◌≡◌, ℕ, zero, suc, Bool, true, false, cond, ◌==◌, List, [], Option, Some, None, is_some, refl, ap, ◌∙◌}
use Rattle.std.proofs.lemmas.Bool.{cond-true, cond-false}
use Rattle.pair_laws.specs.bt_base.specs.declared.settings.Transport.{Transport}
use Rattle.pair_laws.specs.bt_base.specs.declared.settings.Transport.TheVariants.{L2cap, Rfcomm}
use Rattle.pair_laws.specs.channel_model.specs.declared.event.ChannelEvent.{ChannelEvent}
use Rattle.pair_laws.specs.channel_model.specs.declared.event.ChannelEvent.TheVariants as channels
use Rattle.pair_laws.specs.channel_model.specs.Calls.{peer_mtu}
use Rattle.pair_laws.specs.channel_model.specs.Value.{Channels}
use Rattle.pair_laws.specs.push_terms.specs.declared.outcome.Outcome.{Outcome}
use Rattle.pair_laws.specs.rfcomm_model.specs.Hearing.{Up, nothing, opened, bytes, closed}
use Rattle.pair_laws.specs.sdp_elements.specs.declared.target.Target.{Target}
use Rattle.pair_laws.specs.sdp_client.specs.declared.reason.Found.{Found}
use Rattle.pair_laws.specs.sdp_client.specs.declared.reason.Found.TheVariants.{More, Service, NoService, Refused}
use Rattle.pair_laws.specs.sdp_client.specs.Hearing.{found_at, after_reply}
use Rattle.pair_laws.specs.obex_session.specs.declared.client.Answered.{Answered}
use Rattle.pair_laws.specs.obex_session.specs.declared.client.Answered.TheVariants as answers
use Rattle.pair_laws.specs.push_model.specs.declared.closing.CloseCause.{CloseCause}
use Rattle.pair_laws.specs.push_model.specs.declared.course.Point.TheVariants.{Due, Asked}
use Rattle.pair_laws.specs.push_model.specs.declared.course.Stage.{Stage}
use Rattle.pair_laws.specs.push_model.specs.declared.course.Stage.TheVariants as stages
use Rattle.pair_laws.specs.push_model.specs.Client.{Client, cancelled, ends, ends_by, ends_if, may_cancel}
use Rattle.pair_laws.specs.push_model.specs.Events as events
use Rattle.pair_laws.specs.push_model.specs.Events.{hears_news}
use Rattle.pair_laws.specs.push_model.specs.Responding as responses
use Rattle.pair_laws.specs.push_model.specs.Responding.{is_object}
use Rattle.pair_laws.specs.push_model.specs.Steps.{Stepped}
use Rattle.pair_laws.specs.push_model.specs.Streams.{Front, Whole, Partial, Broken, front_of}
use Rattle.pair_laws.specs.host_model.specs.Clients.{ended, after_end, cause_of, closed_by, opened_by, event_heard}

-- ---- a step that was given stays so

abbrev pub Same : Client → Client → Type 0
Same a b = a.given ≡ b.given

same_if : (test : Bool) (a b c : Client) → Same a c → Same b c → Same (cond test a b) c
same_if true a b c x y = x
same_if false a b c x y = y

ends_by_same : (cause : Option Outcome) (o : Outcome) (client : Client) → Same (ends_by cause o client) client
ends_by_same None o client = refl
ends_by_same (Some earlier) o client = refl

ends_same : (o : Outcome) (client : Client) → Same (ends o client) client
ends_same o client = ends_by_same client.cause o client

ends_if_same : (o : Option Outcome) (client : Client) → Same (ends_if o client) client
ends_if_same None client = refl
ends_if_same (Some o) client = ends_same o client

linked_same : (stage : Stage) (client : Client) → Same (events.linked_at stage client) client
linked_same (stages.Link Asked) client = same_if (is_some client.cause) (record client { stage = stages.LinkEnd Due }) (record client { stage = stages.SearchChannel Due }) client refl refl
linked_same stages.Rest client = refl
linked_same (stages.Link Due) client = refl
linked_same (stages.SearchChannel point) client = refl
linked_same stages.Search client = refl
linked_same (stages.SearchEnd point) client = refl
linked_same (stages.Features point) client = refl
linked_same (stages.ObjectChannel point) client = refl
linked_same stages.Object client = refl
linked_same (stages.ObjectEnd point) client = refl
linked_same (stages.LinkEnd point) client = refl
linked_same stages.Over client = refl

object_opened_same : (transport : Transport) (mtu : ℕ) (client : Client) → Same (events.object_opened transport mtu client) client
object_opened_same L2cap mtu client = same_if _ _ _ client (ends_same _ client) refl
object_opened_same Rfcomm mtu client = refl

opened_same : (stage : Stage) (psm mtu : ℕ) (client : Client) → Same (events.opened_at stage psm mtu client) client
opened_same (stages.SearchChannel Asked) psm mtu client = same_if (psm == events.search_psm) _ client client refl refl
opened_same (stages.ObjectChannel Asked) psm mtu client = same_if (psm == client.psm) _ client client (object_opened_same client.transport mtu client) refl
opened_same stages.Rest psm mtu client = refl
opened_same (stages.Link point) psm mtu client = refl
opened_same (stages.SearchChannel Due) psm mtu client = refl
opened_same stages.Search psm mtu client = refl
opened_same (stages.SearchEnd point) psm mtu client = refl
opened_same (stages.Features point) psm mtu client = refl
opened_same (stages.ObjectChannel Due) psm mtu client = refl
opened_same stages.Object psm mtu client = refl
opened_same (stages.ObjectEnd point) psm mtu client = refl
opened_same (stages.LinkEnd point) psm mtu client = refl
opened_same stages.Over psm mtu client = refl

search_left_same : (cause : Option Outcome) (client : Client) → Same (events.search_left cause client) client
search_left_same None client = refl
search_left_same (Some cause) client = refl

search_closed_same : (cause : Option Outcome) (client : Client) → Same (events.search_closed cause client) client
search_closed_same None client = search_left_same client.cause client
search_closed_same (Some outcome) client = ends_same outcome client

closed_same : (stage : Stage) (psm : ℕ) (cause : CloseCause) (client : Client) → Same (events.closed_at stage psm cause client) client
closed_same (stages.SearchChannel Asked) psm cause client = same_if (psm == events.search_psm) _ client client (ends_if_same _ client) refl
closed_same stages.Search psm cause client = same_if (psm == events.search_psm) _ client client (ends_if_same _ client) refl
closed_same (stages.SearchEnd point) psm cause client = same_if (psm == events.search_psm) _ client client (search_closed_same _ client) refl
closed_same (stages.ObjectChannel Asked) psm cause client = same_if (psm == client.psm) _ client client (ends_if_same _ client) refl
closed_same stages.Object psm cause client = same_if (psm == client.psm) _ client client (ends_if_same _ client) refl
closed_same (stages.ObjectEnd point) psm cause client = same_if (psm == client.psm) _ client client refl refl
closed_same stages.Rest psm cause client = refl
closed_same (stages.Link point) psm cause client = refl
closed_same (stages.SearchChannel Due) psm cause client = refl
closed_same (stages.Features point) psm cause client = refl
closed_same (stages.ObjectChannel Due) psm cause client = refl
closed_same (stages.LinkEnd point) psm cause client = refl
closed_same stages.Over psm cause client = refl

psm_same : (psm : Option ℕ) (client : Client) → Same (events.found_psm psm client) client
psm_same None client = ends_same _ client
psm_same (Some psm) client = refl

channel_same : (channel : Option ℕ) (client : Client) → Same (events.found_channel channel client) client
channel_same None client = ends_same _ client
channel_same (Some channel) client = refl

way_same : (transport : Transport) (target : Target) (client : Client) → Same (events.found_way transport target client) client
way_same L2cap target client = psm_same _ client
way_same Rfcomm target client = channel_same _ client

finds_same : (found : Found) (client : Client) → Same (events.finds found client) client
finds_same More client = refl
finds_same (Service target) client = way_same client.transport target client
finds_same NoService client = ends_same _ client
finds_same (Refused reason) client = ends_if_same _ client

takes_same : (answer : Answered) (client : Client) → Same (responses.takes answer client) client
takes_same answers.Go client = refl
takes_same answers.Done client = ends_same _ client
takes_same (answers.Refused code) client = ends_same _ client
takes_same (answers.Bad refusal) client = ends_same _ client
takes_same answers.Srmp client = ends_same _ client

answer_same : (answer : Option Answered) (packet : List ℕ) (client : Client) → Same (responses.hears_answer answer packet client) client
answer_same None packet client = ends_same _ client
answer_same (Some answer) packet client = same_if _ _ _ client (ends_same _ _) (takes_same answer _)

response_same : (packet : List ℕ) (client : Client) → Same (responses.hears_response packet client) client
response_same packet client = answer_same _ packet client

reads_same : (more : Client → Client) (now client : Client) → ((next : Client) → Same next client → Same (more next) client) → Same now client → Same (responses.reads_on more now) client
reads_same more now client goes same = same_if (is_object now.stage) (more now) now client (goes now same) same

front_same : (more : List ℕ → Client → Client) (stream : List ℕ) (front : Front) (client first : Client) → ((rest : List ℕ) (next : Client) → Same next first → Same (more rest next) first) → Same client first → Same (responses.hears_front more stream front client) first
front_same more stream (Whole packet rest) client first goes same =
    let heard = responses.hears_response packet (record client { held = [] }) in reads_same (more rest) heard first (λ next so. goes rest next so) (response_same packet (record client { held = [] }) ∙ same)
front_same more stream Partial client first goes same = same
front_same more stream (Broken refusal) client first goes same = ends_same _ (record client { held = [] }) ∙ same

stream_same : (count : ℕ) (stream : List ℕ) (client first : Client) → Same client first → Same (responses.hears_stream count stream client) first
unfolding responses.hears_stream
stream_same zero stream client first same = same
stream_same (suc count) stream client first same =
    front_same (λ rest next. responses.hears_stream count rest next) stream (front_of client.session.maximum stream) client first (λ rest next so. stream_same count rest next first so) same

up_same : (brought : Up) (client first : Client) → Same client first → Same (responses.hears_up brought client) first
up_same nothing client first same = same
up_same opened client first same = same
up_same (bytes octets) client first same = stream_same _ _ client first same
up_same (closed reason) client first same = same_if _ _ _ first same (ends_same _ client ∙ same)

object_same : (transport : Transport) (sdu : List ℕ) (client : Client) → Same (events.hears_object transport sdu client) client
object_same L2cap sdu client = response_same sdu client
object_same Rfcomm sdu client = up_same _ _ client refl

outside_same : (transport : Transport) (client : Client) → Same (events.hears_outside transport client) client
outside_same L2cap client = ends_same _ client
outside_same Rfcomm client = refl

pub sdu_same : (stage : Stage) (psm : ℕ) (sdu : List ℕ) (client : Client) → Same (events.sdu_at stage psm sdu client) client
sdu_same stages.Search psm sdu client = same_if (psm == events.search_psm) _ client client (finds_same (found_at client.query sdu) (record client { query = after_reply client.query sdu })) refl
sdu_same (stages.ObjectChannel point) psm sdu client = same_if (psm == client.psm) _ client client (outside_same client.transport client) refl
sdu_same stages.Object psm sdu client = same_if (psm == client.psm) _ client client (object_same client.transport sdu client) refl
sdu_same (stages.ObjectEnd point) psm sdu client = same_if (psm == client.psm) _ client client (outside_same client.transport client) refl
sdu_same stages.Rest psm sdu client = refl
sdu_same (stages.Link point) psm sdu client = refl
sdu_same (stages.SearchChannel point) psm sdu client = refl
sdu_same (stages.SearchEnd point) psm sdu client = refl
sdu_same (stages.Features point) psm sdu client = refl
sdu_same (stages.LinkEnd point) psm sdu client = refl
sdu_same stages.Over psm sdu client = refl

pub fires_same : (client : Client) → Same (events.fires client) client
fires_same client = same_if _ _ client client (same_if (client.left == 0) _ _ client (ends_same _ client) refl) refl

pub cancelled_same : (client : Client) → Same (cancelled client) client
cancelled_same client = same_if (may_cancel client) _ client client (ends_same _ client) refl

pub event_same : (event : ChannelEvent) (v : Channels) (client : Client) → Same (event_heard event v client) client
event_same (channels.Opened own psm) v client = by (peer_mtu own v)
  where
    by : (mtu : Option ℕ) → Same (opened_by mtu psm client) client
    by None = refl
    by (Some mtu) = opened_same client.stage psm mtu client
event_same (channels.Closed own psm reason) v client = by (cause_of reason)
  where
    by : (cause : Option CloseCause) → Same (closed_by cause psm client) client
    by None = refl
    by (Some cause) = closed_same client.stage psm cause client
event_same (channels.Features features) v client = same_if _ _ client client refl refl
event_same channels.FeaturesLost v client = same_if _ _ client client (ends_same _ client) refl
event_same (channels.DisconnectLost own) v client = refl

-- nothing ends while a step is given
pub ended_held : (client : Client) → client.given ≡ true → ended client ≡ client
ended_held client held = by client.failed refl
  where
    by : (failed : Bool) → client.failed ≡ failed → ended client ≡ client
    by true is = ap (λ (o : Stepped). after_end o.step o.client client) (cond-true client.failed _ _ is)
    by false is = ap (λ (o : Stepped). after_end o.step o.client client) (cond-false client.failed _ _ is ∙ cond-true client.given _ _ held)
