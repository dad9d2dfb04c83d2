-- What a client hears leaves it as it is, whether it failed.
use Rattle.std.proofs.Common.{◌≡◌, ℕ, zero, suc, List, [], ◌++◌, length, Bool, true, false, cond, eqb, not, ◌&&◌, ◌||◌, Option, Some, None}
use Rattle.std.specs.Prelude.{is_some, min, nat_lt}
use Rattle.shelf_model.specs.bt_base.specs.declared.settings.Transport.{Transport}
use Rattle.shelf_model.specs.bt_base.specs.declared.settings.Transport.TheVariants.{L2cap, Rfcomm}
use Rattle.shelf_model.specs.push_terms.specs.declared.outcome.Outcome.{Outcome}
use Rattle.shelf_model.specs.push_terms.specs.declared.outcome.Outcome.TheVariants as outcomes
use Rattle.shelf_model.specs.rfcomm_model.specs.Hearing as hearing
use Rattle.shelf_model.specs.rfcomm_model.specs.Hearing.{Up, nothing, opened, bytes, closed, up}
use Rattle.shelf_model.specs.obex_session.specs.declared.client.Answered.{Answered}
use Rattle.shelf_model.specs.obex_session.specs.declared.client.Answered.TheVariants as answers
use Rattle.shelf_model.specs.obex_session.specs.Views.{answer_at, after_at}
use Rattle.shelf_model.specs.sdp_elements.specs.declared.target.Target.{Target}
use Rattle.shelf_model.specs.sdp_elements.specs.Targets.{is_service_psm, is_server_channel}
use Rattle.shelf_model.specs.sdp_client.specs.declared.reason.Found.{Found}
use Rattle.shelf_model.specs.sdp_client.specs.declared.reason.Found.TheVariants.{More, Service, NoService, Refused}
use Rattle.shelf_model.specs.sdp_client.specs.Asking.{is_due, after_resend}
use Rattle.shelf_model.specs.sdp_client.specs.Hearing.{found_at, after_reply}
use Rattle.push_laws.specs.push_model.specs.declared.closing.CloseCause.{CloseCause}
use Rattle.push_laws.specs.push_model.specs.declared.course.Point.TheVariants.{Due, Asked}
use Rattle.push_laws.specs.push_model.specs.declared.course.Stage.{Stage}
use Rattle.push_laws.specs.push_model.specs.declared.course.Stage.TheVariants.{Rest, Link, SearchChannel, Search, SearchEnd, Features, ObjectChannel, Object, ObjectEnd, LinkEnd, Over}
use Rattle.push_laws.specs.push_model.specs.Causes.{cause_of_close, cause_of_link, cause_of_mux, cause_of_obex, cause_of_page, cause_of_query, small_channel, unknown_parameters, unawaited_response}
use Rattle.push_laws.specs.push_model.specs.Client.{Client, ends_by, ends, ends_if}
use Rattle.push_laws.specs.push_model.specs.Events as events
use Rattle.push_laws.specs.push_model.specs.Events.{over_by, over, kept_of, found_psm, found_channel, found_way, finds, hears_reply, hears_outside, hears_object, linked_at, object_opened, opened_at, search_left, search_closed, closed_at, sdu_at, fires, hears_news}
use Rattle.push_laws.specs.push_model.specs.Responding as responding
use Rattle.push_laws.specs.push_model.specs.Responding.{is_object, is_left, hears_answer, hears_response, hears_front, hears_stream, hears_end, hears_up, hears_frame}
use Rattle.push_laws.specs.push_model.specs.Streams.{Front, Whole, Partial, Broken, front_of}

-- it has not failed
abbrev pub Well : Client → Type 0
Well c = c.failed ≡ false

pub well_if : (b : Bool) (c d : Client) → Well c → Well d → Well (cond b c d)
well_if true c d one other = one
well_if false c d one other = other

pub well_ends : (outcome : Outcome) (c : Client) → Well c → Well (ends outcome c)
well_ends outcome c well = by c.cause
  where
    by : (cause : Option Outcome) → Well (ends_by cause outcome c)
    by None = well
    by (Some earlier) = well

ends_if_well : (cause : Option Outcome) (c : Client) → Well c → Well (ends_if cause c)
ends_if_well None c well = well
ends_if_well (Some outcome) c well = well_ends outcome c well

over_well : (outcome : Outcome) (c : Client) → Well c → Well (over outcome c)
over_well outcome c well = by c.cause
  where
    by : (cause : Option Outcome) → Well (over_by cause outcome c)
    by None = well
    by (Some earlier) = well

-- ---- SDUs

takes_well : (answer : Answered) (c : Client) → Well c → Well (responding.takes answer c)
takes_well answers.Go c well = well
takes_well answers.Done c well = well_ends outcomes.Done c well
takes_well (answers.Refused code) c well = well_ends (outcomes.Refused code) c well
takes_well (answers.Bad refusal) c well = well_ends (cause_of_obex refusal) c well
takes_well answers.Srmp c well = well_ends unknown_parameters c well

answer_well : (answer : Option Answered) (packet : List ℕ) (c : Client) → Well c → Well (hears_answer answer packet c)
answer_well None packet c well = well_ends unawaited_response c well
answer_well (Some answer) packet c well =
    let heard : Client = record c { session = after_at c.session.awaited c.session packet } in
    well_if (responding.is_success answer && responding.is_early c) (ends unawaited_response heard) (responding.takes answer heard) (well_ends unawaited_response heard well) (takes_well answer heard well)

response_well : (packet : List ℕ) (c : Client) → Well c → Well (hears_response packet c)
response_well packet c well = answer_well (answer_at c.session.awaited c.session packet) packet c well

front_well : (more : List ℕ → Client → Client) (stream : List ℕ) (front : Front) (c : Client) → ((rest : List ℕ) (d : Client) → Well d → Well (more rest d)) → Well c → Well (hears_front more stream front c)
front_well more stream (Whole packet rest) c goes well =
    let held : Client = record c { held = [] } in
    let d = hears_response packet held in
    let there = response_well packet held well in
    well_if (is_object d.stage) (more rest d) d (goes rest d there) there
front_well more stream Partial c goes well = well
front_well more stream (Broken refusal) c goes well = let held : Client = record c { held = [] } in well_ends (cause_of_obex refusal) held well

stream_well : (count : ℕ) (stream : List ℕ) (c : Client) → Well c → Well (hears_stream count stream c)
unfolding hears_stream
stream_well zero stream c well = well
stream_well (suc count) stream c well = front_well (λ rest d. hears_stream count rest d) stream (front_of c.session.maximum stream) c (λ rest d there. stream_well count rest d there) well

frame_well : (sdu : List ℕ) (c : Client) → Well c → Well (hears_frame sdu c)
frame_well sdu c well = by (up sdu c.mux)
  where
    heard : Client
    heard = record c { mux = hearing.hears sdu c.mux }

    by : (one : Up) → Well (hears_up one heard)
    by nothing = well
    by opened = well
    by (bytes octets) = stream_well (length (c.held ++ octets)) (c.held ++ octets) heard well
    by (closed reason) = well_if (is_left c.contact reason) (record heard { stage = ObjectEnd Due }) (ends (cause_of_mux reason) heard) well (well_ends (cause_of_mux reason) heard well)

object_well : (transport : Transport) (sdu : List ℕ) (c : Client) → Well c → Well (hears_object transport sdu c)
object_well L2cap sdu c well = response_well sdu c well
object_well Rfcomm sdu c well = frame_well sdu c well

outside_well : (transport : Transport) (c : Client) → Well c → Well (hears_outside transport c)
outside_well L2cap c well = well_ends unawaited_response c well
outside_well Rfcomm c well = well

psm_well : (psm : Option ℕ) (c : Client) → Well c → Well (found_psm psm c)
psm_well None c well = well_ends outcomes.NoService c well
psm_well (Some psm) c well = well

channel_well : (channel : Option ℕ) (c : Client) → Well c → Well (found_channel channel c)
channel_well None c well = well_ends outcomes.NoService c well
channel_well (Some channel) c well = well

way_well : (transport : Transport) (target : Target) (c : Client) → Well c → Well (found_way transport target c)
way_well L2cap target c well = psm_well (kept_of is_service_psm target.l2cap) c well
way_well Rfcomm target c well = channel_well (kept_of is_server_channel target.rfcomm) c well

finds_well : (found : Found) (c : Client) → Well c → Well (finds found c)
finds_well More c well = well
finds_well (Service target) c well = way_well c.transport target c well
finds_well NoService c well = well_ends outcomes.NoService c well
finds_well (Refused reason) c well = ends_if_well (cause_of_query reason) c well

sdu_well : (stage : Stage) (psm : ℕ) (sdu : List ℕ) (c : Client) → Well c → Well (sdu_at stage psm sdu c)
sdu_well Search psm sdu c well = well_if (eqb psm 0x0001) (hears_reply sdu c) c (finds_well (found_at c.query sdu) (record c { query = after_reply c.query sdu }) well) well
sdu_well (ObjectChannel point) psm sdu c well = well_if (eqb psm c.psm) (hears_outside c.transport c) c (outside_well c.transport c well) well
sdu_well Object psm sdu c well = well_if (eqb psm c.psm) (hears_object c.transport sdu c) c (object_well c.transport sdu c well) well
sdu_well (ObjectEnd point) psm sdu c well = well_if (eqb psm c.psm) (hears_outside c.transport c) c (outside_well c.transport c well) well
sdu_well Rest psm sdu c well = well
sdu_well (Link point) psm sdu c well = well
sdu_well (SearchChannel point) psm sdu c well = well
sdu_well (SearchEnd point) psm sdu c well = well
sdu_well (Features point) psm sdu c well = well
sdu_well (LinkEnd point) psm sdu c well = well
sdu_well Over psm sdu c well = well

-- ---- channels and links

object_open : (transport : Transport) (mtu : ℕ) (c : Client) → Well c → Well (object_opened transport mtu c)
object_open L2cap mtu c well = well_if (nat_lt mtu 255) (ends small_channel c) (record c { stage = Object; limit = min mtu 32767 }) (well_ends small_channel c well) well
object_open Rfcomm mtu c well = well

open_well : (stage : Stage) (psm mtu : ℕ) (c : Client) → Well c → Well (opened_at stage psm mtu c)
open_well (SearchChannel Asked) psm mtu c well = well_if (eqb psm 0x0001) (record c { stage = Search }) c well well
open_well (ObjectChannel Asked) psm mtu c well = well_if (eqb psm c.psm) (object_opened c.transport mtu c) c (object_open c.transport mtu c well) well
open_well Rest psm mtu c well = well
open_well (Link point) psm mtu c well = well
open_well (SearchChannel Due) psm mtu c well = well
open_well Search psm mtu c well = well
open_well (SearchEnd point) psm mtu c well = well
open_well (Features point) psm mtu c well = well
open_well (ObjectChannel Due) psm mtu c well = well
open_well Object psm mtu c well = well
open_well (ObjectEnd point) psm mtu c well = well
open_well (LinkEnd point) psm mtu c well = well
open_well Over psm mtu c well = well

left_well : (cause : Option Outcome) (c : Client) → Well c → Well (search_left cause c)
left_well None c well = well
left_well (Some cause) c well = well

search_well : (cause : Option Outcome) (c : Client) → Well c → Well (search_closed cause c)
search_well None c well = left_well c.cause c well
search_well (Some outcome) c well = well_ends outcome c well

close_well : (stage : Stage) (psm : ℕ) (cause : CloseCause) (c : Client) → Well c → Well (closed_at stage psm cause c)
close_well (SearchChannel Asked) psm cause c well = well_if (eqb psm 0x0001) (ends_if (cause_of_close cause) c) c (ends_if_well (cause_of_close cause) c well) well
close_well Search psm cause c well = well_if (eqb psm 0x0001) (ends_if (cause_of_close cause) c) c (ends_if_well (cause_of_close cause) c well) well
close_well (SearchEnd point) psm cause c well = well_if (eqb psm 0x0001) (search_closed (cause_of_close cause) c) c (search_well (cause_of_close cause) c well) well
close_well (ObjectChannel Asked) psm cause c well = well_if (eqb psm c.psm) (ends_if (cause_of_close cause) c) c (ends_if_well (cause_of_close cause) c well) well
close_well Object psm cause c well = well_if (eqb psm c.psm) (ends_if (cause_of_close cause) c) c (ends_if_well (cause_of_close cause) c well) well
close_well (ObjectEnd point) psm cause c well = well_if (eqb psm c.psm) (record c { stage = LinkEnd Due }) c well well
close_well Rest psm cause c well = well
close_well (Link point) psm cause c well = well
close_well (SearchChannel Due) psm cause c well = well
close_well (Features point) psm cause c well = well
close_well (ObjectChannel Due) psm cause c well = well
close_well (LinkEnd point) psm cause c well = well
close_well Over psm cause c well = well

link_well : (stage : Stage) (c : Client) → Well c → Well (linked_at stage c)
link_well (Link Asked) c well = well_if (is_some c.cause) (record c { stage = LinkEnd Due }) (record c { stage = SearchChannel Due }) well well
link_well Rest c well = well
link_well (Link Due) c well = well
link_well (SearchChannel point) c well = well
link_well Search c well = well
link_well (SearchEnd point) c well = well
link_well (Features point) c well = well
link_well (ObjectChannel point) c well = well
link_well Object c well = well
link_well (ObjectEnd point) c well = well
link_well (LinkEnd point) c well = well
link_well Over c well = well

timer_well : (c : Client) → Well c → Well (fires c)
timer_well c well =
    well_if (events.armed c && not (c.given || is_due c.query)) (cond (eqb c.left 0) (ends outcomes.RetryLimit c) again) c (well_if (eqb c.left 0) (ends outcomes.RetryLimit c) again (well_ends outcomes.RetryLimit c well) well) well
  where
    again : Client
    again = record c { query = after_resend c.query }

pub news_well : (news : events.News) (c : Client) → Well c → Well (hears_news news c)
news_well events.LinkUp c well = link_well c.stage c well
news_well (events.LinkDown reason) c well = well_if (events.is_linked c.stage) (over (cause_of_link reason) c) c (over_well (cause_of_link reason) c well) well
news_well (events.LinkFailed status) c well = well_if (events.is_paging c.stage) (over (cause_of_page status) c) c (over_well (cause_of_page status) c well) well
news_well (events.ChannelOpen psm mtu) c well = open_well c.stage psm mtu c well
news_well (events.ChannelClosed psm cause) c well = close_well c.stage psm cause c well
news_well (events.Sdu psm octets) c well = sdu_well c.stage psm octets c well
news_well events.FeaturesTold c well = well_if (events.is_asking_features c.stage) (record c { stage = ObjectChannel Due }) c well well
news_well events.FeaturesLost c well = well_if (events.is_asking_features c.stage) (ends outcomes.RetryLimit c) c (well_ends outcomes.RetryLimit c well) well
news_well events.Timer c well = timer_well c well
