-- A client whose push is on its link stays on it, and asks for what suits its stage.
use Rattle.std.proofs.Common.{◌≡◌, ℕ, zero, suc, List, [], ◌++◌, length, Bool, true, false, cond, eqb, ◌&&◌, Option, Some, None, refl, sym, ap, subst, ◌∙◌, ◌⊎◌, inl, inr}
use Rattle.std.specs.Prelude.{min, nat_lt}
use Rattle.shelf_model.specs.bt_base.specs.declared.settings.Transport.{Transport}
use Rattle.shelf_model.specs.bt_base.specs.declared.settings.Transport.TheVariants.{L2cap, Rfcomm}
use Rattle.shelf_model.specs.push_terms.specs.declared.outcome.Outcome.{Outcome}
use Rattle.shelf_model.specs.push_terms.specs.declared.outcome.Outcome.TheVariants as outcomes
use Rattle.shelf_model.specs.rfcomm_model.specs.Hearing as hearing
use Rattle.shelf_model.specs.rfcomm_model.specs.Hearing.{Up, nothing, opened, bytes, closed, up}
use Rattle.shelf_model.specs.obex_session.specs.declared.client.Answered.{Answered}
use Rattle.shelf_model.specs.obex_session.specs.declared.client.Answered.TheVariants as answers
use Rattle.shelf_model.specs.obex_session.specs.Views.{answer_at, after_at}
use Rattle.shelf_model.specs.sdp_elements.specs.declared.target.Target.{Target}
use Rattle.shelf_model.specs.sdp_elements.specs.Targets.{is_service_psm, is_server_channel}
use Rattle.shelf_model.specs.sdp_client.specs.declared.reason.Found.{Found}
use Rattle.shelf_model.specs.sdp_client.specs.declared.reason.Found.TheVariants.{More, Service, NoService, Refused}
use Rattle.shelf_model.specs.sdp_client.specs.Hearing.{found_at, after_reply}
use Rattle.push_laws.specs.push_model.specs.declared.closing.CloseCause.{CloseCause}
use Rattle.push_laws.specs.push_model.specs.declared.course.Point.TheVariants.{Due, Asked}
use Rattle.push_laws.specs.push_model.specs.declared.course.Stage.{Stage}
use Rattle.push_laws.specs.push_model.specs.declared.course.Stage.TheVariants.{Rest, Link, SearchChannel, Search, SearchEnd, Features, ObjectChannel, Object, ObjectEnd, LinkEnd, Over}
use Rattle.push_laws.specs.push_model.specs.Causes.{Ending, InOrder, AtOnce, ending_of, cause_of_close, cause_of_mux, cause_of_obex, cause_of_query, small_channel, unknown_parameters, unawaited_response}
use Rattle.push_laws.specs.push_model.specs.Client.{Client, in_order, at_once, stage_after, ends_by, ends, ends_if}
use Rattle.push_laws.specs.push_model.specs.Events as events
use Rattle.push_laws.specs.push_model.specs.Events.{is_linked, kept_of, found_psm, found_channel, found_way, finds, hears_reply, hears_outside, hears_object, object_opened, opened_at, search_left, search_closed, closed_at, sdu_at, hears_news}
use Rattle.push_laws.specs.push_model.specs.Responding as responding
use Rattle.push_laws.specs.push_model.specs.Responding.{is_object, is_left, hears_answer, hears_response, hears_front, hears_stream, hears_end, hears_up, hears_frame}
use Rattle.push_laws.specs.push_model.specs.Streams.{Front, Whole, Partial, Broken, front_of}
use Rattle.shelf_model.specs.host_model.specs.Clients.{Bid, is_paging}
use Rattle.host_laws.specs.Onward.{Befits}

-- ---- on its link, whose end it has not asked for

abbrev pub is_onward : Stage → Bool
is_onward Rest = false
is_onward (Link point) = false
is_onward (SearchChannel point) = true
is_onward Search = true
is_onward (SearchEnd point) = true
is_onward (Features point) = true
is_onward (ObjectChannel point) = true
is_onward Object = true
is_onward (ObjectEnd point) = true
is_onward (LinkEnd Due) = true
is_onward (LinkEnd Asked) = false
is_onward Over = false

abbrev pub On : Client → Type 0
On c = is_onward c.stage ≡ true

-- it goes on, or its stage is as before
abbrev pub Goes : Client → Client → Type 0
Goes c d = (On c × On d) ⊎ (d.stage ≡ c.stage)

suits_on : (stage : Stage) (bid : Bid) → is_onward stage ≡ true → is_paging bid ≡ false → Befits stage bid
suits_on (SearchChannel point) bid on off = off
suits_on Search bid on off = off
suits_on (SearchEnd point) bid on off = off
suits_on (Features point) bid on off = off
suits_on (ObjectChannel point) bid on off = off
suits_on Object bid on off = off
suits_on (ObjectEnd point) bid on off = off
suits_on (LinkEnd Due) bid on off = off
suits_on Rest bid on off = cc
suits_on (Link point) bid on off = cc
suits_on (LinkEnd Asked) bid on off = cc
suits_on Over bid on off = cc

suits_off : (stage : Stage) (bid : Bid) → is_onward stage ≡ true → Befits stage bid → is_paging bid ≡ false
suits_off (SearchChannel point) bid on suits = suits
suits_off Search bid on suits = suits
suits_off (SearchEnd point) bid on suits = suits
suits_off (Features point) bid on suits = suits
suits_off (ObjectChannel point) bid on suits = suits
suits_off Object bid on suits = suits
suits_off (ObjectEnd point) bid on suits = suits
suits_off (LinkEnd Due) bid on suits = suits
suits_off Rest bid on suits = cc
suits_off (Link point) bid on suits = cc
suits_off (LinkEnd Asked) bid on suits = cc
suits_off Over bid on suits = cc

linked_on : (stage : Stage) → is_onward stage ≡ true → is_linked stage ≡ true
linked_on (SearchChannel point) on = refl
linked_on Search on = refl
linked_on (SearchEnd point) on = refl
linked_on (Features point) on = refl
linked_on (ObjectChannel point) on = refl
linked_on Object on = refl
linked_on (ObjectEnd point) on = refl
linked_on (LinkEnd Due) on = refl
linked_on Rest on = cc
linked_on (Link point) on = cc
linked_on (LinkEnd Asked) on = cc
linked_on Over on = cc

pub goes_suits : (c d : Client) (bid : Bid) → Goes c d → Befits c.stage bid → Befits d.stage bid
goes_suits c d bid (inl (from, to)) suits = suits_on d.stage bid to (suits_off c.stage bid from suits)
goes_suits c d bid (inr is) suits = subst (λ (stage : Stage). Befits stage bid) (sym is) suits

pub goes_linked : (c d : Client) → Goes c d → is_linked c.stage ≡ true → is_linked d.stage ≡ true
goes_linked c d (inl (from, to)) linked = linked_on d.stage to
goes_linked c d (inr is) linked = ap is_linked is ∙ linked

-- ---- a cause

on_order : (stage : Stage) → is_onward stage ≡ true → is_onward (in_order stage) ≡ true
on_order (SearchChannel Due) on = refl
on_order (SearchChannel Asked) on = refl
on_order Search on = refl
on_order (SearchEnd point) on = refl
on_order (Features point) on = refl
on_order (ObjectChannel Due) on = refl
on_order (ObjectChannel Asked) on = refl
on_order Object on = refl
on_order (ObjectEnd point) on = refl
on_order (LinkEnd Due) on = refl
on_order Rest on = cc
on_order (Link point) on = cc
on_order (LinkEnd Asked) on = cc
on_order Over on = cc

on_at_once : (stage : Stage) → is_onward stage ≡ true → is_onward (at_once stage) ≡ true
on_at_once (SearchChannel point) on = refl
on_at_once Search on = refl
on_at_once (SearchEnd point) on = refl
on_at_once (Features point) on = refl
on_at_once (ObjectChannel point) on = refl
on_at_once Object on = refl
on_at_once (ObjectEnd point) on = refl
on_at_once (LinkEnd Due) on = refl
on_at_once Rest on = cc
on_at_once (Link point) on = cc
on_at_once (LinkEnd Asked) on = cc
on_at_once Over on = cc

on_after : (ending : Ending) (stage : Stage) → is_onward stage ≡ true → is_onward (stage_after ending stage) ≡ true
on_after InOrder stage on = on_order stage on
on_after AtOnce stage on = on_at_once stage on

pub on_ends : (outcome : Outcome) (c : Client) → On c → On (ends outcome c)
on_ends outcome c on = by c.cause
  where
    by : (cause : Option Outcome) → On (ends_by cause outcome c)
    by None = on_after (ending_of outcome) c.stage on
    by (Some earlier) = on_at_once c.stage on

on_ends_if : (cause : Option Outcome) (c : Client) → On c → On (ends_if cause c)
on_ends_if None c on = on
on_ends_if (Some outcome) c on = on_ends outcome c on

pub on_if : (b : Bool) (c d : Client) → On c → On d → On (cond b c d)
on_if true c d one other = one
on_if false c d one other = other

-- ---- it hears an SDU

takes_on : (answer : Answered) (c : Client) → On c → On (responding.takes answer c)
takes_on answers.Go c on = on
takes_on answers.Done c on = on_ends outcomes.Done c on
takes_on (answers.Refused code) c on = on_ends (outcomes.Refused code) c on
takes_on (answers.Bad refusal) c on = on_ends (cause_of_obex refusal) c on
takes_on answers.Srmp c on = on_ends unknown_parameters c on

answer_on : (answer : Option Answered) (packet : List ℕ) (c : Client) → On c → On (hears_answer answer packet c)
answer_on None packet c on = on_ends unawaited_response c on
answer_on (Some answer) packet c on =
    let heard : Client = record c { session = after_at c.session.awaited c.session packet } in
    on_if (responding.is_success answer && responding.is_early c) (ends unawaited_response heard) (responding.takes answer heard) (on_ends unawaited_response heard on) (takes_on answer heard on)

response_on : (packet : List ℕ) (c : Client) → On c → On (hears_response packet c)
response_on packet c on = answer_on (answer_at c.session.awaited c.session packet) packet c on

front_on : (more : List ℕ → Client → Client) (stream : List ℕ) (front : Front) (c : Client) → ((rest : List ℕ) (d : Client) → On d → On (more rest d)) → On c → On (hears_front more stream front c)
front_on more stream (Whole packet rest) c goes on =
    let held : Client = record c { held = [] } in
    let d = hears_response packet held in
    let there = response_on packet held on in
    on_if (is_object d.stage) (more rest d) d (goes rest d there) there
front_on more stream Partial c goes on = on
front_on more stream (Broken refusal) c goes on = let held : Client = record c { held = [] } in on_ends (cause_of_obex refusal) held on

stream_on : (count : ℕ) (stream : List ℕ) (c : Client) → On c → On (hears_stream count stream c)
unfolding hears_stream
stream_on zero stream c on = on
stream_on (suc count) stream c on = front_on (λ rest d. hears_stream count rest d) stream (front_of c.session.maximum stream) c (λ rest d there. stream_on count rest d there) on

frame_on : (sdu : List ℕ) (c : Client) → On c → On (hears_frame sdu c)
frame_on sdu c on = by (up sdu c.mux)
  where
    heard : Client
    heard = record c { mux = hearing.hears sdu c.mux }

    by : (one : Up) → On (hears_up one heard)
    by nothing = on
    by opened = on
    by (bytes octets) = stream_on (length (c.held ++ octets)) (c.held ++ octets) heard on
    by (closed reason) = on_if (is_left c.contact reason) (record heard { stage = ObjectEnd Due }) (ends (cause_of_mux reason) heard) refl (on_ends (cause_of_mux reason) heard on)

object_heard : (transport : Transport) (sdu : List ℕ) (c : Client) → On c → On (hears_object transport sdu c)
object_heard L2cap sdu c on = response_on sdu c on
object_heard Rfcomm sdu c on = frame_on sdu c on

outside_on : (transport : Transport) (c : Client) → On c → On (hears_outside transport c)
outside_on L2cap c on = on_ends unawaited_response c on
outside_on Rfcomm c on = on

psm_on : (psm : Option ℕ) (c : Client) → On c → On (found_psm psm c)
psm_on None c on = on_ends outcomes.NoService c on
psm_on (Some psm) c on = refl

channel_on : (channel : Option ℕ) (c : Client) → On c → On (found_channel channel c)
channel_on None c on = on_ends outcomes.NoService c on
channel_on (Some channel) c on = refl

way_on : (transport : Transport) (target : Target) (c : Client) → On c → On (found_way transport target c)
way_on L2cap target c on = psm_on (kept_of is_service_psm target.l2cap) c on
way_on Rfcomm target c on = channel_on (kept_of is_server_channel target.rfcomm) c on

finds_on : (found : Found) (c : Client) → On c → On (finds found c)
finds_on More c on = on
finds_on (Service target) c on = way_on c.transport target c on
finds_on NoService c on = on_ends outcomes.NoService c on
finds_on (Refused reason) c on = on_ends_if (cause_of_query reason) c on

-- it is on, by its stage
at_on : (stage : Stage) (c : Client) → c.stage ≡ stage → is_onward stage ≡ true → On c
at_on stage c at on = ap is_onward at ∙ on

chosen : (b : Bool) (c d : Client) → On c → On d → Goes c (cond b d c)
chosen b c d from to = inl (from, on_if b d c to from)

sdu_goes : (stage : Stage) (psm : ℕ) (sdu : List ℕ) (c : Client) → c.stage ≡ stage → Goes c (sdu_at stage psm sdu c)
sdu_goes Search psm sdu c at = let on = at_on Search c at refl in chosen (eqb psm 0x0001) c (hears_reply sdu c) on (finds_on (found_at c.query sdu) (record c { query = after_reply c.query sdu }) on)
sdu_goes (ObjectChannel point) psm sdu c at = let on = at_on (ObjectChannel point) c at refl in chosen (eqb psm c.psm) c (hears_outside c.transport c) on (outside_on c.transport c on)
sdu_goes Object psm sdu c at = let on = at_on Object c at refl in chosen (eqb psm c.psm) c (hears_object c.transport sdu c) on (object_heard c.transport sdu c on)
sdu_goes (ObjectEnd point) psm sdu c at = let on = at_on (ObjectEnd point) c at refl in chosen (eqb psm c.psm) c (hears_outside c.transport c) on (outside_on c.transport c on)
sdu_goes Rest psm sdu c at = inr refl
sdu_goes (Link point) psm sdu c at = inr refl
sdu_goes (SearchChannel point) psm sdu c at = inr refl
sdu_goes (SearchEnd point) psm sdu c at = inr refl
sdu_goes (Features point) psm sdu c at = inr refl
sdu_goes (LinkEnd point) psm sdu c at = inr refl
sdu_goes Over psm sdu c at = inr refl

pub heard_goes : (psm : ℕ) (sdu : List ℕ) (c : Client) → Goes c (hears_news (events.Sdu psm sdu) c)
heard_goes psm sdu c = sdu_goes c.stage psm sdu c refl

-- ---- what happens to its channels

object_open : (transport : Transport) (mtu : ℕ) (c : Client) → On c → On (object_opened transport mtu c)
object_open L2cap mtu c on = on_if (nat_lt mtu 255) (ends small_channel c) (record c { stage = Object; limit = min mtu 32767 }) (on_ends small_channel c on) refl
object_open Rfcomm mtu c on = refl

open_goes : (stage : Stage) (psm mtu : ℕ) (c : Client) → c.stage ≡ stage → Goes c (opened_at stage psm mtu c)
open_goes (SearchChannel Asked) psm mtu c at = let on = at_on (SearchChannel Asked) c at refl in chosen (eqb psm 0x0001) c (record c { stage = Search }) on refl
open_goes (ObjectChannel Asked) psm mtu c at = let on = at_on (ObjectChannel Asked) c at refl in chosen (eqb psm c.psm) c (object_opened c.transport mtu c) on (object_open c.transport mtu c on)
open_goes Rest psm mtu c at = inr refl
open_goes (Link point) psm mtu c at = inr refl
open_goes (SearchChannel Due) psm mtu c at = inr refl
open_goes Search psm mtu c at = inr refl
open_goes (SearchEnd point) psm mtu c at = inr refl
open_goes (Features point) psm mtu c at = inr refl
open_goes (ObjectChannel Due) psm mtu c at = inr refl
open_goes Object psm mtu c at = inr refl
open_goes (ObjectEnd point) psm mtu c at = inr refl
open_goes (LinkEnd point) psm mtu c at = inr refl
open_goes Over psm mtu c at = inr refl

behind_on : (transport : Transport) → is_onward (events.stage_behind transport) ≡ true
behind_on L2cap = refl
behind_on Rfcomm = refl

left_on : (cause : Option Outcome) (c : Client) → On (search_left cause c)
left_on None c = behind_on c.transport
left_on (Some cause) c = refl

search_on : (cause : Option Outcome) (c : Client) → On c → On (search_closed cause c)
search_on None c on = left_on c.cause c
search_on (Some outcome) c on = on_ends outcome c on

close_goes : (stage : Stage) (psm : ℕ) (cause : CloseCause) (c : Client) → c.stage ≡ stage → Goes c (closed_at stage psm cause c)
close_goes (SearchChannel Asked) psm cause c at = let on = at_on (SearchChannel Asked) c at refl in chosen (eqb psm 0x0001) c (ends_if (cause_of_close cause) c) on (on_ends_if (cause_of_close cause) c on)
close_goes Search psm cause c at = let on = at_on Search c at refl in chosen (eqb psm 0x0001) c (ends_if (cause_of_close cause) c) on (on_ends_if (cause_of_close cause) c on)
close_goes (SearchEnd point) psm cause c at = let on = at_on (SearchEnd point) c at refl in chosen (eqb psm 0x0001) c (search_closed (cause_of_close cause) c) on (search_on (cause_of_close cause) c on)
close_goes (ObjectChannel Asked) psm cause c at = let on = at_on (ObjectChannel Asked) c at refl in chosen (eqb psm c.psm) c (ends_if (cause_of_close cause) c) on (on_ends_if (cause_of_close cause) c on)
close_goes Object psm cause c at = let on = at_on Object c at refl in chosen (eqb psm c.psm) c (ends_if (cause_of_close cause) c) on (on_ends_if (cause_of_close cause) c on)
close_goes (ObjectEnd point) psm cause c at = let on = at_on (ObjectEnd point) c at refl in chosen (eqb psm c.psm) c (record c { stage = LinkEnd Due }) on refl
close_goes Rest psm cause c at = inr refl
close_goes (Link point) psm cause c at = inr refl
close_goes (SearchChannel Due) psm cause c at = inr refl
close_goes (Features point) psm cause c at = inr refl
close_goes (ObjectChannel Due) psm cause c at = inr refl
close_goes (LinkEnd point) psm cause c at = inr refl
close_goes Over psm cause c at = inr refl

pub opened_goes : (psm mtu : ℕ) (c : Client) → Goes c (hears_news (events.ChannelOpen psm mtu) c)
opened_goes psm mtu c = open_goes c.stage psm mtu c refl

pub closed_goes : (psm : ℕ) (cause : CloseCause) (c : Client) → Goes c (hears_news (events.ChannelClosed psm cause) c)
closed_goes psm cause c = close_goes c.stage psm cause c refl

asks_on : (stage : Stage) → events.is_asking_features stage ≡ true → is_onward stage ≡ true
asks_on (Features Asked) is = refl
asks_on Rest is = cc
asks_on (Link point) is = cc
asks_on (SearchChannel point) is = cc
asks_on Search is = cc
asks_on (SearchEnd point) is = cc
asks_on (Features Due) is = cc
asks_on (ObjectChannel point) is = cc
asks_on Object is = cc
asks_on (ObjectEnd point) is = cc
asks_on (LinkEnd point) is = cc
asks_on Over is = cc

pub asking_goes : (b : Bool) (c d : Client) → (b ≡ true → On c) → (On c → On d) → Goes c (cond b d c)
asking_goes true c d on goes = inl (on refl, goes (on refl))
asking_goes false c d on goes = inr refl

pub told_goes : (c : Client) → Goes c (hears_news events.FeaturesTold c)
told_goes c = asking_goes (events.is_asking_features c.stage) c (record c { stage = ObjectChannel Due }) (asks_on c.stage) (λ on. refl)

pub lost_goes : (c : Client) → Goes c (hears_news events.FeaturesLost c)
lost_goes c = asking_goes (events.is_asking_features c.stage) c (ends outcomes.RetryLimit c) (asks_on c.stage) (on_ends outcomes.RetryLimit c)
