-- What a client hears ends no push for a fault of the shelf.
use Rattle.std.proofs.Common.{◌≡◌, ℕ, zero, suc, Bool, true, false, not, ◌&&◌, ◌||◌, ◌==◌, List, [], ◌∷◌, ◌++◌, length, Option, Some, None, is_none, refl, sym, ap, ◌∙◌, if◌then◌else◌}
use Rattle.std.specs.Prelude.{nat_lt}
use Rattle.bt_base.specs.declared.settings.Transport.{Transport}
use Rattle.bt_base.specs.declared.settings.Transport.TheVariants.{L2cap, Rfcomm}
use Rattle.push_terms.specs.declared.outcome.Outcome.{Outcome}
use Rattle.push_terms.specs.declared.outcome.Outcome.TheVariants.{LinkLost, RetryLimit, NoService, Cancelled, PeerClosed, PeerFault}
use Rattle.noting_laws.specs.rfcomm_model.specs.Hearing.{Up, nothing, opened, bytes, closed, up, hears}
use Rattle.noting_laws.specs.sdp_client.specs.Asking.{is_due}
use Rattle.noting_laws.specs.sdp_client.specs.Hearing.{found_at}
use Rattle.noting_laws.specs.sdp_client.specs.declared.reason.Found.{Found}
use Rattle.noting_laws.specs.sdp_client.specs.declared.reason.Found.TheVariants as found
use Rattle.noting_laws.specs.sdp_client.specs.declared.reason.QueryReason.{QueryReason}
use Rattle.noting_laws.specs.sdp_client.specs.declared.reason.QueryReason.TheVariants.{BadReply, ErrorCode, WrongTransaction, TooLong}
use Rattle.noting_laws.specs.obex_session.specs.declared.client.Answered.{Answered}
use Rattle.noting_laws.specs.obex_session.specs.declared.client.Answered.TheVariants as answer
use Rattle.noting_laws.specs.obex_session.specs.Views.{answer_at}
use Rattle.bt_host.specs.push_model.specs.declared.closing.CloseCause.{CloseCause}
use Rattle.bt_host.specs.push_model.specs.declared.closing.CloseCause.TheVariants as closing
use Rattle.bt_host.specs.push_model.specs.declared.course.Point.TheVariants.{Due, Asked}
use Rattle.bt_host.specs.push_model.specs.declared.course.Stage.{Stage}
use Rattle.bt_host.specs.push_model.specs.declared.course.Stage.TheVariants.{Rest, Link, SearchChannel, Search, SearchEnd, Features, ObjectChannel, Object, ObjectEnd, LinkEnd, Over}
use Rattle.bt_host.specs.push_model.specs.Causes.{cause_of_link, cause_of_page, cause_of_close, cause_of_query, cause_of_mux, small_channel, unawaited_response}
use Rattle.bt_host.specs.push_model.specs.Client.{Client, is_direct, may_cancel, cancelled}
use Rattle.bt_host.specs.push_model.specs.Events as events
use Rattle.bt_host.specs.push_model.specs.Events.{News, is_linked, is_paging, is_asking_features, armed, search_psm, hears_news}
use Rattle.bt_host.specs.push_model.specs.Laws.{Deed, Hears, Cancels, done}
use Rattle.bt_host.specs.push_model.specs.Responding.{is_early, is_success, is_left, hears_response}
use Rattle.bt_host.specs.push_model.specs.Shown.{first_of, watched, closed_shows, opened_shows, way_of, found_shows, says, answer_shows, response_shows, front_shows, stream_shows, up_shows, object_shows, outside_shows, sdu_shows, shows}
use Rattle.bt_host.specs.push_model.specs.Streams.{Front, Whole, Partial, Broken, front_of}
use Rattle.bt_host.specs.push_model.proofs.CauseLaws.{first_causes_stay}
use Rattle.bt_host.specs.push_model.proofs.ShownLaws.{outcomes_are_shown}
use Rattle.bt_host.specs.Shelving.{is_shelf_fault, is_failed}

-- no fault of the shelf shows
abbrev Other : Option Outcome → Type 0
Other shown = is_failed shown ≡ false

either : (test : Bool) (a b : Option Outcome) → Other a → Other b → Other (if test then a else b)
either true a b x y = x
either false a b x y = y

-- ---- channels

close_other : (cause : CloseCause) → Other (cause_of_close cause)
close_other closing.Peer = refl
close_other (closing.Refused result) = refl
close_other closing.NoAgreement = refl
close_other closing.RetryLimit = refl
close_other (closing.Broken number) = by (number == 5)
  where
    by : (test : Bool) → is_shelf_fault (if test then RetryLimit else PeerFault 2 number) ≡ false
    by true = refl
    by false = refl
close_other closing.Own = refl

closed_other : (psm : ℕ) (cause : CloseCause) (own : Option ℕ) → Other (closed_shows psm cause own)
closed_other psm cause None = refl
closed_other psm cause (Some own) = either (psm == own) (cause_of_close cause) None (close_other cause) refl

opened_other : (stage : Stage) (psm mtu : ℕ) (client : Client) → Other (opened_shows stage psm mtu client)
opened_other Rest psm mtu client = refl
opened_other (Link point) psm mtu client = refl
opened_other (SearchChannel point) psm mtu client = refl
opened_other Search psm mtu client = refl
opened_other (SearchEnd point) psm mtu client = refl
opened_other (Features point) psm mtu client = refl
opened_other (ObjectChannel Due) psm mtu client = refl
opened_other (ObjectChannel Asked) psm mtu client = either ((psm == client.psm) && (is_direct client.transport && nat_lt mtu 255)) (Some small_channel) None refl refl
opened_other Object psm mtu client = refl
opened_other (ObjectEnd point) psm mtu client = refl
opened_other (LinkEnd point) psm mtu client = refl
opened_other Over psm mtu client = refl

-- ---- replies and responses

query_other : (reason : QueryReason) → Other (cause_of_query reason)
query_other BadReply = refl
query_other (ErrorCode code) = refl
query_other WrongTransaction = refl
query_other TooLong = refl

found_other : (transport : Transport) (what : Found) → Other (found_shows transport what)
found_other transport found.More = refl
found_other transport (found.Service target) = either (is_none (way_of transport target)) (Some NoService) None refl refl
found_other transport found.NoService = refl
found_other transport (found.Refused reason) = query_other reason

says_other : (answered : Answered) → Other (says answered)
says_other answer.Go = refl
says_other answer.Done = refl
says_other (answer.Refused code) = refl
says_other (answer.Bad refusal) = refl
says_other answer.Srmp = refl

answer_other : (answered : Option Answered) (client : Client) → Other (answer_shows answered client)
answer_other None client = refl
answer_other (Some answered) client = either (is_success answered && is_early client) (Some unawaited_response) (says answered) refl (says_other answered)

response_other : (packet : List ℕ) (client : Client) → Other (response_shows packet client)
response_other packet client = answer_other (answer_at client.session.awaited client.session packet) client

first_other : (first later : Option Outcome) → Other first → Other later → Other (first_of first later)
first_other None later x y = y
first_other (Some outcome) later x y = x

front_other : (more : List ℕ → Client → Option Outcome) → ((rest : List ℕ) (client : Client) → Other (more rest client)) → (front : Front) (client : Client) → Other (front_shows more front client)
front_other more all (Whole packet rest) client =
    let alone : Client = record client { held = [] } in first_other (response_shows packet alone) (more rest (hears_response packet alone)) (response_other packet alone) (all rest (hears_response packet alone))
front_other more all Partial client = refl
front_other more all (Broken refusal) client = refl

stream_other : (count : ℕ) (stream : List ℕ) (client : Client) → Other (stream_shows count stream client)
unfolding stream_shows
stream_other zero stream client = refl
stream_other (suc count) stream client = front_other (λ rest next. stream_shows count rest next) (λ rest next. stream_other count rest next) (front_of client.session.maximum stream) client

up_other : (news : Up) (client : Client) → Other (up_shows news client)
up_other nothing client = refl
up_other opened client = refl
up_other (bytes octets) client = stream_other (length (client.held ++ octets)) (client.held ++ octets) client
up_other (closed reason) client = either (is_left client.contact reason) None (Some (cause_of_mux reason)) refl refl

object_other : (transport : Transport) (sdu : List ℕ) (client : Client) → Other (object_shows transport sdu client)
object_other L2cap sdu client = response_other sdu client
object_other Rfcomm sdu client = up_other (up sdu client.mux) (record client { mux = hears sdu client.mux })

outside_other : (transport : Transport) → Other (outside_shows transport)
outside_other L2cap = refl
outside_other Rfcomm = refl

sdu_other : (stage : Stage) (psm : ℕ) (sdu : List ℕ) (client : Client) → Other (sdu_shows stage psm sdu client)
sdu_other Rest psm sdu client = refl
sdu_other (Link point) psm sdu client = refl
sdu_other (SearchChannel point) psm sdu client = refl
sdu_other Search psm sdu client = either (psm == search_psm) (found_shows client.transport (found_at client.query sdu)) None (found_other client.transport (found_at client.query sdu)) refl
sdu_other (SearchEnd point) psm sdu client = refl
sdu_other (Features point) psm sdu client = refl
sdu_other (ObjectChannel point) psm sdu client = either (psm == client.psm) (outside_shows client.transport) None (outside_other client.transport) refl
sdu_other Object psm sdu client = either (psm == client.psm) (object_shows client.transport sdu client) None (object_other client.transport sdu client) refl
sdu_other (ObjectEnd point) psm sdu client = either (psm == client.psm) (outside_shows client.transport) None (outside_other client.transport) refl
sdu_other (LinkEnd point) psm sdu client = refl
sdu_other Over psm sdu client = refl

-- ---- all news

link_other : (by_user : Bool) → Other (Some (if by_user then PeerClosed else LinkLost))
link_other true = refl
link_other false = refl

news_other : (news : News) (client : Client) → Other (shows (Hears news) client)
news_other events.LinkUp client = refl
news_other (events.LinkDown reason) client = either (is_linked client.stage) (Some (cause_of_link reason)) None (link_other (reason == 0x13)) refl
news_other (events.LinkFailed status) client = either (is_paging client.stage) (Some (cause_of_page status)) None refl refl
news_other (events.ChannelOpen psm mtu) client = opened_other client.stage psm mtu client
news_other (events.ChannelClosed psm cause) client = closed_other psm cause (watched client.stage client)
news_other (events.Sdu psm octets) client = sdu_other client.stage psm octets client
news_other events.FeaturesTold client = refl
news_other events.FeaturesLost client = either (is_asking_features client.stage) (Some RetryLimit) None refl refl
news_other events.Timer client = either ((armed client && not (client.given || is_due client.query)) && (client.left == 0)) (Some RetryLimit) None refl refl

none_later : (shown : Option Outcome) → first_of shown None ≡ shown
none_later None = refl
none_later (Some outcome) = refl

-- what shows no fault of the shelf leaves whether the push ended by one
same_by : (deed : Deed) (client : Client) → Other (shows deed client) → is_failed (done deed client).cause ≡ is_failed client.cause
same_by deed client other = by client.cause refl
  where
    by : (cause : Option Outcome) → client.cause ≡ cause → is_failed (done deed client).cause ≡ is_failed client.cause
    by None is = ap is_failed (outcomes_are_shown (deed ∷ []) client is ∙ none_later (shows deed client)) ∙ other ∙ sym (ap is_failed is)
    by (Some outcome) is = ap is_failed (first_causes_stay (deed ∷ []) client outcome is ∙ sym is)

pub news_same : (news : News) (client : Client) → is_failed (hears_news news client).cause ≡ is_failed client.cause
news_same news client = same_by (Hears news) client (news_other news client)

pub cancelled_same : (client : Client) → is_failed (cancelled client).cause ≡ is_failed client.cause
cancelled_same client = same_by Cancels client (either (may_cancel client) (Some Cancelled) None refl refl)
