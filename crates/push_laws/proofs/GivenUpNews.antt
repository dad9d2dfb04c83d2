-- What news do to a push that may be given up.
use Rattle.std.proofs.Common.{◌≡◌, ℕ, zero, suc, ◌++◌, ◌==◌, length, inl, inr, Bool, true, false, not, ◌&&◌, ◌||◌, nat_lt, min, List, [], Option, Some, None, is_some, refl, sym, ap, subst, ◌∙◌, if◌then◌else◌}
use Rattle.std.proofs.lemmas.Bool.{cond_both}
use Rattle.link_talk.specs.bt_base.specs.declared.settings.Transport.{Transport}
use Rattle.link_talk.specs.bt_base.specs.declared.settings.Transport.TheVariants.{L2cap, Rfcomm}
use Rattle.link_talk.specs.push_terms.specs.declared.outcome.Outcome.{Outcome}
use Rattle.link_talk.specs.push_terms.specs.declared.outcome.Outcome.TheVariants as outcomes
use Rattle.push_model.specs.rfcomm_model.specs.Hearing.{Up, nothing, opened, bytes, closed, up, hears}
use Rattle.push_model.specs.sdp_elements.specs.declared.target.Target.{Target}
use Rattle.push_model.specs.sdp_elements.specs.Targets.{is_service_psm, is_server_channel}
use Rattle.push_model.specs.sdp_client.specs.declared.reason.Found.{Found}
use Rattle.push_model.specs.sdp_client.specs.declared.reason.Found.TheVariants.{More, Service, NoService, Refused}
use Rattle.push_model.specs.sdp_client.specs.declared.reason.QueryReason.{QueryReason}
use Rattle.push_model.specs.sdp_client.specs.declared.reason.QueryReason.TheVariants.{BadReply, ErrorCode, WrongTransaction, TooLong}
use Rattle.push_model.specs.sdp_client.specs.Asking.{is_due, after_resend}
use Rattle.push_model.specs.sdp_client.specs.Hearing.{found_at, after_reply}
use Rattle.push_model.specs.obex_session.specs.declared.client.Answered.{Answered}
use Rattle.push_model.specs.obex_session.specs.declared.client.Answered.TheVariants as answer
use Rattle.push_model.specs.obex_session.specs.Views.{answer_at, after_at}
use Rattle.push_model.specs.declared.closing.CloseCause.{CloseCause}
use Rattle.push_model.specs.declared.closing.CloseCause.TheVariants as closing
use Rattle.push_model.specs.declared.course.Point.TheVariants.{Due, Asked}
use Rattle.push_model.specs.declared.course.Stage.{Stage}
use Rattle.push_model.specs.declared.course.Stage.TheVariants.{Rest, Link, SearchChannel, Search, SearchEnd, Features, ObjectChannel, Object, ObjectEnd, LinkEnd, Over}
use Rattle.push_model.specs.Causes.{Ending, InOrder, AtOnce, ending_of, cause_of_link, cause_of_page, cause_of_close, cause_of_query, cause_of_mux, cause_of_obex, small_channel, unawaited_response, unknown_parameters}
use Rattle.push_model.specs.Client.{Client, ends, ends_by, ends_if, in_order, stage_after}
use Rattle.push_model.specs.Streams.{Front, Whole, Partial, Broken, front_of}
use Rattle.push_model.specs.Responding.{takes, is_success, is_early, hears_answer, hears_response, is_object, hears_front, hears_stream, hears_end, hears_up, is_left}
use Rattle.push_model.specs.Events as events
use Rattle.push_laws.specs.Sending.{IsGivenUp}
use Rattle.push_laws.proofs.Answered.{after_answered, goes_answered, refused_answered}
use Rattle.push_laws.proofs.Asking.{not_caused}
use Rattle.push_laws.proofs.GivenUp.{not_both, Seen, seen_of, is_on, at_once_off, in_order_off, Works, Turn, Quiet, Off, Free, Ended, turn_works}
use Rattle.push_laws.proofs.Pushing as state
use Rattle.push_laws.proofs.Pushing.{Task, State, Stands, Fresh, Connecting, Putting, GivenUp, Gone, done_early, hears_stands}
use Rattle.push_laws.proofs.Talks.{Talk, talk_of, object_of}

-- ---- the push ends

abbrev pub Turns : Client → Client → Type 0
Turns a b = Turn (seen_of a) (seen_of b)

turn_if : (a : Seen) (test : Bool) (b c : Client) → Turn a (seen_of b) → Turn a (seen_of c) → Turn a (seen_of (if test then b else c))
turn_if a true b c x y = x
turn_if a false b c x y = y

after_off : (ending : Ending) (stage : Stage) → is_object stage ≡ false → is_on (stage_after ending stage) ≡ false
after_off InOrder stage off = in_order_off stage off
after_off AtOnce stage off = at_once_off stage

ends_once : (a : Seen) (cause : Option Outcome) (o : Outcome) (client : Client) → ending_of o ≡ AtOnce → Turn a (seen_of (ends_by cause o client))
ends_once a None o client once = Off (ap (λ (e : Ending). is_on (stage_after e client.stage)) once ∙ at_once_off client.stage)
ends_once a (Some earlier) o client once = Off (at_once_off client.stage)

ends_away : (a : Seen) (cause : Option Outcome) (o : Outcome) (client : Client) → is_object client.stage ≡ false → Turn a (seen_of (ends_by cause o client))
ends_away a None o client away = Off (after_off (ending_of o) client.stage away)
ends_away a (Some earlier) o client away = Off (at_once_off client.stage)

over_off : (a : Seen) (cause : Option Outcome) (o : Outcome) (client : Client) → Turn a (seen_of (events.over_by cause o client))
over_off a None o client = Off refl
over_off a (Some earlier) o client = Off refl

abbrev AreOnce : Option Outcome → Type 0
AreOnce None = Unit {0}
AreOnce (Some o) = ending_of o ≡ AtOnce

once_if : (test : Bool) (a b : Outcome) → ending_of a ≡ AtOnce → ending_of b ≡ AtOnce → ending_of (if test then a else b) ≡ AtOnce
once_if true a b x y = x
once_if false a b x y = y

close_once : (cause : CloseCause) → AreOnce (cause_of_close cause)
close_once closing.Peer = refl
close_once (closing.Refused result) = refl
close_once closing.NoAgreement = refl
close_once closing.RetryLimit = refl
close_once (closing.Broken number) = once_if (number == 5) outcomes.RetryLimit (outcomes.PeerFault 2 number) refl refl
close_once closing.Own = tt

query_once : (reason : QueryReason) → AreOnce (cause_of_query reason)
query_once BadReply = refl
query_once (ErrorCode code) = refl
query_once WrongTransaction = tt
query_once TooLong = refl

ends_if_once : (found : Option Outcome) (client : Client) → AreOnce found → Turns client (ends_if found client)
ends_if_once None client once = Quiet refl
ends_if_once (Some o) client once = ends_once (seen_of client) client.cause o client once

-- ---- links, channels and the search

linked : (stage : Stage) (client : Client) → Turns client (events.linked_at stage client)
linked (Link Asked) client = turn_if (seen_of client) (is_some client.cause) (record client { stage = LinkEnd Due }) (record client { stage = SearchChannel Due }) (Off refl) (Off refl)
linked Rest client = Quiet refl
linked (Link Due) client = Quiet refl
linked (SearchChannel point) client = Quiet refl
linked Search client = Quiet refl
linked (SearchEnd point) client = Quiet refl
linked (Features point) client = Quiet refl
linked (ObjectChannel point) client = Quiet refl
linked Object client = Quiet refl
linked (ObjectEnd point) client = Quiet refl
linked (LinkEnd point) client = Quiet refl
linked Over client = Quiet refl

module _ (sent : List (List ℕ)) where
  pub free_at : (stage : Stage) (client : Client) → client.stage ≡ stage → is_on stage ≡ true → is_object stage ≡ false → Works sent (seen_of client) → client.cause ≡ None
  free_at stage client is on away works = elim (works (ap is_on is ∙ on)) [ inl free ↦ free | inr here ↦ absurd (not_both (is_object client.stage) here.0 (ap is_object is ∙ away)) ]

  object_opened : (t : Transport) (mtu : ℕ) (client : Client) → client.cause ≡ None → Turns client (events.object_opened t mtu client)
  object_opened L2cap mtu client free =
      turn_if (seen_of client) (nat_lt mtu 255) (ends small_channel client) (record client { stage = Object; limit = min mtu 32767 }) (ends_once (seen_of client) client.cause small_channel client refl) (Free free)
  object_opened Rfcomm mtu client free = Free free

  opens : (stage : Stage) (psm mtu : ℕ) (client : Client) → client.stage ≡ stage → Works sent (seen_of client) → Turns client (events.opened_at stage psm mtu client)
  opens (SearchChannel Asked) psm mtu client is works = turn_if (seen_of client) (psm == events.search_psm) (record client { stage = Search }) client (Off refl) (Quiet refl)
  opens (ObjectChannel Asked) psm mtu client is works =
      turn_if (seen_of client) (psm == client.psm) (events.object_opened client.transport mtu client) client (object_opened client.transport mtu client (free_at (ObjectChannel Asked) client is refl refl works)) (Quiet refl)
  opens Rest psm mtu client is works = Quiet refl
  opens (Link point) psm mtu client is works = Quiet refl
  opens (SearchChannel Due) psm mtu client is works = Quiet refl
  opens Search psm mtu client is works = Quiet refl
  opens (SearchEnd point) psm mtu client is works = Quiet refl
  opens (Features point) psm mtu client is works = Quiet refl
  opens (ObjectChannel Due) psm mtu client is works = Quiet refl
  opens Object psm mtu client is works = Quiet refl
  opens (ObjectEnd point) psm mtu client is works = Quiet refl
  opens (LinkEnd point) psm mtu client is works = Quiet refl
  opens Over psm mtu client is works = Quiet refl

  told : (stage : Stage) (client : Client) → client.stage ≡ stage → Works sent (seen_of client) → Turns client (if events.is_asking_features stage then record client { stage = ObjectChannel Due } else client)
  told (Features Asked) client is works = Free (free_at (Features Asked) client is refl refl works)
  told Rest client is works = Quiet refl
  told (Link point) client is works = Quiet refl
  told (SearchChannel point) client is works = Quiet refl
  told Search client is works = Quiet refl
  told (SearchEnd point) client is works = Quiet refl
  told (Features Due) client is works = Quiet refl
  told (ObjectChannel point) client is works = Quiet refl
  told Object client is works = Quiet refl
  told (ObjectEnd point) client is works = Quiet refl
  told (LinkEnd point) client is works = Quiet refl
  told Over client is works = Quiet refl

left : (cause : Option Outcome) (client : Client) → client.cause ≡ cause → Turns client (events.search_left cause client)
left None client free = Free free
left (Some cause) client caused = Off refl

search_closed : (found : Option Outcome) (client : Client) → AreOnce found → Turns client (events.search_closed found client)
search_closed None client once = left client.cause client refl
search_closed (Some o) client once = ends_once (seen_of client) client.cause o client once

closes : (psm own : ℕ) (cause : CloseCause) (client : Client) → Turns client (if psm == own then ends_if (cause_of_close cause) client else client)
closes psm own cause client = turn_if (seen_of client) (psm == own) (ends_if (cause_of_close cause) client) client (ends_if_once (cause_of_close cause) client (close_once cause)) (Quiet refl)

shuts : (stage : Stage) (psm : ℕ) (cause : CloseCause) (client : Client) → Turns client (events.closed_at stage psm cause client)
shuts (SearchChannel Asked) psm cause client = closes psm events.search_psm cause client
shuts Search psm cause client = closes psm events.search_psm cause client
shuts (SearchEnd point) psm cause client =
    turn_if (seen_of client) (psm == events.search_psm) (events.search_closed (cause_of_close cause) client) client (search_closed (cause_of_close cause) client (close_once cause)) (Quiet refl)
shuts (ObjectChannel Asked) psm cause client = closes psm client.psm cause client
shuts Object psm cause client = closes psm client.psm cause client
shuts (ObjectEnd point) psm cause client = turn_if (seen_of client) (psm == client.psm) (record client { stage = LinkEnd Due }) client (Off refl) (Quiet refl)
shuts Rest psm cause client = Quiet refl
shuts (Link point) psm cause client = Quiet refl
shuts (SearchChannel Due) psm cause client = Quiet refl
shuts (Features point) psm cause client = Quiet refl
shuts (ObjectChannel Due) psm cause client = Quiet refl
shuts (LinkEnd point) psm cause client = Quiet refl
shuts Over psm cause client = Quiet refl

psm_found : (found : Option ℕ) (client : Client) → is_object client.stage ≡ false → Turns client (events.found_psm found client)
psm_found None client away = ends_away (seen_of client) client.cause outcomes.NoService client away
psm_found (Some psm) client away = Off refl

channel_found : (found : Option ℕ) (client : Client) → is_object client.stage ≡ false → Turns client (events.found_channel found client)
channel_found None client away = ends_away (seen_of client) client.cause outcomes.NoService client away
channel_found (Some channel) client away = Off refl

way_found : (t : Transport) (target : Target) (client : Client) → is_object client.stage ≡ false → Turns client (events.found_way t target client)
way_found L2cap target client away = psm_found (events.kept_of is_service_psm target.l2cap) client away
way_found Rfcomm target client away = channel_found (events.kept_of is_server_channel target.rfcomm) client away

finds : (found : Found) (client : Client) → is_object client.stage ≡ false → Turns client (events.finds found client)
finds More client away = Quiet refl
finds (Service target) client away = way_found client.transport target client away
finds NoService client away = ends_away (seen_of client) client.cause outcomes.NoService client away
finds (Refused reason) client away = ends_if_once (cause_of_query reason) client (query_once reason)

outside : (t : Transport) (client : Client) → Turns client (events.hears_outside t client)
outside L2cap client = ends_once (seen_of client) client.cause unawaited_response client refl
outside Rfcomm client = Quiet refl

sdus : (stage : Stage) (psm : ℕ) (sdu : List ℕ) (client : Client) → client.stage ≡ stage → is_object stage ≡ false → Turns client (events.sdu_at stage psm sdu client)
sdus Search psm sdu client is away =
    let heard : Client = record client { query = after_reply client.query sdu } in
    turn_if (seen_of client) (psm == events.search_psm) (events.finds (found_at client.query sdu) heard) client (finds (found_at client.query sdu) heard (ap is_object is)) (Quiet refl)
sdus (ObjectChannel point) psm sdu client is away = turn_if (seen_of client) (psm == client.psm) (events.hears_outside client.transport client) client (outside client.transport client) (Quiet refl)
sdus (ObjectEnd point) psm sdu client is away = turn_if (seen_of client) (psm == client.psm) (events.hears_outside client.transport client) client (outside client.transport client) (Quiet refl)
sdus Object psm sdu client is away = absurd (not_both true refl away)
sdus Rest psm sdu client is away = Quiet refl
sdus (Link point) psm sdu client is away = Quiet refl
sdus (SearchChannel point) psm sdu client is away = Quiet refl
sdus (SearchEnd point) psm sdu client is away = Quiet refl
sdus (Features point) psm sdu client is away = Quiet refl
sdus (LinkEnd point) psm sdu client is away = Quiet refl
sdus Over psm sdu client is away = Quiet refl

fired : (client : Client) → Turns client (events.fires client)
fired client =
    let asked : Client = record client { query = after_resend client.query } in
    let ended : Client = ends outcomes.RetryLimit client in
    turn_if (seen_of client) (events.armed client && not (client.given || is_due client.query)) (if client.left == 0 then ended else asked) client
    (turn_if (seen_of client) (client.left == 0) ended asked (ends_once (seen_of client) client.cause outcomes.RetryLimit client refl) (Quiet refl)) (Quiet refl)

-- ---- a response

-- success to the final PUT alone says that the push is done
done_unput : (w : Task) (sent : List (List ℕ)) (t : Talk) (packet : List ℕ) → Stands w sent t → t.cause ≡ None → answer_at t.session.awaited t.session packet ≡ Some answer.Done → (after_at t.session.awaited t.session packet).put ≡ None
done_unput w sent t packet s free is = by s.1
  where
    by : State w sent t.cause t.contact t.session t.name t.size → (after_at t.session.awaited t.session packet).put ≡ None
    by (Fresh none unmet waits unput least other) = (after_answered t.session packet).none unput
    by (Connecting sent_is unmet waits unput other) = (after_answered t.session packet).none unput
    by (Putting puts at sent_is met wanted has place other some) = absurd (done_early t.session packet is (inr (inr (place free).2)))
    by (state.Put puts sent_is met whole waits unput other) = (after_answered t.session packet).none unput
    by (GivenUp puts at sent_is met wanted has caused unput other some) = absurd (not_caused t.cause caused free)
    by (Gone gone caused past) = absurd (not_caused t.cause caused free)

not_given : (o : Outcome) → (o ≡ outcomes.Cancelled → ⊥) → (o ≡ outcomes.ShelfFault → ⊥) → IsGivenUp (Some o) → ⊥
not_given o x y (inl e) = x (inner o outcomes.Cancelled e)
  where
    inner : (a b : Outcome) → Some a ≡ Some b → a ≡ b
    inner a b is = cc
not_given o x y (inr e) = y (inner o outcomes.ShelfFault e)
  where
    inner : (a b : Outcome) → Some a ≡ Some b → a ≡ b
    inner a b is = cc

module _ (w : Task) (sent : List (List ℕ)) where
  module _ (packet : List ℕ) (client : Client) (s : Stands w sent (talk_of client)) (here : is_object client.stage ≡ true) where
    abbrev heard : Client
    heard = record client { session = after_at client.session.awaited client.session packet }

    -- in order, with nothing of the object under way
    ends_so : (cause : Option Outcome) (o : Outcome) → client.cause ≡ cause → ending_of o ≡ InOrder → (client.cause ≡ None → heard.session.put ≡ None) → (IsGivenUp (Some o) → ⊥) → Turn (seen_of client) (seen_of (ends_by cause o heard))
    ends_so None o is orderly unput other = Ended (ap (λ (e : Ending). is_object (stage_after e client.stage)) orderly ∙ ap (λ (x : Stage). is_object (in_order x)) (object_of client.stage here)) (unput is) other
    ends_so (Some earlier) o is orderly unput other = Off (at_once_off client.stage)

    takes_so : (answered : Answered) → Some answered ≡ answer_at client.session.awaited client.session packet → Turn (seen_of client) (seen_of (takes answered heard))
    takes_so answer.Go is = Quiet (ap (λ (put : Option ℕ). (let x : Seen = record { stage = client.stage; cause = client.cause; put = put } in x)) (goes_answered client.session packet (sym is)).put)
    takes_so answer.Done is = ends_so client.cause outcomes.Done refl refl (λ free. done_unput w sent (talk_of client) packet s free (sym is)) (not_given outcomes.Done (λ e. cc) (λ e. cc))
    takes_so (answer.Refused code) is = ends_so client.cause (outcomes.Refused code) refl refl (λ free. refused_answered client.session packet code (sym is)) (not_given (outcomes.Refused code) (λ e. cc) (λ e. cc))
    takes_so (answer.Bad refusal) is = ends_once (seen_of client) client.cause (cause_of_obex refusal) heard refl
    takes_so answer.Srmp is = ends_once (seen_of client) client.cause unknown_parameters heard refl

    answers_so : (answered : Option Answered) → answered ≡ answer_at client.session.awaited client.session packet → Turn (seen_of client) (seen_of (hears_answer answered packet client))
    answers_so None is = ends_once (seen_of client) client.cause unawaited_response client refl
    answers_so (Some answered) is =
        turn_if (seen_of client) (is_success answered && is_early client) (ends unawaited_response heard) (takes answered heard) (ends_once (seen_of client) client.cause unawaited_response heard refl) (takes_so answered is)

    heard_so : Turns client (hears_response packet client)
    heard_so = answers_so (answer_at client.session.awaited client.session packet) refl

  abbrev Goes : Client → Type 0
  Goes client = Works sent (seen_of client)

  heard_works : (packet : List ℕ) (client : Client) → is_object client.stage ≡ true → Stands w sent (talk_of client) → Goes client → Goes (hears_response packet client)
  heard_works packet client here s works = turn_works sent (seen_of client) (seen_of (hears_response packet client)) (heard_so packet client s here) works

  front_works : (more : List ℕ → Client → Client) → ((rest : List ℕ) (client : Client) → is_object client.stage ≡ true → Stands w sent (talk_of client) → Goes client → Goes (more rest client)) → (stream : List ℕ) (front : Front) (client : Client)
      → is_object client.stage ≡ true → Stands w sent (talk_of client) → Goes client → Goes (hears_front more stream front client)
  front_works more keeps stream (Whole packet rest) client here s works =
      let before : Client = record client { held = [] } in
      let after = hears_response packet before in
      let later = heard_works packet before here s works in
      cond_both (is_object after.stage) (more rest after) after Goes (λ on. keeps rest after on (hears_stands w sent packet before s) later) (λ off. later)
  front_works more keeps stream Partial client here s works = works
  front_works more keeps stream (Broken refusal) client here s works =
      turn_works sent (seen_of client) (seen_of (ends (cause_of_obex refusal) (record client { held = [] }))) (ends_once (seen_of client) client.cause (cause_of_obex refusal) (record client { held = [] }) refl) works

  stream_works : (count : ℕ) (stream : List ℕ) (client : Client) → is_object client.stage ≡ true → Stands w sent (talk_of client) → Goes client → Goes (hears_stream count stream client)
  unfolding hears_stream
  stream_works zero stream client here s works = works
  stream_works (suc count) stream client here s works =
      front_works (λ rest next. hears_stream count rest next) (λ rest next. stream_works count rest next) stream (front_of client.session.maximum stream) client here s works

  up_works : (news : Up) (client : Client) → is_object client.stage ≡ true → Stands w sent (talk_of client) → Goes client → Goes (hears_up news client)
  up_works nothing client here s works = works
  up_works opened client here s works = works
  up_works (bytes octets) client here s works = stream_works (length (client.held ++ octets)) (client.held ++ octets) client here s works
  up_works (closed reason) client here s works =
      let left : Client = record client { stage = ObjectEnd Due } in
      let ended : Client = ends (cause_of_mux reason) client in
      turn_works sent (seen_of client) (seen_of (hears_end reason client)) (turn_if (seen_of client) (is_left client.contact reason) left ended (Off refl) (ends_once (seen_of client) client.cause (cause_of_mux reason) client refl)) works

  object_works : (t : Transport) (sdu : List ℕ) (client : Client) → is_object client.stage ≡ true → Stands w sent (talk_of client) → Goes client → Goes (events.hears_object t sdu client)
  object_works L2cap sdu client here s works = heard_works sdu client here s works
  object_works Rfcomm sdu client here s works = up_works (up sdu client.mux) (record client { mux = hears sdu client.mux }) here s works

  sdu_works : (object : Bool) (psm : ℕ) (sdu : List ℕ) (client : Client) → is_object client.stage ≡ object → Stands w sent (talk_of client) → Goes client → Goes (events.sdu_at client.stage psm sdu client)
  sdu_works false psm sdu client is s works = turn_works sent (seen_of client) (seen_of (events.sdu_at client.stage psm sdu client)) (sdus client.stage psm sdu client refl is) works
  sdu_works true psm sdu client is s works =
      subst (λ (stage : Stage). Goes (events.sdu_at stage psm sdu client)) (sym (object_of client.stage is))
      (cond_both (psm == client.psm) (events.hears_object client.transport sdu client) client Goes (λ e. object_works client.transport sdu client is s works) (λ e. works))

  pub news_works : (news : events.News) (client : Client) → Stands w sent (talk_of client) → Goes client → Goes (events.hears_news news client)
  news_works (events.Sdu psm octets) client s works = sdu_works (is_object client.stage) psm octets client refl s works
  news_works events.LinkUp client s works = turn_works sent (seen_of client) (seen_of (events.hears_news events.LinkUp client)) (linked client.stage client) works
  news_works (events.LinkDown reason) client s works =
      turn_works sent (seen_of client) (seen_of (events.hears_news (events.LinkDown reason) client)) (turn_if (seen_of client) (events.is_linked client.stage) (events.over (cause_of_link reason) client) client (over_off (seen_of client) client.cause (cause_of_link reason) client) (Quiet refl)) works
  news_works (events.LinkFailed status) client s works =
      turn_works sent (seen_of client) (seen_of (events.hears_news (events.LinkFailed status) client)) (turn_if (seen_of client) (events.is_paging client.stage) (events.over (cause_of_page status) client) client (over_off (seen_of client) client.cause (cause_of_page status) client) (Quiet refl)) works
  news_works (events.ChannelOpen psm mtu) client s works = turn_works sent (seen_of client) (seen_of (events.hears_news (events.ChannelOpen psm mtu) client)) (opens sent client.stage psm mtu client refl works) works
  news_works (events.ChannelClosed psm cause) client s works = turn_works sent (seen_of client) (seen_of (events.hears_news (events.ChannelClosed psm cause) client)) (shuts client.stage psm cause client) works
  news_works events.FeaturesTold client s works = turn_works sent (seen_of client) (seen_of (events.hears_news events.FeaturesTold client)) (told sent client.stage client refl works) works
  news_works events.FeaturesLost client s works =
      turn_works sent (seen_of client) (seen_of (events.hears_news events.FeaturesLost client))
      (turn_if (seen_of client) (events.is_asking_features client.stage) (ends outcomes.RetryLimit client) client (ends_once (seen_of client) client.cause outcomes.RetryLimit client refl) (Quiet refl)) works
  news_works events.Timer client s works = turn_works sent (seen_of client) (seen_of (events.hears_news events.Timer client)) (fired client) works
