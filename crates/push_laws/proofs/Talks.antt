-- What news do to the talk of a client: what stays through an end, a response and an opening, stays through all of them.
use Rattle.std.proofs.Common.{◌≡◌, ℕ, zero, suc, ◌≤◌, ◌<◌, ◌^◌, ◌++◌, ◌==◌, length, Bool, true, false, not, ◌&&◌, ◌||◌, nat_lt, min, List, [], Option, Some, None, is_some, refl, sym, ap, subst, arith, if◌then◌else◌}
use Rattle.std.proofs.lemmas.Bool.{ltb-false}
use Rattle.link_talk.specs.bt_base.specs.declared.settings.Transport.{Transport}
use Rattle.link_talk.specs.bt_base.specs.declared.settings.Transport.TheVariants.{L2cap, Rfcomm}
use Rattle.link_talk.specs.push_terms.specs.declared.outcome.Outcome.{Outcome}
use Rattle.link_talk.specs.push_terms.specs.declared.outcome.Outcome.TheVariants as outcomes
use Rattle.push_model.specs.rfcomm_model.specs.declared.state.MuxReason.{MuxReason}
use Rattle.push_model.specs.rfcomm_model.specs.Hearing.{Up, nothing, opened, bytes, closed, up, hears}
use Rattle.push_model.specs.sdp_elements.specs.declared.target.Target.{Target}
use Rattle.push_model.specs.sdp_elements.specs.Targets.{is_service_psm, is_server_channel}
use Rattle.push_model.specs.sdp_client.specs.declared.reason.Found.{Found}
use Rattle.push_model.specs.sdp_client.specs.declared.reason.Found.TheVariants.{More, Service, NoService, Refused}
use Rattle.push_model.specs.sdp_client.specs.declared.reason.QueryReason.{QueryReason}
use Rattle.push_model.specs.sdp_client.specs.declared.reason.QueryReason.TheVariants.{BadReply, ErrorCode, WrongTransaction, TooLong}
use Rattle.push_model.specs.sdp_client.specs.Asking.{is_due, after_resend}
use Rattle.push_model.specs.sdp_client.specs.Hearing.{found_at, after_reply}
use Rattle.push_model.specs.obex_session.specs.declared.client.Answered.{Answered}
use Rattle.push_model.specs.obex_session.specs.declared.client.Answered.TheVariants as answer
use Rattle.push_model.specs.obex_session.specs.Asking.{Asking}
use Rattle.push_model.specs.obex_session.specs.Views.{answer_at, after_at}
use Rattle.push_model.specs.declared.closing.CloseCause.{CloseCause}
use Rattle.push_model.specs.declared.closing.CloseCause.TheVariants as closing
use Rattle.push_model.specs.declared.course.Contact.{Contact}
use Rattle.push_model.specs.declared.course.Point.TheVariants.{Due, Asked}
use Rattle.push_model.specs.declared.course.Stage.{Stage}
use Rattle.push_model.specs.declared.course.Stage.TheVariants.{Rest, Link, SearchChannel, Search, SearchEnd, Features, ObjectChannel, Object, ObjectEnd, LinkEnd, Over}
use Rattle.push_model.specs.Causes.{cause_of_link, cause_of_page, cause_of_close, cause_of_query, cause_of_mux, cause_of_obex, small_channel, unawaited_response}
use Rattle.push_model.specs.Client.{Client, ends, ends_by, ends_if}
use Rattle.push_model.specs.Streams.{Front, Whole, Partial, Broken, front_of}
use Rattle.push_model.specs.Responding.{met, takes, is_success, is_early, hears_answer, hears_response, is_object, hears_front, hears_stream, hears_end, hears_up, is_left}
use Rattle.push_model.specs.Events as events
use Rattle.push_laws.specs.Exchanges.{is_response}

pub record Talk : Type 0 where
  pub transport : Transport
  pub cause : Option Outcome
  pub contact : Contact
  pub session : Asking
  pub name : List ℕ
  pub size : ℕ
  pub limit : ℕ

abbrev pub talk_of : Client → Talk
talk_of client = record { transport = client.transport; cause = client.cause; contact = client.contact; session = client.session; name = client.name; size = client.size; limit = client.limit }

-- outcomes that no news say but a response, a cancel or the shelf
abbrev pub is_reserved : Outcome → Bool
is_reserved outcomes.Done = true
is_reserved outcomes.Cancelled = true
is_reserved outcomes.LinkLost = false
is_reserved outcomes.RetryLimit = false
is_reserved (outcomes.Refused code) = false
is_reserved outcomes.NoService = false
is_reserved outcomes.ShelfFault = true
is_reserved outcomes.PeerClosed = false
is_reserved (outcomes.PeerFault layer reason) = false
is_reserved outcomes.ScriptEnded = false

pub object_of : (stage : Stage) → is_object stage ≡ true → stage ≡ Object
object_of Object e = refl
object_of Rest e = absurd (let f : false ≡ true = e in cc)
object_of (Link point) e = absurd (let f : false ≡ true = e in cc)
object_of (SearchChannel point) e = absurd (let f : false ≡ true = e in cc)
object_of Search e = absurd (let f : false ≡ true = e in cc)
object_of (SearchEnd point) e = absurd (let f : false ≡ true = e in cc)
object_of (Features point) e = absurd (let f : false ≡ true = e in cc)
object_of (ObjectChannel point) e = absurd (let f : false ≡ true = e in cc)
object_of (ObjectEnd point) e = absurd (let f : false ≡ true = e in cc)
object_of (LinkEnd point) e = absurd (let f : false ≡ true = e in cc)
object_of Over e = absurd (let f : false ≡ true = e in cc)

pub record Unheard (P : Talk → Type 0) : Type 0 where
  pub ends : (outcome : Outcome) (t : Talk) → is_reserved outcome ≡ false → t.cause ≡ None → P t → P (record t { cause = Some outcome })
  pub opens : (limit : ℕ) (t : Talk) → 255 ≤ limit → limit < 2 ^ 15 → P t → P (record t { limit = limit })

pub record Kept (P : Talk → Type 0) : Type 0 where
  pub unheard : Unheard P
  pub hears : (packet : List ℕ) (client : Client) → P (talk_of client) → P (talk_of (hears_response packet client))

-- what holds of the one, holds of the other
abbrev pub Keeps : (P : Talk → Type 0) → Client → Client → Type 0
Keeps P a b = P (talk_of a) → P (talk_of b)

pub either : (P : Talk → Type 0) (test : Bool) (a b c : Client) → Keeps P a b → Keeps P a c → Keeps P a (if test then b else c)
either P true a b c keeps_b keeps_c = keeps_b
either P false a b c keeps_b keeps_c = keeps_c

-- ---- causes

free_either : (test : Bool) (a b : Outcome) → is_reserved a ≡ false → is_reserved b ≡ false → is_reserved (if test then a else b) ≡ false
free_either true a b x y = x
free_either false a b x y = y

pub link_free : (reason : ℕ) → is_reserved (cause_of_link reason) ≡ false
link_free reason = free_either (reason == 0x13) outcomes.PeerClosed outcomes.LinkLost refl refl

abbrev pub AreFree : Option Outcome → Type 0
AreFree None = Unit {0}
AreFree (Some outcome) = is_reserved outcome ≡ false

pub close_free : (cause : CloseCause) → AreFree (cause_of_close cause)
close_free closing.Peer = refl
close_free (closing.Refused result) = refl
close_free closing.NoAgreement = refl
close_free closing.RetryLimit = refl
close_free (closing.Broken number) = free_either (number == 5) outcomes.RetryLimit (outcomes.PeerFault 2 number) refl refl
close_free closing.Own = tt

pub query_free : (reason : QueryReason) → AreFree (cause_of_query reason)
query_free BadReply = refl
query_free (ErrorCode code) = refl
query_free WrongTransaction = tt
query_free TooLong = refl

-- ---- ends

ends_by_keeps : (P : Talk → Type 0) → Unheard P → (cause : Option Outcome) (outcome : Outcome) (client : Client) → cause ≡ client.cause → is_reserved outcome ≡ false → Keeps P client (ends_by cause outcome client)
ends_by_keeps P k None outcome client is free p = k.ends outcome (talk_of client) free (sym is) p
ends_by_keeps P k (Some earlier) outcome client is free p = p

pub ends_keeps : (P : Talk → Type 0) → Unheard P → (outcome : Outcome) (client : Client) → is_reserved outcome ≡ false → Keeps P client (ends outcome client)
ends_keeps P k outcome client free = ends_by_keeps P k client.cause outcome client refl free

ends_if_keeps : (P : Talk → Type 0) → Unheard P → (found : Option Outcome) (client : Client) → AreFree found → Keeps P client (ends_if found client)
ends_if_keeps P k None client free = λ p. p
ends_if_keeps P k (Some outcome) client free = ends_keeps P k outcome client free

over_keeps : (P : Talk → Type 0) → Unheard P → (cause : Option Outcome) (outcome : Outcome) (client : Client) → cause ≡ client.cause → is_reserved outcome ≡ false → Keeps P client (events.over_by cause outcome client)
over_keeps P k None outcome client is free p = k.ends outcome (talk_of client) free (sym is) p
over_keeps P k (Some earlier) outcome client is free p = p

-- ---- the multiplexer

front_keeps : (P : Talk → Type 0) → Kept P → (more : List ℕ → Client → Client) → ((rest : List ℕ) (client : Client) → Keeps P client (more rest client)) → (stream : List ℕ) (front : Front) (client : Client) → Keeps P client (hears_front more stream front client)
front_keeps P k more keeps stream (Whole packet rest) client =
    let heard = hears_response packet (record client { held = [] }) in
    let hears = k.hears packet (record client { held = [] }) in
    either P (is_object heard.stage) client (more rest heard) heard (λ p. keeps rest heard (hears p)) hears
front_keeps P k more keeps stream Partial client = λ p. p
front_keeps P k more keeps stream (Broken refusal) client = ends_keeps P k.unheard (cause_of_obex refusal) (record client { held = [] }) refl

stream_keeps : (P : Talk → Type 0) → Kept P → (count : ℕ) (stream : List ℕ) (client : Client) → Keeps P client (hears_stream count stream client)
unfolding hears_stream
stream_keeps P k zero stream client = λ p. p
stream_keeps P k (suc count) stream client = front_keeps P k (λ rest next. hears_stream count rest next) (λ rest next. stream_keeps P k count rest next) stream (front_of client.session.maximum stream) client

end_keeps : (P : Talk → Type 0) → Unheard P → (reason : MuxReason) (client : Client) → Keeps P client (hears_end reason client)
end_keeps P k reason client = either P (is_left client.contact reason) client (record client { stage = ObjectEnd Due }) (ends (cause_of_mux reason) client) (λ p. p) (ends_keeps P k (cause_of_mux reason) client refl)

up_keeps : (P : Talk → Type 0) → Kept P → (news : Up) (client : Client) → Keeps P client (hears_up news client)
up_keeps P k nothing client = λ p. p
up_keeps P k opened client = λ p. p
up_keeps P k (bytes octets) client = stream_keeps P k (length (client.held ++ octets)) (client.held ++ octets) client
up_keeps P k (closed reason) client = end_keeps P k.unheard reason client

-- ---- links and channels

linked_keeps : (P : Talk → Type 0) (stage : Stage) (client : Client) → Keeps P client (events.linked_at stage client)
linked_keeps P (Link Asked) client = either P (is_some client.cause) client (record client { stage = LinkEnd Due }) (record client { stage = SearchChannel Due }) (λ p. p) (λ p. p)
linked_keeps P (Link Due) client = λ p. p
linked_keeps P Rest client = λ p. p
linked_keeps P (SearchChannel point) client = λ p. p
linked_keeps P Search client = λ p. p
linked_keeps P (SearchEnd point) client = λ p. p
linked_keeps P (Features point) client = λ p. p
linked_keeps P (ObjectChannel point) client = λ p. p
linked_keeps P Object client = λ p. p
linked_keeps P (ObjectEnd point) client = λ p. p
linked_keeps P (LinkEnd point) client = λ p. p
linked_keeps P Over client = λ p. p

direct_opens : (P : Talk → Type 0) → Unheard P → (small : Bool) (mtu : ℕ) (client : Client) → nat_lt mtu 255 ≡ small → Keeps P client (if small then ends small_channel client else record client { stage = Object; limit = min mtu 32767 })
direct_opens P k true mtu client is = ends_keeps P k small_channel client refl
direct_opens P k false mtu client is = let least = ltb-false mtu 255 is in k.opens (min mtu 32767) (talk_of client) (omega (arith, least)) (omega arith)

object_opens : (P : Talk → Type 0) → Unheard P → (t : Transport) (mtu : ℕ) (client : Client) → Keeps P client (events.object_opened t mtu client)
object_opens P k L2cap mtu client = direct_opens P k (nat_lt mtu 255) mtu client refl
object_opens P k Rfcomm mtu client = k.opens 32767 (talk_of client) (omega arith) (omega arith)

opened_keeps : (P : Talk → Type 0) → Unheard P → (stage : Stage) (psm mtu : ℕ) (client : Client) → Keeps P client (events.opened_at stage psm mtu client)
opened_keeps P k (SearchChannel Asked) psm mtu client = either P (psm == events.search_psm) client (record client { stage = Search }) client (λ p. p) (λ p. p)
opened_keeps P k (ObjectChannel Asked) psm mtu client = either P (psm == client.psm) client (events.object_opened client.transport mtu client) client (object_opens P k client.transport mtu client) (λ p. p)
opened_keeps P k Rest psm mtu client = λ p. p
opened_keeps P k (Link point) psm mtu client = λ p. p
opened_keeps P k (SearchChannel Due) psm mtu client = λ p. p
opened_keeps P k Search psm mtu client = λ p. p
opened_keeps P k (SearchEnd point) psm mtu client = λ p. p
opened_keeps P k (Features point) psm mtu client = λ p. p
opened_keeps P k (ObjectChannel Due) psm mtu client = λ p. p
opened_keeps P k Object psm mtu client = λ p. p
opened_keeps P k (ObjectEnd point) psm mtu client = λ p. p
opened_keeps P k (LinkEnd point) psm mtu client = λ p. p
opened_keeps P k Over psm mtu client = λ p. p

left_keeps : (P : Talk → Type 0) (cause : Option Outcome) (client : Client) → Keeps P client (events.search_left cause client)
left_keeps P None client = λ p. p
left_keeps P (Some cause) client = λ p. p

search_keeps : (P : Talk → Type 0) → Unheard P → (found : Option Outcome) (client : Client) → AreFree found → Keeps P client (events.search_closed found client)
search_keeps P k None client free = left_keeps P client.cause client
search_keeps P k (Some outcome) client free = ends_keeps P k outcome client free

closes : (P : Talk → Type 0) → Unheard P → (psm own : ℕ) (cause : CloseCause) (client : Client) → Keeps P client (if psm == own then ends_if (cause_of_close cause) client else client)
closes P k psm own cause client = either P (psm == own) client (ends_if (cause_of_close cause) client) client (ends_if_keeps P k (cause_of_close cause) client (close_free cause)) (λ p. p)

closed_keeps : (P : Talk → Type 0) → Unheard P → (stage : Stage) (psm : ℕ) (cause : CloseCause) (client : Client) → Keeps P client (events.closed_at stage psm cause client)
closed_keeps P k (SearchChannel Asked) psm cause client = closes P k psm events.search_psm cause client
closed_keeps P k Search psm cause client = closes P k psm events.search_psm cause client
closed_keeps P k (SearchEnd point) psm cause client =
    either P (psm == events.search_psm) client (events.search_closed (cause_of_close cause) client) client (search_keeps P k (cause_of_close cause) client (close_free cause)) (λ p. p)
closed_keeps P k (ObjectChannel Asked) psm cause client = closes P k psm client.psm cause client
closed_keeps P k Object psm cause client = closes P k psm client.psm cause client
closed_keeps P k (ObjectEnd point) psm cause client = either P (psm == client.psm) client (record client { stage = LinkEnd Due }) client (λ p. p) (λ p. p)
closed_keeps P k Rest psm cause client = λ p. p
closed_keeps P k (Link point) psm cause client = λ p. p
closed_keeps P k (SearchChannel Due) psm cause client = λ p. p
closed_keeps P k (Features point) psm cause client = λ p. p
closed_keeps P k (ObjectChannel Due) psm cause client = λ p. p
closed_keeps P k (LinkEnd point) psm cause client = λ p. p
closed_keeps P k Over psm cause client = λ p. p

-- ---- the search, SDUs and the timer

psm_keeps : (P : Talk → Type 0) → Unheard P → (found : Option ℕ) (client : Client) → Keeps P client (events.found_psm found client)
psm_keeps P k None client = ends_keeps P k outcomes.NoService client refl
psm_keeps P k (Some psm) client = λ p. p

channel_keeps : (P : Talk → Type 0) → Unheard P → (found : Option ℕ) (client : Client) → Keeps P client (events.found_channel found client)
channel_keeps P k None client = ends_keeps P k outcomes.NoService client refl
channel_keeps P k (Some channel) client = λ p. p

way_keeps : (P : Talk → Type 0) → Unheard P → (t : Transport) (target : Target) (client : Client) → Keeps P client (events.found_way t target client)
way_keeps P k L2cap target client = psm_keeps P k (events.kept_of is_service_psm target.l2cap) client
way_keeps P k Rfcomm target client = channel_keeps P k (events.kept_of is_server_channel target.rfcomm) client

finds_keeps : (P : Talk → Type 0) → Unheard P → (found : Found) (client : Client) → Keeps P client (events.finds found client)
finds_keeps P k More client = λ p. p
finds_keeps P k (Service target) client = way_keeps P k client.transport target client
finds_keeps P k NoService client = ends_keeps P k outcomes.NoService client refl
finds_keeps P k (Refused reason) client = ends_if_keeps P k (cause_of_query reason) client (query_free reason)

object_keeps : (P : Talk → Type 0) → Kept P → (t : Transport) (sdu : List ℕ) (client : Client) → Keeps P client (events.hears_object t sdu client)
object_keeps P k L2cap sdu client = k.hears sdu client
object_keeps P k Rfcomm sdu client = up_keeps P k (up sdu client.mux) (record client { mux = hears sdu client.mux })

outside_keeps : (P : Talk → Type 0) → Unheard P → (t : Transport) (client : Client) → Keeps P client (events.hears_outside t client)
outside_keeps P k L2cap client = ends_keeps P k unawaited_response client refl
outside_keeps P k Rfcomm client = λ p. p

off_either : (P : Talk → Type 0) (test : Bool) (a b c : Client) → test ≡ false → Keeps P a c → Keeps P a (if test then b else c)
off_either P true a b c off keeps = absurd (let f : true ≡ false = off in cc)
off_either P false a b c off keeps = keeps

-- one that is no response
sdu_quiet : (P : Talk → Type 0) → Unheard P → (stage : Stage) (psm : ℕ) (sdu : List ℕ) (client : Client) → (is_object stage && (psm == client.psm)) ≡ false → Keeps P client (events.sdu_at stage psm sdu client)
sdu_quiet P k Search psm sdu client quiet =
    let heard : Client = record client { query = after_reply client.query sdu } in
    either P (psm == events.search_psm) client (events.finds (found_at client.query sdu) heard) client (finds_keeps P k (found_at client.query sdu) heard) (λ p. p)
sdu_quiet P k (ObjectChannel point) psm sdu client quiet = either P (psm == client.psm) client (events.hears_outside client.transport client) client (outside_keeps P k client.transport client) (λ p. p)
sdu_quiet P k Object psm sdu client quiet = off_either P (psm == client.psm) client (events.hears_object client.transport sdu client) client quiet (λ p. p)
sdu_quiet P k (ObjectEnd point) psm sdu client quiet = either P (psm == client.psm) client (events.hears_outside client.transport client) client (outside_keeps P k client.transport client) (λ p. p)
sdu_quiet P k Rest psm sdu client quiet = λ p. p
sdu_quiet P k (Link point) psm sdu client quiet = λ p. p
sdu_quiet P k (SearchChannel point) psm sdu client quiet = λ p. p
sdu_quiet P k (SearchEnd point) psm sdu client quiet = λ p. p
sdu_quiet P k (Features point) psm sdu client quiet = λ p. p
sdu_quiet P k (LinkEnd point) psm sdu client quiet = λ p. p
sdu_quiet P k Over psm sdu client quiet = λ p. p

sdu_by : (P : Talk → Type 0) → Kept P → (object : Bool) (psm : ℕ) (sdu : List ℕ) (client : Client) → is_object client.stage ≡ object → Keeps P client (events.sdu_at client.stage psm sdu client)
sdu_by P k false psm sdu client is = sdu_quiet P k.unheard client.stage psm sdu client (ap (λ (b : Bool). b && (psm == client.psm)) is)
sdu_by P k true psm sdu client is =
    subst (λ (stage : Stage). Keeps P client (events.sdu_at stage psm sdu client)) (sym (object_of client.stage is))
    (either P (psm == client.psm) client (events.hears_object client.transport sdu client) client (object_keeps P k client.transport sdu client) (λ p. p))

fires_keeps : (P : Talk → Type 0) → Unheard P → (client : Client) → Keeps P client (events.fires client)
fires_keeps P k client =
    let fired : Client = record client { query = after_resend client.query } in
    either P (events.armed client && not (client.given || is_due client.query)) client (if client.left == 0 then ends outcomes.RetryLimit client else fired) client
    (either P (client.left == 0) client (ends outcomes.RetryLimit client) fired (ends_keeps P k outcomes.RetryLimit client refl) (λ p. p)) (λ p. p)

-- news that are no response
pub news_quiet : (P : Talk → Type 0) → Unheard P → (news : events.News) (client : Client) → is_response news client ≡ false → Keeps P client (events.hears_news news client)
news_quiet P k events.LinkUp client quiet = linked_keeps P client.stage client
news_quiet P k (events.LinkDown reason) client quiet = either P (events.is_linked client.stage) client (events.over (cause_of_link reason) client) client (over_keeps P k client.cause (cause_of_link reason) client refl (link_free reason)) (λ p. p)
news_quiet P k (events.LinkFailed status) client quiet = either P (events.is_paging client.stage) client (events.over (cause_of_page status) client) client (over_keeps P k client.cause (cause_of_page status) client refl refl) (λ p. p)
news_quiet P k (events.ChannelOpen psm mtu) client quiet = opened_keeps P k client.stage psm mtu client
news_quiet P k (events.ChannelClosed psm cause) client quiet = closed_keeps P k client.stage psm cause client
news_quiet P k (events.Sdu psm octets) client quiet = sdu_quiet P k client.stage psm octets client quiet
news_quiet P k events.FeaturesTold client quiet = either P (events.is_asking_features client.stage) client (record client { stage = ObjectChannel Due }) client (λ p. p) (λ p. p)
news_quiet P k events.FeaturesLost client quiet = either P (events.is_asking_features client.stage) client (ends outcomes.RetryLimit client) client (ends_keeps P k outcomes.RetryLimit client refl) (λ p. p)
news_quiet P k events.Timer client quiet = fires_keeps P k client

pub news_keeps : (P : Talk → Type 0) → Kept P → (news : events.News) (client : Client) → Keeps P client (events.hears_news news client)
news_keeps P k (events.Sdu psm octets) client = sdu_by P k (is_object client.stage) psm octets client refl
news_keeps P k events.LinkUp client = news_quiet P k.unheard events.LinkUp client refl
news_keeps P k (events.LinkDown reason) client = news_quiet P k.unheard (events.LinkDown reason) client refl
news_keeps P k (events.LinkFailed status) client = news_quiet P k.unheard (events.LinkFailed status) client refl
news_keeps P k (events.ChannelOpen psm mtu) client = news_quiet P k.unheard (events.ChannelOpen psm mtu) client refl
news_keeps P k (events.ChannelClosed psm cause) client = news_quiet P k.unheard (events.ChannelClosed psm cause) client refl
news_keeps P k events.FeaturesTold client = news_quiet P k.unheard events.FeaturesTold client refl
news_keeps P k events.FeaturesLost client = news_quiet P k.unheard events.FeaturesLost client refl
news_keeps P k events.Timer client = news_quiet P k.unheard events.Timer client refl

-- ---- a response

abbrev pub behind : List ℕ → Client → Client
behind response client = record client { session = after_at client.session.awaited client.session response }

-- it leaves of a client what its session behind it has
pub hears_by : (P : Talk → Type 0) → ((o : Outcome) (t : Talk) → P t → P (record t { cause = Some o })) → ((contact : Contact) (t : Talk) → P t → P (record t { contact = contact })) → (response : List ℕ) (client : Client) → P (talk_of client)
    → P (talk_of (behind response client)) → P (talk_of (hears_response response client))
hears_by P ends_so meets_so response client now later = by (answer_at client.session.awaited client.session response)
  where
    ending : (cause : Option Outcome) (o : Outcome) (c : Client) → P (talk_of c) → P (talk_of (ends_by cause o c))
    ending None o c p = ends_so o (talk_of c) p
    ending (Some earlier) o c p = p

    taking : (answered : Answered) → P (talk_of (takes answered (behind response client)))
    taking answer.Go = meets_so (met client.contact) (talk_of (behind response client)) later
    taking answer.Done = ending client.cause _ (behind response client) later
    taking (answer.Refused code) = ending client.cause _ (behind response client) later
    taking (answer.Bad refusal) = ending client.cause _ (behind response client) later
    taking answer.Srmp = ending client.cause _ (behind response client) later

    either_of : (test : Bool) (a b : Client) → P (talk_of a) → P (talk_of b) → P (talk_of (if test then a else b))
    either_of true a b x y = x
    either_of false a b x y = y

    by : (answered : Option Answered) → P (talk_of (hears_answer answered response client))
    by None = ending client.cause _ client now
    by (Some answered) = either_of (is_success answered && is_early client) (ends _ (behind response client)) (takes answered (behind response client)) (ending client.cause _ (behind response client) later) (taking answered)
