-- What a client hears raises no number of steps, but by a question for the service that is to be sent anew.
use Rattle.std.proofs.Common.{◌≡◌, ℕ, ◌+◌, ◌≤◌, ◌==◌, ◌&&◌, ◌||◌, not, nat_lt, min, Bool, true, false, cond, List, Option, Some, None, is_some, Result, Ok, Err, refl, sym, ap, subst, ◌∙◌, arith, if◌then◌else◌}
use Rattle.bt_base.specs.declared.settings.Transport.{Transport}
use Rattle.bt_base.specs.declared.settings.Transport.TheVariants.{L2cap, Rfcomm}
use Rattle.push_terms.specs.declared.outcome.Outcome.{Outcome}
use Rattle.push_terms.specs.declared.outcome.Outcome.TheVariants as outcomes
use Rattle.push_model.specs.obex_headers.specs.declared.fault.ObexRefusal.{ObexRefusal}
use Rattle.push_model.specs.obex_headers.specs.Packets.{PlainPacket}
use Rattle.push_model.specs.obex_headers.specs.Reading.{packet_in}
use Rattle.push_model.specs.obex_session.specs.declared.asking.Request.{Request}
use Rattle.push_model.specs.obex_session.specs.declared.asking.Request.TheVariants as requested
use Rattle.push_model.specs.obex_session.specs.declared.client.Answered.{Answered}
use Rattle.push_model.specs.obex_session.specs.declared.client.Answered.TheVariants as answer
use Rattle.push_model.specs.obex_session.specs.Asking.{Asking, awaited_code, success_of, limit_by, single_by, phase_of, answer_read, answer_to, after_read}
use Rattle.push_model.specs.obex_session.specs.Marks.{marks_of}
use Rattle.push_model.specs.obex_session.specs.NextPut.{left_of}
use Rattle.push_model.specs.obex_session.specs.PutPackets.{place_of}
use Rattle.push_model.specs.obex_session.specs.Views.{is_final_put, answer_at, after_at}
use Rattle.push_model.specs.sdp_elements.specs.declared.target.Target.{Target}
use Rattle.push_model.specs.sdp_elements.specs.Targets.{is_service_psm, is_server_channel}
use Rattle.push_model.specs.sdp_client.specs.declared.reason.Found.{Found}
use Rattle.push_model.specs.sdp_client.specs.declared.reason.Found.TheVariants.{More, Service, NoService, Refused}
use Rattle.push_model.specs.sdp_client.specs.Asking as search
use Rattle.push_model.specs.sdp_client.specs.Asking.{is_due, after_resend}
use Rattle.push_model.specs.sdp_client.specs.Hearing.{found_at, after_reply}
use Rattle.push_model.specs.declared.closing.CloseCause.{CloseCause}
use Rattle.push_model.specs.declared.course.Contact.{Contact}
use Rattle.push_model.specs.declared.course.Contact.TheVariants.{Unmet, Met, Left, Closing}
use Rattle.push_model.specs.declared.course.Point.TheVariants.{Due, Asked}
use Rattle.push_model.specs.declared.course.Stage.{Stage}
use Rattle.push_model.specs.declared.course.Stage.TheVariants.{Rest, Link, SearchChannel, Search, SearchEnd, Features, ObjectChannel, Object, ObjectEnd, LinkEnd, Over}
use Rattle.push_model.specs.Causes.{cause_of_link, cause_of_page, cause_of_close, cause_of_query, cause_of_obex, small_channel, unawaited_response, unknown_parameters}
use Rattle.push_model.specs.Client.{Client, ends, ends_by, ends_if}
use Rattle.push_model.specs.Responding.{met, is_early, takes, is_success, hears_answer, hears_response}
use Rattle.push_model.specs.Events.{News, LinkUp, LinkDown, LinkFailed, ChannelOpen, ChannelClosed, Sdu, FeaturesTold, FeaturesLost, Timer, search_psm, linked_at, is_linked, is_paging, over_by, over, object_opened, opened_at, stage_behind, search_left, search_closed, closed_at, kept_of, found_psm, found_channel, found_way, finds, hears_reply, hears_object, hears_outside, sdu_at, is_asking_features, armed, fires, hears_news}
use Rattle.push_model.specs.Laws.{Hears}
use Rattle.course_laws.specs.Left.{may_search, puts_left, requests_left, sum_left, steps_left, renewed_by}
use Rattle.course_laws.proofs.Ending.{at_most, ends-less, ends_if-less, either, ends-anew, moves}

-- ---- the link

same : (client : Client) → steps_left client ≤ steps_left client
same client = omega arith

linked_less : (client : Client) (stage : Stage) → client.stage ≡ stage → steps_left (linked_at stage client) ≤ steps_left client
linked_less client Rest is = same client
linked_less client (Link Due) is = same client
linked_less client (Link Asked) is =
    either (is_some client.cause) (record client { stage = LinkEnd Due }) (record client { stage = SearchChannel Due }) (steps_left client) (moves client (Link Asked) (LinkEnd Due) is (λ due requests. omega arith)) (moves client (Link Asked) (SearchChannel Due) is (λ due requests. omega arith))
linked_less client (SearchChannel point) is = same client
linked_less client Search is = same client
linked_less client (SearchEnd point) is = same client
linked_less client (Features point) is = same client
linked_less client (ObjectChannel point) is = same client
linked_less client Object is = same client
linked_less client (ObjectEnd point) is = same client
linked_less client (LinkEnd point) is = same client
linked_less client Over is = same client

-- each stage but rest has one step at least
some_left : (stage : Stage) (due : Bool) (requests : ℕ) → (is_linked stage || is_paging stage) ≡ true → 1 ≤ sum_left stage due requests
some_left Rest due requests is = cc
some_left (Link Due) due requests is = cc
some_left (Link Asked) due requests is = omega arith
some_left (SearchChannel Due) due requests is = omega arith
some_left (SearchChannel Asked) due requests is = omega arith
some_left Search due requests is = omega arith
some_left (SearchEnd Due) due requests is = omega arith
some_left (SearchEnd Asked) due requests is = omega arith
some_left (Features Due) due requests is = omega arith
some_left (Features Asked) due requests is = omega arith
some_left (ObjectChannel Due) due requests is = omega arith
some_left (ObjectChannel Asked) due requests is = omega arith
some_left Object due requests is = omega arith
some_left (ObjectEnd Due) due requests is = omega arith
some_left (ObjectEnd Asked) due requests is = omega arith
some_left (LinkEnd Due) due requests is = omega arith
some_left (LinkEnd Asked) due requests is = omega arith
some_left Over due requests is = cc

over_one : (cause : Option Outcome) (outcome : Outcome) (client : Client) → steps_left (over_by cause outcome client) ≤ 1
over_one None outcome client = omega arith
over_one (Some earlier) outcome client = omega arith

over_less : (outcome : Outcome) (client : Client) → (is_linked client.stage || is_paging client.stage) ≡ true → steps_left (over outcome client) ≤ steps_left client
over_less outcome client is =
    let one = over_one client.cause outcome client in
    let some = some_left client.stage (is_due client.query) (requests_left client.contact client.cause client.session client.size) is in
    omega (arith, one, some)

down_less : (test : Bool) (outcome : Outcome) (client : Client) → (test ≡ true → (is_linked client.stage || is_paging client.stage) ≡ true) → steps_left (if test then over outcome client else client) ≤ steps_left client
down_less true outcome client so = over_less outcome client (so refl)
down_less false outcome client so = same client

linked_some : (stage : Stage) → is_linked stage ≡ true → (is_linked stage || is_paging stage) ≡ true
linked_some stage is = ap (λ b. b || is_paging stage) is

either_some : (b : Bool) → (b || true) ≡ true
either_some true = refl
either_some false = refl

paging_some : (stage : Stage) → is_paging stage ≡ true → (is_linked stage || is_paging stage) ≡ true
paging_some stage is = ap (λ b. is_linked stage || b) is ∙ either_some (is_linked stage)

-- ---- channels

object_less : (transport : Transport) (mtu : ℕ) (client : Client) → client.stage ≡ ObjectChannel Asked → steps_left (object_opened transport mtu client) ≤ steps_left client
object_less L2cap mtu client is = either (nat_lt mtu 255) (ends small_channel client) (record client { stage = Object; limit = min mtu 32767 }) (steps_left client) (ends-less small_channel client) (moves client (ObjectChannel Asked) Object is (λ due requests. omega arith))
object_less Rfcomm mtu client is = moves client (ObjectChannel Asked) Object is (λ due requests. omega arith)

opened_less : (client : Client) (stage : Stage) (psm mtu : ℕ) → client.stage ≡ stage → steps_left (opened_at stage psm mtu client) ≤ steps_left client
opened_less client Rest psm mtu is = same client
opened_less client (Link point) psm mtu is = same client
opened_less client (SearchChannel Due) psm mtu is = same client
opened_less client (SearchChannel Asked) psm mtu is = either (psm == search_psm) (record client { stage = Search }) client (steps_left client) (moves client (SearchChannel Asked) Search is (λ due requests. omega arith)) (same client)
opened_less client Search psm mtu is = same client
opened_less client (SearchEnd point) psm mtu is = same client
opened_less client (Features point) psm mtu is = same client
opened_less client (ObjectChannel Due) psm mtu is = same client
opened_less client (ObjectChannel Asked) psm mtu is = either (psm == client.psm) (object_opened client.transport mtu client) client (steps_left client) (object_less client.transport mtu client is) (same client)
opened_less client Object psm mtu is = same client
opened_less client (ObjectEnd point) psm mtu is = same client
opened_less client (LinkEnd point) psm mtu is = same client
opened_less client Over psm mtu is = same client

-- the search has ended: its channel was asked to close, or closed of itself
behind_less : (point : _) (transport : Transport) (due : Bool) (requests : ℕ) → sum_left (stage_behind transport) due requests ≤ sum_left (SearchEnd point) due requests
behind_less Due L2cap due requests = omega arith
behind_less Asked L2cap due requests = omega arith
behind_less Due Rfcomm due requests = omega arith
behind_less Asked Rfcomm due requests = omega arith

broken_less : (point : _) (due : Bool) (requests : ℕ) → sum_left (LinkEnd Due) due requests ≤ sum_left (SearchEnd point) due requests
broken_less Due due requests = omega arith
broken_less Asked due requests = omega arith

left_less : (point : _) (cause : Option Outcome) (client : Client) → client.stage ≡ SearchEnd point → steps_left (search_left cause client) ≤ steps_left client
left_less point None client is = moves client (SearchEnd point) (stage_behind client.transport) is (behind_less point client.transport)
left_less point (Some cause) client is = moves client (SearchEnd point) (LinkEnd Due) is (broken_less point)

search_closed_less : (point : _) (found : Option Outcome) (client : Client) → client.stage ≡ SearchEnd point → steps_left (search_closed found client) ≤ steps_left client
search_closed_less point None client is = left_less point client.cause client is
search_closed_less point (Some outcome) client is = ends-less outcome client

end_less : (point : _) (due : Bool) (requests : ℕ) → sum_left (LinkEnd Due) due requests ≤ sum_left (ObjectEnd point) due requests
end_less Due due requests = omega arith
end_less Asked due requests = omega arith

closed_less : (client : Client) (stage : Stage) (psm : ℕ) (cause : CloseCause) → client.stage ≡ stage → steps_left (closed_at stage psm cause client) ≤ steps_left client
closed_less client Rest psm cause is = same client
closed_less client (Link point) psm cause is = same client
closed_less client (SearchChannel Due) psm cause is = same client
closed_less client (SearchChannel Asked) psm cause is = either (psm == search_psm) (ends_if (cause_of_close cause) client) client (steps_left client) (ends_if-less (cause_of_close cause) client) (same client)
closed_less client Search psm cause is = either (psm == search_psm) (ends_if (cause_of_close cause) client) client (steps_left client) (ends_if-less (cause_of_close cause) client) (same client)
closed_less client (SearchEnd point) psm cause is = either (psm == search_psm) (search_closed (cause_of_close cause) client) client (steps_left client) (search_closed_less point (cause_of_close cause) client is) (same client)
closed_less client (Features point) psm cause is = same client
closed_less client (ObjectChannel Due) psm cause is = same client
closed_less client (ObjectChannel Asked) psm cause is = either (psm == client.psm) (ends_if (cause_of_close cause) client) client (steps_left client) (ends_if-less (cause_of_close cause) client) (same client)
closed_less client Object psm cause is = either (psm == client.psm) (ends_if (cause_of_close cause) client) client (steps_left client) (ends_if-less (cause_of_close cause) client) (same client)
closed_less client (ObjectEnd point) psm cause is = either (psm == client.psm) (record client { stage = LinkEnd Due }) client (steps_left client) (moves client (ObjectEnd point) (LinkEnd Due) is (end_less point)) (same client)
closed_less client (LinkEnd point) psm cause is = same client
closed_less client Over psm cause is = same client

-- ---- the question for the service

abbrev renewed : search.Asking → Client → ℕ
renewed query client = if is_due query && not (is_due client.query) then 1 else 0

due_more : (searches due after : Bool) → cond (searches && after) 1 0 ≤ cond (searches && due) 1 0 + cond (after && not due) 1 0
due_more true true true = omega arith
due_more true true false = omega arith
due_more true false true = omega arith
due_more true false false = omega arith
due_more false due after = omega arith

queried : (client : Client) (query : search.Asking) → steps_left (record client { query = query }) ≤ steps_left client + renewed query client
queried client query = let more = due_more (may_search client.stage) (is_due client.query) (is_due query) in omega (arith, more)

ends_query : (cause : Option Outcome) (outcome : Outcome) (client : Client) → (ends_by cause outcome client).query ≡ client.query
ends_query None outcome client = refl
ends_query (Some earlier) outcome client = refl

ends_if_query : (found : Option Outcome) (client : Client) → (ends_if found client).query ≡ client.query
ends_if_query None client = refl
ends_if_query (Some outcome) client = ends_query client.cause outcome client

way_query : (transport : Transport) (target : Target) (client : Client) → (found_way transport target client).query ≡ client.query
way_query L2cap target client = by (kept_of is_service_psm target.l2cap)
  where
    by : (found : Option ℕ) → (found_psm found client).query ≡ client.query
    by None = ends_query client.cause outcomes.NoService client
    by (Some psm) = refl
way_query Rfcomm target client = by (kept_of is_server_channel target.rfcomm)
  where
    by : (found : Option ℕ) → (found_channel found client).query ≡ client.query
    by None = ends_query client.cause outcomes.NoService client
    by (Some channel) = refl

finds_query : (found : Found) (client : Client) → (finds found client).query ≡ client.query
finds_query More client = refl
finds_query (Service target) client = way_query client.transport target client
finds_query NoService client = ends_query client.cause outcomes.NoService client
finds_query (Refused reason) client = ends_if_query (cause_of_query reason) client

way_less : (transport : Transport) (target : Target) (client : Client) → client.stage ≡ Search → steps_left (found_way transport target client) ≤ steps_left client
way_less L2cap target client is = by (kept_of is_service_psm target.l2cap)
  where
    by : (found : Option ℕ) → steps_left (found_psm found client) ≤ steps_left client
    by None = ends-less outcomes.NoService client
    by (Some psm) = moves client Search (SearchEnd Due) is (λ due requests. omega arith)
way_less Rfcomm target client is = by (kept_of is_server_channel target.rfcomm)
  where
    by : (found : Option ℕ) → steps_left (found_channel found client) ≤ steps_left client
    by None = ends-less outcomes.NoService client
    by (Some channel) = moves client Search (SearchEnd Due) is (λ due requests. omega arith)

finds_less : (found : Found) (client : Client) → client.stage ≡ Search → steps_left (finds found client) ≤ steps_left client
finds_less More client is = omega arith
finds_less (Service target) client is = way_less client.transport target client is
finds_less NoService client is = ends-less outcomes.NoService client
finds_less (Refused reason) client is = ends_if-less (cause_of_query reason) client

abbrev Renews : Client → Client → Type 0
Renews client after = steps_left after ≤ steps_left client + renewed after.query client

renews_none : (client after : Client) → steps_left after ≤ steps_left client → Renews client after
renews_none client after le = omega (arith, le)

renews_either : (test : Bool) (client a b : Client) → Renews client a → Renews client b → Renews client (if test then a else b)
renews_either true client a b here there = here
renews_either false client a b here there = there

reply_less : (reply : List ℕ) (client : Client) → client.stage ≡ Search → Renews client (hears_reply reply client)
reply_less reply client is =
    let heard : Client = record client { query = after_reply client.query reply } in
    let found : Found = found_at client.query reply in
    let less = finds_less found heard is in
    let more = queried client (after_reply client.query reply) in
    let same_query = ap (λ q. renewed q client) (finds_query found heard) in
    omega (arith, less, more, same_query)

fires_less : (client : Client) → Renews client (fires client)
fires_less client = by (armed client && not (client.given || is_due client.query)) (client.left == 0)
  where
    by : (waits spent : Bool) → Renews client (if waits then (if spent then ends outcomes.RetryLimit client else record client { query = after_resend client.query }) else client)
    by false spent = renews_none client client (same client)
    by true true = renews_none client (ends outcomes.RetryLimit client) (ends-less outcomes.RetryLimit client)
    by true false = queried client (after_resend client.query)

-- ---- a response

record GoesOn (session after : Asking) : Type 0 where
  not_final : is_final_put session.awaited ≡ false
  put_is : after.put ≡ session.put
  awaited_is : after.awaited ≡ None

not_final_request : (request : Request) → success_of request ≡ answer.Go → is_final_put (Some request) ≡ false
not_final_request requested.Connect is = refl
not_final_request requested.FirstPut is = refl
not_final_request requested.Put is = refl
not_final_request requested.Stream is = refl
not_final_request requested.FinalPut is = cc
not_final_request requested.Abort is = refl
not_final_request requested.Disconnect is = refl

goes_by : (session : Asking) (request : Request) (read : Result PlainPacket ObexRefusal) → session.awaited ≡ Some request → answer_read request read ≡ answer.Go → GoesOn session (after_read session request read)
goes_by session request (Err refusal) awaits is = cc
goes_by session request (Ok packet) awaits is = by (marks_of packet.headers).parameters (packet.code == awaited_code request) is
  where
    went : Asking
    went = record session { limit = limit_by request session.limit packet.extra; single = single_by request session.wanted session.single (marks_of packet.headers); awaited = None }

    stops : Asking
    stops = record session { put = None; single = false; awaited = None }

    by : (parameters right : Bool) → cond parameters answer.Srmp (cond right (success_of request) (answer.Refused packet.code)) ≡ answer.Go → GoesOn session (cond parameters session (cond right went stops))
    by true right is = cc
    by false true is = record { not_final = ap is_final_put awaits ∙ not_final_request request is; put_is = refl; awaited_is = refl }
    by false false is = cc

puts_few : (session : Asking) (size : ℕ) → puts_left session size ≤ left_of session size + 1
puts_few session size = by (is_final_put session.awaited)
  where
    by : (b : Bool) → cond b 0 (left_of session size + 1) ≤ left_of session size + 1
    by true = omega arith
    by false = omega arith

go_less : (contact : Contact) (cause : Option Outcome) (session after : Asking) (size : ℕ) → is_some session.awaited ≡ true → GoesOn session after → requests_left (met contact) cause after size ≤ requests_left contact cause session size
go_less Unmet None session after size some goes = let few = puts_few after size in omega (arith, few)
go_less Unmet (Some outcome) session after size some goes =
    let few = at_most (is_some after.put) 1 in
    let two = ap {B = ℕ} (λ b. cond b 2 0) some in
    omega (arith, few, two)
go_less Met None session after size some goes =
    let few = puts_few after size in
    let same_place = ap place_of goes.put_is in
    let all = ap (λ b. cond b 0 (left_of session size + 1)) goes.not_final in
    omega (arith, few, same_place, all)
go_less Met (Some outcome) session after size some goes = let same_put = ap {B = ℕ} (λ p. cond (is_some p) 1 0) goes.put_is in omega (arith, same_put)
go_less Left cause session after size some goes = omega arith
go_less Closing cause session after size some goes = omega arith

module _ (client : Client) (packet : List ℕ) (at : client.stage ≡ Object) where
  abbrev after : Asking
  after = after_at client.session.awaited client.session packet

  abbrev heard : Client
  heard = record client { session = after }

  object_more : (due : Bool) (less more : ℕ) → less ≤ more → sum_left Object due less ≤ sum_left Object due more
  object_more due less more le = omega (arith, le)

  takes_less : (answered : Answered) → is_some client.session.awaited ≡ true → (answered ≡ answer.Go → GoesOn client.session after) → steps_left (takes answered heard) ≤ steps_left client
  takes_less answer.Go some goes =
      let less : ℕ = requests_left (met client.contact) client.cause after client.size in
      let more : ℕ = requests_left client.contact client.cause client.session client.size in
      subst (λ s. sum_left s (is_due client.query) less ≤ sum_left s (is_due client.query) more) (sym at) (object_more (is_due client.query) less more (go_less client.contact client.cause client.session after client.size some (goes refl)))
  takes_less answer.Done some goes = ends-anew outcomes.Done after client at
  takes_less (answer.Refused code) some goes = ends-anew (outcomes.Refused code) after client at
  takes_less (answer.Bad refusal) some goes = ends-anew (cause_of_obex refusal) after client at
  takes_less answer.Srmp some goes = ends-anew unknown_parameters after client at

  answered_less : (awaited : Option Request) → client.session.awaited ≡ awaited → steps_left (hears_answer (answer_at awaited client.session packet) packet client) ≤ steps_left client
  answered_less None is = ends-less unawaited_response client
  answered_less (Some request) is =
      let answered : Answered = answer_to client.session.maximum request packet in
      either (is_success answered && is_early client) (ends unawaited_response heard) (takes answered heard) (steps_left client) (ends-anew unawaited_response after client at)
      (takes_less answered (ap is_some is) (λ go. subst (GoesOn client.session) (sym (ap (λ a. after_at a client.session packet) is)) (goes_by client.session request (packet_in (phase_of request) client.session.maximum packet) is go)))

  pub response_less : steps_left (hears_response packet client) ≤ steps_left client
  response_less = answered_less client.session.awaited refl

outside_less : (transport : Transport) (client : Client) → steps_left (hears_outside transport client) ≤ steps_left client
outside_less L2cap client = ends-less unawaited_response client
outside_less Rfcomm client = same client

sdu_less : (client : Client) (stage : Stage) (psm : ℕ) (sdu : List ℕ) → client.transport ≡ L2cap → client.stage ≡ stage → Renews client (sdu_at stage psm sdu client)
sdu_less client Rest psm sdu direct is = renews_none client client (same client)
sdu_less client (Link point) psm sdu direct is = renews_none client client (same client)
sdu_less client (SearchChannel point) psm sdu direct is = renews_none client client (same client)
sdu_less client Search psm sdu direct is = renews_either (psm == search_psm) client (hears_reply sdu client) client (reply_less sdu client is) (renews_none client client (same client))
sdu_less client (SearchEnd point) psm sdu direct is = renews_none client client (same client)
sdu_less client (Features point) psm sdu direct is = renews_none client client (same client)
sdu_less client (ObjectChannel point) psm sdu direct is = renews_either (psm == client.psm) client (hears_outside client.transport client) client (renews_none client (hears_outside client.transport client) (outside_less client.transport client)) (renews_none client client (same client))
sdu_less client Object psm sdu direct is =
    let less : steps_left (hears_object client.transport sdu client) ≤ steps_left client = subst (λ t. steps_left (hears_object t sdu client) ≤ steps_left client) (sym direct) (response_less client sdu is) in
    renews_either (psm == client.psm) client (hears_object client.transport sdu client) client (renews_none client (hears_object client.transport sdu client) less) (renews_none client client (same client))
sdu_less client (ObjectEnd point) psm sdu direct is = renews_either (psm == client.psm) client (hears_outside client.transport client) client (renews_none client (hears_outside client.transport client) (outside_less client.transport client)) (renews_none client client (same client))
sdu_less client (LinkEnd point) psm sdu direct is = renews_none client client (same client)
sdu_less client Over psm sdu direct is = renews_none client client (same client)

-- ---- the features

asking_features : (stage : Stage) (due : Bool) (requests : ℕ) → is_asking_features stage ≡ true → sum_left (ObjectChannel Due) due requests ≤ sum_left stage due requests
asking_features Rest due requests is = cc
asking_features (Link point) due requests is = cc
asking_features (SearchChannel point) due requests is = cc
asking_features Search due requests is = cc
asking_features (SearchEnd point) due requests is = cc
asking_features (Features Due) due requests is = cc
asking_features (Features Asked) due requests is = omega arith
asking_features (ObjectChannel point) due requests is = cc
asking_features Object due requests is = cc
asking_features (ObjectEnd point) due requests is = cc
asking_features (LinkEnd point) due requests is = cc
asking_features Over due requests is = cc

told_less : (test : Bool) (client : Client) → is_asking_features client.stage ≡ test → steps_left (if test then record client { stage = ObjectChannel Due } else client) ≤ steps_left client
told_less true client is = asking_features client.stage (is_due client.query) (requests_left client.contact client.cause client.session client.size) is
told_less false client is = same client

-- ---- any of these

pub hears-less : (news : News) (client : Client) → client.transport ≡ L2cap → steps_left (hears_news news client) ≤ steps_left client + renewed_by (Hears news) client
hears-less LinkUp client direct = renews_none client (linked_at client.stage client) (linked_less client client.stage refl)
hears-less (LinkDown reason) client direct = renews_none client (hears_news (LinkDown reason) client) (down_less (is_linked client.stage) (cause_of_link reason) client (linked_some client.stage))
hears-less (LinkFailed status) client direct = renews_none client (hears_news (LinkFailed status) client) (down_less (is_paging client.stage) (cause_of_page status) client (paging_some client.stage))
hears-less (ChannelOpen psm mtu) client direct = renews_none client (opened_at client.stage psm mtu client) (opened_less client client.stage psm mtu refl)
hears-less (ChannelClosed psm cause) client direct = renews_none client (closed_at client.stage psm cause client) (closed_less client client.stage psm cause refl)
hears-less (Sdu psm octets) client direct = sdu_less client client.stage psm octets direct refl
hears-less FeaturesTold client direct = renews_none client (hears_news FeaturesTold client) (told_less (is_asking_features client.stage) client refl)
hears-less FeaturesLost client direct = renews_none client (hears_news FeaturesLost client) (either (is_asking_features client.stage) (ends outcomes.RetryLimit client) client (steps_left client) (ends-less outcomes.RetryLimit client) (same client))
hears-less Timer client direct = fires_less client
