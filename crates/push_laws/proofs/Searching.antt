-- What a client asks on the channel to the service records, and what it makes of the reply: its one request, and the target that the reply
-- names.
use Rattle.std.proofs.Common.{inl, inr, ◌⊎◌, Bool, true, false, ◌≡◌, ◌==◌, ◌-◌, ◌&&◌, ◌||◌, ℕ, List, [], ◌∷◌, Option, Some, None, is_some, refl, sym, ap, subst, ◌∙◌, arith, if◌then◌else◌}
use Rattle.std.specs.Prelude.{not, min, nat_lt}
use Rattle.link_talk.specs.bt_base.specs.declared.settings.Serves.{Serves}
use Rattle.link_talk.specs.bt_base.specs.declared.settings.Transport.{Transport}
use Rattle.link_talk.specs.bt_base.specs.declared.settings.Transport.TheVariants.{L2cap, Rfcomm}
use Rattle.link_talk.specs.push_terms.specs.declared.outcome.Outcome.{Outcome}
use Rattle.link_talk.specs.push_terms.specs.declared.outcome.Outcome.TheVariants as outcomes
use Rattle.push_model.specs.sdp_client.specs.declared.query.Stage.{Stage as QueryStage}
use Rattle.push_model.specs.sdp_client.specs.declared.query.Stage.TheVariants as at
use Rattle.push_model.specs.sdp_client.specs.declared.reason.Found.{Found}
use Rattle.push_model.specs.sdp_client.specs.declared.reason.Found.TheVariants.{Service, Refused}
use Rattle.push_model.specs.sdp_client.specs.declared.reason.QueryReason.{QueryReason}
use Rattle.push_model.specs.sdp_client.specs.declared.reason.QueryReason.TheVariants.{BadReply, WrongTransaction}
use Rattle.push_model.specs.sdp_client.specs.Asking.{Asking, is_due, after_request, after_resend, again, written, request_octets}
use Rattle.push_model.specs.sdp_client.specs.Hearing.{found_at, after_reply}
use Rattle.push_model.specs.sdp_client.specs.Laws.{served_target}
use Rattle.push_model.specs.sdp_client.proofs.Served.{finds_the_server}
use Rattle.push_model.specs.sdp_elements.specs.declared.target.Target.{Target}
use Rattle.push_model.specs.sdp_elements.specs.Targets.{is_service_psm, is_server_channel}
use Rattle.push_model.specs.declared.closing.CloseCause.{CloseCause}
use Rattle.push_model.specs.declared.course.Point.TheVariants.{Due, Asked}
use Rattle.push_model.specs.declared.course.Stage.{Stage}
use Rattle.push_model.specs.declared.course.Stage.TheVariants.{Rest, Link, SearchChannel, Search, SearchEnd, Features, ObjectChannel, Object, ObjectEnd, LinkEnd, Over}
use Rattle.push_model.specs.Causes.{Ending, InOrder, AtOnce, ending_of, cause_of_link, cause_of_page, cause_of_close, cause_of_query, small_channel, unawaited_response}
use Rattle.push_model.specs.Client.{Client, ends, ends_by, ends_if, may_cancel, in_order, at_once, stage_after}
use Rattle.push_model.specs.Events as events
use Rattle.push_model.specs.Events.{search_psm, is_search}
use Rattle.push_model.specs.Laws as deeds
use Rattle.push_model.specs.Laws.{Deed, Hears, Asks, Finishes, Cancels}
use Rattle.push_model.specs.Server.{reply_room}
use Rattle.push_model.specs.Steps as steps
use Rattle.push_model.specs.Steps.{Part, Step, Stepped, steps_at, tells_end, rests}
use Rattle.push_laws.specs.Opening.{found_in, targets_told, targets_by}
use Rattle.push_laws.proofs.Late.{IsLate, anchor_of, either, object_late, object_quiet}
use Rattle.push_laws.proofs.Lookups.{request, request_is, reply, reply_is, IsReply}

-- ---- a query

-- one that was not answered: it asks for the first part
abbrev pub query_at : QueryStage → Asking
query_at stage = record { stage = stage; transaction = 1; continuation = []; joined = [] }

abbrev pub IsFirst : Asking → Type 0
IsFirst query = (stage : QueryStage) × (query ≡ query_at stage)

pub first_request : (query : Asking) → IsFirst query → request_octets query ≡ request
first_request query first = ap request_octets first.1 ∙ sym request_is

-- what it finds in a reply: nothing, and then it is as before or refused; or what the server's record names
data Told (serves : Serves) (query : Asking) (octets : List ℕ) : Type 0 where
  Refuses : (reason : QueryReason) → found_at query octets ≡ Refused reason → IsFirst (after_reply query octets) → Told serves query octets
  Names : found_at query octets ≡ Service (served_target serves) → Told serves query octets

-- the server's reply names it
named : (serves : Serves) → found_at (query_at at.Written) (reply serves) ≡ Service (served_target serves)
named serves = ap (found_at (query_at at.Written)) (reply_is serves) ∙ finds_the_server serves reply_room (omega arith)

reply_told : (serves : Serves) (stage : QueryStage) → Told serves (query_at stage) (reply serves)
reply_told serves at.Due = Refuses WrongTransaction refl (at.Due, refl)
reply_told serves at.Written = Names (named serves)
reply_told serves at.Again = Names (named serves)
reply_told serves at.Answered = Refuses WrongTransaction refl (at.Answered, refl)
reply_told serves (at.Refused reason) = Refuses reason refl (at.Refused reason, refl)

-- no octets are no reply
none_told : (serves : Serves) (stage : QueryStage) → Told serves (query_at stage) []
none_told serves at.Due = Refuses WrongTransaction refl (at.Due, refl)
none_told serves at.Written = Refuses BadReply refl (at.Refused BadReply, refl)
none_told serves at.Again = Refuses BadReply refl (at.Refused BadReply, refl)
none_told serves at.Answered = Refuses WrongTransaction refl (at.Answered, refl)
none_told serves (at.Refused reason) = Refuses reason refl (at.Refused reason, refl)

told_first : (serves : Serves) (query : Asking) (octets : List ℕ) → IsFirst query → IsReply serves octets → Told serves query octets
told_first serves query octets first is =
    subst (λ (q : Asking). Told serves q octets) (sym first.1)
    (elim is [
      | inl none ↦ subst (Told serves (query_at first.0)) (sym none) (none_told serves first.0)
      | inr replied ↦ subst (Told serves (query_at first.0)) (sym replied) (reply_told serves first.0)
    ])

-- ---- a client ahead of its answer

abbrev pub is_searching : Stage → Bool
is_searching Rest = false
is_searching (Link point) = true
is_searching (SearchChannel point) = true
is_searching Search = true
is_searching (SearchEnd point) = false
is_searching (Features point) = false
is_searching (ObjectChannel point) = false
is_searching Object = false
is_searching (ObjectEnd point) = false
is_searching (LinkEnd point) = false
is_searching Over = false

abbrev pub Searches : Client → Type 0
Searches client = is_searching client.stage ≡ true → IsFirst client.query

never : {A : Type 0} → false ≡ true → A
never e = cc

late_searches : (stage : Stage) → IsLate stage → is_searching stage ≡ true → ⊥
late_searches Object late e = never e
late_searches (ObjectEnd point) late e = never e
late_searches (LinkEnd point) late e = never e
late_searches Over late e = never e
late_searches Rest late e = never e
late_searches (Link point) late e = late
late_searches (SearchChannel point) late e = late
late_searches Search late e = late
late_searches (SearchEnd point) late e = late
late_searches (Features point) late e = late
late_searches (ObjectChannel point) late e = late

before_order : (stage : Stage) → is_searching (in_order stage) ≡ true → is_searching stage ≡ true
before_order Rest e = e
before_order (Link point) e = refl
before_order (SearchChannel point) e = refl
before_order Search e = refl
before_order (SearchEnd point) e = e
before_order (Features point) e = e
before_order (ObjectChannel Due) e = e
before_order (ObjectChannel Asked) e = e
before_order Object e = e
before_order (ObjectEnd point) e = e
before_order (LinkEnd point) e = e
before_order Over e = e

before_once : (stage : Stage) → is_searching (at_once stage) ≡ true → is_searching stage ≡ true
before_once Rest e = e
before_once (Link point) e = refl
before_once (SearchChannel point) e = refl
before_once Search e = refl
before_once (SearchEnd point) e = e
before_once (Features point) e = e
before_once (ObjectChannel point) e = e
before_once Object e = e
before_once (ObjectEnd point) e = e
before_once (LinkEnd point) e = e
before_once Over e = e

before_end : (ending : Ending) (stage : Stage) → is_searching (stage_after ending stage) ≡ true → is_searching stage ≡ true
before_end InOrder stage e = before_order stage e
before_end AtOnce stage e = before_once stage e

by_searches : (cause : Option Outcome) (o : Outcome) (client : Client) → Searches client → Searches (ends_by cause o client)
by_searches None o client s = λ e. s (before_end (ending_of o) client.stage e)
by_searches (Some earlier) o client s = λ e. s (before_once client.stage e)

ends_search : (o : Outcome) (client : Client) → Searches client → Searches (ends o client)
ends_search o client s = by_searches client.cause o client s

if_searches : (found : Option Outcome) (client : Client) → Searches client → Searches (ends_if found client)
if_searches None client s = s
if_searches (Some o) client s = ends_search o client s

-- its search is over
search_over : (ending : Ending) → is_searching (stage_after ending Search) ≡ true → ⊥
search_over InOrder e = never e
search_over AtOnce e = never e

no_service : (cause : Option Outcome) (o : Outcome) (client : Client) → client.stage ≡ Search → Searches (ends_by cause o client)
no_service None o client is = λ e. absurd (search_over (ending_of o) (sym (ap (λ (s : Stage). is_searching (stage_after (ending_of o) s)) is) ∙ e))
no_service (Some earlier) o client is = λ e. absurd (search_over AtOnce (sym (ap (λ (s : Stage). is_searching (at_once s)) is) ∙ e))

-- ---- what it hears

psm_found : (found : Option ℕ) (client : Client) → client.stage ≡ Search → Searches (events.found_psm found client)
psm_found None client is = no_service client.cause outcomes.NoService client is
psm_found (Some psm) client is = λ e. never e

channel_found : (found : Option ℕ) (client : Client) → client.stage ≡ Search → Searches (events.found_channel found client)
channel_found None client is = no_service client.cause outcomes.NoService client is
channel_found (Some channel) client is = λ e. never e

way_found : (t : Transport) (target : Target) (client : Client) → client.stage ≡ Search → Searches (events.found_way t target client)
way_found L2cap target client is = psm_found (events.kept_of is_service_psm target.l2cap) client is
way_found Rfcomm target client is = channel_found (events.kept_of is_server_channel target.rfcomm) client is

module _ (serves : Serves) where
  found_searches : (client : Client) (octets : List ℕ) → client.stage ≡ Search → Told serves client.query octets → Searches (events.hears_reply octets client)
  found_searches client octets is (Refuses reason found first) =
      let heard : Client = record client { query = after_reply client.query octets } in
      subst (λ (f : Found). Searches (events.finds f heard)) (sym found) (if_searches (cause_of_query reason) heard (λ e. first))
  found_searches client octets is (Names found) =
      let heard : Client = record client { query = after_reply client.query octets } in
      subst (λ (f : Found). Searches (events.finds f heard)) (sym found) (way_found client.transport (served_target serves) heard is)

  linked_searches : (stage : Stage) (client : Client) → client.stage ≡ stage → Searches client → Searches (events.linked_at stage client)
  linked_searches (Link Asked) client is s = either Searches (is_some client.cause) (record client { stage = LinkEnd Due }) (record client { stage = SearchChannel Due }) (λ e. never e) (λ e. s (ap is_searching is))
  linked_searches Rest client is s = s
  linked_searches (Link Due) client is s = s
  linked_searches (SearchChannel point) client is s = s
  linked_searches Search client is s = s
  linked_searches (SearchEnd point) client is s = s
  linked_searches (Features point) client is s = s
  linked_searches (ObjectChannel point) client is s = s
  linked_searches Object client is s = s
  linked_searches (ObjectEnd point) client is s = s
  linked_searches (LinkEnd point) client is s = s
  linked_searches Over client is s = s

  over_searches : (cause : Option Outcome) (o : Outcome) (client : Client) → Searches (events.over_by cause o client)
  over_searches None o client = λ e. never e
  over_searches (Some earlier) o client = λ e. never e

  object_opened : (t : Transport) (mtu : ℕ) (client : Client) → Searches client → Searches (events.object_opened t mtu client)
  object_opened L2cap mtu client s = either Searches (nat_lt mtu 255) (ends small_channel client) (record client { stage = Object; limit = min mtu 32767 }) (ends_search small_channel client s) (λ e. never e)
  object_opened Rfcomm mtu client s = λ e. never e

  opened_searches : (stage : Stage) (psm mtu : ℕ) (client : Client) → client.stage ≡ stage → Searches client → Searches (events.opened_at stage psm mtu client)
  opened_searches (SearchChannel Asked) psm mtu client is s = either Searches (psm == search_psm) (record client { stage = Search }) client (λ e. s (ap is_searching is)) s
  opened_searches (ObjectChannel Asked) psm mtu client is s = either Searches (psm == client.psm) (events.object_opened client.transport mtu client) client (object_opened client.transport mtu client s) s
  opened_searches Rest psm mtu client is s = s
  opened_searches (Link point) psm mtu client is s = s
  opened_searches (SearchChannel Due) psm mtu client is s = s
  opened_searches Search psm mtu client is s = s
  opened_searches (SearchEnd point) psm mtu client is s = s
  opened_searches (Features point) psm mtu client is s = s
  opened_searches (ObjectChannel Due) psm mtu client is s = s
  opened_searches Object psm mtu client is s = s
  opened_searches (ObjectEnd point) psm mtu client is s = s
  opened_searches (LinkEnd point) psm mtu client is s = s
  opened_searches Over psm mtu client is s = s

  behind_searches : (t : Transport) → is_searching (events.stage_behind t) ≡ true → ⊥
  behind_searches L2cap e = never e
  behind_searches Rfcomm e = never e

  left_searches : (cause : Option Outcome) (client : Client) → Searches (events.search_left cause client)
  left_searches None client = λ e. absurd (behind_searches client.transport e)
  left_searches (Some cause) client = λ e. never e

  closes_search : (found : Option Outcome) (client : Client) → Searches client → Searches (events.search_closed found client)
  closes_search None client s = left_searches client.cause client
  closes_search (Some o) client s = ends_search o client s

  closed_searches : (stage : Stage) (psm : ℕ) (cause : CloseCause) (client : Client) → Searches client → Searches (events.closed_at stage psm cause client)
  closed_searches (SearchChannel Asked) psm cause client s = either Searches (psm == search_psm) (ends_if (cause_of_close cause) client) client (if_searches (cause_of_close cause) client s) s
  closed_searches Search psm cause client s = either Searches (psm == search_psm) (ends_if (cause_of_close cause) client) client (if_searches (cause_of_close cause) client s) s
  closed_searches (SearchEnd point) psm cause client s = either Searches (psm == search_psm) (events.search_closed (cause_of_close cause) client) client (closes_search (cause_of_close cause) client s) s
  closed_searches (ObjectChannel Asked) psm cause client s = either Searches (psm == client.psm) (ends_if (cause_of_close cause) client) client (if_searches (cause_of_close cause) client s) s
  closed_searches Object psm cause client s = either Searches (psm == client.psm) (ends_if (cause_of_close cause) client) client (if_searches (cause_of_close cause) client s) s
  closed_searches (ObjectEnd point) psm cause client s = either Searches (psm == client.psm) (record client { stage = LinkEnd Due }) client (λ e. never e) s
  closed_searches Rest psm cause client s = s
  closed_searches (Link point) psm cause client s = s
  closed_searches (SearchChannel Due) psm cause client s = s
  closed_searches (Features point) psm cause client s = s
  closed_searches (ObjectChannel Due) psm cause client s = s
  closed_searches (LinkEnd point) psm cause client s = s
  closed_searches Over psm cause client s = s

  outside_searches : (t : Transport) (client : Client) → Searches client → Searches (events.hears_outside t client)
  outside_searches L2cap client s = ends_search unawaited_response client s
  outside_searches Rfcomm client s = s

  object_searches : (client : Client) (sdu : List ℕ) → client.stage ≡ Object → Searches (events.hears_object client.transport sdu client)
  object_searches client sdu is =
      let late = object_late (anchor_of client) client.transport sdu client (subst IsLate (sym is) tt, refl) in
      λ e. absurd (late_searches (events.hears_object client.transport sdu client).stage late.0 e)

  -- on the channel to the service records only the reply comes
  reply_if : (here : Bool) (sdu : List ℕ) (client : Client) → client.stage ≡ Search → (here ≡ true → IsReply serves sdu) → Searches client → Searches (if here then events.hears_reply sdu client else client)
  reply_if true sdu client is only s = found_searches client sdu is (told_first serves client.query sdu (s (ap is_searching is)) (only refl))
  reply_if false sdu client is only s = s

  sdu_searches : (stage : Stage) (psm : ℕ) (sdu : List ℕ) (client : Client) → client.stage ≡ stage → ((psm == search_psm) ≡ true → IsReply serves sdu) → Searches client → Searches (events.sdu_at stage psm sdu client)
  sdu_searches Search psm sdu client is only s = reply_if (psm == search_psm) sdu client is only s
  sdu_searches (ObjectChannel point) psm sdu client is only s = either Searches (psm == client.psm) (events.hears_outside client.transport client) client (outside_searches client.transport client s) s
  sdu_searches Object psm sdu client is only s = either Searches (psm == client.psm) (events.hears_object client.transport sdu client) client (object_searches client sdu is) s
  sdu_searches (ObjectEnd point) psm sdu client is only s = either Searches (psm == client.psm) (events.hears_outside client.transport client) client (outside_searches client.transport client s) s
  sdu_searches Rest psm sdu client is only s = s
  sdu_searches (Link point) psm sdu client is only s = s
  sdu_searches (SearchChannel point) psm sdu client is only s = s
  sdu_searches (SearchEnd point) psm sdu client is only s = s
  sdu_searches (Features point) psm sdu client is only s = s
  sdu_searches (LinkEnd point) psm sdu client is only s = s
  sdu_searches Over psm sdu client is only s = s

  fires_search : (client : Client) → Searches client → Searches (events.fires client)
  fires_search client s =
      let fired : Client = record client { query = after_resend client.query } in
      let so : Searches fired = λ e. let first = s e in (again first.0, ap after_resend first.1) in
      either Searches (events.armed client && not (client.given || is_due client.query)) (if client.left == 0 then ends outcomes.RetryLimit client else fired) client
      (either Searches (client.left == 0) (ends outcomes.RetryLimit client) fired (ends_search outcomes.RetryLimit client s) so) s

  asks_features : (stage : Stage) (client : Client) → Searches client → Searches (if events.is_asking_features stage then record client { stage = ObjectChannel Due } else client)
  asks_features stage client s = either Searches (events.is_asking_features stage) (record client { stage = ObjectChannel Due }) client (λ e. never e) s

  news_search : (news : events.News) (client : Client) → ((psm : ℕ) (sdu : List ℕ) → news ≡ events.Sdu psm sdu → (psm == search_psm) ≡ true → IsReply serves sdu) → Searches client → Searches (events.hears_news news client)
  news_search events.LinkUp client only s = linked_searches client.stage client refl s
  news_search (events.LinkDown reason) client only s = either Searches (events.is_linked client.stage) (events.over (cause_of_link reason) client) client (over_searches client.cause (cause_of_link reason) client) s
  news_search (events.LinkFailed status) client only s = either Searches (events.is_paging client.stage) (events.over (cause_of_page status) client) client (over_searches client.cause (cause_of_page status) client) s
  news_search (events.ChannelOpen psm mtu) client only s = opened_searches client.stage psm mtu client refl s
  news_search (events.ChannelClosed psm cause) client only s = closed_searches client.stage psm cause client s
  news_search (events.Sdu psm sdu) client only s = sdu_searches client.stage psm sdu client refl (only psm sdu refl) s
  news_search events.FeaturesTold client only s = asks_features client.stage client s
  news_search events.FeaturesLost client only s = either Searches (events.is_asking_features client.stage) (ends outcomes.RetryLimit client) client (ends_search outcomes.RetryLimit client s) s
  news_search events.Timer client only s = fires_search client s

  -- ---- its steps

  step_either : (test : Bool) (a b : Stepped) → Searches a.client → Searches b.client → Searches (if test then a else b).client
  step_either true a b x y = x
  step_either false a b x y = y

  tells_search : (cause : Option Outcome) (client : Client) (parts : List Part) → Searches client → Searches (tells_end cause client parts).client
  tells_search None client parts s = s
  tells_search (Some outcome) client parts s = λ e. never e

  at_search : (stage : Stage) (client : Client) (parts : List Part) → client.stage ≡ stage → Searches client → Searches (steps_at stage client parts).client
  at_search Rest client parts is s = s
  at_search (Link Due) client parts is s = λ e. s (ap is_searching is)
  at_search (Link Asked) client parts is s = s
  at_search (SearchChannel Due) client parts is s = λ e. s (ap is_searching is)
  at_search (SearchChannel Asked) client parts is s = s
  at_search Search client parts is s =
      let asked : Client = record client { query = after_request client.query; left = client.left - 1; rest = request_octets client.query } in
      step_either (is_due client.query) (steps.sends_sdu search_psm _ asked parts) (rests client parts) (λ e. let first = s e in (written first.0, ap after_request first.1)) s
  at_search (SearchEnd Due) client parts is s = λ e. never e
  at_search (SearchEnd Asked) client parts is s = s
  at_search (Features Due) client parts is s = λ e. never e
  at_search (Features Asked) client parts is s = s
  at_search (ObjectChannel Due) client parts is s = λ e. never e
  at_search (ObjectChannel Asked) client parts is s = s
  at_search Object client parts is s =
      let quiet = object_quiet (anchor_of client) client.transport client parts (subst IsLate (sym is) tt, refl) in
      λ e. absurd (late_searches (steps.steps_object client.transport client parts).client.stage quiet.0.0 e)
  at_search (ObjectEnd Due) client parts is s = λ e. never e
  at_search (ObjectEnd Asked) client parts is s = s
  at_search (LinkEnd Due) client parts is s = λ e. never e
  at_search (LinkEnd Asked) client parts is s = s
  at_search Over client parts is s = tells_search client.cause client parts s

  steps_search : (client : Client) (parts : List Part) → Searches client → Searches (steps.steps client parts).client
  steps_search client parts s =
      step_either client.failed (record { client = client; step = steps.NoMemory; left = parts }) (if client.given then rests client parts else steps_at client.stage client parts) s
      (step_either client.given (rests client parts) (steps_at client.stage client parts) s (at_search client.stage client parts refl s))

  pub deed_search : (deed : Deed) (client : Client) → ((psm : ℕ) (sdu : List ℕ) → deed ≡ Hears (events.Sdu psm sdu) → (psm == search_psm) ≡ true → IsReply serves sdu) → Searches client → Searches (deeds.done deed client)
  deed_search (Hears news) client only s = news_search news client (λ psm sdu is. only psm sdu (ap Hears is)) s
  deed_search (Asks parts) client only s = steps_search client parts s
  deed_search Finishes client only s = s
  deed_search Cancels client only s = either Searches (may_cancel client) (ends outcomes.Cancelled client) client (ends_search outcomes.Cancelled client s) s

  -- ---- the target that it hears

  -- none, or what the record of the server names
  abbrev pub AreServed : List Target → Type 0
  AreServed targets = (targets ≡ []) ⊎ (targets ≡ served_target serves ∷ [])

  told_in : (query : Asking) (octets : List ℕ) → Told serves query octets → AreServed (found_in (found_at query octets))
  told_in query octets (Refuses reason found first) = inl (ap found_in found)
  told_in query octets (Names found) = inr (ap found_in found)

  told_if : (here searching : Bool) (octets : List ℕ) (client : Client) → (searching ≡ true → IsFirst client.query) → (here ≡ true → IsReply serves octets) → AreServed (if searching && here then found_in (found_at client.query octets) else [])
  told_if true true octets client first only = told_in client.query octets (told_first serves client.query octets (first refl) (only refl))
  told_if true false octets client first only = inl refl
  told_if false true octets client first only = inl refl
  told_if false false octets client first only = inl refl

  searching_at : (stage : Stage) → is_search stage ≡ true → is_searching stage ≡ true
  searching_at Search e = refl
  searching_at Rest e = never e
  searching_at (Link point) e = never e
  searching_at (SearchChannel point) e = never e
  searching_at (SearchEnd point) e = never e
  searching_at (Features point) e = never e
  searching_at (ObjectChannel point) e = never e
  searching_at Object e = never e
  searching_at (ObjectEnd point) e = never e
  searching_at (LinkEnd point) e = never e
  searching_at Over e = never e

  news_told : (news : events.News) (client : Client) → ((psm : ℕ) (sdu : List ℕ) → news ≡ events.Sdu psm sdu → (psm == search_psm) ≡ true → IsReply serves sdu) → Searches client → AreServed (targets_told news client)
  news_told events.LinkUp client only s = inl refl
  news_told (events.LinkDown reason) client only s = inl refl
  news_told (events.LinkFailed status) client only s = inl refl
  news_told (events.ChannelOpen psm mtu) client only s = inl refl
  news_told (events.ChannelClosed psm cause) client only s = inl refl
  news_told (events.Sdu psm octets) client only s = told_if (psm == search_psm) (is_search client.stage) octets client (λ e. s (searching_at client.stage e)) (only psm octets refl)
  news_told events.FeaturesTold client only s = inl refl
  news_told events.FeaturesLost client only s = inl refl
  news_told events.Timer client only s = inl refl

  pub deed_told : (deed : Deed) (client : Client) → ((psm : ℕ) (sdu : List ℕ) → deed ≡ Hears (events.Sdu psm sdu) → (psm == search_psm) ≡ true → IsReply serves sdu) → Searches client → AreServed (targets_by deed client)
  deed_told (Hears news) client only s = news_told news client (λ psm sdu is. only psm sdu (ap Hears is)) s
  deed_told (Asks parts) client only s = inl refl
  deed_told Finishes client only s = inl refl
  deed_told Cancels client only s = inl refl
