-- A client that is not on the channel of its object sends no frame, and is there only where that channel has opened: its multiplexer is new then.
use Rattle.std.proofs.Common.{Bool, true, false, ◌≡◌, ◌==◌, ◌*◌, ◌-◌, ℕ, ◌&&◌, ◌||◌, not, List, [], Option, Some, None, refl, sym, ap, ◌∙◌, if◌then◌else◌}
use Rattle.std.specs.Prelude.{is_some}
use Rattle.link_talk.specs.bt_base.specs.declared.settings.Transport.{Transport}
use Rattle.link_talk.specs.bt_base.specs.declared.settings.Transport.TheVariants.{L2cap, Rfcomm}
use Rattle.link_talk.specs.push_terms.specs.declared.outcome.Outcome.{Outcome}
use Rattle.link_talk.specs.push_terms.specs.declared.outcome.Outcome.TheVariants as outcomes
use Rattle.push_model.specs.rfcomm_model.specs.Machine.{Mux, new_mux}
use Rattle.push_model.specs.sdp_client.specs.Asking.{is_due, after_resend, request_octets, after_request}
use Rattle.push_model.specs.sdp_client.specs.Hearing.{found_at, after_reply}
use Rattle.push_model.specs.sdp_client.specs.declared.reason.Found.{Found}
use Rattle.push_model.specs.sdp_client.specs.declared.reason.Found.TheVariants.{More, Service, NoService, Refused}
use Rattle.push_model.specs.sdp_elements.specs.declared.target.Target.{Target}
use Rattle.push_model.specs.sdp_elements.specs.Targets.{is_service_psm, is_server_channel}
use Rattle.push_model.specs.declared.closing.CloseCause.{CloseCause}
use Rattle.push_model.specs.declared.course.Point.TheVariants.{Due, Asked}
use Rattle.push_model.specs.declared.course.Stage.{Stage}
use Rattle.push_model.specs.declared.course.Stage.TheVariants.{Rest, Link, SearchChannel, Search, SearchEnd, Features, ObjectChannel, Object, ObjectEnd, LinkEnd, Over}
use Rattle.push_model.specs.Causes.{Ending, InOrder, AtOnce, ending_of, cause_of_link, cause_of_page, cause_of_close, cause_of_query, unawaited_response}
use Rattle.push_model.specs.Client.{Client, ends, ends_by, ends_if, may_cancel, in_order, at_once, stage_after}
use Rattle.push_model.specs.Events as events
use Rattle.push_model.specs.Laws as deeds
use Rattle.push_model.specs.Laws.{Deed, Hears, Asks, Finishes, Cancels}
use Rattle.push_model.specs.Payloads.{Octets}
use Rattle.push_model.specs.Responding.{is_object}
use Rattle.push_model.specs.Steps as steps
use Rattle.push_model.specs.Steps.{Part, Stepped, steps_at, steps_search, tells_end, rests}
use Rattle.push_laws.specs.Carriage.{frames_of, frames_by}
use Rattle.push_laws.proofs.Late.{either}

not_object : (s : Stage) → is_object (at_once s) ≡ false
not_object Rest = refl
not_object (Link Due) = refl
not_object (Link Asked) = refl
not_object (SearchChannel point) = refl
not_object Search = refl
not_object (SearchEnd point) = refl
not_object (Features point) = refl
not_object (ObjectChannel point) = refl
not_object Object = refl
not_object (ObjectEnd point) = refl
not_object (LinkEnd point) = refl
not_object Over = refl

in_order_so : (s : Stage) → is_object s ≡ false → is_object (in_order s) ≡ false
in_order_so Rest e = refl
in_order_so (Link Due) e = refl
in_order_so (Link Asked) e = refl
in_order_so (SearchChannel Due) e = refl
in_order_so (SearchChannel Asked) e = refl
in_order_so Search e = refl
in_order_so (SearchEnd point) e = refl
in_order_so (Features point) e = refl
in_order_so (ObjectChannel Due) e = refl
in_order_so (ObjectChannel Asked) e = refl
in_order_so Object e = e
in_order_so (ObjectEnd point) e = refl
in_order_so (LinkEnd point) e = refl
in_order_so Over e = refl

after_so : (ending : Ending) (s : Stage) → is_object s ≡ false → is_object (stage_after ending s) ≡ false
after_so InOrder s e = in_order_so s e
after_so AtOnce s e = not_object s

-- it is not there, with this multiplexer
abbrev pub IsEarly : Mux → Transport → Client → Type 0
IsEarly mux transport client = (is_object client.stage ≡ false) × (client.mux ≡ mux) × (client.transport ≡ transport)

-- it is there, and its multiplexer is new
pub record IsOpened (mux : Mux) (transport : Transport) (client : Client) : Type 0 where
  pub mtu : ℕ
  pub here : client.stage ≡ Object
  pub mux_is : client.mux ≡ new_mux mux.role (2 * client.channel) mux.largest (events.own_frame mux.largest mtu) mux.account.cap
  pub same : client.transport ≡ transport

pub data Begun (mux : Mux) (client : Client) : Type 0 where
  Early : IsEarly mux Rfcomm client → Begun mux client
  Opened : IsOpened mux Rfcomm client → Begun mux client

never : {A : Type 0} → true ≡ false → A
never e = cc

module _ (mux : Mux) where
  abbrev P : Client → Type 0
  P client = IsEarly mux Rfcomm client

  by_early : (cause : Option Outcome) (o : Outcome) (client : Client) → P client → P (ends_by cause o client)
  by_early None o client e = (after_so (ending_of o) client.stage e.0, e.1, e.2)
  by_early (Some earlier) o client e = (not_object client.stage, e.1, e.2)

  ends_early : (o : Outcome) (client : Client) → P client → P (ends o client)
  ends_early o client e = by_early client.cause o client e

  if_early : (found : Option Outcome) (client : Client) → P client → P (ends_if found client)
  if_early None client e = e
  if_early (Some o) client e = ends_early o client e

  over_early : (cause : Option Outcome) (o : Outcome) (client : Client) → P client → P (events.over_by cause o client)
  over_early None o client e = (refl, e.1, e.2)
  over_early (Some earlier) o client e = (refl, e.1, e.2)

  -- ---- links and channels

  linked_early : (stage : Stage) (client : Client) → P client → P (events.linked_at stage client)
  linked_early (Link Asked) client e = either P (is_some client.cause) (record client { stage = LinkEnd Due }) (record client { stage = SearchChannel Due }) (refl, e.1, e.2) (refl, e.1, e.2)
  linked_early Rest client e = e
  linked_early (Link Due) client e = e
  linked_early (SearchChannel point) client e = e
  linked_early Search client e = e
  linked_early (SearchEnd point) client e = e
  linked_early (Features point) client e = e
  linked_early (ObjectChannel point) client e = e
  linked_early Object client e = e
  linked_early (ObjectEnd point) client e = e
  linked_early (LinkEnd point) client e = e
  linked_early Over client e = e

  left_early : (cause : Option Outcome) (client : Client) → P client → P (events.search_left cause client)
  left_early None client e = (behind_so client.transport, e.1, e.2)
    where
      behind_so : (t : Transport) → is_object (events.stage_behind t) ≡ false
      behind_so L2cap = refl
      behind_so Rfcomm = refl
  left_early (Some cause) client e = (refl, e.1, e.2)

  search_early : (found : Option Outcome) (client : Client) → P client → P (events.search_closed found client)
  search_early None client e = left_early client.cause client e
  search_early (Some o) client e = ends_early o client e

  closed_early : (stage : Stage) (psm : ℕ) (cause : CloseCause) (client : Client) → is_object stage ≡ false → P client → P (events.closed_at stage psm cause client)
  closed_early (SearchChannel Asked) psm cause client away e = either P (psm == events.search_psm) (ends_if (cause_of_close cause) client) client (if_early (cause_of_close cause) client e) e
  closed_early Search psm cause client away e = either P (psm == events.search_psm) (ends_if (cause_of_close cause) client) client (if_early (cause_of_close cause) client e) e
  closed_early (SearchEnd point) psm cause client away e = either P (psm == events.search_psm) (events.search_closed (cause_of_close cause) client) client (search_early (cause_of_close cause) client e) e
  closed_early (ObjectChannel Asked) psm cause client away e = either P (psm == client.psm) (ends_if (cause_of_close cause) client) client (if_early (cause_of_close cause) client e) e
  closed_early Object psm cause client away e = never away
  closed_early (ObjectEnd point) psm cause client away e = either P (psm == client.psm) (record client { stage = LinkEnd Due }) client (refl, e.1, e.2) e
  closed_early Rest psm cause client away e = e
  closed_early (Link point) psm cause client away e = e
  closed_early (SearchChannel Due) psm cause client away e = e
  closed_early (Features point) psm cause client away e = e
  closed_early (ObjectChannel Due) psm cause client away e = e
  closed_early (LinkEnd point) psm cause client away e = e
  closed_early Over psm cause client away e = e

  -- ---- SDUs

  psm_early : (found : Option ℕ) (client : Client) → P client → P (events.found_psm found client)
  psm_early None client e = ends_early outcomes.NoService client e
  psm_early (Some psm) client e = (refl, e.1, e.2)

  channel_early : (found : Option ℕ) (client : Client) → P client → P (events.found_channel found client)
  channel_early None client e = ends_early outcomes.NoService client e
  channel_early (Some channel) client e = (refl, e.1, e.2)

  way_early : (t : Transport) (target : Target) (client : Client) → P client → P (events.found_way t target client)
  way_early L2cap target client e = psm_early (events.kept_of is_service_psm target.l2cap) client e
  way_early Rfcomm target client e = channel_early (events.kept_of is_server_channel target.rfcomm) client e

  finds_early : (found : Found) (client : Client) → P client → P (events.finds found client)
  finds_early More client e = e
  finds_early (Service target) client e = way_early client.transport target client e
  finds_early NoService client e = ends_early outcomes.NoService client e
  finds_early (Refused reason) client e = if_early (cause_of_query reason) client e

  outside_early : (t : Transport) (client : Client) → P client → P (events.hears_outside t client)
  outside_early L2cap client e = ends_early unawaited_response client e
  outside_early Rfcomm client e = e

  sdu_early : (stage : Stage) (psm : ℕ) (sdu : List ℕ) (client : Client) → is_object stage ≡ false → P client → P (events.sdu_at stage psm sdu client)
  sdu_early Search psm sdu client away e =
      either P (psm == events.search_psm) (events.hears_reply sdu client) client (finds_early (found_at client.query sdu) (record client { query = after_reply client.query sdu }) e) e
  sdu_early (ObjectChannel point) psm sdu client away e = either P (psm == client.psm) (events.hears_outside client.transport client) client (outside_early client.transport client e) e
  sdu_early Object psm sdu client away e = never away
  sdu_early (ObjectEnd point) psm sdu client away e = either P (psm == client.psm) (events.hears_outside client.transport client) client (outside_early client.transport client e) e
  sdu_early Rest psm sdu client away e = e
  sdu_early (Link point) psm sdu client away e = e
  sdu_early (SearchChannel point) psm sdu client away e = e
  sdu_early (SearchEnd point) psm sdu client away e = e
  sdu_early (Features point) psm sdu client away e = e
  sdu_early (LinkEnd point) psm sdu client away e = e
  sdu_early Over psm sdu client away e = e

  fires_early : (client : Client) → P client → P (events.fires client)
  fires_early client e =
      let fired : Client = record client { query = after_resend client.query } in
      either P (events.armed client && not (client.given || is_due client.query)) (if client.left == 0 then ends outcomes.RetryLimit client else fired) client
      (either P (client.left == 0) (ends outcomes.RetryLimit client) fired (ends_early outcomes.RetryLimit client e) e) e

  -- ---- its channel opens

  opens_by : (mtu : ℕ) (client : Client) → P client → (t : Transport) → client.transport ≡ t → Begun mux (events.object_opened t mtu client)
  opens_by mtu client e L2cap is = absurd (let f : L2cap ≡ Rfcomm = sym is ∙ e.2 in cc)
  opens_by mtu client e Rfcomm is = Opened (record { mtu = mtu; here = refl; mux_is = ap (λ (m : Mux). new_mux m.role (2 * client.channel) m.largest (events.own_frame m.largest mtu) m.account.cap) e.1; same = e.2 })

  begun_either : (test : Bool) (a b : Client) → Begun mux a → Begun mux b → Begun mux (if test then a else b)
  begun_either true a b x y = x
  begun_either false a b x y = y

  opened_early : (stage : Stage) (psm mtu : ℕ) (client : Client) → P client → Begun mux (events.opened_at stage psm mtu client)
  opened_early (SearchChannel Asked) psm mtu client e = Early (either P (psm == events.search_psm) (record client { stage = Search }) client (refl, e.1, e.2) e)
  opened_early (ObjectChannel Asked) psm mtu client e = begun_either (psm == client.psm) (events.object_opened client.transport mtu client) client (opens_by mtu client e client.transport refl) (Early e)
  opened_early Rest psm mtu client e = Early e
  opened_early (Link point) psm mtu client e = Early e
  opened_early (SearchChannel Due) psm mtu client e = Early e
  opened_early Search psm mtu client e = Early e
  opened_early (SearchEnd point) psm mtu client e = Early e
  opened_early (Features point) psm mtu client e = Early e
  opened_early (ObjectChannel Due) psm mtu client e = Early e
  opened_early Object psm mtu client e = Early e
  opened_early (ObjectEnd point) psm mtu client e = Early e
  opened_early (LinkEnd point) psm mtu client e = Early e
  opened_early Over psm mtu client e = Early e

  news_early : (news : events.News) (client : Client) → P client → Begun mux (events.hears_news news client)
  news_early events.LinkUp client e = Early (linked_early client.stage client e)
  news_early (events.LinkDown reason) client e = Early (either P (events.is_linked client.stage) (events.over (cause_of_link reason) client) client (over_early client.cause (cause_of_link reason) client e) e)
  news_early (events.LinkFailed status) client e = Early (either P (events.is_paging client.stage) (events.over (cause_of_page status) client) client (over_early client.cause (cause_of_page status) client e) e)
  news_early (events.ChannelOpen psm mtu) client e = opened_early client.stage psm mtu client e
  news_early (events.ChannelClosed psm cause) client e = Early (closed_early client.stage psm cause client e.0 e)
  news_early (events.Sdu psm sdu) client e = Early (sdu_early client.stage psm sdu client e.0 e)
  news_early events.FeaturesTold client e = Early (either P (events.is_asking_features client.stage) (record client { stage = ObjectChannel Due }) client (refl, e.1, e.2) e)
  news_early events.FeaturesLost client e = Early (either P (events.is_asking_features client.stage) (ends outcomes.RetryLimit client) client (ends_early outcomes.RetryLimit client e) e)
  news_early events.Timer client e = Early (fires_early client e)

  -- ---- its steps

  -- it goes on, and sends no frame
  abbrev Quiet : Stepped → Type 0
  Quiet s = P s.client × (frames_of s.step ≡ [])

  quiet_either : (test : Bool) (a b : Stepped) → Quiet a → Quiet b → Quiet (if test then a else b)
  quiet_either true a b x y = x
  quiet_either false a b x y = y

  tells_quiet : (cause : Option Outcome) (client : Client) (parts : List Part) → P client → Quiet (tells_end cause client parts)
  tells_quiet None client parts e = (e, refl)
  tells_quiet (Some outcome) client parts e = ((refl, e.1, e.2), refl)

  at_quiet : (stage : Stage) (client : Client) (parts : List Part) → is_object stage ≡ false → P client → Quiet (steps_at stage client parts)
  at_quiet Rest client parts away e = (e, refl)
  at_quiet (Link Due) client parts away e = ((refl, e.1, e.2), refl)
  at_quiet (Link Asked) client parts away e = (e, refl)
  at_quiet (SearchChannel Due) client parts away e = ((refl, e.1, e.2), refl)
  at_quiet (SearchChannel Asked) client parts away e = (e, refl)
  at_quiet Search client parts away e =
      quiet_either (is_due client.query)
      (steps.sends_sdu events.search_psm (Octets (request_octets client.query)) (record client { query = after_request client.query; left = client.left - 1; rest = request_octets client.query }) parts) (rests client parts) (e, refl) (e, refl)
  at_quiet (SearchEnd Due) client parts away e = ((refl, e.1, e.2), refl)
  at_quiet (SearchEnd Asked) client parts away e = (e, refl)
  at_quiet (Features Due) client parts away e = ((refl, e.1, e.2), refl)
  at_quiet (Features Asked) client parts away e = (e, refl)
  at_quiet (ObjectChannel Due) client parts away e = ((refl, e.1, e.2), refl)
  at_quiet (ObjectChannel Asked) client parts away e = (e, refl)
  at_quiet Object client parts away e = never away
  at_quiet (ObjectEnd Due) client parts away e = ((refl, e.1, e.2), refl)
  at_quiet (ObjectEnd Asked) client parts away e = (e, refl)
  at_quiet (LinkEnd Due) client parts away e = ((refl, e.1, e.2), refl)
  at_quiet (LinkEnd Asked) client parts away e = (e, refl)
  at_quiet Over client parts away e = tells_quiet client.cause client parts e

  steps_quiet : (client : Client) (parts : List Part) → P client → Quiet (steps.steps client parts)
  steps_quiet client parts e =
      quiet_either client.failed (record { client = client; step = steps.NoMemory; left = parts }) (if client.given then rests client parts else steps_at client.stage client parts) (e, refl)
      (quiet_either client.given (rests client parts) (steps_at client.stage client parts) (e, refl) (at_quiet client.stage client parts e.0 e))

  pub early_deed : (deed : Deed) (client : Client) → P client → Begun mux (deeds.done deed client)
  early_deed (Hears news) client e = news_early news client e
  early_deed (Asks parts) client e = Early (steps_quiet client parts e).0
  early_deed Finishes client e = Early e
  early_deed Cancels client e = Early (either P (may_cancel client) (ends outcomes.Cancelled client) client (ends_early outcomes.Cancelled client e) e)

  pub early_frames : (deed : Deed) (client : Client) → P client → frames_by deed client ≡ []
  early_frames (Hears news) client e = refl
  early_frames (Asks parts) client e = (steps_quiet client parts e).1
  early_frames Finishes client e = refl
  early_frames Cancels client e = refl
