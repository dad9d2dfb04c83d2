-- Ahead of the channel of its object a client made no request, and when that opens nothing is left of its search.
use Rattle.std.proofs.Common.{inl, inr, ◌⊎◌, Bool, true, false, ◌≡◌, ◌==◌, ℕ, ◌-◌, ◌&&◌, ◌||◌, List, [], Option, Some, None, is_some, refl, sym, ap, ◌∙◌, if◌then◌else◌}
use Rattle.std.specs.Prelude.{not, min, nat_lt}
use Rattle.push_model.specs.rfcomm_frames.specs.FrameReading.{is_empty}
use Rattle.link_talk.specs.bt_base.specs.declared.settings.Transport.{Transport}
use Rattle.link_talk.specs.bt_base.specs.declared.settings.Transport.TheVariants.{L2cap, Rfcomm}
use Rattle.link_talk.specs.push_terms.specs.declared.outcome.Outcome.{Outcome}
use Rattle.link_talk.specs.push_terms.specs.declared.outcome.Outcome.TheVariants as outcomes
use Rattle.push_model.specs.obex_session.specs.Asking.{Asking}
use Rattle.push_model.specs.sdp_client.specs.declared.reason.Found.{Found}
use Rattle.push_model.specs.sdp_client.specs.declared.reason.Found.TheVariants.{More, Service, NoService, Refused}
use Rattle.push_model.specs.sdp_client.specs.Asking.{is_due, request_octets, after_request, after_resend}
use Rattle.push_model.specs.sdp_client.specs.Hearing.{found_at, after_reply}
use Rattle.push_model.specs.sdp_elements.specs.declared.target.Target.{Target}
use Rattle.push_model.specs.sdp_elements.specs.Targets.{is_service_psm, is_server_channel}
use Rattle.push_model.specs.declared.closing.CloseCause.{CloseCause}
use Rattle.push_model.specs.declared.course.Contact.TheVariants.{Unmet}
use Rattle.push_model.specs.declared.course.Point.TheVariants.{Due, Asked}
use Rattle.push_model.specs.declared.course.Stage.{Stage}
use Rattle.push_model.specs.declared.course.Stage.TheVariants.{Rest, Link, SearchChannel, Search, SearchEnd, Features, ObjectChannel, Object, ObjectEnd, LinkEnd, Over}
use Rattle.push_model.specs.Causes.{Ending, InOrder, AtOnce, ending_of, cause_of_link, cause_of_page, cause_of_close, cause_of_query, small_channel, unawaited_response}
use Rattle.push_model.specs.Client.{Client, ends, ends_by, ends_if, may_cancel, in_order, at_once, stage_after, is_direct}
use Rattle.push_model.specs.Events as events
use Rattle.push_model.specs.Laws as deeds
use Rattle.push_model.specs.Laws.{Deed, Hears, Asks, Finishes, Cancels}
use Rattle.push_model.specs.Payloads.{Octets}
use Rattle.push_model.specs.Responding.{is_object}
use Rattle.push_model.specs.Steps as steps
use Rattle.push_model.specs.Steps.{Part, Step, Stepped, steps_at, tells_end, rests, gives, stepped}
use Rattle.push_laws.proofs.Late.{either}

abbrev pub is_over : Stage → Bool
is_over Rest = true
is_over (Link point) = false
is_over (SearchChannel point) = false
is_over Search = false
is_over (SearchEnd point) = false
is_over (Features point) = false
is_over (ObjectChannel point) = false
is_over Object = false
is_over (ObjectEnd point) = false
is_over (LinkEnd point) = false
is_over Over = true

-- the channel of the object was asked for, or is there
abbrev pub is_opening : Stage → Bool
is_opening Rest = false
is_opening (Link point) = false
is_opening (SearchChannel point) = false
is_opening Search = false
is_opening (SearchEnd point) = false
is_opening (Features point) = false
is_opening (ObjectChannel Due) = false
is_opening (ObjectChannel Asked) = true
is_opening Object = true
is_opening (ObjectEnd point) = false
is_opening (LinkEnd point) = false
is_opening Over = false

-- It made no request, met no server and holds nothing of a response; a request to the service records is left while it is put out, and none is where the
-- channel of the object opens.
abbrev pub IsUntouched : Asking → Client → Type 0
IsUntouched session client = (client.going ≡ false) × (client.held ≡ []) × ((client.session ≡ session) × (client.contact ≡ Unmet)) × (client.given ≡ false → (client.rest ≡ []) ⊎ (is_over client.stage ≡ true)) × (is_opening client.stage ≡ true → client.rest ≡ [])

never : {A : Type 0} → true ≡ false → A
never e = cc

no_opening : {A : Type 0} (b : Bool) → b ≡ false → b ≡ true → A
no_opening b shut open_ = never (sym open_ ∙ shut)

over_after : (ending : Ending) (stage : Stage) → is_over stage ≡ true → is_over (stage_after ending stage) ≡ true
over_after InOrder Rest e = refl
over_after InOrder Over e = refl
over_after AtOnce Rest e = refl
over_after AtOnce Over e = refl
over_after ending (Link point) e = absurd (let f : false ≡ true = e in cc)
over_after ending (SearchChannel point) e = absurd (let f : false ≡ true = e in cc)
over_after ending Search e = absurd (let f : false ≡ true = e in cc)
over_after ending (SearchEnd point) e = absurd (let f : false ≡ true = e in cc)
over_after ending (Features point) e = absurd (let f : false ≡ true = e in cc)
over_after ending (ObjectChannel point) e = absurd (let f : false ≡ true = e in cc)
over_after ending Object e = absurd (let f : false ≡ true = e in cc)
over_after ending (ObjectEnd point) e = absurd (let f : false ≡ true = e in cc)
over_after ending (LinkEnd point) e = absurd (let f : false ≡ true = e in cc)

closed_at_once : (stage : Stage) → is_opening (at_once stage) ≡ false
closed_at_once Rest = refl
closed_at_once (Link Due) = refl
closed_at_once (Link Asked) = refl
closed_at_once (SearchChannel point) = refl
closed_at_once Search = refl
closed_at_once (SearchEnd point) = refl
closed_at_once (Features point) = refl
closed_at_once (ObjectChannel point) = refl
closed_at_once Object = refl
closed_at_once (ObjectEnd point) = refl
closed_at_once (LinkEnd point) = refl
closed_at_once Over = refl

closed_in_order : (stage : Stage) → is_object stage ≡ false → is_opening (in_order stage) ≡ false
closed_in_order Rest away = refl
closed_in_order (Link Due) away = refl
closed_in_order (Link Asked) away = refl
closed_in_order (SearchChannel Due) away = refl
closed_in_order (SearchChannel Asked) away = refl
closed_in_order Search away = refl
closed_in_order (SearchEnd point) away = refl
closed_in_order (Features point) away = refl
closed_in_order (ObjectChannel Due) away = refl
closed_in_order (ObjectChannel Asked) away = refl
closed_in_order Object away = never away
closed_in_order (ObjectEnd point) away = refl
closed_in_order (LinkEnd point) away = refl
closed_in_order Over away = refl

closed_after : (ending : Ending) (stage : Stage) → is_object stage ≡ false → is_opening (stage_after ending stage) ≡ false
closed_after InOrder stage away = closed_in_order stage away
closed_after AtOnce stage away = closed_at_once stage

module _ (session : Asking) where
  abbrev P : Client → Type 0
  P client = IsUntouched session client

  -- its stage alone changes
  moved : (stage : Stage) (client : Client) → is_over client.stage ≡ false → is_opening stage ≡ false → P client → P (record client { stage = stage })
  moved stage client still closed c =
      (c.0, c.1, c.2, (λ free. elim (c.3 free) [ inl none ↦ inl none | inr over ↦ never (sym over ∙ still) ]), (λ e. no_opening (is_opening stage) closed e))

  by_same : (cause : Option Outcome) (o : Outcome) (client : Client) → is_object client.stage ≡ false → P client → P (ends_by cause o client)
  by_same None o client away c =
      (c.0, c.1, c.2, (λ free. elim (c.3 free) [ inl none ↦ inl none | inr over ↦ inr (over_after (ending_of o) client.stage over) ]), (λ e. no_opening (is_opening (stage_after (ending_of o) client.stage)) (closed_after (ending_of o) client.stage away) e))
  by_same (Some earlier) o client away c =
      (c.0, c.1, c.2, (λ free. elim (c.3 free) [ inl none ↦ inl none | inr over ↦ inr (over_after AtOnce client.stage over) ]), (λ e. no_opening (is_opening (at_once client.stage)) (closed_at_once client.stage) e))

  ends_same : (o : Outcome) (client : Client) → is_object client.stage ≡ false → P client → P (ends o client)
  ends_same o client away c = by_same client.cause o client away c

  if_same : (found : Option Outcome) (client : Client) → is_object client.stage ≡ false → P client → P (ends_if found client)
  if_same None client away c = c
  if_same (Some o) client away c = ends_same o client away c

  over_same : (cause : Option Outcome) (o : Outcome) (client : Client) → P client → P (events.over_by cause o client)
  over_same None o client c = (c.0, c.1, c.2, (λ free. inr refl), (λ e. never (sym e)))
  over_same (Some earlier) o client c = (c.0, c.1, c.2, (λ free. inr refl), (λ e. never (sym e)))

  linked_same : (stage : Stage) (client : Client) → client.stage ≡ stage → P client → P (events.linked_at stage client)
  linked_same (Link Asked) client is c =
      either P (is_some client.cause) (record client { stage = LinkEnd Due }) (record client { stage = SearchChannel Due }) (moved (LinkEnd Due) client (ap is_over is) refl c) (moved (SearchChannel Due) client (ap is_over is) refl c)
  linked_same Rest client is c = c
  linked_same (Link Due) client is c = c
  linked_same (SearchChannel point) client is c = c
  linked_same Search client is c = c
  linked_same (SearchEnd point) client is c = c
  linked_same (Features point) client is c = c
  linked_same (ObjectChannel point) client is c = c
  linked_same Object client is c = c
  linked_same (ObjectEnd point) client is c = c
  linked_same (LinkEnd point) client is c = c
  linked_same Over client is c = c

  behind_closed : (t : Transport) → is_opening (events.stage_behind t) ≡ false
  behind_closed L2cap = refl
  behind_closed Rfcomm = refl

  left_same : (cause : Option Outcome) (client : Client) → is_over client.stage ≡ false → P client → P (events.search_left cause client)
  left_same None client still c = moved (events.stage_behind client.transport) client still (behind_closed client.transport) c
  left_same (Some cause) client still c = moved (LinkEnd Due) client still refl c

  search_same : (found : Option Outcome) (client : Client) → is_over client.stage ≡ false → is_object client.stage ≡ false → P client → P (events.search_closed found client)
  search_same None client still away c = left_same client.cause client still c
  search_same (Some o) client still away c = ends_same o client away c

  closed_same : (stage : Stage) (psm : ℕ) (cause : CloseCause) (client : Client) → client.stage ≡ stage → is_object client.stage ≡ false → P client → P (events.closed_at stage psm cause client)
  closed_same (SearchChannel Asked) psm cause client is away c = either P (psm == events.search_psm) (ends_if (cause_of_close cause) client) client (if_same (cause_of_close cause) client away c) c
  closed_same Search psm cause client is away c = either P (psm == events.search_psm) (ends_if (cause_of_close cause) client) client (if_same (cause_of_close cause) client away c) c
  closed_same (SearchEnd point) psm cause client is away c =
      either P (psm == events.search_psm) (events.search_closed (cause_of_close cause) client) client (search_same (cause_of_close cause) client (ap is_over is) away c) c
  closed_same (ObjectChannel Asked) psm cause client is away c = either P (psm == client.psm) (ends_if (cause_of_close cause) client) client (if_same (cause_of_close cause) client away c) c
  closed_same Object psm cause client is away c = never (sym (ap is_object is) ∙ away)
  closed_same (ObjectEnd point) psm cause client is away c = either P (psm == client.psm) (record client { stage = LinkEnd Due }) client (moved (LinkEnd Due) client (ap is_over is) refl c) c
  closed_same Rest psm cause client is away c = c
  closed_same (Link point) psm cause client is away c = c
  closed_same (SearchChannel Due) psm cause client is away c = c
  closed_same (Features point) psm cause client is away c = c
  closed_same (ObjectChannel Due) psm cause client is away c = c
  closed_same (LinkEnd point) psm cause client is away c = c
  closed_same Over psm cause client is away c = c

  -- ---- SDUs

  psm_same : (found : Option ℕ) (client : Client) → is_over client.stage ≡ false → is_object client.stage ≡ false → P client → P (events.found_psm found client)
  psm_same None client still away c = ends_same outcomes.NoService client away c
  psm_same (Some psm) client still away c = moved (SearchEnd Due) client still refl c

  channel_same : (found : Option ℕ) (client : Client) → is_over client.stage ≡ false → is_object client.stage ≡ false → P client → P (events.found_channel found client)
  channel_same None client still away c = ends_same outcomes.NoService client away c
  channel_same (Some channel) client still away c = moved (SearchEnd Due) client still refl c

  way_same : (t : Transport) (target : Target) (client : Client) → is_over client.stage ≡ false → is_object client.stage ≡ false → P client → P (events.found_way t target client)
  way_same L2cap target client still away c = psm_same (events.kept_of is_service_psm target.l2cap) client still away c
  way_same Rfcomm target client still away c = channel_same (events.kept_of is_server_channel target.rfcomm) client still away c

  finds_same : (found : Found) (client : Client) → is_over client.stage ≡ false → is_object client.stage ≡ false → P client → P (events.finds found client)
  finds_same More client still away c = c
  finds_same (Service target) client still away c = way_same client.transport target client still away c
  finds_same NoService client still away c = ends_same outcomes.NoService client away c
  finds_same (Refused reason) client still away c = if_same (cause_of_query reason) client away c

  outside_same : (t : Transport) (client : Client) → is_object client.stage ≡ false → P client → P (events.hears_outside t client)
  outside_same L2cap client away c = ends_same unawaited_response client away c
  outside_same Rfcomm client away c = c

  sdu_same : (stage : Stage) (psm : ℕ) (sdu : List ℕ) (client : Client) → client.stage ≡ stage → is_object client.stage ≡ false → P client → P (events.sdu_at stage psm sdu client)
  sdu_same Search psm sdu client is away c =
      either P (psm == events.search_psm) (events.hears_reply sdu client) client (finds_same (found_at client.query sdu) (record client { query = after_reply client.query sdu }) (ap is_over is) away c) c
  sdu_same (ObjectChannel point) psm sdu client is away c = either P (psm == client.psm) (events.hears_outside client.transport client) client (outside_same client.transport client away c) c
  sdu_same Object psm sdu client is away c = never (sym (ap is_object is) ∙ away)
  sdu_same (ObjectEnd point) psm sdu client is away c = either P (psm == client.psm) (events.hears_outside client.transport client) client (outside_same client.transport client away c) c
  sdu_same Rest psm sdu client is away c = c
  sdu_same (Link point) psm sdu client is away c = c
  sdu_same (SearchChannel point) psm sdu client is away c = c
  sdu_same (SearchEnd point) psm sdu client is away c = c
  sdu_same (Features point) psm sdu client is away c = c
  sdu_same (LinkEnd point) psm sdu client is away c = c
  sdu_same Over psm sdu client is away c = c

  fires_same : (client : Client) → is_object client.stage ≡ false → P client → P (events.fires client)
  fires_same client away c =
      let fired : Client = record client { query = after_resend client.query } in
      either P (events.armed client && not (client.given || is_due client.query)) (if client.left == 0 then ends outcomes.RetryLimit client else fired) client
      (either P (client.left == 0) (ends outcomes.RetryLimit client) fired (ends_same outcomes.RetryLimit client away c) c) c

  asking_over : (stage : Stage) → events.is_asking_features stage ≡ true → is_over stage ≡ false
  asking_over (Features point) e = refl
  asking_over Rest e = never (sym e)
  asking_over (Link point) e = never (sym e)
  asking_over (SearchChannel point) e = never (sym e)
  asking_over Search e = never (sym e)
  asking_over (SearchEnd point) e = never (sym e)
  asking_over (ObjectChannel point) e = never (sym e)
  asking_over Object e = never (sym e)
  asking_over (ObjectEnd point) e = never (sym e)
  asking_over (LinkEnd point) e = never (sym e)
  asking_over Over e = never (sym e)

  told_same : (test : Bool) (client : Client) → events.is_asking_features client.stage ≡ test → P client → P (if test then record client { stage = ObjectChannel Due } else client)
  told_same true client is c = moved (ObjectChannel Due) client (asking_over client.stage is) refl c
  told_same false client is c = c

  -- ---- its channel opens

  -- the same, or it is on that channel
  abbrev Opens : Client → Type 0
  Opens client = P client

  here_same : (client : Client) → is_opening client.stage ≡ true → is_over client.stage ≡ false → P client → (t : Transport) (mtu : ℕ) → is_object client.stage ≡ false → P (events.object_opened t mtu client)
  here_same client opening still c L2cap mtu away =
      either P (nat_lt mtu 255) (ends small_channel client) (record client { stage = Object; limit = min mtu 32767 }) (ends_same small_channel client away c) (c.0, c.1, c.2, (λ free. elim (c.3 free) [ inl none ↦ inl none | inr over ↦ never (sym over ∙ still) ]), (λ e. c.4 opening))
  here_same client opening still c Rfcomm mtu away = (c.0, c.1, c.2, (λ free. elim (c.3 free) [ inl none ↦ inl none | inr over ↦ never (sym over ∙ still) ]), (λ e. c.4 opening))

  opened_same : (stage : Stage) (psm mtu : ℕ) (client : Client) → client.stage ≡ stage → is_object client.stage ≡ false → P client → P (events.opened_at stage psm mtu client)
  opened_same (SearchChannel Asked) psm mtu client is away c = either P (psm == events.search_psm) (record client { stage = Search }) client (moved Search client (ap is_over is) refl c) c
  opened_same (ObjectChannel Asked) psm mtu client is away c = either P (psm == client.psm) (events.object_opened client.transport mtu client) client (here_same client (ap is_opening is) (ap is_over is) c client.transport mtu away) c
  opened_same Rest psm mtu client is away c = c
  opened_same (Link point) psm mtu client is away c = c
  opened_same (SearchChannel Due) psm mtu client is away c = c
  opened_same Search psm mtu client is away c = c
  opened_same (SearchEnd point) psm mtu client is away c = c
  opened_same (Features point) psm mtu client is away c = c
  opened_same (ObjectChannel Due) psm mtu client is away c = c
  opened_same Object psm mtu client is away c = c
  opened_same (ObjectEnd point) psm mtu client is away c = c
  opened_same (LinkEnd point) psm mtu client is away c = c
  opened_same Over psm mtu client is away c = c

  news_same : (news : events.News) (client : Client) → is_object client.stage ≡ false → P client → P (events.hears_news news client)
  news_same events.LinkUp client away c = linked_same client.stage client refl c
  news_same (events.LinkDown reason) client away c = either P (events.is_linked client.stage) (events.over (cause_of_link reason) client) client (over_same client.cause (cause_of_link reason) client c) c
  news_same (events.LinkFailed status) client away c = either P (events.is_paging client.stage) (events.over (cause_of_page status) client) client (over_same client.cause (cause_of_page status) client c) c
  news_same (events.ChannelOpen psm mtu) client away c = opened_same client.stage psm mtu client refl away c
  news_same (events.ChannelClosed psm cause) client away c = closed_same client.stage psm cause client refl away c
  news_same (events.Sdu psm sdu) client away c = sdu_same client.stage psm sdu client refl away c
  news_same events.FeaturesTold client away c = told_same (events.is_asking_features client.stage) client refl c
  news_same events.FeaturesLost client away c = either P (events.is_asking_features client.stage) (ends outcomes.RetryLimit client) client (ends_same outcomes.RetryLimit client away c) c
  news_same events.Timer client away c = fires_same client away c

  -- ---- its steps

  given_same : (step : Step) (stage : Stage) (client : Client) (parts : List Part) → (is_opening stage ≡ true → client.rest ≡ []) → P client → P (gives step stage client parts).client
  given_same step stage client parts none c = (c.0, c.1, c.2, (λ free. never free), none)

  none_left : (client : Client) → client.given ≡ false → is_over client.stage ≡ false → P client → client.rest ≡ []
  none_left client free still c = elim (c.3 free) [ inl none ↦ none | inr over ↦ never (sym over ∙ still) ]

  tells_same : (cause : Option Outcome) (client : Client) (parts : List Part) → P client → P (tells_end cause client parts).client
  tells_same None client parts c = c
  tells_same (Some outcome) client parts c = (c.0, c.1, c.2, (λ free. inr refl), (λ e. never (sym e)))

  search_step : (test : Bool) (client : Client) (parts : List Part) → is_opening client.stage ≡ false → P client
      → P (if test then steps.sends_sdu events.search_psm (Octets (request_octets client.query)) (record client { query = after_request client.query; left = client.left - 1; rest = request_octets client.query }) parts else rests client parts).client
  search_step true client parts closed c = (c.0, c.1, c.2, (λ free. never free), (λ e. no_opening (is_opening client.stage) closed e))
  search_step false client parts closed c = c

  at_same : (stage : Stage) (client : Client) (parts : List Part) → client.stage ≡ stage → client.given ≡ false → is_object client.stage ≡ false → P client → P (steps_at stage client parts).client
  at_same Rest client parts is free away c = c
  at_same (Link Due) client parts is free away c = given_same steps.MakeLink (Link Asked) client parts (λ e. never (sym e)) c
  at_same (Link Asked) client parts is free away c = c
  at_same (SearchChannel Due) client parts is free away c = given_same (steps.OpenChannel events.search_psm) (SearchChannel Asked) client parts (λ e. never (sym e)) c
  at_same (SearchChannel Asked) client parts is free away c = c
  at_same Search client parts is free away c = search_step (is_due client.query) client parts (ap is_opening is) c
  at_same (SearchEnd Due) client parts is free away c = given_same (steps.CloseChannel events.search_psm) (SearchEnd Asked) client parts (λ e. never (sym e)) c
  at_same (SearchEnd Asked) client parts is free away c = c
  at_same (Features Due) client parts is free away c = given_same steps.AskFeatures (Features Asked) client parts (λ e. never (sym e)) c
  at_same (Features Asked) client parts is free away c = c
  at_same (ObjectChannel Due) client parts is free away c = given_same (steps.OpenChannel client.psm) (ObjectChannel Asked) client parts (λ e. none_left client free (ap is_over is) c) c
  at_same (ObjectChannel Asked) client parts is free away c = c
  at_same Object client parts is free away c = never (sym (ap is_object is) ∙ away)
  at_same (ObjectEnd Due) client parts is free away c = given_same (steps.CloseChannel client.psm) (ObjectEnd Asked) client parts (λ e. never (sym e)) c
  at_same (ObjectEnd Asked) client parts is free away c = c
  at_same (LinkEnd Due) client parts is free away c = given_same steps.BreakLink (LinkEnd Asked) client parts (λ e. never (sym e)) c
  at_same (LinkEnd Asked) client parts is free away c = c
  at_same Over client parts is free away c = tells_same client.cause client parts c

  steps_same : (failed given : Bool) (client : Client) (parts : List Part) → client.given ≡ given → is_object client.stage ≡ false → P client
      → P (if failed then record { client = client; step = steps.NoMemory; left = parts } else if given then rests client parts else steps_at client.stage client parts).client
  steps_same true given client parts is away c = c
  steps_same false true client parts is away c = c
  steps_same false false client parts is away c = at_same client.stage client parts refl is away c

  stepped_same : (object : Bool) (client : Client) → is_object client.stage ≡ object → object ≡ false → P client → P (stepped client)
  stepped_same true client is away c = never away
  stepped_same false client is away c =
      let none : (if is_object client.stage && not (is_direct client.transport) then client.rest else []) ≡ [] = ap (λ (b : Bool). if b && not (is_direct client.transport) then client.rest else []) is in
      (ap (λ (b : Bool). (b && not (is_direct client.transport)) && (client.going && (not (is_empty client.rest) || not (is_empty client.mux.waiting)))) is, c.1, c.2, (λ free. inl none), (λ e. none))

  pub deed_same : (deed : Deed) (client : Client) → is_object client.stage ≡ false → P client → P (deeds.done deed client)
  deed_same (Hears news) client away c = news_same news client away c
  deed_same (Asks parts) client away c = steps_same client.failed client.given client parts refl away c
  deed_same Finishes client away c = stepped_same (is_object client.stage) client refl away c
  deed_same Cancels client away c = either P (may_cancel client) (ends outcomes.Cancelled client) client (ends_same outcomes.Cancelled client away c) c
