-- What a client over RFCOMM holds of a packet that is not whole: octets of frames that came in on its link, in their order.
use Rattle.std.proofs.Common.{◌≡◌, ◌⊎◌, ◌≤◌, arith, ℕ, ◌-◌, zero, suc, Bool, true, false, not, ◌&&◌, ◌||◌, ◌==◌, List, [], ◌∷◌, ◌++◌, length, Option, Some, None, Result, Ok, Err, inl, inr, refl, sym, ap, ap₂, subst, ◌∙◌, append_assoc, append-nil, if◌then◌else◌}
use Rattle.std.specs.Prelude.{is_some, nat_lt, min}
use Rattle.std.specs.List.{AllByRecursion, filter_map, flat_map}
use Rattle.std.proofs.lemmas.Bool.{eqb-true}
use Rattle.std.proofs.lemmas.List.Concat.{flat_map-append}
use Rattle.std.proofs.lemmas.List.Elements.{filter_map-append}
use Rattle.scenario_laws.specs.bt_base.specs.declared.ports.PortFault.{PortFault}
use Rattle.scenario_laws.specs.bt_base.specs.declared.ports.PortFault.TheVariants as fault
use Rattle.scenario_laws.specs.bt_base.specs.declared.settings.Settings.{Settings}
use Rattle.scenario_laws.specs.bt_base.specs.declared.settings.Transport.{Transport}
use Rattle.scenario_laws.specs.bt_base.specs.declared.settings.Transport.TheVariants.{L2cap, Rfcomm}
use Rattle.scenario_laws.specs.push_terms.specs.declared.outcome.Outcome.{Outcome}
use Rattle.scenario_laws.specs.push_terms.specs.declared.outcome.Outcome.TheVariants as outcomes
use Rattle.scenario_laws.specs.obex_session.specs.declared.client.Answered.{Answered}
use Rattle.scenario_laws.specs.obex_session.specs.declared.client.Answered.TheVariants as answer
use Rattle.scenario_laws.specs.obex_session.specs.Views.{answer_at, after_at}
use Rattle.scenario_laws.specs.rfcomm_model.specs.declared.state.MuxReason.{MuxReason}
use Rattle.scenario_laws.specs.rfcomm_model.specs.Hearing.{Up, nothing, opened, bytes, closed, up, hears}
use Rattle.scenario_laws.specs.sdp_client.specs.Asking.{is_due, after_request, after_resend, request_octets}
use Rattle.scenario_laws.specs.sdp_client.specs.Hearing.{found_at, after_reply}
use Rattle.scenario_laws.specs.sdp_client.specs.declared.reason.Found.{Found}
use Rattle.scenario_laws.specs.sdp_client.specs.declared.reason.Found.TheVariants as found
use Rattle.scenario_laws.specs.sdp_elements.specs.Targets.{is_service_psm, is_server_channel}
use Rattle.scenario_laws.specs.channel_model.specs.declared.event.ChannelEvent.{ChannelEvent}
use Rattle.scenario_laws.specs.channel_model.specs.declared.event.ChannelEvent.TheVariants as channels
use Rattle.scenario_laws.specs.channel_model.specs.Calls.{peer_mtu, waits}
use Rattle.scenario_laws.specs.channel_model.specs.Value.{Channels}
use Rattle.scenario_laws.specs.channel_model.proofs.Lookups.{and_off}
use Rattle.scenario_laws.specs.link_talk.specs.Sayings.{Saying}
use Rattle.scenario_laws.specs.push_model.specs.declared.closing.CloseCause.{CloseCause}
use Rattle.scenario_laws.specs.push_model.specs.declared.course.Point.TheVariants.{Due, Asked}
use Rattle.scenario_laws.specs.push_model.specs.declared.course.Stage.{Stage}
use Rattle.scenario_laws.specs.push_model.specs.declared.course.Stage.TheVariants.{Rest, Link, SearchChannel, Search, SearchEnd, Features, ObjectChannel, Object, ObjectEnd, LinkEnd, Over}
use Rattle.scenario_laws.specs.push_model.specs.Causes.{cause_of_close, cause_of_link, cause_of_mux, cause_of_obex, cause_of_page, cause_of_query, small_channel, unknown_parameters, unawaited_response}
use Rattle.scenario_laws.specs.push_model.specs.Client.{Client, begins, begun_by, ends, ends_by, ends_if, may_cancel}
use Rattle.scenario_laws.specs.push_model.specs.Events as events
use Rattle.scenario_laws.specs.push_model.specs.Events.{News, hears_news, search_psm, kept_of, over, over_by, is_linked, is_paging, is_asking_features, linked_at, opened_at, object_opened, closed_at, search_closed, search_left, sdu_at, hears_outside, finds, found_psm, found_channel, found_way, hears_reply, fires}
use Rattle.scenario_laws.specs.push_model.specs.Laws.{Deed, Hears, Asks, Finishes, Cancels, done}
use Rattle.scenario_laws.specs.push_model.specs.Responding as responding
use Rattle.scenario_laws.specs.push_model.specs.Responding.{is_object, is_left, is_success, is_early, hears_answer, hears_response, hears_front, hears_stream, hears_end, hears_up, hears_frame}
use Rattle.scenario_laws.specs.push_model.specs.Steps as course
use Rattle.scenario_laws.specs.push_model.specs.Steps.{Part, Step, Wait, MakeLink, AskFeatures, OpenChannel, SendSdu, CloseChannel, BreakLink, Ended, NoMemory, Stepped, steps, steps_at, tells_end}
use Rattle.scenario_laws.specs.push_model.specs.Payloads.{Octets}
use Rattle.scenario_laws.specs.push_model.specs.Streams.{Front, Whole, Partial, Broken, front_of}
use Rattle.scenario_laws.specs.push_laws.proofs.Late.{IsLate, anchor_of, all_late}
use Rattle.scenario_laws.specs.push_laws.proofs.Working.{asks_keeps}
use Rattle.scenario_laws.specs.host_model.specs.Clients.{ClientProfile, client_profile, cause_of}
use Rattle.scenario_laws.specs.host_laws.specs.Feeds.{Feed, all_fed}
use Rattle.scenario_laws.specs.host_laws.proofs.FramesSent.{IsOver, stays_over}
use Rattle.scenario_laws.specs.host_laws.proofs.Pushing.{all_pushed}
use Rattle.scenario_laws.specs.host_laws.specs.Pushing.{Affair, Begins, Does, client_behind, end_asked, link_asked, opened_pushed, closed_pushed, event_pushed, sent_pushed, step_pushed, pushed_from}
use Rattle.cause_laws.specs.Said.{user_octets, payload_in, payloads_in, AreAmong}
use Rattle.cause_laws.proofs.Fronts.{IsShort, IsWhole, none_short, partial_short, whole_front}

-- ---- lists in their order

pub among_more : (some all more : List (List ℕ)) → AreAmong some all → AreAmong some (all ++ more)
among_more [] all more among = tt
among_more (one ∷ some) [] more among = absurd among
among_more (one ∷ some) (first ∷ all) more (inl (same, rest)) = inl (same, among_more some all more rest)
among_more (one ∷ some) (first ∷ all) more (inr later) = inr (among_more (one ∷ some) all more later)

pub among_last : (some all : List (List ℕ)) (last : List ℕ) → AreAmong some all → AreAmong (some ++ last ∷ []) (all ++ last ∷ [])
among_last [] [] last among = inl (refl, tt)
among_last [] (first ∷ all) last among = inr (among_last [] all last tt)
among_last (one ∷ some) [] last among = absurd among
among_last (one ∷ some) (first ∷ all) last (inl (same, rest)) = inl (same, among_last some all last rest)
among_last (one ∷ some) (first ∷ all) last (inr later) = inr (among_last (one ∷ some) all last later)

-- ---- what is held

-- they are the last octets of some frames that came in, in their order
pub record CameIn (held : List ℕ) (said : List Saying) : Type 0 where
  pub others : List (List ℕ)
  pub among : AreAmong others (payloads_in said)
  pub before : List ℕ
  pub stream_is : flat_map user_octets others ≡ before ++ held

-- and less than a packet
pub record HoldsSo (held : List ℕ) (said : List Saying) : Type 0 where
  pub came : CameIn held said
  pub short : IsShort held

pub holds_none : (said : List Saying) → HoldsSo [] said
holds_none said = record { came = record { others = []; among = tt; before = []; stream_is = refl }; short = none_short [] refl }

pub holds_grow : (held : List ℕ) (said more : List Saying) → HoldsSo held said → HoldsSo held (said ++ more)
holds_grow held said more so = record {
  came = record {
    others = so.came.others;
    among = subst (AreAmong so.came.others) (sym (filter_map-append payload_in said more)) (among_more so.came.others (payloads_in said) (payloads_in more) so.came.among);
    before = so.came.before;
    stream_is = so.came.stream_is;
  };
  short = so.short;
}

-- one frame more, of which the last octets are held
came_frame : (held octets rest before payload : List ℕ) (said : List Saying) (saying : Saying) → payload_in saying ≡ Some payload → user_octets payload ≡ octets → held ++ octets ≡ before ++ rest → CameIn held said → CameIn rest (said ++ saying ∷ [])
came_frame held octets rest before payload said saying is brought last so = record {
  others = so.others ++ payload ∷ [];
  among = subst (AreAmong (so.others ++ payload ∷ [])) (sym all) (among_last so.others (payloads_in said) payload so.among);
  before = so.before ++ before;
  stream_is =
      flat_map-append user_octets so.others (payload ∷ [])
      ∙ (ap₂ (λ (x y : List ℕ). x ++ y) so.stream_is (append-nil (user_octets payload) ∙ brought)
      ∙ (append_assoc so.before held octets ∙ (ap (λ (l : List ℕ). so.before ++ l) last ∙ sym (append_assoc so.before before rest))));
}
  where
    one : (found : Option (List ℕ)) → found ≡ Some payload → filter_map (λ (o : Option (List ℕ)). o) (found ∷ []) ≡ payload ∷ []
    one None same = cc
    one (Some octets') same = ap (λ (o : Option (List ℕ)). filter_map (λ (x : Option (List ℕ)). x) (o ∷ [])) same

    all : payloads_in (said ++ saying ∷ []) ≡ payloads_in said ++ payload ∷ []
    all = filter_map-append payload_in said (saying ∷ []) ∙ ap (λ (l : List (List ℕ)). payloads_in said ++ l) (one (payload_in saying) is)

-- ---- what a client holds stays so

abbrev Same : (c d : Client) → Type 0
Same c d = d.held ≡ c.held

same_if : (test : Bool) (c d e : Client) → Same c d → Same c e → Same c (if test then d else e)
same_if true c d e x y = x
same_if false c d e x y = y

ends_held : (outcome : Outcome) (c : Client) → Same c (ends outcome c)
ends_held outcome c = by c.cause
  where
    by : (cause : Option Outcome) → Same c (ends_by cause outcome c)
    by None = refl
    by (Some earlier) = refl

ends_if_held : (found' : Option Outcome) (c : Client) → Same c (ends_if found' c)
ends_if_held None c = refl
ends_if_held (Some outcome) c = ends_held outcome c

over_held : (outcome : Outcome) (c : Client) → Same c (over outcome c)
over_held outcome c = by c.cause
  where
    by : (cause : Option Outcome) → Same c (over_by cause outcome c)
    by None = refl
    by (Some earlier) = refl

linked_held : (stage : Stage) (c : Client) → Same c (linked_at stage c)
linked_held (Link Asked) c = same_if (is_some c.cause) c (record c { stage = LinkEnd Due }) (record c { stage = SearchChannel Due }) refl refl
linked_held (Link Due) c = refl
linked_held Rest c = refl
linked_held (SearchChannel point) c = refl
linked_held Search c = refl
linked_held (SearchEnd point) c = refl
linked_held (Features point) c = refl
linked_held (ObjectChannel point) c = refl
linked_held Object c = refl
linked_held (ObjectEnd point) c = refl
linked_held (LinkEnd point) c = refl
linked_held Over c = refl

object_held : (transport : Transport) (mtu : ℕ) (c : Client) → Same c (object_opened transport mtu c)
object_held L2cap mtu c = same_if (nat_lt mtu 255) c (ends small_channel c) (record c { stage = Object; limit = min mtu 32767 }) (ends_held small_channel c) refl
object_held Rfcomm mtu c = refl

opened_held : (stage : Stage) (psm mtu : ℕ) (c : Client) → Same c (opened_at stage psm mtu c)
opened_held (SearchChannel Asked) psm mtu c = same_if (psm == search_psm) c (record c { stage = Search }) c refl refl
opened_held (ObjectChannel Asked) psm mtu c = same_if (psm == c.psm) c (object_opened c.transport mtu c) c (object_held c.transport mtu c) refl
opened_held (SearchChannel Due) psm mtu c = refl
opened_held (ObjectChannel Due) psm mtu c = refl
opened_held Rest psm mtu c = refl
opened_held (Link point) psm mtu c = refl
opened_held Search psm mtu c = refl
opened_held (SearchEnd point) psm mtu c = refl
opened_held (Features point) psm mtu c = refl
opened_held Object psm mtu c = refl
opened_held (ObjectEnd point) psm mtu c = refl
opened_held (LinkEnd point) psm mtu c = refl
opened_held Over psm mtu c = refl

left_held : (cause : Option Outcome) (c : Client) → Same c (search_left cause c)
left_held None c = refl
left_held (Some outcome) c = refl

search_held : (cause : Option Outcome) (c : Client) → Same c (search_closed cause c)
search_held None c = left_held c.cause c
search_held (Some outcome) c = ends_held outcome c

closed_held : (stage : Stage) (psm : ℕ) (cause : CloseCause) (c : Client) → Same c (closed_at stage psm cause c)
closed_held (SearchChannel Asked) psm cause c = same_if (psm == search_psm) c (ends_if (cause_of_close cause) c) c (ends_if_held (cause_of_close cause) c) refl
closed_held Search psm cause c = same_if (psm == search_psm) c (ends_if (cause_of_close cause) c) c (ends_if_held (cause_of_close cause) c) refl
closed_held (SearchEnd point) psm cause c = same_if (psm == search_psm) c (search_closed (cause_of_close cause) c) c (search_held (cause_of_close cause) c) refl
closed_held (ObjectChannel Asked) psm cause c = same_if (psm == c.psm) c (ends_if (cause_of_close cause) c) c (ends_if_held (cause_of_close cause) c) refl
closed_held Object psm cause c = same_if (psm == c.psm) c (ends_if (cause_of_close cause) c) c (ends_if_held (cause_of_close cause) c) refl
closed_held (ObjectEnd point) psm cause c = same_if (psm == c.psm) c (record c { stage = LinkEnd Due }) c refl refl
closed_held (SearchChannel Due) psm cause c = refl
closed_held (ObjectChannel Due) psm cause c = refl
closed_held Rest psm cause c = refl
closed_held (Link point) psm cause c = refl
closed_held (Features point) psm cause c = refl
closed_held (LinkEnd point) psm cause c = refl
closed_held Over psm cause c = refl

fires_held : (c : Client) → Same c (fires c)
fires_held c =
    let more : Client = record c { query = after_resend c.query } in
    same_if (events.armed c && not (c.given || is_due c.query)) c (if c.left == 0 then ends outcomes.RetryLimit c else more) c (same_if (c.left == 0) c (ends outcomes.RetryLimit c) more (ends_held outcomes.RetryLimit c) refl) refl

-- ---- its steps

module _ (c : Client) (parts : List Part) where
  whole : (stage : Stage) → c.stage ≡ stage → (steps_at stage c parts).client.held ≡ c.held → (steps c parts).client.held ≡ c.held
  whole stage at so = by c.failed c.given
    where
      lacking : Stepped
      lacking = record { client = c; step = NoMemory; left = parts }

      by : (failed given : Bool) → (if failed then lacking else if given then course.rests c parts else steps_at c.stage c parts).client.held ≡ c.held
      by true given = refl
      by false true = refl
      by false false = ap (λ (s : Stage). (steps_at s c parts).client.held) at ∙ so

  searched_held : (due : Bool) → (let asked : Client = record c { query = after_request c.query; left = c.left - 1; rest = request_octets c.query } in (if due then course.sends_sdu search_psm (Octets (request_octets c.query)) asked parts else course.rests c parts).client.held ≡ c.held)
  searched_held true = refl
  searched_held false = refl

  told_held : (cause : Option Outcome) → (tells_end cause c parts).client.held ≡ c.held
  told_held None = refl
  told_held (Some outcome) = refl

  stage_held : (stage : Stage) → c.stage ≡ stage → c.transport ≡ Rfcomm → (steps c parts).client.held ≡ c.held
  stage_held Object at muxed = (asks_keeps c parts muxed (subst IsLate (sym at) tt)).0
  stage_held Search at muxed = whole Search at (searched_held (is_due c.query))
  stage_held Over at muxed = whole Over at (told_held c.cause)
  stage_held Rest at muxed = whole Rest at refl
  stage_held (Link Due) at muxed = whole (Link Due) at refl
  stage_held (Link Asked) at muxed = whole (Link Asked) at refl
  stage_held (SearchChannel Due) at muxed = whole (SearchChannel Due) at refl
  stage_held (SearchChannel Asked) at muxed = whole (SearchChannel Asked) at refl
  stage_held (SearchEnd Due) at muxed = whole (SearchEnd Due) at refl
  stage_held (SearchEnd Asked) at muxed = whole (SearchEnd Asked) at refl
  stage_held (Features Due) at muxed = whole (Features Due) at refl
  stage_held (Features Asked) at muxed = whole (Features Asked) at refl
  stage_held (ObjectChannel Due) at muxed = whole (ObjectChannel Due) at refl
  stage_held (ObjectChannel Asked) at muxed = whole (ObjectChannel Asked) at refl
  stage_held (ObjectEnd Due) at muxed = whole (ObjectEnd Due) at refl
  stage_held (ObjectEnd Asked) at muxed = whole (ObjectEnd Asked) at refl
  stage_held (LinkEnd Due) at muxed = whole (LinkEnd Due) at refl
  stage_held (LinkEnd Asked) at muxed = whole (LinkEnd Asked) at refl

-- ---- anything but an SDU

-- it hears none
abbrev pub IsApart : Affair → Type 0
IsApart (Does (Hears (events.Sdu psm sdu))) = ⊥
IsApart affair = Unit {0}

deed_held : (deed : Deed) (c : Client) → IsApart (Does deed) → c.transport ≡ Rfcomm → Same c (done deed c)
deed_held (Hears events.LinkUp) c apart muxed = linked_held c.stage c
deed_held (Hears (events.LinkDown reason)) c apart muxed = same_if (is_linked c.stage) c (over (cause_of_link reason) c) c (over_held (cause_of_link reason) c) refl
deed_held (Hears (events.LinkFailed status)) c apart muxed = same_if (is_paging c.stage) c (over (cause_of_page status) c) c (over_held (cause_of_page status) c) refl
deed_held (Hears (events.ChannelOpen psm mtu)) c apart muxed = opened_held c.stage psm mtu c
deed_held (Hears (events.ChannelClosed psm cause)) c apart muxed = closed_held c.stage psm cause c
deed_held (Hears (events.Sdu psm sdu)) c apart muxed = absurd apart
deed_held (Hears events.FeaturesTold) c apart muxed = same_if (is_asking_features c.stage) c (record c { stage = ObjectChannel Due }) c refl refl
deed_held (Hears events.FeaturesLost) c apart muxed = same_if (is_asking_features c.stage) c (ends outcomes.RetryLimit c) c (ends_held outcomes.RetryLimit c) refl
deed_held (Hears events.Timer) c apart muxed = fires_held c
deed_held (Asks parts) c apart muxed = stage_held c parts c.stage refl muxed
deed_held Finishes c apart muxed = refl
deed_held Cancels c apart muxed = same_if (may_cancel c) c (ends outcomes.Cancelled c) c (ends_held outcomes.Cancelled c) refl

pub deed_holds : (deed : Deed) (c : Client) (said : List Saying) → IsApart (Does deed) → c.transport ≡ Rfcomm → HoldsSo c.held said → HoldsSo (done deed c).held said
deed_holds deed c said apart muxed so = subst (λ (held : List ℕ). HoldsSo held said) (sym (deed_held deed c apart muxed)) so

-- a push that begins holds nothing
pub begun_holds : (size : Result ℕ PortFault) (name : List ℕ) (c : Client) (said : List Saying) → HoldsSo c.held said → HoldsSo (begins size name c).held said
begun_holds size name c said so = on c.failed
  where
    by : (answered : Result ℕ PortFault) → HoldsSo (begun_by answered name c).held said
    by (Ok n) = holds_none said
    by (Err fault.Failed) = holds_none said
    by (Err fault.NoMemory) = so

    on : (failed : Bool) → HoldsSo (if failed then c else begun_by size name c).held said
    on true = so
    on false = by size

-- ---- what is told to its profile

pub end_apart : (step : Step) → AllByRecursion IsApart (end_asked step)
end_apart (Ended outcome) = (tt, tt)
end_apart step = tt

pub call_apart : (step : Step) → AllByRecursion IsApart (link_asked step)
call_apart MakeLink = (tt, (tt, tt))
call_apart step = tt

opened_apart : (mtu : Option ℕ) (psm : ℕ) → AllByRecursion IsApart (opened_pushed mtu psm)
opened_apart None psm = tt
opened_apart (Some mtu) psm = (tt, tt)

closed_apart : (cause : Option CloseCause) (psm : ℕ) → AllByRecursion IsApart (closed_pushed cause psm)
closed_apart None psm = tt
closed_apart (Some cause) psm = (tt, tt)

pub event_apart : (event : ChannelEvent) (v : Channels) → AllByRecursion IsApart (event_pushed event v)
event_apart (channels.Opened own psm) v = opened_apart (peer_mtu own v) psm
event_apart (channels.Closed own psm reason) v = closed_apart (cause_of reason) psm
event_apart (channels.Features features) v = (tt, tt)
event_apart channels.FeaturesLost v = (tt, tt)
event_apart (channels.DisconnectLost own) v = tt

pub sent_apart : (own : Option ℕ) (v : Channels) → AllByRecursion IsApart (sent_pushed own v)
sent_apart None v = tt
sent_apart (Some own) v = by (waits own v)
  where
    by : (test : Bool) → AllByRecursion IsApart (if test then [] else Does Finishes ∷ [])
    by true = tt
    by false = (tt, tt)

pub step_apart : (step : Step) (parts : List Part) → AllByRecursion IsApart (step_pushed step parts)
step_apart Wait parts = (tt, tt)
step_apart MakeLink parts = tt
step_apart AskFeatures parts = (tt, (tt, tt))
step_apart (OpenChannel psm) parts = (tt, (tt, tt))
step_apart (SendSdu psm payload) parts = (tt, tt)
step_apart (CloseChannel psm) parts = (tt, (tt, tt))
step_apart BreakLink parts = (tt, (tt, tt))
step_apart (Ended outcome) parts = (tt, tt)
step_apart NoMemory parts = (tt, tt)

pub both_apart : (one two : List Affair) → AllByRecursion IsApart one → AllByRecursion IsApart two → AllByRecursion IsApart (one ++ two)
both_apart [] two x y = y
both_apart (affair ∷ one) two x y = (x.0, both_apart one two x.1 y)

-- ---- an SDU

found_held : (what : Found) (c : Client) → Same c (finds what c)
found_held found.More c = refl
found_held (found.Service target) c = way c.transport
  where
    psm_held : (kept : Option ℕ) → Same c (found_psm kept c)
    psm_held None = ends_held outcomes.NoService c
    psm_held (Some psm) = refl

    channel_held : (kept : Option ℕ) → Same c (found_channel kept c)
    channel_held None = ends_held outcomes.NoService c
    channel_held (Some channel) = refl

    way : (transport : Transport) → Same c (found_way transport target c)
    way L2cap = psm_held (kept_of is_service_psm target.l2cap)
    way Rfcomm = channel_held (kept_of is_server_channel target.rfcomm)
found_held found.NoService c = ends_held outcomes.NoService c
found_held (found.Refused reason) c = ends_if_held (cause_of_query reason) c

outside_held : (transport : Transport) (c : Client) → Same c (hears_outside transport c)
outside_held L2cap c = ends_held unawaited_response c
outside_held Rfcomm c = refl

-- on another channel than that of its object, or ahead of it
pub elsewhere_held : (stage : Stage) (psm : ℕ) (sdu : List ℕ) (c : Client) → (is_object stage && (psm == c.psm)) ≡ false → Same c (sdu_at stage psm sdu c)
elsewhere_held Search psm sdu c apart = same_if (psm == search_psm) c (hears_reply sdu c) c (found_held (found_at c.query sdu) (record c { query = after_reply c.query sdu })) refl
elsewhere_held (ObjectChannel point) psm sdu c apart = same_if (psm == c.psm) c (hears_outside c.transport c) c (outside_held c.transport c) refl
elsewhere_held (ObjectEnd point) psm sdu c apart = same_if (psm == c.psm) c (hears_outside c.transport c) c (outside_held c.transport c) refl
elsewhere_held Object psm sdu c apart = ap (λ (b : Bool). (if b then events.hears_object c.transport sdu c else c).held) apart
elsewhere_held Rest psm sdu c apart = refl
elsewhere_held (Link point) psm sdu c apart = refl
elsewhere_held (SearchChannel point) psm sdu c apart = refl
elsewhere_held (SearchEnd point) psm sdu c apart = refl
elsewhere_held (Features point) psm sdu c apart = refl
elsewhere_held (LinkEnd point) psm sdu c apart = refl
elsewhere_held Over psm sdu c apart = refl

takes_held : (answered : Answered) (c : Client) → Same c (responding.takes answered c)
takes_held answer.Go c = refl
takes_held answer.Done c = ends_held outcomes.Done c
takes_held (answer.Refused code) c = ends_held (outcomes.Refused code) c
takes_held (answer.Bad refusal) c = ends_held (cause_of_obex refusal) c
takes_held answer.Srmp c = ends_held unknown_parameters c

answer_held : (answered : Option Answered) (packet : List ℕ) (c : Client) → Same c (hears_answer answered packet c)
answer_held None packet c = ends_held unawaited_response c
answer_held (Some answered) packet c =
    let heard : Client = record c { session = after_at c.session.awaited c.session packet } in
    same_if (is_success answered && is_early c) c (ends unawaited_response heard) (responding.takes answered heard) (ends_held unawaited_response heard) (takes_held answered heard)

response_held : (packet : List ℕ) (c : Client) → Same c (hears_response packet c)
response_held packet c = answer_held (answer_at c.session.awaited c.session packet) packet c

-- of a stream the last octets are held, less than a packet
record Keeps (rest stream : List ℕ) : Type 0 where
  before : List ℕ
  is : stream ≡ before ++ rest
  short : IsShort rest

keeps_none : (rest stream : List ℕ) → rest ≡ [] → Keeps rest stream
keeps_none rest stream none = record { before = stream; is = sym (append-nil stream) ∙ ap (λ (l : List ℕ). stream ++ l) (sym none); short = none_short rest none }

keeps_behind : (packet rest held stream : List ℕ) → stream ≡ packet ++ rest → Keeps held rest → Keeps held stream
keeps_behind packet rest held stream is keeps = record {
  before = packet ++ keeps.before;
  is = is ∙ (ap (λ (l : List ℕ). packet ++ l) keeps.is ∙ sym (append_assoc packet keeps.before held));
  short = keeps.short;
}

front_keeps : (count : ℕ) (more : List ℕ → Client → Client) → ((rest : List ℕ) (c : Client) → length rest ≤ count → Keeps (more rest c).held rest) → (maximum : ℕ) (stream : List ℕ) (front : Front) (c : Client) → front_of maximum stream ≡ front → length stream ≤ suc count → Keeps (hears_front more stream front c).held stream
front_keeps count more all maximum stream (Whole packet rest) c is long = by (is_object heard.stage)
  where
    alone : Client
    alone = record c { held = [] }

    heard : Client
    heard = hears_response packet alone

    front : IsWhole stream packet rest
    front = whole_front maximum stream packet rest is

    within : length rest ≤ count
    within = let least = front.least in let left = front.left in omega (arith, least, left, long)

    by : (on : Bool) → Keeps (if on then more rest heard else heard).held stream
    by true = keeps_behind packet rest (more rest heard).held stream front.is (all rest heard within)
    by false = keeps_none heard.held stream (response_held packet alone)
front_keeps count more all maximum stream Partial c is long = record { before = []; is = refl; short = partial_short maximum stream is }
front_keeps count more all maximum stream (Broken refusal) c is long = let alone : Client = record c { held = [] } in keeps_none (ends (cause_of_obex refusal) alone).held stream (ends_held (cause_of_obex refusal) alone)

stream_keeps : (count : ℕ) (stream : List ℕ) (c : Client) → length stream ≤ count → Keeps (hears_stream count stream c).held stream
unfolding hears_stream
stream_keeps zero stream c long = record { before = []; is = refl; short = inl (omega (arith, long)) }
stream_keeps (suc count) stream c long = front_keeps count (λ rest next. hears_stream count rest next) (λ rest next. stream_keeps count rest next) c.session.maximum stream (front_of c.session.maximum stream) c refl long

end_held : (reason : MuxReason) (c : Client) → Same c (hears_end reason c)
end_held reason c = same_if (is_left c.contact reason) c (record c { stage = ObjectEnd Due }) (ends (cause_of_mux reason) c) refl (ends_held (cause_of_mux reason) c)

-- a frame on the channel of its object: what it brings stands behind what was held
pub frame_holds : (sdu : List ℕ) (c : Client) (said : List Saying) (saying : Saying) → payload_in saying ≡ Some sdu → ((octets : List ℕ) → up sdu c.mux ≡ bytes octets → user_octets sdu ≡ octets) → HoldsSo c.held said → HoldsSo (hears_frame sdu c).held (said ++ saying ∷ [])
frame_holds sdu c said saying is reads so = by (up sdu c.mux) refl
  where
    heard : Client
    heard = record c { mux = hears sdu c.mux }

    grown : HoldsSo c.held (said ++ saying ∷ [])
    grown = holds_grow c.held said (saying ∷ []) so

    by : (news : Up) → up sdu c.mux ≡ news → HoldsSo (hears_up news heard).held (said ++ saying ∷ [])
    by nothing brought = grown
    by opened brought = grown
    by (bytes octets) brought =
        let stream = c.held ++ octets in
        let keeps : Keeps (hears_stream (length stream) stream heard).held stream = stream_keeps (length stream) stream heard (omega arith) in
        record { came = came_frame c.held octets (hears_stream (length stream) stream heard).held keeps.before sdu said saying is (reads octets brought) keeps.is so.came; short = keeps.short }
    by (closed reason) brought = subst (λ (held : List ℕ). HoldsSo held (said ++ saying ∷ [])) (sym (end_held reason heard)) grown

-- ---- ahead of the channel of its object it holds nothing

abbrev pub IsFresh : Client → Type 0
IsFresh c = IsLate c.stage ⊎ (c.held ≡ [])

apart_or : (deed : Deed) → IsApart (Does deed) ⊎ ((psm : ℕ) × ((sdu : List ℕ) × (deed ≡ Hears (events.Sdu psm sdu))))
apart_or (Hears (events.Sdu psm sdu)) = inr (psm, (sdu, refl))
apart_or (Hears events.LinkUp) = inl tt
apart_or (Hears (events.LinkDown reason)) = inl tt
apart_or (Hears (events.LinkFailed status)) = inl tt
apart_or (Hears (events.ChannelOpen psm mtu)) = inl tt
apart_or (Hears (events.ChannelClosed psm cause)) = inl tt
apart_or (Hears events.FeaturesTold) = inl tt
apart_or (Hears events.FeaturesLost) = inl tt
apart_or (Hears events.Timer) = inl tt
apart_or (Asks parts) = inl tt
apart_or Finishes = inl tt
apart_or Cancels = inl tt

on_object : (stage : Stage) (here : Bool) → (is_object stage && here) ≡ true → stage ≡ Object
on_object Object here is = refl
on_object Rest here is = cc
on_object (Link point) here is = cc
on_object (SearchChannel point) here is = cc
on_object Search here is = cc
on_object (SearchEnd point) here is = cc
on_object (Features point) here is = cc
on_object (ObjectChannel point) here is = cc
on_object (ObjectEnd point) here is = cc
on_object (LinkEnd point) here is = cc
on_object Over here is = cc

pub object_is : (stage : Stage) (psm own : ℕ) → (is_object stage && (psm == own)) ≡ true → (stage ≡ Object) × (psm ≡ own)
object_is stage psm own is = (on_object stage (psm == own) is, by (psm == own) refl)
  where
    by : (here : Bool) → (psm == own) ≡ here → psm ≡ own
    by true here = eqb-true psm own here
    by false here = let no : true ≡ false = sym is ∙ (ap (λ (b : Bool). is_object stage && b) here ∙ and_off (is_object stage)) in absurd cc

fresh_deed : (deed : Deed) (c : Client) → c.transport ≡ Rfcomm → IsFresh c → IsFresh (done deed c)
fresh_deed deed c muxed (inl late) = inl (all_late (anchor_of c) (deed ∷ []) c (late, refl)).0
fresh_deed deed c muxed (inr none) = on (apart_or deed)
  where
    heard : (psm : ℕ) (sdu : List ℕ) (here : Bool) → (is_object c.stage && (psm == c.psm)) ≡ here → IsFresh (done (Hears (events.Sdu psm sdu)) c)
    heard psm sdu true is = inl (all_late (anchor_of c) (Hears (events.Sdu psm sdu) ∷ []) c (subst IsLate (sym (object_is c.stage psm c.psm is).0) tt, refl)).0
    heard psm sdu false is = inr (elsewhere_held c.stage psm sdu c is ∙ none)

    on : IsApart (Does deed) ⊎ ((psm : ℕ) × ((sdu : List ℕ) × (deed ≡ Hears (events.Sdu psm sdu)))) → IsFresh (done deed c)
    on (inl apart) = inr (deed_held deed c apart muxed ∙ none)
    on (inr (psm, (sdu, is))) = subst (λ (d : Deed). IsFresh (done d c)) (sym is) (heard psm sdu (is_object c.stage && (psm == c.psm)) refl)

fresh_begun : (size : Result ℕ PortFault) (name : List ℕ) (c : Client) → IsFresh c → IsFresh (begins size name c)
fresh_begun size name c fresh = on c.failed
  where
    by : (answered : Result ℕ PortFault) → IsFresh (begun_by answered name c)
    by (Ok n) = inr refl
    by (Err fault.Failed) = inr refl
    by (Err fault.NoMemory) = fresh

    on : (failed : Bool) → IsFresh (if failed then c else begun_by size name c)
    on true = fresh
    on false = by size

fresh_behind : (transport : Transport) (affairs : List Affair) (c : Client) → transport ≡ Rfcomm → IsOver transport c → IsFresh c → IsFresh (client_behind affairs c)
fresh_behind transport [] c muxed over' fresh = fresh
fresh_behind transport (Begins size name ∷ affairs) c muxed over' fresh = fresh_behind transport affairs (begins size name c) muxed (stays_over transport (Begins size name ∷ []) c over') (fresh_begun size name c fresh)
fresh_behind transport (Does deed ∷ affairs) c muxed over' fresh = fresh_behind transport affairs (done deed c) muxed (stays_over transport (Does deed ∷ []) c over') (fresh_deed deed c (over'.0 ∙ muxed) fresh)

pub fed_fresh : (settings : Settings) (feeds : List Feed) (p : ClientProfile) → settings.transport ≡ Rfcomm → IsOver settings.transport p.client → IsFresh p.client → IsFresh (all_fed (client_profile settings) p feeds).client
fed_fresh settings feeds p muxed over' fresh = subst IsFresh (sym (all_pushed settings feeds p)) (fresh_behind settings.transport (pushed_from settings p feeds) p.client muxed over' fresh)

-- of several things none of which is an SDU
pub behind_holds : (transport : Transport) (affairs : List Affair) (c : Client) (said : List Saying) → AllByRecursion IsApart affairs → transport ≡ Rfcomm → IsOver transport c → HoldsSo c.held said → HoldsSo (client_behind affairs c).held said
behind_holds transport [] c said all muxed over' so = so
behind_holds transport (Begins size name ∷ affairs) c said all muxed over' so =
    behind_holds transport affairs (begins size name c) said all.1 muxed (stays_over transport (Begins size name ∷ []) c over') (begun_holds size name c said so)
behind_holds transport (Does deed ∷ affairs) c said all muxed over' so =
    behind_holds transport affairs (done deed c) said all.1 muxed (stays_over transport (Does deed ∷ []) c over') (deed_holds deed c said all.0 (over'.0 ∙ muxed) so)
