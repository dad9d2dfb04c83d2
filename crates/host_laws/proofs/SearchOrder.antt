-- The question of a push is a new one until its channel of service discovery is there, and none waits where that is to be closed.
use Rattle.std.proofs.Common.{◌≡◌, ℕ, List, ◌++◌, length, ◌-◌, Bool, true, false, cond, eqb, not, ◌&&◌, ◌||◌, Option, Some, None, Result, Ok, Err, refl, sym, ap, subst, ◌∙◌}
use Rattle.std.specs.Prelude.{is_some, min, nat_lt}
use Rattle.shelf_model.specs.bt_base.specs.declared.ports.PortFault.{PortFault}
use Rattle.shelf_model.specs.bt_base.specs.declared.ports.PortFault.TheVariants as fault
use Rattle.shelf_model.specs.bt_base.specs.declared.settings.Transport.{Transport}
use Rattle.shelf_model.specs.bt_base.specs.declared.settings.Transport.TheVariants.{L2cap, Rfcomm}
use Rattle.shelf_model.specs.push_terms.specs.declared.outcome.Outcome.{Outcome}
use Rattle.shelf_model.specs.push_terms.specs.declared.outcome.Outcome.TheVariants as outcomes
use Rattle.shelf_model.specs.sdp_elements.specs.declared.target.Target.{Target}
use Rattle.shelf_model.specs.sdp_elements.specs.Targets.{target_in, is_service_psm, is_server_channel}
use Rattle.shelf_model.specs.sdp_client.specs.declared.query.Stage.{Stage as Asked_stage}
use Rattle.shelf_model.specs.sdp_client.specs.declared.query.Stage.TheVariants as asked
use Rattle.shelf_model.specs.sdp_client.specs.declared.reason.Found.{Found}
use Rattle.shelf_model.specs.sdp_client.specs.declared.reason.Found.TheVariants.{More, Service, NoService, Refused}
use Rattle.shelf_model.specs.sdp_client.specs.declared.reason.QueryReason.TheVariants.{BadReply, ErrorCode, WrongTransaction, TooLong}
use Rattle.shelf_model.specs.sdp_client.specs.Asking.{Asking, is_due, request_octets, after_request, after_resend}
use Rattle.shelf_model.specs.sdp_client.specs.Hearing.{ended, found_target, found_in, stage_in, found_whole, after_whole, with_part, asks_on, found_said, when_said, found_when, after_when, found_at, after_reply}
use Rattle.shelf_model.specs.sdp_client.specs.Replies.{PlainSaid, Gives, Failed, Nothing, said_in, is_of_another}
use Rattle.shelf_model.specs.sdp_client.specs.Views.{is_awaiting}
use Rattle.push_laws.specs.push_model.specs.declared.closing.CloseCause.{CloseCause}
use Rattle.push_laws.specs.push_model.specs.declared.closing.CloseCause.TheVariants as closings
use Rattle.push_laws.specs.push_model.specs.declared.course.Point.TheVariants.{Due, Asked}
use Rattle.push_laws.specs.push_model.specs.declared.course.Stage.{Stage}
use Rattle.push_laws.specs.push_model.specs.declared.course.Stage.TheVariants.{Rest, Link, SearchChannel, Search, SearchEnd, Features, ObjectChannel, Object, ObjectEnd, LinkEnd, Over}
use Rattle.push_laws.specs.push_model.specs.Causes.{Ending, InOrder, AtOnce, ending_of, cause_of_link, cause_of_page, cause_of_machine, cause_of_close, refusal_reason, small_channel}
use Rattle.push_laws.specs.push_model.specs.Client.{Client, in_order, at_once, stage_after, ends_by, ends, ends_if, may_cancel, cancelled, begun_by, begins}
use Rattle.push_laws.specs.push_model.specs.Events as events
use Rattle.push_laws.specs.push_model.specs.Events.{News, LinkUp, LinkDown, LinkFailed, ChannelOpen, ChannelClosed, Sdu, FeaturesTold, FeaturesLost, Timer, linked_at, over_by, over, kept_of, found_psm, found_channel, found_way, finds, hears_reply, hears_outside, hears_object, object_opened, opened_at, search_left, search_closed, closed_at, sdu_at, is_search, armed, hears_news}
use Rattle.push_laws.specs.push_model.specs.Payloads.{Octets}
use Rattle.push_laws.specs.push_model.specs.Steps as course
use Rattle.push_laws.specs.push_model.specs.Steps.{Part, Step, Wait, MakeLink, AskFeatures, OpenChannel, SendSdu, CloseChannel, BreakLink, Ended, NoMemory, Stepped, steps}
use Rattle.host_laws.specs.SearchOrder.{AsksInOrder, SearchesInOrder, ClientsSearchInOrder}
use Rattle.host_laws.proofs.Past.{is_past, On, object_heard, outside_on, object_on}

abbrev pub S : Client → Type 0
S c = SearchesInOrder c

pub past_so : (stage : Stage) (q : Asking) → is_past stage ≡ true → AsksInOrder stage q
past_so (Features point) q is = tt
past_so (ObjectChannel point) q is = tt
past_so Object q is = tt
past_so (ObjectEnd point) q is = tt
past_so (LinkEnd point) q is = tt
past_so Rest q is = cc
past_so (Link point) q is = cc
past_so (SearchChannel point) q is = cc
past_so Search q is = cc
past_so (SearchEnd point) q is = cc
past_so Over q is = cc

pub on_so : (c : Client) → On c → S c
on_so c on = past_so c.stage c.query on

-- by its stage
pub at_stage : (c : Client) (stage : Stage) → c.stage ≡ stage → S c → AsksInOrder stage c.query
at_stage c stage at so = subst (λ (s : Stage). AsksInOrder s c.query) at so

pub of_stage : (c : Client) (stage : Stage) → c.stage ≡ stage → AsksInOrder stage c.query → S c
of_stage c stage at so = subst (λ (s : Stage). AsksInOrder s c.query) (sym at) so

pub pick : (b : Bool) (c d : Client) → S c → S d → S (cond b c d)
pick true c d one other = one
pick false c d one other = other

-- ---- a cause

pub at_once_so : (stage : Stage) (q : Asking) → AsksInOrder stage q → AsksInOrder (at_once stage) q
at_once_so Rest q so = tt
at_once_so (Link Due) q so = tt
at_once_so (Link Asked) q so = so
at_once_so (SearchChannel point) q so = tt
at_once_so Search q so = tt
at_once_so (SearchEnd point) q so = tt
at_once_so (Features point) q so = tt
at_once_so (ObjectChannel point) q so = tt
at_once_so Object q so = tt
at_once_so (ObjectEnd point) q so = tt
at_once_so (LinkEnd point) q so = tt
at_once_so Over q so = tt

pub order_so : (stage : Stage) (q : Asking) → (stage ≡ Search → is_awaiting q ≡ false) → AsksInOrder stage q → AsksInOrder (in_order stage) q
order_so Rest q quiet so = tt
order_so (Link Due) q quiet so = tt
order_so (Link Asked) q quiet so = so
order_so (SearchChannel Due) q quiet so = tt
order_so (SearchChannel Asked) q quiet so = ap is_awaiting so
order_so Search q quiet so = quiet refl
order_so (SearchEnd point) q quiet so = so
order_so (Features point) q quiet so = tt
order_so (ObjectChannel Due) q quiet so = tt
order_so (ObjectChannel Asked) q quiet so = tt
order_so Object q quiet so = tt
order_so (ObjectEnd point) q quiet so = tt
order_so (LinkEnd point) q quiet so = tt
order_so Over q quiet so = tt

-- its link is to be broken, or no request waits
abbrev pub Fits : Ending → Asking → Type 0
Fits AtOnce q = Unit {0}
Fits InOrder q = is_awaiting q ≡ false

pub after_so : (ending : Ending) (stage : Stage) (q : Asking) → (stage ≡ Search → Fits ending q) → AsksInOrder stage q → AsksInOrder (stage_after ending stage) q
after_so InOrder stage q fits so = order_so stage q fits so
after_so AtOnce stage q fits so = at_once_so stage q so

pub ends_so : (outcome : Outcome) (c : Client) → (c.stage ≡ Search → Fits (ending_of outcome) c.query) → S c → S (ends outcome c)
ends_so outcome c fits so = by c.cause
  where
    by : (cause : Option Outcome) → S (ends_by cause outcome c)
    by None = after_so (ending_of outcome) c.stage c.query fits so
    by (Some earlier) = at_once_so c.stage c.query so

-- ---- its link

pub linked_so : (stage : Stage) (c : Client) → c.stage ≡ stage → S c → S (linked_at stage c)
linked_so (Link Asked) c at so = by (is_some c.cause)
  where
    by : (b : Bool) → S (cond b (record c { stage = LinkEnd Due }) (record c { stage = SearchChannel Due }))
    by true = tt
    by false = at_stage c (Link Asked) at so
linked_so Rest c at so = so
linked_so (Link Due) c at so = so
linked_so (SearchChannel point) c at so = so
linked_so Search c at so = so
linked_so (SearchEnd point) c at so = so
linked_so (Features point) c at so = so
linked_so (ObjectChannel point) c at so = so
linked_so Object c at so = so
linked_so (ObjectEnd point) c at so = so
linked_so (LinkEnd point) c at so = so
linked_so Over c at so = so

pub over_so : (outcome : Outcome) (c : Client) → S (over outcome c)
over_so outcome c = by c.cause
  where
    by : (cause : Option Outcome) → S (over_by cause outcome c)
    by None = tt
    by (Some earlier) = tt

-- ---- its channels

pub object_so : (transport : Transport) (mtu : ℕ) (c : Client) → S c → S (object_opened transport mtu c)
object_so L2cap mtu c so = pick (nat_lt mtu 255) (ends small_channel c) (record c { stage = Object; limit = min mtu 32767 }) (ends_so small_channel c (λ at. tt) so) tt
object_so Rfcomm mtu c so = tt

pub opened_so : (stage : Stage) (psm mtu : ℕ) (c : Client) → S c → S (opened_at stage psm mtu c)
opened_so (SearchChannel Asked) psm mtu c so = pick (eqb psm 0x0001) (record c { stage = Search }) c tt so
opened_so (ObjectChannel Asked) psm mtu c so = pick (eqb psm c.psm) (object_opened c.transport mtu c) c (object_so c.transport mtu c so) so
opened_so Rest psm mtu c so = so
opened_so (Link point) psm mtu c so = so
opened_so (SearchChannel Due) psm mtu c so = so
opened_so Search psm mtu c so = so
opened_so (SearchEnd point) psm mtu c so = so
opened_so (Features point) psm mtu c so = so
opened_so (ObjectChannel Due) psm mtu c so = so
opened_so Object psm mtu c so = so
opened_so (ObjectEnd point) psm mtu c so = so
opened_so (LinkEnd point) psm mtu c so = so
opened_so Over psm mtu c so = so

pub machine_so : (number : ℕ) (c : Client) → S c → S (ends (cause_of_machine number) c)
machine_so number c so = by (eqb number 5)
  where
    by : (b : Bool) → S (ends (cond b outcomes.RetryLimit (outcomes.PeerFault 2 number)) c)
    by true = ends_so outcomes.RetryLimit c (λ at. tt) so
    by false = ends_so (outcomes.PeerFault 2 number) c (λ at. tt) so

pub left_so : (cause : Option Outcome) (c : Client) → S (search_left cause c)
left_so None c = by c.transport
  where
    by : (transport : Transport) → AsksInOrder (events.stage_behind transport) c.query
    by L2cap = tt
    by Rfcomm = tt
left_so (Some cause) c = tt

pub close_so : (cause : CloseCause) (c : Client) → S c → S (ends_if (cause_of_close cause) c)
close_so closings.Peer c so = ends_so outcomes.PeerClosed c (λ at. tt) so
close_so (closings.Refused result) c so = ends_so (outcomes.PeerFault 2 (refusal_reason result)) c (λ at. tt) so
close_so closings.NoAgreement c so = ends_so (outcomes.PeerFault 2 15) c (λ at. tt) so
close_so closings.RetryLimit c so = ends_so outcomes.RetryLimit c (λ at. tt) so
close_so (closings.Broken number) c so = machine_so number c so
close_so closings.Own c so = so

pub search_so : (cause : CloseCause) (c : Client) → S c → S (search_closed (cause_of_close cause) c)
search_so closings.Peer c so = ends_so outcomes.PeerClosed c (λ at. tt) so
search_so (closings.Refused result) c so = ends_so (outcomes.PeerFault 2 (refusal_reason result)) c (λ at. tt) so
search_so closings.NoAgreement c so = ends_so (outcomes.PeerFault 2 15) c (λ at. tt) so
search_so closings.RetryLimit c so = ends_so outcomes.RetryLimit c (λ at. tt) so
search_so (closings.Broken number) c so = machine_so number c so
search_so closings.Own c so = left_so c.cause c

pub closed_so : (stage : Stage) (psm : ℕ) (cause : CloseCause) (c : Client) → S c → S (closed_at stage psm cause c)
closed_so (SearchChannel Asked) psm cause c so = pick (eqb psm 0x0001) (ends_if (cause_of_close cause) c) c (close_so cause c so) so
closed_so Search psm cause c so = pick (eqb psm 0x0001) (ends_if (cause_of_close cause) c) c (close_so cause c so) so
closed_so (SearchEnd point) psm cause c so = pick (eqb psm 0x0001) (search_closed (cause_of_close cause) c) c (search_so cause c so) so
closed_so (ObjectChannel Asked) psm cause c so = pick (eqb psm c.psm) (ends_if (cause_of_close cause) c) c (close_so cause c so) so
closed_so Object psm cause c so = pick (eqb psm c.psm) (ends_if (cause_of_close cause) c) c (close_so cause c so) so
closed_so (ObjectEnd point) psm cause c so = pick (eqb psm c.psm) (record c { stage = LinkEnd Due }) c tt so
closed_so Rest psm cause c so = so
closed_so (Link point) psm cause c so = so
closed_so (SearchChannel Due) psm cause c so = so
closed_so (Features point) psm cause c so = so
closed_so (ObjectChannel Due) psm cause c so = so
closed_so (LinkEnd point) psm cause c so = so
closed_so Over psm cause c so = so

-- ---- the search

-- once all is found no request waits
abbrev pub FoundSo : Found → Asking → Type 0
FoundSo More q = Unit {0}
FoundSo (Service target) q = is_awaiting q ≡ false
FoundSo NoService q = is_awaiting q ≡ false
FoundSo (Refused reason) q = Unit {0}

pub target_so : (q : Asking) (l2cap rfcomm : Option ℕ) → (let r : Asking = record q { stage = asked.Answered } in FoundSo (found_target l2cap rfcomm) r)
target_so q None None = refl
target_so q None (Some channel) = refl
target_so q (Some psm) rfcomm = refl

pub whole_so : (q : Asking) (target : Option Target) → (let r : Asking = record q { stage = stage_in target } in FoundSo (found_in target) r)
whole_so q None = tt
whole_so q (Some target) = target_so q target.l2cap target.rfcomm

pub said_so : (q : Asking) (said : PlainSaid) → FoundSo (found_said q said) (when_said q said)
said_so q (Gives part) = by (nat_lt 4096 (length (q.joined ++ part.octets))) (eqb (length part.continuation) 0)
  where
    by : (long last : Bool) → FoundSo (cond long (Refused TooLong) (cond last (found_whole (q.joined ++ part.octets)) More)) (cond long (ended q TooLong) (cond last (after_whole (with_part q part)) (asks_on (with_part q part) part.continuation)))
    by true last = tt
    by false true = whole_so (with_part q part) (target_in (q.joined ++ part.octets))
    by false false = tt
said_so q (Failed code) = tt
said_so q Nothing = tt

pub found_so : (q : Asking) (reply : List ℕ) → FoundSo (found_at q reply) (after_reply q reply)
found_so q reply = by q.stage
  where
    said : (b : Bool) → FoundSo (cond b (Refused WrongTransaction) (found_said q (said_in reply))) (cond b q (when_said q (said_in reply)))
    said true = tt
    said false = said_so q (said_in reply)

    by : (stage : Asked_stage) → FoundSo (found_when stage q reply) (after_when stage q reply)
    by asked.Due = tt
    by asked.Written = said (is_of_another reply q.transaction)
    by asked.Again = said (is_of_another reply q.transaction)
    by asked.Answered = tt
    by (asked.Refused reason) = tt

module _ (d : Client) (at : d.stage ≡ Search) where
  searching : S d
  searching = of_stage d Search at tt

  psm_so : (psm : Option ℕ) → is_awaiting d.query ≡ false → S (found_psm psm d)
  psm_so None quiet = ends_so outcomes.NoService d (λ is. quiet) searching
  psm_so (Some psm) quiet = quiet

  channel_so : (channel : Option ℕ) → is_awaiting d.query ≡ false → S (found_channel channel d)
  channel_so None quiet = ends_so outcomes.NoService d (λ is. quiet) searching
  channel_so (Some channel) quiet = quiet

  way_so : (transport : Transport) (target : Target) → is_awaiting d.query ≡ false → S (found_way transport target d)
  way_so L2cap target quiet = psm_so (kept_of is_service_psm target.l2cap) quiet
  way_so Rfcomm target quiet = channel_so (kept_of is_server_channel target.rfcomm) quiet

  finds_so : (found : Found) → FoundSo found d.query → S (finds found d)
  finds_so More so = searching
  finds_so (Service target) so = way_so d.transport target so
  finds_so NoService so = ends_so outcomes.NoService d (λ is. so) searching
  finds_so (Refused BadReply) so = ends_so (outcomes.PeerFault 3 1) d (λ is. tt) searching
  finds_so (Refused (ErrorCode code)) so = ends_so (outcomes.PeerFault 3 2) d (λ is. tt) searching
  finds_so (Refused WrongTransaction) so = searching
  finds_so (Refused TooLong) so = ends_so (outcomes.PeerFault 3 4) d (λ is. tt) searching

pub sdu_so : (stage : Stage) (psm : ℕ) (sdu : List ℕ) (c : Client) → c.stage ≡ stage → S c → S (sdu_at stage psm sdu c)
sdu_so Search psm sdu c at so = pick (eqb psm 0x0001) (hears_reply sdu c) c (finds_so (record c { query = after_reply c.query sdu }) at (found_at c.query sdu) (found_so c.query sdu)) so
sdu_so (ObjectChannel point) psm sdu c at so = pick (eqb psm c.psm) (hears_outside c.transport c) c (on_so (hears_outside c.transport c) (outside_on c.transport c (ap is_past at))) so
sdu_so Object psm sdu c at so = pick (eqb psm c.psm) (hears_object c.transport sdu c) c (on_so (hears_object c.transport sdu c) (object_heard c.transport sdu c (ap is_past at))) so
sdu_so (ObjectEnd point) psm sdu c at so = pick (eqb psm c.psm) (hears_outside c.transport c) c (on_so (hears_outside c.transport c) (outside_on c.transport c (ap is_past at))) so
sdu_so Rest psm sdu c at so = so
sdu_so (Link point) psm sdu c at so = so
sdu_so (SearchChannel point) psm sdu c at so = so
sdu_so (SearchEnd point) psm sdu c at so = so
sdu_so (Features point) psm sdu c at so = so
sdu_so (LinkEnd point) psm sdu c at so = so
sdu_so Over psm sdu c at so = so

-- ---- the timer

pub search_at : (stage : Stage) → is_search stage ≡ true → stage ≡ Search
search_at Search is = refl
search_at Rest is = cc
search_at (Link point) is = cc
search_at (SearchChannel point) is = cc
search_at (SearchEnd point) is = cc
search_at (Features point) is = cc
search_at (ObjectChannel point) is = cc
search_at Object is = cc
search_at (ObjectEnd point) is = cc
search_at (LinkEnd point) is = cc
search_at Over is = cc

pub first_of : (a b c : Bool) → ((a && b) && c) ≡ true → a ≡ true
first_of true b c is = refl
first_of false b c is = cc

pub timer_so : (c : Client) → S c → S (hears_news Timer c)
timer_so c so = by (armed c && not (c.given || is_due c.query)) refl
  where
    again : Client
    again = record c { query = after_resend c.query }

    by : (b : Bool) → (armed c && not (c.given || is_due c.query)) ≡ b → S (cond b (cond (eqb c.left 0) (ends outcomes.RetryLimit c) again) c)
    by true is =
        let at = search_at c.stage (first_of (is_search c.stage) (is_awaiting c.query) (not (c.given || is_due c.query)) is) in
        pick (eqb c.left 0) (ends outcomes.RetryLimit c) again (ends_so outcomes.RetryLimit c (λ is'. tt) so) (of_stage again Search at tt)
    by false is = so

-- ---- all that it hears

pub hears_so : (news : News) (c : Client) → S c → S (hears_news news c)
hears_so LinkUp c so = linked_so c.stage c refl so
hears_so (LinkDown reason) c so = pick (events.is_linked c.stage) (over (cause_of_link reason) c) c (over_so (cause_of_link reason) c) so
hears_so (LinkFailed status) c so = pick (events.is_paging c.stage) (over (cause_of_page status) c) c (over_so (cause_of_page status) c) so
hears_so (ChannelOpen psm mtu) c so = opened_so c.stage psm mtu c so
hears_so (ChannelClosed psm cause) c so = closed_so c.stage psm cause c so
hears_so (Sdu psm octets) c so = sdu_so c.stage psm octets c refl so
hears_so FeaturesTold c so = pick (events.is_asking_features c.stage) (record c { stage = ObjectChannel Due }) c tt so
hears_so FeaturesLost c so = pick (events.is_asking_features c.stage) (ends outcomes.RetryLimit c) c (ends_so outcomes.RetryLimit c (λ at. tt) so) so
hears_so Timer c so = timer_so c so

pub begins_so : (size : Result ℕ PortFault) (name : List ℕ) (c : Client) → S c → S (begins size name c)
begins_so size name c so = pick c.failed c (begun_by size name c) so (by size)
  where
    by : (s : Result ℕ PortFault) → S (begun_by s name c)
    by (Ok n) = refl
    by (Err fault.Failed) = tt
    by (Err fault.NoMemory) = so

-- ---- its steps

abbrev pub Keeps : Stepped → Type 0
Keeps one = S one.client

pub either : (b : Bool) (x y : Stepped) → Keeps x → Keeps y → Keeps (cond b x y)
either true x y one other = one
either false x y one other = other

pub ended_so : (cause : Option Outcome) (c : Client) (parts : List Part) → S c → Keeps (course.tells_end cause c parts)
ended_so None c parts so = so
ended_so (Some outcome) c parts so = tt

pub at_so : (stage : Stage) (c : Client) (parts : List Part) → c.stage ≡ stage → S c → Keeps (course.steps_at stage c parts)
at_so Rest c parts at so = so
at_so (Link Due) c parts at so = at_stage c (Link Due) at so
at_so (Link Asked) c parts at so = so
at_so (SearchChannel Due) c parts at so = at_stage c (SearchChannel Due) at so
at_so (SearchChannel Asked) c parts at so = so
at_so Search c parts at so = by (is_due c.query)
  where
    sent : Stepped
    sent = course.sends_sdu 0x0001 (Octets (request_octets c.query)) (record c { query = after_request c.query; left = c.left - 1; rest = request_octets c.query }) parts

    by : (b : Bool) → Keeps (cond b sent (course.rests c parts))
    by true = of_stage sent.client Search at tt
    by false = so
at_so (SearchEnd Due) c parts at so = tt
at_so (SearchEnd Asked) c parts at so = so
at_so (Features Due) c parts at so = tt
at_so (Features Asked) c parts at so = so
at_so (ObjectChannel Due) c parts at so = tt
at_so (ObjectChannel Asked) c parts at so = so
at_so Object c parts at so = let one = course.steps_object c.transport c parts in on_so one.client (object_on c.transport c parts (ap is_past at))
at_so (ObjectEnd Due) c parts at so = tt
at_so (ObjectEnd Asked) c parts at so = so
at_so (LinkEnd Due) c parts at so = tt
at_so (LinkEnd Asked) c parts at so = so
at_so Over c parts at so = ended_so c.cause c parts so

abbrev pub lacking : Client → List Part → Stepped
lacking c parts = record { client = c; step = NoMemory; left = parts }

pub steps_keep : (c : Client) (parts : List Part) → S c → Keeps (steps c parts)
steps_keep c parts so =
    either c.failed (lacking c parts) (cond c.given (course.rests c parts) (course.steps_at c.stage c parts)) so
    (either c.given (course.rests c parts) (course.steps_at c.stage c parts) so (at_so c.stage c parts refl so))

-- ---- a push that is cancelled

pub cancels_so : (c : Client) (parts : List Part) → c.failed ≡ false → c.given ≡ false → S c → Keeps (steps (cancelled c) parts)
cancels_so c parts works free so = chosen (may_cancel c)
  where
    sought : c.stage ≡ Search → (let d : Client = record c { cause = Some outcomes.Cancelled; stage = in_order c.stage } in Keeps (steps d parts))
    sought at =
        let d : Client = record c { cause = Some outcomes.Cancelled; stage = in_order c.stage } in
        subst (λ b. Keeps (cond b (lacking d parts) (cond c.given (course.rests d parts) (course.steps_at d.stage d parts)))) (sym works)
        (subst (λ b. Keeps (cond b (course.rests d parts) (course.steps_at d.stage d parts))) (sym free)
        (subst (λ (stage : Stage). Keeps (course.steps_at (in_order stage) d parts)) (sym at) tt))

    first : (searches : Bool) → is_search c.stage ≡ searches → (let d : Client = record c { cause = Some outcomes.Cancelled; stage = in_order c.stage } in Keeps (steps d parts))
    first true is = sought (search_at c.stage is)
    first false is =
        let d : Client = record c { cause = Some outcomes.Cancelled; stage = in_order c.stage } in
        steps_keep d parts (order_so c.stage c.query (λ at. let never : true ≡ false = sym (ap is_search at) ∙ is in cc) so)

    by : (cause : Option Outcome) → Keeps (steps (ends_by cause outcomes.Cancelled c) parts)
    by None = first (is_search c.stage) refl
    by (Some earlier) = let d : Client = record c { stage = at_once c.stage } in steps_keep d parts (at_once_so c.stage c.query so)

    chosen : (b : Bool) → Keeps (steps (cond b (ends outcomes.Cancelled c) c) parts)
    chosen true = by c.cause
    chosen false = steps_keep c parts so

pub clients_search_in_order : ClientsSearchInOrder
clients_search_in_order = record { first = λ settings. tt; begins = begins_so; hears = hears_so; goes = steps_keep; cancels = cancels_so }
