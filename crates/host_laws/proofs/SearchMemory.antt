-- A client has memory while it searches.
use Rattle.std.proofs.Common.{◌≡◌, ℕ, List, Bool, true, false, cond, eqb, not, ◌&&◌, ◌||◌, ◌-◌, Option, Some, None, Result, Ok, Err, refl, sym, ap, ◌∙◌, inl, inr}
use Rattle.std.specs.Prelude.{min, nat_lt}
use Rattle.shelf_model.specs.bt_base.specs.declared.ports.PortFault.{PortFault}
use Rattle.shelf_model.specs.bt_base.specs.declared.ports.PortFault.TheVariants as fault
use Rattle.shelf_model.specs.bt_base.specs.declared.settings.Transport.{Transport}
use Rattle.shelf_model.specs.bt_base.specs.declared.settings.Transport.TheVariants.{L2cap, Rfcomm}
use Rattle.shelf_model.specs.push_terms.specs.declared.outcome.Outcome.{Outcome}
use Rattle.shelf_model.specs.push_terms.specs.declared.outcome.Outcome.TheVariants as outcomes
use Rattle.shelf_model.specs.sdp_client.specs.Asking.{is_due, request_octets, after_request, after_resend}
use Rattle.push_laws.specs.push_model.specs.declared.closing.CloseCause.{CloseCause}
use Rattle.push_laws.specs.push_model.specs.declared.course.Point.TheVariants.{Due, Asked}
use Rattle.push_laws.specs.push_model.specs.declared.course.Stage.{Stage}
use Rattle.push_laws.specs.push_model.specs.declared.course.Stage.TheVariants.{Rest, Link, SearchChannel, Search, SearchEnd, Features, ObjectChannel, Object, ObjectEnd, LinkEnd, Over}
use Rattle.push_laws.specs.push_model.specs.Causes.{Ending, InOrder, AtOnce, ending_of, cause_of_link, cause_of_page, cause_of_close, small_channel}
use Rattle.push_laws.specs.push_model.specs.Client.{Client, in_order, at_once, stage_after, ends_by, ends, ends_if, may_cancel, cancelled, begun_by, begins}
use Rattle.push_laws.specs.push_model.specs.Events as events
use Rattle.push_laws.specs.push_model.specs.Events.{News, LinkUp, LinkDown, LinkFailed, ChannelOpen, ChannelClosed, Sdu, FeaturesTold, FeaturesLost, Timer, linked_at, over_by, over, hears_outside, hears_object, object_opened, opened_at, closed_at, sdu_at, armed, hears_news}
use Rattle.push_laws.specs.push_model.specs.Payloads.{Octets}
use Rattle.push_laws.specs.push_model.specs.Steps as course
use Rattle.push_laws.specs.push_model.specs.Steps.{Part, Stepped, steps}
use Rattle.host_laws.specs.SearchOrder.{is_apart, SearchesWithMemory, ClientsSearchWithMemory}
use Rattle.host_laws.proofs.Memory.{well_if, well_ends, news_well}
use Rattle.host_laws.proofs.Past.{is_past, object_heard, outside_on, object_on}
use Rattle.host_laws.proofs.SearchOrder.{lacking}

abbrev pub Apart : Client → Type 0
Apart c = is_apart c.stage ≡ true

abbrev pub W : Client → Type 0
W c = SearchesWithMemory c

pub past_apart : (stage : Stage) → is_past stage ≡ true → is_apart stage ≡ true
past_apart (Features point) is = refl
past_apart (ObjectChannel point) is = refl
past_apart Object is = refl
past_apart (ObjectEnd point) is = refl
past_apart (LinkEnd point) is = refl
past_apart Rest is = cc
past_apart (Link point) is = cc
past_apart (SearchChannel point) is = cc
past_apart Search is = cc
past_apart (SearchEnd point) is = cc
past_apart Over is = cc

pub pick : (b : Bool) (c d : Client) → Apart c → Apart d → Apart (cond b c d)
pick true c d one other = one
pick false c d one other = other

-- ---- a cause

pub at_once_apart : (stage : Stage) → is_apart stage ≡ true → is_apart (at_once stage) ≡ true
at_once_apart Rest is = refl
at_once_apart (Features point) is = refl
at_once_apart (ObjectChannel point) is = refl
at_once_apart Object is = refl
at_once_apart (ObjectEnd point) is = refl
at_once_apart (LinkEnd point) is = refl
at_once_apart Over is = refl
at_once_apart (Link point) is = cc
at_once_apart (SearchChannel point) is = cc
at_once_apart Search is = cc
at_once_apart (SearchEnd point) is = cc

pub order_apart : (stage : Stage) → is_apart stage ≡ true → is_apart (in_order stage) ≡ true
order_apart Rest is = refl
order_apart (Features point) is = refl
order_apart (ObjectChannel Due) is = refl
order_apart (ObjectChannel Asked) is = refl
order_apart Object is = refl
order_apart (ObjectEnd point) is = refl
order_apart (LinkEnd point) is = refl
order_apart Over is = refl
order_apart (Link point) is = cc
order_apart (SearchChannel point) is = cc
order_apart Search is = cc
order_apart (SearchEnd point) is = cc

pub after_apart : (ending : Ending) (stage : Stage) → is_apart stage ≡ true → is_apart (stage_after ending stage) ≡ true
after_apart InOrder stage is = order_apart stage is
after_apart AtOnce stage is = at_once_apart stage is

pub ends_apart : (outcome : Outcome) (c : Client) → Apart c → Apart (ends outcome c)
ends_apart outcome c is = by c.cause
  where
    by : (cause : Option Outcome) → Apart (ends_by cause outcome c)
    by None = after_apart (ending_of outcome) c.stage is
    by (Some earlier) = at_once_apart c.stage is

pub if_apart : (cause : Option Outcome) (c : Client) → Apart c → Apart (ends_if cause c)
if_apart None c is = is
if_apart (Some outcome) c is = ends_apart outcome c is

-- ---- what it hears

pub linked_apart : (stage : Stage) (c : Client) → is_apart stage ≡ true → Apart c → Apart (linked_at stage c)
linked_apart (Link Asked) c at is = cc
linked_apart (Link Due) c at is = is
linked_apart Rest c at is = is
linked_apart (SearchChannel point) c at is = is
linked_apart Search c at is = is
linked_apart (SearchEnd point) c at is = is
linked_apart (Features point) c at is = is
linked_apart (ObjectChannel point) c at is = is
linked_apart Object c at is = is
linked_apart (ObjectEnd point) c at is = is
linked_apart (LinkEnd point) c at is = is
linked_apart Over c at is = is

pub over_apart : (outcome : Outcome) (c : Client) → Apart (over outcome c)
over_apart outcome c = by c.cause
  where
    by : (cause : Option Outcome) → Apart (over_by cause outcome c)
    by None = refl
    by (Some earlier) = refl

pub object_apart : (transport : Transport) (mtu : ℕ) (c : Client) → Apart c → Apart (object_opened transport mtu c)
object_apart L2cap mtu c is = pick (nat_lt mtu 255) (ends small_channel c) (record c { stage = Object; limit = min mtu 32767 }) (ends_apart small_channel c is) refl
object_apart Rfcomm mtu c is = refl

pub opened_apart : (stage : Stage) (psm mtu : ℕ) (c : Client) → is_apart stage ≡ true → Apart c → Apart (opened_at stage psm mtu c)
opened_apart (SearchChannel Asked) psm mtu c at is = cc
opened_apart (ObjectChannel Asked) psm mtu c at is = pick (eqb psm c.psm) (object_opened c.transport mtu c) c (object_apart c.transport mtu c is) is
opened_apart Rest psm mtu c at is = is
opened_apart (Link point) psm mtu c at is = is
opened_apart (SearchChannel Due) psm mtu c at is = is
opened_apart Search psm mtu c at is = is
opened_apart (SearchEnd point) psm mtu c at is = is
opened_apart (Features point) psm mtu c at is = is
opened_apart (ObjectChannel Due) psm mtu c at is = is
opened_apart Object psm mtu c at is = is
opened_apart (ObjectEnd point) psm mtu c at is = is
opened_apart (LinkEnd point) psm mtu c at is = is
opened_apart Over psm mtu c at is = is

pub closed_apart : (stage : Stage) (psm : ℕ) (cause : CloseCause) (c : Client) → is_apart stage ≡ true → Apart c → Apart (closed_at stage psm cause c)
closed_apart (SearchChannel Asked) psm cause c at is = cc
closed_apart Search psm cause c at is = cc
closed_apart (SearchEnd point) psm cause c at is = cc
closed_apart (ObjectChannel Asked) psm cause c at is = pick (eqb psm c.psm) (ends_if (cause_of_close cause) c) c (if_apart (cause_of_close cause) c is) is
closed_apart Object psm cause c at is = pick (eqb psm c.psm) (ends_if (cause_of_close cause) c) c (if_apart (cause_of_close cause) c is) is
closed_apart (ObjectEnd point) psm cause c at is = pick (eqb psm c.psm) (record c { stage = LinkEnd Due }) c refl is
closed_apart Rest psm cause c at is = is
closed_apart (Link point) psm cause c at is = is
closed_apart (SearchChannel Due) psm cause c at is = is
closed_apart (Features point) psm cause c at is = is
closed_apart (ObjectChannel Due) psm cause c at is = is
closed_apart (LinkEnd point) psm cause c at is = is
closed_apart Over psm cause c at is = is

pub sdu_apart : (stage : Stage) (psm : ℕ) (sdu : List ℕ) (c : Client) → c.stage ≡ stage → is_apart stage ≡ true → Apart c → Apart (sdu_at stage psm sdu c)
sdu_apart Search psm sdu c at on is = cc
sdu_apart (ObjectChannel point) psm sdu c at on is = pick (eqb psm c.psm) (hears_outside c.transport c) c (past_apart (hears_outside c.transport c).stage (outside_on c.transport c (ap is_past at))) is
sdu_apart Object psm sdu c at on is = pick (eqb psm c.psm) (hears_object c.transport sdu c) c (past_apart (hears_object c.transport sdu c).stage (object_heard c.transport sdu c (ap is_past at))) is
sdu_apart (ObjectEnd point) psm sdu c at on is = pick (eqb psm c.psm) (hears_outside c.transport c) c (past_apart (hears_outside c.transport c).stage (outside_on c.transport c (ap is_past at))) is
sdu_apart Rest psm sdu c at on is = is
sdu_apart (Link point) psm sdu c at on is = is
sdu_apart (SearchChannel point) psm sdu c at on is = is
sdu_apart (SearchEnd point) psm sdu c at on is = is
sdu_apart (Features point) psm sdu c at on is = is
sdu_apart (LinkEnd point) psm sdu c at on is = is
sdu_apart Over psm sdu c at on is = is

pub news_apart : (news : News) (c : Client) → Apart c → Apart (hears_news news c)
news_apart LinkUp c is = linked_apart c.stage c is is
news_apart (LinkDown reason) c is = pick (events.is_linked c.stage) (over (cause_of_link reason) c) c (over_apart (cause_of_link reason) c) is
news_apart (LinkFailed status) c is = pick (events.is_paging c.stage) (over (cause_of_page status) c) c (over_apart (cause_of_page status) c) is
news_apart (ChannelOpen psm mtu) c is = opened_apart c.stage psm mtu c is is
news_apart (ChannelClosed psm cause) c is = closed_apart c.stage psm cause c is is
news_apart (Sdu psm octets) c is = sdu_apart c.stage psm octets c refl is is
news_apart FeaturesTold c is = pick (events.is_asking_features c.stage) (record c { stage = ObjectChannel Due }) c refl is
news_apart FeaturesLost c is = pick (events.is_asking_features c.stage) (ends outcomes.RetryLimit c) c (ends_apart outcomes.RetryLimit c is) is
news_apart Timer c is = pick (armed c && not (c.given || is_due c.query)) (cond (eqb c.left 0) (ends outcomes.RetryLimit c) again) c (pick (eqb c.left 0) (ends outcomes.RetryLimit c) again (ends_apart outcomes.RetryLimit c is) is) is
  where
    again : Client
    again = record c { query = after_resend c.query }

pub hears_memory : (news : News) (c : Client) → W c → W (hears_news news c)
hears_memory news c (inl works) = inl (news_well news c works)
hears_memory news c (inr is) = inr (news_apart news c is)

pub cancels_memory : (c : Client) → W c → W (cancelled c)
cancels_memory c (inl works) = inl (well_if (may_cancel c) (ends outcomes.Cancelled c) c (well_ends outcomes.Cancelled c works) works)
cancels_memory c (inr is) = inr (pick (may_cancel c) (ends outcomes.Cancelled c) c (ends_apart outcomes.Cancelled c is) is)

pub begins_memory : (size : Result ℕ PortFault) (name : List ℕ) (c : Client) → c.stage ≡ Rest → W (begins size name c)
begins_memory size name c at = by c.failed refl
  where
    begun : (s : Result ℕ PortFault) → c.failed ≡ false → W (begun_by s name c)
    begun (Ok n) works = inl works
    begun (Err fault.Failed) works = inl works
    begun (Err fault.NoMemory) works = inr (ap is_apart at)

    by : (b : Bool) → c.failed ≡ b → W (cond b c (begun_by size name c))
    by true fails = inr (ap is_apart at)
    by false works = begun size works

-- ---- its steps

abbrev pub Keeps : Stepped → Type 0
Keeps one = W one.client

pub either : (b : Bool) (x y : Stepped) → Keeps x → Keeps y → Keeps (cond b x y)
either true x y one other = one
either false x y one other = other

pub ended_memory : (cause : Option Outcome) (c : Client) (parts : List Part) → W c → Keeps (course.tells_end cause c parts)
ended_memory None c parts so = so
ended_memory (Some outcome) c parts so = inr refl

pub at_memory : (stage : Stage) (c : Client) (parts : List Part) → c.stage ≡ stage → W c → Keeps (course.steps_at stage c parts)
at_memory Rest c parts at so = so
at_memory (Link Due) c parts at (inl works) = inl works
at_memory (Link Due) c parts at (inr is) = let never : false ≡ true = sym (ap is_apart at) ∙ is in cc
at_memory (Link Asked) c parts at so = so
at_memory (SearchChannel Due) c parts at (inl works) = inl works
at_memory (SearchChannel Due) c parts at (inr is) = let never : false ≡ true = sym (ap is_apart at) ∙ is in cc
at_memory (SearchChannel Asked) c parts at so = so
at_memory Search c parts at (inr is) = let never : false ≡ true = sym (ap is_apart at) ∙ is in cc
at_memory Search c parts at (inl works) = by (is_due c.query)
  where
    asked : Stepped
    asked = course.sends_sdu 0x0001 (Octets (request_octets c.query)) (record c { query = after_request c.query; left = c.left - 1; rest = request_octets c.query }) parts

    by : (b : Bool) → Keeps (cond b asked (course.rests c parts))
    by true = inl works
    by false = inl works
at_memory (SearchEnd Due) c parts at (inl works) = inl works
at_memory (SearchEnd Due) c parts at (inr is) = let never : false ≡ true = sym (ap is_apart at) ∙ is in cc
at_memory (SearchEnd Asked) c parts at so = so
at_memory (Features Due) c parts at so = inr refl
at_memory (Features Asked) c parts at so = so
at_memory (ObjectChannel Due) c parts at so = inr refl
at_memory (ObjectChannel Asked) c parts at so = so
at_memory Object c parts at so = let one = course.steps_object c.transport c parts in inr (past_apart one.client.stage (object_on c.transport c parts (ap is_past at)))
at_memory (ObjectEnd Due) c parts at so = inr refl
at_memory (ObjectEnd Asked) c parts at so = so
at_memory (LinkEnd Due) c parts at so = inr refl
at_memory (LinkEnd Asked) c parts at so = so
at_memory Over c parts at so = ended_memory c.cause c parts so

pub steps_memory : (c : Client) (parts : List Part) → W c → Keeps (steps c parts)
steps_memory c parts so =
    either c.failed (lacking c parts) (cond c.given (course.rests c parts) (course.steps_at c.stage c parts)) so
    (either c.given (course.rests c parts) (course.steps_at c.stage c parts) so (at_memory c.stage c parts refl so))

pub clients_search_with_memory : ClientsSearchWithMemory
clients_search_with_memory = record { first = λ settings. inl refl; begins = begins_memory; hears = hears_memory; goes = steps_memory; cancels = cancels_memory }
