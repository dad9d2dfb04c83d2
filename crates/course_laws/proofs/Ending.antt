-- A cause raises no number of steps, whatever stage a push is in.
use Rattle.std.proofs.Common.{◌≡◌, ℕ, ◌≤◌, Bool, true, false, cond, Option, Some, None, is_some, refl, sym, ap, subst, arith, if◌then◌else◌}
use Rattle.push_terms.specs.declared.outcome.Outcome.{Outcome}
use Rattle.push_terms.specs.declared.outcome.Outcome.TheVariants as outcomes
use Rattle.push_model.specs.obex_session.specs.Asking.{Asking}
use Rattle.push_model.specs.sdp_client.specs.Asking.{is_due}
use Rattle.push_model.specs.declared.course.Contact.{Contact}
use Rattle.push_model.specs.declared.course.Contact.TheVariants.{Unmet, Met, Left, Closing}
use Rattle.push_model.specs.declared.course.Point.TheVariants.{Due, Asked}
use Rattle.push_model.specs.declared.course.Stage.{Stage}
use Rattle.push_model.specs.declared.course.Stage.TheVariants.{Rest, Link, SearchChannel, Search, SearchEnd, Features, ObjectChannel, Object, ObjectEnd, LinkEnd, Over}
use Rattle.push_model.specs.Causes.{Ending, InOrder, AtOnce, ending_of}
use Rattle.push_model.specs.Client.{Client, in_order, at_once, stage_after, ends_by, ends, ends_if, may_cancel, cancelled}
use Rattle.course_laws.specs.Left.{requests_left, sum_left, steps_left}

-- ---- stages

pub in_order_less : (stage : Stage) (due : Bool) (less more : ℕ) → less ≤ more → sum_left (in_order stage) due less ≤ sum_left stage due more
in_order_less Rest due less more le = omega arith
in_order_less (Link Due) due less more le = omega arith
in_order_less (Link Asked) due less more le = omega (arith, le)
in_order_less (SearchChannel Due) due less more le = omega arith
in_order_less (SearchChannel Asked) due less more le = omega (arith, le)
in_order_less Search due less more le = omega (arith, le)
in_order_less (SearchEnd Due) due less more le = omega (arith, le)
in_order_less (SearchEnd Asked) due less more le = omega (arith, le)
in_order_less (Features Due) due less more le = omega arith
in_order_less (Features Asked) due less more le = omega arith
in_order_less (ObjectChannel Due) due less more le = omega arith
in_order_less (ObjectChannel Asked) due less more le = omega arith
in_order_less Object due less more le = omega (arith, le)
in_order_less (ObjectEnd Due) due less more le = omega arith
in_order_less (ObjectEnd Asked) due less more le = omega arith
in_order_less (LinkEnd Due) due less more le = omega arith
in_order_less (LinkEnd Asked) due less more le = omega arith
in_order_less Over due less more le = omega arith

pub at_once_less : (stage : Stage) (due : Bool) (less more : ℕ) → less ≤ more → sum_left (at_once stage) due less ≤ sum_left stage due more
at_once_less Rest due less more le = omega arith
at_once_less (Link Due) due less more le = omega arith
at_once_less (Link Asked) due less more le = omega (arith, le)
at_once_less (SearchChannel Due) due less more le = omega arith
at_once_less (SearchChannel Asked) due less more le = omega arith
at_once_less Search due less more le = omega arith
at_once_less (SearchEnd Due) due less more le = omega arith
at_once_less (SearchEnd Asked) due less more le = omega arith
at_once_less (Features Due) due less more le = omega arith
at_once_less (Features Asked) due less more le = omega arith
at_once_less (ObjectChannel Due) due less more le = omega arith
at_once_less (ObjectChannel Asked) due less more le = omega arith
at_once_less Object due less more le = omega arith
at_once_less (ObjectEnd Due) due less more le = omega arith
at_once_less (ObjectEnd Asked) due less more le = omega arith
at_once_less (LinkEnd Due) due less more le = omega arith
at_once_less (LinkEnd Asked) due less more le = omega arith
at_once_less Over due less more le = omega arith

ending_less : (ending : Ending) (stage : Stage) (due : Bool) (less more : ℕ) → less ≤ more → sum_left (stage_after ending stage) due less ≤ sum_left stage due more
ending_less InOrder stage due less more le = in_order_less stage due less more le
ending_less AtOnce stage due less more le = at_once_less stage due less more le

-- ---- requests

pub at_most : (b : Bool) (k : ℕ) → cond b k 0 ≤ k
at_most true k = omega arith
at_most false k = omega arith

-- with a cause there are two at most, and never more than without
pub cause_less : (contact : Contact) (outcome : Outcome) (session after : Asking) (size : ℕ) → requests_left contact (Some outcome) after size ≤ requests_left contact None session size
cause_less Unmet outcome session after size = let few = at_most (is_some after.awaited) 2 in omega (arith, few)
cause_less Met outcome session after size = let few = at_most (is_some after.put) 1 in omega (arith, few)
cause_less Left outcome session after size = omega arith
cause_less Closing outcome session after size = omega arith

-- ---- a client

ends_by_less : (cause : Option Outcome) (outcome : Outcome) (client : Client) → client.cause ≡ cause → steps_left (ends_by cause outcome client) ≤ steps_left client
ends_by_less None outcome client is =
    let fewer = cause_less client.contact outcome client.session client.session client.size in
    let same = ap (λ k. requests_left client.contact k client.session client.size) is in
    ending_less (ending_of outcome) client.stage (is_due client.query) (requests_left client.contact (Some outcome) client.session client.size) (requests_left client.contact client.cause client.session client.size) (omega (arith, fewer, same))
ends_by_less (Some earlier) outcome client is =
    at_once_less client.stage (is_due client.query) (requests_left client.contact client.cause client.session client.size) (requests_left client.contact client.cause client.session client.size) (omega arith)

pub ends-less : (outcome : Outcome) (client : Client) → steps_left (ends outcome client) ≤ steps_left client
ends-less outcome client = ends_by_less client.cause outcome client refl

pub ends_if-less : (found : Option Outcome) (client : Client) → steps_left (ends_if found client) ≤ steps_left client
ends_if-less None client = omega arith
ends_if-less (Some outcome) client = ends-less outcome client

pub either : (test : Bool) (a b : Client) (n : ℕ) → steps_left a ≤ n → steps_left b ≤ n → steps_left (if test then a else b) ≤ n
either true a b n here there = here
either false a b n here there = there

pub cancels-less : (client : Client) → steps_left (cancelled client) ≤ steps_left client
cancels-less client = either (may_cancel client) (ends outcomes.Cancelled client) client (steps_left client) (ends-less outcomes.Cancelled client) (omega arith)

-- where its session heard a response, on the channel of the object
object_once : (due : Bool) (less more : ℕ) → sum_left (at_once Object) due less ≤ sum_left Object due more
object_once due less more = omega arith

anew_by : (cause : Option Outcome) (outcome : Outcome) (session : Asking) (client : Client) → client.cause ≡ cause → client.stage ≡ Object → steps_left (ends_by cause outcome (record client { session = session })) ≤ steps_left client
anew_by None outcome session client is at =
    let fewer = cause_less client.contact outcome client.session session client.size in
    let same = ap (λ k. requests_left client.contact k client.session client.size) is in
    ending_less (ending_of outcome) client.stage (is_due client.query) (requests_left client.contact (Some outcome) session client.size) (requests_left client.contact client.cause client.session client.size) (omega (arith, fewer, same))
anew_by (Some earlier) outcome session client is at =
    let less = requests_left client.contact client.cause session client.size in
    let more = requests_left client.contact client.cause client.session client.size in
    subst (λ s. sum_left (at_once s) (is_due client.query) less ≤ sum_left s (is_due client.query) more) (sym at) (object_once (is_due client.query) less more)

pub ends-anew : (outcome : Outcome) (session : Asking) (client : Client) → client.stage ≡ Object → steps_left (ends outcome (record client { session = session })) ≤ steps_left client
ends-anew outcome session client at = anew_by client.cause outcome session client refl at

-- ---- it goes on to another stage

pub moves : (client : Client) (stage after : Stage) → client.stage ≡ stage → ((due : Bool) (requests : ℕ) → sum_left after due requests ≤ sum_left stage due requests) → steps_left (record client { stage = after }) ≤ steps_left client
moves client stage after is less =
    let due : Bool = is_due client.query in
    let requests : ℕ = requests_left client.contact client.cause client.session client.size in
    subst (λ s. sum_left after due requests ≤ sum_left s due requests) (sym is) (less due requests)
