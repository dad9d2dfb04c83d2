-- How a client stands with its channel: what it hears and does on its link leaves that as it is, or nothing is left to it but its link.
use Rattle.std.proofs.Common.{◌≡◌, ℕ, zero, suc, List, [], ◌++◌, length, Bool, true, false, cond, eqb, ◌&&◌, Option, Some, None, Result, Ok, Err, refl, sym, ap, subst, ◌∙◌, ◌⊎◌, inl, inr}
use Rattle.std.specs.Prelude.{is_some}
use Rattle.shelf_model.specs.bt_base.specs.declared.ports.PortFault.{PortFault}
use Rattle.shelf_model.specs.bt_base.specs.declared.ports.PortFault.TheVariants as fault
use Rattle.shelf_model.specs.bt_base.specs.declared.settings.Transport.{Transport}
use Rattle.shelf_model.specs.bt_base.specs.declared.settings.Transport.TheVariants.{L2cap, Rfcomm}
use Rattle.shelf_model.specs.push_terms.specs.declared.outcome.Outcome.{Outcome}
use Rattle.shelf_model.specs.push_terms.specs.declared.outcome.Outcome.TheVariants as outcomes
use Rattle.shelf_model.specs.rfcomm_model.specs.Hearing as hearing
use Rattle.shelf_model.specs.rfcomm_model.specs.Hearing.{Up, nothing, opened, bytes, closed, up}
use Rattle.shelf_model.specs.obex_session.specs.declared.client.Answered.{Answered}
use Rattle.shelf_model.specs.obex_session.specs.declared.client.Answered.TheVariants as answers
use Rattle.shelf_model.specs.obex_session.specs.Views.{answer_at, after_at}
use Rattle.shelf_model.specs.sdp_elements.specs.declared.target.Target.{Target}
use Rattle.shelf_model.specs.sdp_elements.specs.Targets.{is_service_psm, is_server_channel}
use Rattle.shelf_model.specs.sdp_client.specs.declared.reason.Found.{Found}
use Rattle.shelf_model.specs.sdp_client.specs.declared.reason.Found.TheVariants.{More, Service, NoService, Refused}
use Rattle.shelf_model.specs.sdp_client.specs.Hearing.{found_at, after_reply}
use Rattle.push_laws.specs.push_model.specs.declared.course.Point.TheVariants.{Due, Asked}
use Rattle.push_laws.specs.push_model.specs.declared.course.Stage.{Stage}
use Rattle.push_laws.specs.push_model.specs.declared.course.Stage.TheVariants.{Rest, Link, SearchChannel, Search, SearchEnd, Features, ObjectChannel, Object, ObjectEnd, LinkEnd, Over}
use Rattle.push_laws.specs.push_model.specs.Causes.{Ending, InOrder, AtOnce, ending_of, cause_of_mux, cause_of_obex, cause_of_query, cause_of_page, unknown_parameters, unawaited_response}
use Rattle.push_laws.specs.push_model.specs.Client.{Client, in_order, at_once, stage_after, ends_by, ends, ends_if, may_cancel, cancelled, begun_by, begins}
use Rattle.push_laws.specs.push_model.specs.Events as events
use Rattle.push_laws.specs.push_model.specs.Events.{is_asking_features, over_by, over, kept_of, found_psm, found_channel, found_way, finds, hears_reply, hears_outside, hears_object, sdu_at, fires, hears_news}
use Rattle.push_laws.specs.push_model.specs.Responding as responding
use Rattle.push_laws.specs.push_model.specs.Responding.{is_object, is_left, hears_answer, hears_response, hears_front, hears_stream, hears_end, hears_up, hears_frame}
use Rattle.push_laws.specs.push_model.specs.Streams.{Front, Whole, Partial, Broken, front_of}
use Rattle.host_laws.specs.Leaving.{in_use, is_closing, is_off}

-- ---- how it stands

-- once its channel is closed, it ends its link: with a cause, or on the channel of the object
abbrev pub ends_link : Stage → (cause : Bool) → Bool
ends_link Rest cause = false
ends_link (Link point) cause = false
ends_link (SearchChannel point) cause = false
ends_link Search cause = false
ends_link (SearchEnd point) cause = cause
ends_link (Features point) cause = false
ends_link (ObjectChannel point) cause = false
ends_link Object cause = false
ends_link (ObjectEnd point) cause = true
ends_link (LinkEnd point) cause = false
ends_link Over cause = false

-- its channel may be only asked for
abbrev pub may_ask : Stage → (cause : Bool) → Bool
may_ask Rest cause = false
may_ask (Link point) cause = false
may_ask (SearchChannel Due) cause = false
may_ask (SearchChannel Asked) cause = true
may_ask Search cause = false
may_ask (SearchEnd point) cause = cause
may_ask (Features point) cause = false
may_ask (ObjectChannel Due) cause = false
may_ask (ObjectChannel Asked) cause = true
may_ask Object cause = false
may_ask (ObjectEnd point) cause = true
may_ask (LinkEnd point) cause = false
may_ask Over cause = false

pub record KeepsFace (stage : Stage) (psm : ℕ) (cause : Bool) (stage' : Stage) (psm' : ℕ) (cause' : Bool) : Type 0 where
  pub used : in_use stage' psm' ≡ in_use stage psm
  pub may : may_ask stage cause ≡ true → may_ask stage' cause' ≡ true
  pub closes : is_closing stage ≡ true → is_closing stage' ≡ true
  pub asks : is_asking_features stage ≡ true → is_asking_features stage' ≡ true
  pub ends : ends_link stage cause ≡ true → ends_link stage' cause' ≡ true

abbrev pub Keeps : Client → Client → Type 0
Keeps c d = KeepsFace c.stage c.psm (is_some c.cause) d.stage d.psm (is_some d.cause)

-- it stands as before, or is off
abbrev pub Goes : Client → Client → Type 0
Goes c d = (is_off d.stage ≡ true) ⊎ Keeps c d

pub same_face : (stage : Stage) (psm : ℕ) (cause : Bool) → KeepsFace stage psm cause stage psm cause
same_face stage psm cause = record { used = refl; may = λ is. is; closes = λ is. is; asks = λ is. is; ends = λ is. is }

pub same : (c : Client) → Goes c c
same c = inr (same_face c.stage c.psm (is_some c.cause))

pub goes_both : (a b c : Client) → Goes a b → (is_off b.stage ≡ true → is_off c.stage ≡ true) → (is_off b.stage ≡ false → Goes b c) → Goes a c
goes_both a b c (inl off) stays goes = inl (stays off)
goes_both a b c (inr one) stays goes = by (is_off b.stage) refl
  where
    both : Goes b c → Goes a c
    both (inl off) = inl off
    both (inr two) = inr (record { used = two.used ∙ one.used; may = λ is. two.may (one.may is); closes = λ is. two.closes (one.closes is); asks = λ is. two.asks (one.asks is); ends = λ is. two.ends (one.ends is) })

    by : (off : Bool) → is_off b.stage ≡ off → Goes a c
    by true is = inl (stays is)
    by false is = both (goes is)

-- ---- a cause

pub off_at_once : (stage : Stage) → is_off (at_once stage) ≡ true
off_at_once Rest = refl
off_at_once (Link Due) = refl
off_at_once (Link Asked) = refl
off_at_once (SearchChannel point) = refl
off_at_once Search = refl
off_at_once (SearchEnd point) = refl
off_at_once (Features point) = refl
off_at_once (ObjectChannel point) = refl
off_at_once Object = refl
off_at_once (ObjectEnd point) = refl
off_at_once (LinkEnd point) = refl
off_at_once Over = refl

off_in_order : (stage : Stage) → is_off stage ≡ true → is_off (in_order stage) ≡ true
off_in_order Rest is = refl
off_in_order (Link Due) is = refl
off_in_order (Link Asked) is = refl
off_in_order (SearchChannel point) is = cc
off_in_order Search is = cc
off_in_order (SearchEnd point) is = cc
off_in_order (Features point) is = cc
off_in_order (ObjectChannel point) is = cc
off_in_order Object is = cc
off_in_order (ObjectEnd point) is = cc
off_in_order (LinkEnd point) is = refl
off_in_order Over is = refl

off_after : (ending : Ending) (stage : Stage) → is_off stage ≡ true → is_off (stage_after ending stage) ≡ true
off_after InOrder stage is = off_in_order stage is
off_after AtOnce stage is = off_at_once stage

pub off_ends : (outcome : Outcome) (c : Client) → is_off c.stage ≡ true → is_off (ends outcome c).stage ≡ true
off_ends outcome c is = by c.cause
  where
    by : (cause : Option Outcome) → is_off (ends_by cause outcome c).stage ≡ true
    by None = off_after (ending_of outcome) c.stage is
    by (Some earlier) = off_at_once c.stage

ordered : (stage : Stage) (psm : ℕ) (cause : Bool) → is_off stage ≡ false → (is_off (in_order stage) ≡ true) ⊎ KeepsFace stage psm cause (in_order stage) psm true
ordered Rest psm cause is = cc
ordered (Link point) psm cause is = cc
ordered (SearchChannel Due) psm cause is = inl refl
ordered (SearchChannel Asked) psm cause is = inr (record { used = refl; may = λ m. refl; closes = λ m. refl; asks = λ m. cc; ends = λ m. refl })
ordered Search psm cause is = inr (record { used = refl; may = λ m. refl; closes = λ m. refl; asks = λ m. cc; ends = λ m. refl })
ordered (SearchEnd point) psm cause is = inr (record { used = refl; may = λ m. refl; closes = λ m. refl; asks = λ m. cc; ends = λ m. refl })
ordered (Features point) psm cause is = inl refl
ordered (ObjectChannel Due) psm cause is = inl refl
ordered (ObjectChannel Asked) psm cause is = inr (record { used = refl; may = λ m. refl; closes = λ m. refl; asks = λ m. cc; ends = λ m. refl })
ordered Object psm cause is = inr (record { used = refl; may = λ m. cc; closes = λ m. cc; asks = λ m. cc; ends = λ m. cc })
ordered (ObjectEnd point) psm cause is = inr (record { used = refl; may = λ m. refl; closes = λ m. refl; asks = λ m. cc; ends = λ m. refl })
ordered (LinkEnd point) psm cause is = cc
ordered Over psm cause is = cc

pub ends_goes : (outcome : Outcome) (c : Client) → is_off c.stage ≡ false → Goes c (ends outcome c)
ends_goes outcome c is = by c.cause
  where
    after : (ending : Ending) → (let d : Client = record c { cause = Some outcome; stage = stage_after ending c.stage } in Goes c d)
    after InOrder = ordered c.stage c.psm (is_some c.cause) is
    after AtOnce = inl (off_at_once c.stage)

    by : (cause : Option Outcome) → Goes c (ends_by cause outcome c)
    by None = after (ending_of outcome)
    by (Some earlier) = inl (off_at_once c.stage)

-- ---- on the channel of the object

abbrev pub OnObject : Stage → Type 0
OnObject Object = Unit {0}
OnObject (ObjectEnd point) = Unit {0}
OnObject stage = ⊥

-- it stays on that channel, which has that PSM, or is off
abbrev pub Objects : ℕ → Client → Type 0
Objects psm c = (is_off c.stage ≡ true) ⊎ ((c.psm ≡ psm) × OnObject c.stage)

objects_order : (stage : Stage) → OnObject stage → OnObject (in_order stage)
objects_order Object on = tt
objects_order (ObjectEnd point) on = tt
objects_order Rest on = absurd on
objects_order (Link point) on = absurd on
objects_order (SearchChannel point) on = absurd on
objects_order Search on = absurd on
objects_order (SearchEnd point) on = absurd on
objects_order (Features point) on = absurd on
objects_order (ObjectChannel point) on = absurd on
objects_order (LinkEnd point) on = absurd on
objects_order Over on = absurd on

pub objects_end : (psm : ℕ) (outcome : Outcome) (c : Client) → Objects psm c → Objects psm (ends outcome c)
objects_end psm outcome c (inl off) = inl (off_ends outcome c off)
objects_end psm outcome c (inr (same_psm, on)) = by c.cause
  where
    after : (ending : Ending) → (let d : Client = record c { cause = Some outcome; stage = stage_after ending c.stage } in Objects psm d)
    after InOrder = inr (same_psm, objects_order c.stage on)
    after AtOnce = inl (off_at_once c.stage)

    by : (cause : Option Outcome) → Objects psm (ends_by cause outcome c)
    by None = after (ending_of outcome)
    by (Some earlier) = inl (off_at_once c.stage)

pub objects_if : (psm : ℕ) (b : Bool) (c d : Client) → Objects psm c → Objects psm d → Objects psm (cond b c d)
objects_if psm true c d one other = one
objects_if psm false c d one other = other

takes_objects : (psm : ℕ) (answer : Answered) (c : Client) → Objects psm c → Objects psm (responding.takes answer c)
takes_objects psm answers.Go c on = on
takes_objects psm answers.Done c on = objects_end psm outcomes.Done c on
takes_objects psm (answers.Refused code) c on = objects_end psm (outcomes.Refused code) c on
takes_objects psm (answers.Bad refusal) c on = objects_end psm (cause_of_obex refusal) c on
takes_objects psm answers.Srmp c on = objects_end psm unknown_parameters c on

answer_objects : (psm : ℕ) (answer : Option Answered) (packet : List ℕ) (c : Client) → Objects psm c → Objects psm (hears_answer answer packet c)
answer_objects psm None packet c on = objects_end psm unawaited_response c on
answer_objects psm (Some answer) packet c on =
    let heard : Client = record c { session = after_at c.session.awaited c.session packet } in
    objects_if psm (responding.is_success answer && responding.is_early c) (ends unawaited_response heard) (responding.takes answer heard) (objects_end psm unawaited_response heard on) (takes_objects psm answer heard on)

response_objects : (psm : ℕ) (packet : List ℕ) (c : Client) → Objects psm c → Objects psm (hears_response packet c)
response_objects psm packet c on = answer_objects psm (answer_at c.session.awaited c.session packet) packet c on

front_objects : (psm : ℕ) (more : List ℕ → Client → Client) (stream : List ℕ) (front : Front) (c : Client) → ((rest : List ℕ) (d : Client) → Objects psm d → Objects psm (more rest d)) → Objects psm c → Objects psm (hears_front more stream front c)
front_objects psm more stream (Whole packet rest) c goes on =
    let held : Client = record c { held = [] } in
    let d = hears_response packet held in
    let there = response_objects psm packet held on in
    objects_if psm (is_object d.stage) (more rest d) d (goes rest d there) there
front_objects psm more stream Partial c goes on = on
front_objects psm more stream (Broken refusal) c goes on = let held : Client = record c { held = [] } in objects_end psm (cause_of_obex refusal) held on

stream_objects : (psm count : ℕ) (stream : List ℕ) (c : Client) → Objects psm c → Objects psm (hears_stream count stream c)
unfolding hears_stream
stream_objects psm zero stream c on = on
stream_objects psm (suc count) stream c on = front_objects psm (λ rest d. hears_stream count rest d) stream (front_of c.session.maximum stream) c (λ rest d there. stream_objects psm count rest d there) on

frame_objects : (sdu : List ℕ) (c : Client) → c.stage ≡ Object → Objects c.psm (hears_frame sdu c)
frame_objects sdu c at = by (up sdu c.mux)
  where
    heard : Client
    heard = record c { mux = hearing.hears sdu c.mux }

    on : Objects c.psm heard
    on = inr (refl, subst OnObject (sym at) tt)

    by : (one : Up) → Objects c.psm (hears_up one heard)
    by nothing = on
    by opened = on
    by (bytes octets) = stream_objects c.psm (length (c.held ++ octets)) (c.held ++ octets) heard on
    by (closed reason) = objects_if c.psm (is_left c.contact reason) (record heard { stage = ObjectEnd Due }) (ends (cause_of_mux reason) heard) (inr (refl, tt)) (objects_end c.psm (cause_of_mux reason) heard on)

on_object : (stage : Stage) (psm : ℕ) (cause cause' : Bool) → OnObject stage → KeepsFace Object psm cause stage psm cause'
on_object Object psm cause cause' on = record { used = refl; may = λ m. cc; closes = λ m. cc; asks = λ m. cc; ends = λ m. cc }
on_object (ObjectEnd point) psm cause cause' on = record { used = refl; may = λ m. refl; closes = λ m. refl; asks = λ m. cc; ends = λ m. refl }
on_object Rest psm cause cause' on = absurd on
on_object (Link point) psm cause cause' on = absurd on
on_object (SearchChannel point) psm cause cause' on = absurd on
on_object Search psm cause cause' on = absurd on
on_object (SearchEnd point) psm cause cause' on = absurd on
on_object (Features point) psm cause cause' on = absurd on
on_object (ObjectChannel point) psm cause cause' on = absurd on
on_object (LinkEnd point) psm cause cause' on = absurd on
on_object Over psm cause cause' on = absurd on

pub object_goes : (c d : Client) → c.stage ≡ Object → Objects c.psm d → Goes c d
object_goes c d at (inl off) = inl off
object_goes c d at (inr (same_psm, on)) =
    inr (subst (λ (stage : Stage). KeepsFace stage c.psm (is_some c.cause) d.stage d.psm (is_some d.cause)) (sym at)
    (subst (λ n. KeepsFace Object c.psm (is_some c.cause) d.stage n (is_some d.cause)) (sym same_psm) (on_object d.stage c.psm (is_some c.cause) (is_some d.cause) on)))

-- ---- what it hears

goes_if : (b : Bool) (c d e : Client) → Goes c d → Goes c e → Goes c (cond b d e)
goes_if true c d e one other = one
goes_if false c d e one other = other

off_if : (b : Bool) (d e : Client) → is_off d.stage ≡ true → is_off e.stage ≡ true → is_off (cond b d e).stage ≡ true
off_if true d e one other = one
off_if false d e one other = other

-- the service was found
found_goes : (c d : Client) → c.stage ≡ Search → d.stage ≡ SearchEnd Due → Goes c d
found_goes c d at to = inr (subst (λ (stage : Stage). KeepsFace stage c.psm (is_some c.cause) d.stage d.psm (is_some d.cause)) (sym at)
    (subst (λ (stage : Stage). KeepsFace Search c.psm (is_some c.cause) stage d.psm (is_some d.cause)) (sym to) (record { used = refl; may = λ m. cc; closes = λ m. cc; asks = λ m. cc; ends = λ m. cc })))

is_on : (c : Client) (stage : Stage) → c.stage ≡ stage → is_off stage ≡ false → is_off c.stage ≡ false
is_on c stage at is = ap is_off at ∙ is

way_goes : (transport : Transport) (target : Target) (c : Client) → c.stage ≡ Search → Goes c (found_way transport target c)
way_goes L2cap target c at = by (kept_of is_service_psm target.l2cap)
  where
    by : (psm : Option ℕ) → Goes c (found_psm psm c)
    by None = ends_goes outcomes.NoService c (is_on c Search at refl)
    by (Some psm) = found_goes c (record c { psm = psm; stage = SearchEnd Due }) at refl
way_goes Rfcomm target c at = by (kept_of is_server_channel target.rfcomm)
  where
    by : (channel : Option ℕ) → Goes c (found_channel channel c)
    by None = ends_goes outcomes.NoService c (is_on c Search at refl)
    by (Some channel) = found_goes c (record c { psm = events.rfcomm_psm; channel = channel; stage = SearchEnd Due }) at refl

if_goes : (cause : Option Outcome) (c : Client) → is_off c.stage ≡ false → Goes c (ends_if cause c)
if_goes None c is = same c
if_goes (Some outcome) c is = ends_goes outcome c is

finds_goes : (found : Found) (c : Client) → c.stage ≡ Search → Goes c (finds found c)
finds_goes More c at = same c
finds_goes (Service target) c at = way_goes c.transport target c at
finds_goes NoService c at = ends_goes outcomes.NoService c (is_on c Search at refl)
finds_goes (Refused reason) c at = if_goes (cause_of_query reason) c (is_on c Search at refl)

outside_goes : (transport : Transport) (c : Client) → is_off c.stage ≡ false → Goes c (hears_outside transport c)
outside_goes L2cap c is = ends_goes unawaited_response c is
outside_goes Rfcomm c is = same c

object_heard : (transport : Transport) (sdu : List ℕ) (c : Client) → c.stage ≡ Object → Goes c (hears_object transport sdu c)
object_heard L2cap sdu c at = object_goes c (hears_response sdu c) at (response_objects c.psm sdu c (inr (refl, subst OnObject (sym at) tt)))
object_heard Rfcomm sdu c at = object_goes c (hears_frame sdu c) at (frame_objects sdu c at)

sdu_goes : (stage : Stage) (psm : ℕ) (sdu : List ℕ) (c : Client) → c.stage ≡ stage → Goes c (sdu_at stage psm sdu c)
sdu_goes Search psm sdu c at = goes_if (eqb psm 0x0001) c (hears_reply sdu c) c (finds_goes (found_at c.query sdu) (record c { query = after_reply c.query sdu }) at) (same c)
sdu_goes (ObjectChannel point) psm sdu c at = goes_if (eqb psm c.psm) c (hears_outside c.transport c) c (outside_goes c.transport c (is_on c (ObjectChannel point) at refl)) (same c)
sdu_goes Object psm sdu c at = goes_if (eqb psm c.psm) c (hears_object c.transport sdu c) c (object_heard c.transport sdu c at) (same c)
sdu_goes (ObjectEnd point) psm sdu c at = goes_if (eqb psm c.psm) c (hears_outside c.transport c) c (outside_goes c.transport c (is_on c (ObjectEnd point) at refl)) (same c)
sdu_goes Rest psm sdu c at = same c
sdu_goes (Link point) psm sdu c at = same c
sdu_goes (SearchChannel point) psm sdu c at = same c
sdu_goes (SearchEnd point) psm sdu c at = same c
sdu_goes (Features point) psm sdu c at = same c
sdu_goes (LinkEnd point) psm sdu c at = same c
sdu_goes Over psm sdu c at = same c

pub heard_goes : (psm : ℕ) (sdu : List ℕ) (c : Client) → Goes c (hears_news (events.Sdu psm sdu) c)
heard_goes psm sdu c = sdu_goes c.stage psm sdu c refl

pub timer_goes : (c : Client) → is_off c.stage ≡ false → Goes c (hears_news events.Timer c)
timer_goes c is = goes_if _ c _ c (goes_if (eqb c.left 0) c (ends outcomes.RetryLimit c) _ (ends_goes outcomes.RetryLimit c is) (same c)) (same c)

pub cancelled_goes : (c : Client) → is_off c.stage ≡ false → Goes c (cancelled c)
cancelled_goes c is = goes_if (may_cancel c) c (ends outcomes.Cancelled c) c (ends_goes outcomes.Cancelled c is) (same c)

over_off : (cause : Option Outcome) (outcome : Outcome) (c : Client) → is_off (over_by cause outcome c).stage ≡ true
over_off None outcome c = refl
over_off (Some earlier) outcome c = refl

pub failed_goes : (status : ℕ) (c : Client) → Goes c (hears_news (events.LinkFailed status) c)
failed_goes status c = goes_if (events.is_paging c.stage) c (over (cause_of_page status) c) c (inl (over_off c.cause (cause_of_page status) c)) (same c)

pub begins_goes : (size : Result ℕ PortFault) (name : List ℕ) (c : Client) → Goes c (begins size name c)
begins_goes size name c = goes_if c.failed c c (begun_by size name c) (same c) (by size)
  where
    by : (s : Result ℕ PortFault) → Goes c (begun_by s name c)
    by (Ok n) = inl refl
    by (Err fault.Failed) = inl refl
    by (Err fault.NoMemory) = same c

-- ---- off, it stays off

sdu_off : (stage : Stage) (psm : ℕ) (sdu : List ℕ) (c : Client) → is_off stage ≡ true → sdu_at stage psm sdu c ≡ c
sdu_off Rest psm sdu c is = refl
sdu_off (Link point) psm sdu c is = refl
sdu_off (LinkEnd point) psm sdu c is = refl
sdu_off Over psm sdu c is = refl
sdu_off (SearchChannel point) psm sdu c is = cc
sdu_off Search psm sdu c is = cc
sdu_off (SearchEnd point) psm sdu c is = cc
sdu_off (Features point) psm sdu c is = cc
sdu_off (ObjectChannel point) psm sdu c is = cc
sdu_off Object psm sdu c is = cc
sdu_off (ObjectEnd point) psm sdu c is = cc

pub heard_off : (psm : ℕ) (sdu : List ℕ) (c : Client) → is_off c.stage ≡ true → is_off (hears_news (events.Sdu psm sdu) c).stage ≡ true
heard_off psm sdu c is = ap (λ (d : Client). is_off d.stage) (sdu_off c.stage psm sdu c is) ∙ is

pub timer_off : (c : Client) → is_off c.stage ≡ true → is_off (hears_news events.Timer c).stage ≡ true
timer_off c is = off_if _ _ c (off_if (eqb c.left 0) (ends outcomes.RetryLimit c) _ (off_ends outcomes.RetryLimit c is) is) is

pub cancelled_off : (c : Client) → is_off c.stage ≡ true → is_off (cancelled c).stage ≡ true
cancelled_off c is = off_if (may_cancel c) (ends outcomes.Cancelled c) c (off_ends outcomes.Cancelled c is) is

pub failed_off : (status : ℕ) (c : Client) → is_off c.stage ≡ true → is_off (hears_news (events.LinkFailed status) c).stage ≡ true
failed_off status c is = off_if (events.is_paging c.stage) (over (cause_of_page status) c) c (over_off c.cause (cause_of_page status) c) is

pub begins_off : (size : Result ℕ PortFault) (name : List ℕ) (c : Client) → is_off c.stage ≡ true → is_off (begins size name c).stage ≡ true
begins_off size name c is = off_if c.failed c (begun_by size name c) is (by size)
  where
    by : (s : Result ℕ PortFault) → is_off (begun_by s name c).stage ≡ true
    by (Ok n) = refl
    by (Err fault.Failed) = refl
    by (Err fault.NoMemory) = is
