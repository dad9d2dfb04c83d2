-- What a client that uses its link asks of its host next, and how it stands then.
use Rattle.std.proofs.Common.{◌≡◌, ℕ, List, [], ◌∷◌, eqb, Bool, true, false, cond, Option, Some, None, Result, Ok, Err, refl, sym, ap, subst, ◌∙◌, inr}
use Rattle.std.specs.Prelude.{is_some}
use Rattle.shelf_model.specs.bt_base.specs.declared.ports.PortFault.{PortFault}
use Rattle.shelf_model.specs.bt_base.specs.declared.ports.PortFault.TheVariants as fault
use Rattle.shelf_model.specs.bt_base.specs.declared.settings.Transport.{Transport}
use Rattle.shelf_model.specs.bt_base.specs.declared.settings.Transport.TheVariants.{L2cap, Rfcomm}
use Rattle.shelf_model.specs.push_terms.specs.declared.outcome.Outcome.{Outcome}
use Rattle.shelf_model.specs.push_terms.specs.declared.outcome.Outcome.TheVariants as outcomes
use Rattle.shelf_model.specs.rfcomm_model.specs.Machine.{leaves}
use Rattle.shelf_model.specs.rfcomm_model.specs.Saying.{Said, next}
use Rattle.shelf_model.specs.sdp_client.specs.Asking.{is_due}
use Rattle.push_laws.specs.push_model.specs.declared.course.Contact.TheVariants.{Closing}
use Rattle.push_laws.specs.push_model.specs.declared.course.Point.TheVariants.{Due, Asked}
use Rattle.push_laws.specs.push_model.specs.declared.course.Stage.{Stage}
use Rattle.push_laws.specs.push_model.specs.declared.course.Stage.TheVariants.{Rest, Link, SearchChannel, Search, SearchEnd, Features, ObjectChannel, Object, ObjectEnd, LinkEnd, Over}
use Rattle.push_laws.specs.push_model.specs.Client.{Client, ends}
use Rattle.push_laws.specs.push_model.specs.Events.{is_asking_features}
use Rattle.push_laws.specs.push_model.specs.Steps as course
use Rattle.push_laws.specs.push_model.specs.Steps.{Part, Step, Wait, MakeLink, AskFeatures, OpenChannel, SendSdu, CloseChannel, BreakLink, Ended, NoMemory, Stepped, Made, Ask, Connect, Put, Abort, Disconnect, Close, Nothing, steps}
use Rattle.host_laws.specs.Leaving.{in_use, is_closing, is_off}
use Rattle.host_laws.proofs.Faces.{ends_link, may_ask, Goes, same_face, same, OnObject, Objects, objects_if, objects_end, object_goes}

-- ---- one step

-- it stands as before, or goes on to its next channel or to the end of the one that it has
abbrev pub StepSo : (before after : Client) → Step → Type 0
StepSo c d Wait = Goes c d
StepSo c d MakeLink = is_off d.stage ≡ true
StepSo c d AskFeatures = (in_use c.stage c.psm ≡ None) × (is_asking_features c.stage ≡ false) × (is_asking_features d.stage ≡ true)
StepSo c d (OpenChannel psm) = (in_use c.stage c.psm ≡ None) × (is_asking_features c.stage ≡ false) × (in_use d.stage d.psm ≡ Some psm) × (may_ask d.stage (is_some d.cause) ≡ true)
StepSo c d (SendSdu psm payload) = Goes c d
StepSo c d (CloseChannel psm) = (in_use d.stage d.psm ≡ in_use c.stage c.psm) × (is_closing d.stage ≡ true) × (may_ask c.stage (is_some c.cause) ≡ true → ends_link d.stage (is_some d.cause) ≡ true) × (is_asking_features c.stage ≡ false)
StepSo c d BreakLink = is_off d.stage ≡ true
StepSo c d (Ended outcome) = is_off d.stage ≡ true
StepSo c d NoMemory = Goes c d

abbrev pub StepsSo : Client → Stepped → Type 0
StepsSo c one = StepSo c one.client one.step

-- ---- on the channel of the object

abbrev OnStep : ℕ → Client → Step → Type 0
OnStep psm d Wait = Objects psm d
OnStep psm d MakeLink = ⊥
OnStep psm d AskFeatures = ⊥
OnStep psm d (OpenChannel other) = ⊥
OnStep psm d (SendSdu other payload) = Objects psm d
OnStep psm d (CloseChannel other) = (d.psm ≡ psm) × (d.stage ≡ ObjectEnd Asked)
OnStep psm d BreakLink = ⊥
OnStep psm d (Ended outcome) = ⊥
OnStep psm d NoMemory = Objects psm d

abbrev OnIt : ℕ → Stepped → Type 0
OnIt psm one = OnStep psm one.client one.step

either : (b : Bool) (psm : ℕ) (x y : Stepped) → OnIt psm x → OnIt psm y → OnIt psm (cond b x y)
either true psm x y one other = one
either false psm x y one other = other

-- requests
abbrev MadeOn : ℕ → Made → Type 0
MadeOn psm made = Objects psm made.client

leaves_on : (ask : Ask) (psm : ℕ) (c : Client) (parts : List Part) → Objects psm c → MadeOn psm (course.leaves_by ask c parts)
leaves_on Connect psm c parts on = on
leaves_on Put psm c parts on = on
leaves_on Abort psm c parts on = on
leaves_on Disconnect psm c parts on = on
leaves_on Close psm c parts on = on
leaves_on Nothing psm c parts on = on

failing_on : (psm : ℕ) (c : Client) (parts : List Part) → Objects psm c → MadeOn psm (course.failing c parts)
failing_on psm c parts on = let ended = ends outcomes.ShelfFault c in leaves_on (course.next_ask ended) psm ended parts (objects_end psm outcomes.ShelfFault c on)

part_on : (part : Part) (psm : ℕ) (c : Client) (parts : List Part) → Objects psm c → MadeOn psm (course.puts_part part c parts)
part_on (Ok octets) psm c parts on = on
part_on (Err fault) psm c parts on = on

from_on : (psm : ℕ) (parts : List Part) (c : Client) → Objects psm c → MadeOn psm (course.puts_from parts c)
from_on psm [] c on = on
from_on psm (part ∷ parts) c on = part_on part psm c parts on

puts_on : (psm : ℕ) (c : Client) (parts : List Part) → Objects psm c → MadeOn psm (course.puts c parts)
puts_on psm c parts on = by (eqb (course.put_count c) 0)
  where
    by : (b : Bool) → MadeOn psm (cond b (course.puts_part (Ok []) c parts) (course.puts_from parts c))
    by true = part_on (Ok []) psm c parts on
    by false = from_on psm parts c on

put_or_leaves : (outcome : Result (Unit {0}) PortFault) (psm : ℕ) (put : Made) → MadeOn psm put → MadeOn psm (course.puts_or_leaves outcome put)
put_or_leaves (Ok done) psm put on = on
put_or_leaves (Err fault.Failed) psm put on = failing_on psm put.client put.left on
put_or_leaves (Err fault.NoMemory) psm put on = on

requests_on : (ask : Ask) (psm : ℕ) (c : Client) (parts : List Part) → Objects psm c → MadeOn psm (course.requests ask c parts)
requests_on Connect psm c parts on = on
requests_on Put psm c parts on = let put = course.puts c parts in put_or_leaves put.outcome psm put (puts_on psm c parts on)
requests_on Abort psm c parts on = on
requests_on Disconnect psm c parts on = on
requests_on Close psm c parts on = on
requests_on Nothing psm c parts on = on

direct_on : (outcome : Result (Unit {0}) PortFault) (psm : ℕ) (request : Made) → MadeOn psm request → OnIt psm (course.sends_direct outcome request)
direct_on (Ok done) psm request on = on
direct_on (Err fault) psm request on = on

asks_direct_on : (ask : Ask) (psm : ℕ) (c : Client) (parts : List Part) → c.psm ≡ psm → Objects psm c → OnIt psm (course.asks_direct ask c parts)
asks_direct_on Close psm c parts is on = (is, refl)
asks_direct_on Nothing psm c parts is on = on
asks_direct_on Connect psm c parts is on = let request = course.requests Connect c parts in direct_on request.outcome psm request (requests_on Connect psm c parts on)
asks_direct_on Put psm c parts is on = let request = course.requests Put c parts in direct_on request.outcome psm request (requests_on Put psm c parts on)
asks_direct_on Abort psm c parts is on = let request = course.requests Abort c parts in direct_on request.outcome psm request (requests_on Abort psm c parts on)
asks_direct_on Disconnect psm c parts is on = let request = course.requests Disconnect c parts in direct_on request.outcome psm request (requests_on Disconnect psm c parts on)

filled_on : (psm : ℕ) (c : Client) → Objects psm c → Objects psm (course.filled c)
filled_on psm c on = objects_if psm _ _ c on on

said_on : (said : Option Said) (psm : ℕ) (c : Client) (parts : List Part) → Objects psm c → OnIt psm (course.said_by said c parts)
said_on None psm c parts on = on
said_on (Some said) psm c parts on = on

says_on : (psm : ℕ) (c : Client) (parts : List Part) → Objects psm c → OnIt psm (course.says c parts)
says_on psm c parts on = let full = course.filled c in said_on (next full.mux) psm full parts (filled_on psm c on)

muxed_on : (outcome : Result (Unit {0}) PortFault) (psm : ℕ) (request : Made) → MadeOn psm request → OnIt psm (course.sends_muxed outcome request)
muxed_on (Ok done) psm request on = says_on psm request.client request.left on
muxed_on (Err fault) psm request on = on

through_on : (ask : Ask) (psm : ℕ) (c : Client) (parts : List Part) → Objects psm c → OnIt psm (course.asks_through ask c parts)
through_on ask psm c parts on =
    let bare : Client = record c { rest = [] } in
    let request = course.requests ask bare parts in
    either (course.takes_some c.mux) psm (course.sends_muxed request.outcome request) (course.rests c parts) (muxed_on request.outcome psm request (requests_on ask psm bare parts on)) on

asks_muxed_on : (ask : Ask) (psm : ℕ) (c : Client) (parts : List Part) → Objects psm c → OnIt psm (course.asks_muxed ask c parts)
asks_muxed_on Close psm c parts on = let leaving : Client = record c { mux = leaves c.mux; contact = Closing } in says_on psm leaving parts on
asks_muxed_on Nothing psm c parts on = on
asks_muxed_on Connect psm c parts on = through_on Connect psm c parts on
asks_muxed_on Put psm c parts on = through_on Put psm c parts on
asks_muxed_on Abort psm c parts on = through_on Abort psm c parts on
asks_muxed_on Disconnect psm c parts on = through_on Disconnect psm c parts on

goes_muxed_on : (said : Option Said) (psm : ℕ) (c : Client) (parts : List Part) → Objects psm c → OnIt psm (course.goes_muxed said c parts)
goes_muxed_on None psm c parts on =
    let quiet : Client = record c { frame = None } in either (course.may_ask quiet) psm (course.asks_muxed (course.next_ask quiet) quiet parts) (course.rests quiet parts) (asks_muxed_on (course.next_ask quiet) psm quiet parts on) on
goes_muxed_on (Some said) psm c parts on = on

object_on : (transport : Transport) (c : Client) (parts : List Part) → c.stage ≡ Object → OnIt c.psm (course.steps_object transport c parts)
object_on L2cap c parts at =
    let bare : Client = record c { rest = [] } in
    let on : Objects c.psm c = inr (refl, subst OnObject (sym at) tt) in
    either (course.may_ask c) c.psm (course.asks_direct (course.next_ask c) bare parts) (course.rests c parts) (asks_direct_on (course.next_ask c) c.psm bare parts refl on) on
object_on Rfcomm c parts at = let full = course.filled c in goes_muxed_on (next full.mux) c.psm full parts (filled_on c.psm c (inr (refl, subst OnObject (sym at) tt)))

object_so : (c d : Client) (step : Step) → c.stage ≡ Object → OnStep c.psm d step → StepSo c d step
object_so c d Wait at on = object_goes c d at on
object_so c d MakeLink at on = absurd on
object_so c d AskFeatures at on = absurd on
object_so c d (OpenChannel psm) at on = absurd on
object_so c d (SendSdu psm payload) at on = object_goes c d at on
object_so c d (CloseChannel psm) at (same_psm, to) = (
  ap (λ stage. in_use stage d.psm) to ∙ (ap Some same_psm ∙ sym (ap (λ stage. in_use stage c.psm) at)),
  ap is_closing to,
  λ m. ap (λ stage. ends_link stage (is_some d.cause)) to,
  ap is_asking_features at,
)
object_so c d BreakLink at on = absurd on
object_so c d (Ended outcome) at on = absurd on
object_so c d NoMemory at on = object_goes c d at on

-- ---- all stages

either_so : (b : Bool) (c : Client) (x y : Stepped) → StepsSo c x → StepsSo c y → StepsSo c (cond b x y)
either_so true c x y one other = one
either_so false c x y one other = other

over_so : (cause : Option Outcome) (c : Client) (parts : List Part) → StepsSo c (course.tells_end cause c parts)
over_so None c parts = same c
over_so (Some outcome) c parts = refl

at_so : (stage : Stage) (c : Client) (parts : List Part) → c.stage ≡ stage → StepsSo c (course.steps_at stage c parts)
at_so Rest c parts at = same c
at_so (Link Due) c parts at = refl
at_so (Link Asked) c parts at = same c
at_so (SearchChannel Due) c parts at = (ap (λ stage. in_use stage c.psm) at, ap is_asking_features at, refl, refl)
at_so (SearchChannel Asked) c parts at = same c
at_so Search c parts at = either_so (is_due c.query) c _ (course.rests c parts) (inr (same_face c.stage c.psm (is_some c.cause))) (same c)
at_so (SearchEnd Due) c parts at = (sym (ap (λ stage. in_use stage c.psm) at), refl, λ m. sym (ap (λ stage. may_ask stage (is_some c.cause)) at) ∙ m, ap is_asking_features at)
at_so (SearchEnd Asked) c parts at = same c
at_so (Features Due) c parts at = (ap (λ stage. in_use stage c.psm) at, ap is_asking_features at, refl)
at_so (Features Asked) c parts at = same c
at_so (ObjectChannel Due) c parts at = (ap (λ stage. in_use stage c.psm) at, ap is_asking_features at, refl, refl)
at_so (ObjectChannel Asked) c parts at = same c
at_so Object c parts at = let one = course.steps_object c.transport c parts in object_so c one.client one.step at (object_on c.transport c parts at)
at_so (ObjectEnd Due) c parts at = (sym (ap (λ stage. in_use stage c.psm) at), refl, λ m. refl, ap is_asking_features at)
at_so (ObjectEnd Asked) c parts at = same c
at_so (LinkEnd Due) c parts at = refl
at_so (LinkEnd Asked) c parts at = same c
at_so Over c parts at = over_so c.cause c parts

pub steps_so : (c : Client) (parts : List Part) → StepsSo c (steps c parts)
steps_so c parts =
    let lacking : Stepped = record { client = c; step = NoMemory; left = parts } in
    either_so c.failed c lacking (cond c.given (course.rests c parts) (course.steps_at c.stage c parts)) (same c)
    (either_so c.given c (course.rests c parts) (course.steps_at c.stage c parts) (same c) (at_so c.stage c parts refl))

-- ---- off, it stays off

abbrev IsOff : Stepped → Type 0
IsOff one = is_off one.client.stage ≡ true

either_off : (b : Bool) (x y : Stepped) → IsOff x → IsOff y → IsOff (cond b x y)
either_off true x y one other = one
either_off false x y one other = other

over_off : (cause : Option Outcome) (c : Client) (parts : List Part) → is_off c.stage ≡ true → IsOff (course.tells_end cause c parts)
over_off None c parts off = off
over_off (Some outcome) c parts off = refl

at_off : (stage : Stage) (c : Client) (parts : List Part) → is_off stage ≡ true → is_off c.stage ≡ true → IsOff (course.steps_at stage c parts)
at_off Rest c parts is off = off
at_off (Link Due) c parts is off = refl
at_off (Link Asked) c parts is off = off
at_off (LinkEnd Due) c parts is off = refl
at_off (LinkEnd Asked) c parts is off = off
at_off Over c parts is off = over_off c.cause c parts off
at_off (SearchChannel point) c parts is off = cc
at_off Search c parts is off = cc
at_off (SearchEnd point) c parts is off = cc
at_off (Features point) c parts is off = cc
at_off (ObjectChannel point) c parts is off = cc
at_off Object c parts is off = cc
at_off (ObjectEnd point) c parts is off = cc

pub steps_off : (c : Client) (parts : List Part) → is_off c.stage ≡ true → is_off (steps c parts).client.stage ≡ true
steps_off c parts off =
    let lacking : Stepped = record { client = c; step = NoMemory; left = parts } in
    either_off c.failed lacking (cond c.given (course.rests c parts) (course.steps_at c.stage c parts)) off
    (either_off c.given (course.rests c parts) (course.steps_at c.stage c parts) off (at_off c.stage c parts off off))
