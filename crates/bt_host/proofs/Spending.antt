-- What a step of a client makes of the answers of its shelf: how many it uses, whether its push ends by one, and whether it wants memory.
use Rattle.std.proofs.Common.{◌≡◌, ◌∙◌, ◌⊎◌, ◌&&◌, ◌-◌, ◌==◌, not, ℕ, Bool, true, false, List, [], ◌∷◌, length, drop, refl, sym, ap, subst, inl, inr, if◌then◌else◌}
use Rattle.std.specs.Prelude.{Option, Some, None, Result, Ok, Err}
use Rattle.bt_base.specs.declared.ports.PortFault.{PortFault}
use Rattle.bt_base.specs.declared.ports.PortFault.TheVariants as fault
use Rattle.bt_base.specs.declared.settings.Transport.{Transport}
use Rattle.bt_base.specs.declared.settings.Transport.TheVariants.{L2cap, Rfcomm}
use Rattle.push_terms.specs.declared.outcome.Outcome.{Outcome}
use Rattle.push_terms.specs.declared.outcome.Outcome.TheVariants.{ShelfFault}
use Rattle.shelf_model.specs.rfcomm_frames.specs.FrameReading.{is_empty}
use Rattle.shelf_model.specs.rfcomm_model.specs.Machine.{leaves, is_ready, sends, taken_count}
use Rattle.shelf_model.specs.rfcomm_model.specs.Saying.{Said, next}
use Rattle.shelf_model.specs.sdp_client.specs.Asking.{is_due, after_request, request_octets}
use Rattle.push_model.specs.declared.course.Contact.{Contact}
use Rattle.push_model.specs.declared.course.Contact.TheVariants.{Unmet, Met, Left, Closing}
use Rattle.push_model.specs.declared.course.Point.TheVariants.{Due, Asked}
use Rattle.push_model.specs.declared.course.Stage.{Stage}
use Rattle.push_model.specs.declared.course.Stage.TheVariants.{Rest, Link, SearchChannel, Search, SearchEnd, Features, ObjectChannel, Object, ObjectEnd, LinkEnd, Over}
use Rattle.push_model.specs.Client.{Client, ends, ends_by}
use Rattle.push_model.specs.Laws.{link_steps}
use Rattle.push_model.specs.Payloads.{Octets}
use Rattle.push_model.specs.Steps as course
use Rattle.push_model.specs.Steps.{Part as Octs, Ask, Connect, Put, Abort, Disconnect, Close, Nothing, Made, Stepped, steps, steps_at}

-- Whether it failed, its cause, and its answers, ahead of a step. The step leaves all answers as they are; or it uses one that was given; or its push ends
-- since the shelf failed, or was to answer nothing more, and no link is asked for; or it wants memory.
pub data Spends (failed : Bool) (cause : Option Outcome) (parts : List Octs) (one : Stepped) : Type 0 where
  Keeps : one.left ≡ parts → one.client.failed ≡ failed → one.client.cause ≡ cause → Spends failed cause parts one
  Takes : (part : List ℕ) → parts ≡ Ok part ∷ one.left → one.client.failed ≡ failed → one.client.cause ≡ cause → Spends failed cause parts one
  Fails : (parts ≡ Err fault.Failed ∷ one.left) ⊎ ((parts ≡ []) × (one.left ≡ [])) → one.client.failed ≡ failed → cause ≡ None → one.client.cause ≡ Some ShelfFault → link_steps one.step ≡ 0 → Spends failed cause parts one
  Wants : parts ≡ Err fault.NoMemory ∷ one.left → one.client.failed ≡ true → Spends failed cause parts one

either : (test : Bool) (failed : Bool) (cause : Option Outcome) (parts : List Octs) (a b : Stepped) → Spends failed cause parts a → Spends failed cause parts b → Spends failed cause parts (if test then a else b)
either true failed cause parts a b first second = first
either false failed cause parts a b first second = second

-- ---- requests

data IsMade (failed : Bool) (cause : Option Outcome) (parts : List Octs) (made : Made) : Type 0 where
  Kept : made.left ≡ parts → made.client.failed ≡ failed → made.client.cause ≡ cause → IsMade failed cause parts made
  Taken : (part : List ℕ) → parts ≡ Ok part ∷ made.left → made.client.failed ≡ failed → made.client.cause ≡ cause → IsMade failed cause parts made
  Failed : (parts ≡ Err fault.Failed ∷ made.left) ⊎ ((parts ≡ []) × (made.left ≡ [])) → made.client.failed ≡ failed → cause ≡ None → made.client.cause ≡ Some ShelfFault → IsMade failed cause parts made

data Makes (failed : Bool) (cause : Option Outcome) (parts : List Octs) (made : Made) : Type 0 where
  Goes : made.outcome ≡ Ok tt → IsMade failed cause parts made → Makes failed cause parts made
  Lacks : (cause_of : PortFault) → made.outcome ≡ Err cause_of → parts ≡ Err fault.NoMemory ∷ made.left → Makes failed cause parts made

leaving : (ask : Ask) (client ended : Client) (parts rest : List Octs) → (parts ≡ Err fault.Failed ∷ rest) ⊎ ((parts ≡ []) × (rest ≡ [])) → ended.failed ≡ client.failed → client.cause ≡ None → ended.cause ≡ Some ShelfFault
    → Makes client.failed client.cause parts (course.leaves_by ask ended rest)
leaving Connect client ended parts rest is failed none now = Goes refl (Failed is failed none now)
leaving Put client ended parts rest is failed none now = Goes refl (Failed is failed none now)
leaving Abort client ended parts rest is failed none now = Goes refl (Failed is failed none now)
leaving Disconnect client ended parts rest is failed none now = Goes refl (Failed is failed none now)
leaving Close client ended parts rest is failed none now = Goes refl (Failed is failed none now)
leaving Nothing client ended parts rest is failed none now = Goes refl (Failed is failed none now)

failing : (client : Client) (parts rest : List Octs) → (parts ≡ Err fault.Failed ∷ rest) ⊎ ((parts ≡ []) × (rest ≡ [])) → client.cause ≡ None → Makes client.failed client.cause parts (course.failing client rest)
failing client parts rest is none =
    let ended = ends ShelfFault client in
    leaving (course.next_ask ended) client ended parts rest is (ap (λ (c : Option Outcome). (ends_by c ShelfFault client).failed) none) none (ap (λ (c : Option Outcome). (ends_by c ShelfFault client).cause) none)

puts_from_so : (parts : List Octs) (client : Client) → client.cause ≡ None → Makes client.failed client.cause parts (let put = course.puts_from parts client in course.puts_or_leaves put.outcome put)
puts_from_so [] client none = failing client [] [] (inr (refl, refl)) none
puts_from_so (Ok part ∷ rest) client none = Goes refl (Taken part refl refl refl)
puts_from_so (Err fault.Failed ∷ rest) client none = failing client (Err fault.Failed ∷ rest) rest (inl refl) none
puts_from_so (Err fault.NoMemory ∷ rest) client none = Lacks fault.NoMemory refl refl

puts_by : (empty : Bool) (client : Client) (parts : List Octs) → client.cause ≡ None
    → Makes client.failed client.cause parts (let put = if empty then course.puts_part (Ok []) client parts else course.puts_from parts client in course.puts_or_leaves put.outcome put)
puts_by true client parts none = Goes refl (Kept refl refl refl)
puts_by false client parts none = puts_from_so parts client none

requests_so : (ask : Ask) (client : Client) (parts : List Octs) → (ask ≡ Put → client.cause ≡ None) → Makes client.failed client.cause parts (course.requests ask client parts)
requests_so Connect client parts none = Goes refl (Kept refl refl refl)
requests_so Put client parts none = puts_by (course.put_count client == 0) client parts (none refl)
requests_so Abort client parts none = Goes refl (Kept refl refl refl)
requests_so Disconnect client parts none = Goes refl (Kept refl refl refl)
requests_so Close client parts none = Goes refl (Kept refl refl refl)
requests_so Nothing client parts none = Goes refl (Kept refl refl refl)

-- an object is put as long as its push has no cause
puts_alone : (contact : Contact) (cause : Option Outcome) (put : Option ℕ) → course.asks contact cause put ≡ Put → cause ≡ None
puts_alone Unmet None put is = refl
puts_alone Unmet (Some outcome) put is = cc
puts_alone Met None put is = refl
puts_alone Met (Some outcome) None is = cc
puts_alone Met (Some outcome) (Some place) is = cc
puts_alone Left cause put is = cc
puts_alone Closing cause put is = cc

-- ---- steps that ask for nothing

record Same (client : Client) (parts : List Octs) (one : Stepped) : Type 0 where
  left : one.left ≡ parts
  failed : one.client.failed ≡ client.failed
  cause : one.client.cause ≡ client.cause
  step : link_steps one.step ≡ 0

filled_by : (test : Bool) (client full : Client) → full.failed ≡ client.failed → full.cause ≡ client.cause → ((if test then full else client).failed ≡ client.failed) × ((if test then full else client).cause ≡ client.cause)
filled_by true client full failed cause = (failed, cause)
filled_by false client full failed cause = (refl, refl)

filled_same : (client : Client) → ((course.filled client).failed ≡ client.failed) × ((course.filled client).cause ≡ client.cause)
filled_same client =
    filled_by (is_ready client.mux && not (is_empty client.rest)) client (record client { mux = sends client.rest client.mux; rest = drop (taken_count (length client.rest) client.mux) client.rest }) refl refl

said_same : (said : Option Said) (client : Client) (parts : List Octs) → Same client parts (course.said_by said client parts)
said_same None client parts = record { left = refl; failed = refl; cause = refl; step = refl }
said_same (Some said) client parts = record { left = refl; failed = refl; cause = refl; step = refl }

says_same : (client : Client) (parts : List Octs) → Same client parts (course.says client parts)
says_same client parts =
    let full = course.filled client in
    let so = said_same (next full.mux) full parts in
    let full_so = filled_same client in
    record { left = so.left; failed = so.failed ∙ full_so.0; cause = so.cause ∙ full_so.1; step = so.step }

-- ---- what becomes of a request

behind : (failed : Bool) (cause : Option Outcome) (parts : List Octs) (made : Made) (one : Stepped) → IsMade failed cause parts made → Same made.client made.left one → Spends failed cause parts one
behind failed cause parts made one (Kept left f c) same = Keeps (same.left ∙ left) (same.failed ∙ f) (same.cause ∙ c)
behind failed cause parts made one (Taken part is f c) same = Takes part (is ∙ ap (λ (l : List Octs). Ok part ∷ l) (sym same.left)) (same.failed ∙ f) (same.cause ∙ c)
behind failed cause parts made one (Failed (inl is) f none c) same = Fails (inl (is ∙ ap (λ (l : List Octs). Err fault.Failed ∷ l) (sym same.left))) (same.failed ∙ f) none (same.cause ∙ c) same.step
behind failed cause parts made one (Failed (inr is) f none c) same = Fails (inr (is.0, same.left ∙ is.1)) (same.failed ∙ f) none (same.cause ∙ c) same.step

direct_so : (failed : Bool) (cause : Option Outcome) (parts : List Octs) (made : Made) → Makes failed cause parts made → Spends failed cause parts (course.sends_direct made.outcome made)
direct_so failed cause parts made (Goes ok is) =
    subst (λ (o : Result (Unit {0}) PortFault). Spends failed cause parts (course.sends_direct o made)) (sym ok) (behind failed cause parts made (course.sends_direct (Ok tt) made) is (record { left = refl; failed = refl; cause = refl; step = refl }))
direct_so failed cause parts made (Lacks f err is) = subst (λ (o : Result (Unit {0}) PortFault). Spends failed cause parts (course.sends_direct o made)) (sym err) (Wants is refl)

muxed_so : (failed : Bool) (cause : Option Outcome) (parts : List Octs) (made : Made) → Makes failed cause parts made → Spends failed cause parts (course.sends_muxed made.outcome made)
muxed_so failed cause parts made (Goes ok is) =
    subst (λ (o : Result (Unit {0}) PortFault). Spends failed cause parts (course.sends_muxed o made)) (sym ok) (behind failed cause parts made (course.says made.client made.left) is (says_same made.client made.left))
muxed_so failed cause parts made (Lacks f err is) = subst (λ (o : Result (Unit {0}) PortFault). Spends failed cause parts (course.sends_muxed o made)) (sym err) (Wants is refl)

-- ---- over L2CAP, and over RFCOMM

asks_direct_so : (ask : Ask) (client : Client) (parts : List Octs) → (ask ≡ Put → client.cause ≡ None) → Spends client.failed client.cause parts (course.asks_direct ask client parts)
asks_direct_so Close client parts none = Keeps refl refl refl
asks_direct_so Nothing client parts none = Keeps refl refl refl
asks_direct_so Connect client parts none = direct_so client.failed client.cause parts (course.requests Connect client parts) (requests_so Connect client parts none)
asks_direct_so Put client parts none = direct_so client.failed client.cause parts (course.requests Put client parts) (requests_so Put client parts none)
asks_direct_so Abort client parts none = direct_so client.failed client.cause parts (course.requests Abort client parts) (requests_so Abort client parts none)
asks_direct_so Disconnect client parts none = direct_so client.failed client.cause parts (course.requests Disconnect client parts) (requests_so Disconnect client parts none)

through_so : (ask : Ask) (client : Client) (parts : List Octs) → (ask ≡ Put → client.cause ≡ None) → Spends client.failed client.cause parts (course.asks_through ask client parts)
through_so ask client parts none =
    let bare : Client = record client { rest = [] } in
    let request = course.requests ask bare parts in
    either (course.takes_some client.mux) client.failed client.cause parts (course.sends_muxed request.outcome request) (course.rests client parts)
    (muxed_so client.failed client.cause parts request (requests_so ask bare parts none)) (Keeps refl refl refl)

asks_muxed_so : (ask : Ask) (client : Client) (parts : List Octs) → (ask ≡ Put → client.cause ≡ None) → Spends client.failed client.cause parts (course.asks_muxed ask client parts)
asks_muxed_so Close client parts none = let so = says_same (record client { mux = leaves client.mux; contact = Closing }) parts in Keeps so.left so.failed so.cause
asks_muxed_so Nothing client parts none = Keeps refl refl refl
asks_muxed_so Connect client parts none = through_so Connect client parts none
asks_muxed_so Put client parts none = through_so Put client parts none
asks_muxed_so Abort client parts none = through_so Abort client parts none
asks_muxed_so Disconnect client parts none = through_so Disconnect client parts none

goes_so : (said : Option Said) (full : Client) (parts : List Octs) → Spends full.failed full.cause parts (course.goes_muxed said full parts)
goes_so None full parts =
    let quiet : Client = record full { frame = None } in
    either (course.may_ask quiet) full.failed full.cause parts (course.asks_muxed (course.next_ask quiet) quiet parts) (course.rests quiet parts)
    (asks_muxed_so (course.next_ask quiet) quiet parts (λ is. puts_alone full.contact full.cause full.session.put is)) (Keeps refl refl refl)
goes_so (Some said) full parts = Keeps refl refl refl

object_so : (transport : Transport) (client : Client) (parts : List Octs) → Spends client.failed client.cause parts (course.steps_object transport client parts)
object_so L2cap client parts =
    let bare : Client = record client { rest = [] } in
    either (course.may_ask client) client.failed client.cause parts (course.asks_direct (course.next_ask client) bare parts) (course.rests client parts)
    (asks_direct_so (course.next_ask client) bare parts (λ is. puts_alone client.contact client.cause client.session.put is)) (Keeps refl refl refl)
object_so Rfcomm client parts =
    let full = course.filled client in
    let same = filled_same client in
    subst (λ (f : Bool). Spends f client.cause parts (course.steps_muxed client parts)) same.0
    (subst (λ (c : Option Outcome). Spends full.failed c parts (course.steps_muxed client parts)) same.1 (goes_so (next full.mux) full parts))

-- ---- all steps

over_so : (cause : Option Outcome) (client : Client) (parts : List Octs) → Spends client.failed client.cause parts (course.tells_end cause client parts)
over_so None client parts = Keeps refl refl refl
over_so (Some outcome) client parts = Keeps refl refl refl

at_so : (stage : Stage) (client : Client) (parts : List Octs) → Spends client.failed client.cause parts (steps_at stage client parts)
at_so Rest client parts = Keeps refl refl refl
at_so (Link Due) client parts = Keeps refl refl refl
at_so (Link Asked) client parts = Keeps refl refl refl
at_so (SearchChannel Due) client parts = Keeps refl refl refl
at_so (SearchChannel Asked) client parts = Keeps refl refl refl
at_so Search client parts =
    let asked : Client = record client { query = after_request client.query; left = client.left - 1; rest = request_octets client.query } in
    either (is_due client.query) client.failed client.cause parts (course.sends_sdu 0x0001 (Octets (request_octets client.query)) asked parts) (course.rests client parts) (Keeps refl refl refl) (Keeps refl refl refl)
at_so (SearchEnd Due) client parts = Keeps refl refl refl
at_so (SearchEnd Asked) client parts = Keeps refl refl refl
at_so (Features Due) client parts = Keeps refl refl refl
at_so (Features Asked) client parts = Keeps refl refl refl
at_so (ObjectChannel Due) client parts = Keeps refl refl refl
at_so (ObjectChannel Asked) client parts = Keeps refl refl refl
at_so Object client parts = object_so client.transport client parts
at_so (ObjectEnd Due) client parts = Keeps refl refl refl
at_so (ObjectEnd Asked) client parts = Keeps refl refl refl
at_so (LinkEnd Due) client parts = Keeps refl refl refl
at_so (LinkEnd Asked) client parts = Keeps refl refl refl
at_so Over client parts = over_so client.cause client parts

pub spends : (client : Client) (parts : List Octs) → Spends client.failed client.cause parts (steps client parts)
spends client parts =
    let lacking : Stepped = record { client = client; step = course.NoMemory; left = parts } in
    either client.failed client.failed client.cause parts lacking (if client.given then course.rests client parts else steps_at client.stage client parts) (Keeps refl refl refl)
    (either client.given client.failed client.cause parts (course.rests client parts) (steps_at client.stage client parts) (Keeps refl refl refl) (at_so client.stage client parts))
