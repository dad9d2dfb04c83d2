-- A client on the channel of its object, or past it, stays so with each response that it hears and each step, until it is told that its link is gone.
use Rattle.std.proofs.Common.{◌≡◌, ℕ, zero, suc, List, [], ◌∷◌, ◌++◌, length, drop, Bool, true, false, cond, eqb, not, ◌&&◌, Option, Some, None, Result, Ok, Err, refl}
use Rattle.shelf_model.specs.bt_base.specs.declared.ports.PortFault.{PortFault}
use Rattle.shelf_model.specs.bt_base.specs.declared.ports.PortFault.TheVariants as fault
use Rattle.shelf_model.specs.bt_base.specs.declared.settings.Transport.{Transport}
use Rattle.shelf_model.specs.bt_base.specs.declared.settings.Transport.TheVariants.{L2cap, Rfcomm}
use Rattle.shelf_model.specs.push_terms.specs.declared.outcome.Outcome.{Outcome}
use Rattle.shelf_model.specs.push_terms.specs.declared.outcome.Outcome.TheVariants as outcomes
use Rattle.shelf_model.specs.rfcomm_frames.specs.FrameReading.{is_empty}
use Rattle.shelf_model.specs.rfcomm_model.specs.Hearing as hearing
use Rattle.shelf_model.specs.rfcomm_model.specs.Hearing.{Up, nothing, opened, bytes, closed, up}
use Rattle.shelf_model.specs.rfcomm_model.specs.Machine.{is_ready, sends, leaves, taken_count}
use Rattle.shelf_model.specs.rfcomm_model.specs.Saying.{Said, next}
use Rattle.shelf_model.specs.obex_session.specs.declared.client.Answered.{Answered}
use Rattle.shelf_model.specs.obex_session.specs.declared.client.Answered.TheVariants as answers
use Rattle.shelf_model.specs.obex_session.specs.Views.{answer_at, after_at}
use Rattle.push_laws.specs.push_model.specs.declared.course.Contact.TheVariants.{Closing}
use Rattle.push_laws.specs.push_model.specs.declared.course.Point.TheVariants.{Due, Asked}
use Rattle.push_laws.specs.push_model.specs.declared.course.Stage.{Stage}
use Rattle.push_laws.specs.push_model.specs.declared.course.Stage.TheVariants.{Rest, Link, SearchChannel, Search, SearchEnd, Features, ObjectChannel, Object, ObjectEnd, LinkEnd, Over}
use Rattle.push_laws.specs.push_model.specs.Causes.{Ending, InOrder, AtOnce, ending_of, cause_of_mux, cause_of_obex, unknown_parameters, unawaited_response}
use Rattle.push_laws.specs.push_model.specs.Client.{Client, in_order, at_once, stage_after, ends_by, ends}
use Rattle.push_laws.specs.push_model.specs.Events.{hears_outside, hears_object}
use Rattle.push_laws.specs.push_model.specs.Responding as responding
use Rattle.push_laws.specs.push_model.specs.Responding.{is_object, is_left, hears_answer, hears_response, hears_front, hears_stream, hears_end, hears_up, hears_frame}
use Rattle.push_laws.specs.push_model.specs.Streams.{Front, Whole, Partial, Broken, front_of}
use Rattle.push_laws.specs.push_model.specs.Steps as course
use Rattle.push_laws.specs.push_model.specs.Steps.{Part, Stepped, Made, Ask, Connect, Put, Abort, Disconnect, Close, Nothing}

-- ---- past its search, with its link

abbrev pub is_past : Stage → Bool
is_past Rest = false
is_past (Link point) = false
is_past (SearchChannel point) = false
is_past Search = false
is_past (SearchEnd point) = false
is_past (Features point) = true
is_past (ObjectChannel point) = true
is_past Object = true
is_past (ObjectEnd point) = true
is_past (LinkEnd point) = true
is_past Over = false

abbrev pub On : Client → Type 0
On c = is_past c.stage ≡ true

-- ---- a cause

pub on_order : (stage : Stage) → is_past stage ≡ true → is_past (in_order stage) ≡ true
on_order (Features point) on = refl
on_order (ObjectChannel Due) on = refl
on_order (ObjectChannel Asked) on = refl
on_order Object on = refl
on_order (ObjectEnd point) on = refl
on_order (LinkEnd point) on = refl
on_order Rest on = cc
on_order (Link point) on = cc
on_order (SearchChannel point) on = cc
on_order Search on = cc
on_order (SearchEnd point) on = cc
on_order Over on = cc

pub on_at_once : (stage : Stage) → is_past stage ≡ true → is_past (at_once stage) ≡ true
on_at_once (Features point) on = refl
on_at_once (ObjectChannel point) on = refl
on_at_once Object on = refl
on_at_once (ObjectEnd point) on = refl
on_at_once (LinkEnd point) on = refl
on_at_once Rest on = cc
on_at_once (Link point) on = cc
on_at_once (SearchChannel point) on = cc
on_at_once Search on = cc
on_at_once (SearchEnd point) on = cc
on_at_once Over on = cc

pub on_after : (ending : Ending) (stage : Stage) → is_past stage ≡ true → is_past (stage_after ending stage) ≡ true
on_after InOrder stage on = on_order stage on
on_after AtOnce stage on = on_at_once stage on

pub on_ends : (outcome : Outcome) (c : Client) → On c → On (ends outcome c)
on_ends outcome c on = by c.cause
  where
    by : (cause : Option Outcome) → On (ends_by cause outcome c)
    by None = on_after (ending_of outcome) c.stage on
    by (Some earlier) = on_at_once c.stage on

pub on_if : (b : Bool) (c d : Client) → On c → On d → On (cond b c d)
on_if true c d one other = one
on_if false c d one other = other

-- ---- it hears an SDU

pub takes_on : (answer : Answered) (c : Client) → On c → On (responding.takes answer c)
takes_on answers.Go c on = on
takes_on answers.Done c on = on_ends outcomes.Done c on
takes_on (answers.Refused code) c on = on_ends (outcomes.Refused code) c on
takes_on (answers.Bad refusal) c on = on_ends (cause_of_obex refusal) c on
takes_on answers.Srmp c on = on_ends unknown_parameters c on

pub answer_on : (answer : Option Answered) (packet : List ℕ) (c : Client) → On c → On (hears_answer answer packet c)
answer_on None packet c on = on_ends unawaited_response c on
answer_on (Some answer) packet c on =
    let heard : Client = record c { session = after_at c.session.awaited c.session packet } in
    on_if (responding.is_success answer && responding.is_early c) (ends unawaited_response heard) (responding.takes answer heard) (on_ends unawaited_response heard on) (takes_on answer heard on)

pub response_on : (packet : List ℕ) (c : Client) → On c → On (hears_response packet c)
response_on packet c on = answer_on (answer_at c.session.awaited c.session packet) packet c on

pub front_on : (more : List ℕ → Client → Client) (stream : List ℕ) (front : Front) (c : Client) → ((rest : List ℕ) (d : Client) → On d → On (more rest d)) → On c → On (hears_front more stream front c)
front_on more stream (Whole packet rest) c goes on =
    let held : Client = record c { held = [] } in
    let d = hears_response packet held in
    let there = response_on packet held on in
    on_if (is_object d.stage) (more rest d) d (goes rest d there) there
front_on more stream Partial c goes on = on
front_on more stream (Broken refusal) c goes on = let held : Client = record c { held = [] } in on_ends (cause_of_obex refusal) held on

pub stream_on : (count : ℕ) (stream : List ℕ) (c : Client) → On c → On (hears_stream count stream c)
unfolding hears_stream
stream_on zero stream c on = on
stream_on (suc count) stream c on = front_on (λ rest d. hears_stream count rest d) stream (front_of c.session.maximum stream) c (λ rest d there. stream_on count rest d there) on

pub frame_on : (sdu : List ℕ) (c : Client) → On c → On (hears_frame sdu c)
frame_on sdu c on = by (up sdu c.mux)
  where
    heard : Client
    heard = record c { mux = hearing.hears sdu c.mux }

    by : (one : Up) → On (hears_up one heard)
    by nothing = on
    by opened = on
    by (bytes octets) = stream_on (length (c.held ++ octets)) (c.held ++ octets) heard on
    by (closed reason) = on_if (is_left c.contact reason) (record heard { stage = ObjectEnd Due }) (ends (cause_of_mux reason) heard) refl (on_ends (cause_of_mux reason) heard on)

pub object_heard : (transport : Transport) (sdu : List ℕ) (c : Client) → On c → On (hears_object transport sdu c)
object_heard L2cap sdu c on = response_on sdu c on
object_heard Rfcomm sdu c on = frame_on sdu c on

pub outside_on : (transport : Transport) (c : Client) → On c → On (hears_outside transport c)
outside_on L2cap c on = on_ends unawaited_response c on
outside_on Rfcomm c on = on

-- ---- its steps

abbrev pub IsOn : Stepped → Type 0
IsOn one = On one.client

pub either_on : (b : Bool) (x y : Stepped) → IsOn x → IsOn y → IsOn (cond b x y)
either_on true x y one other = one
either_on false x y one other = other

abbrev pub MadeOn : Made → Type 0
MadeOn made = On made.client

pub leaves_on : (ask : Ask) (c : Client) (parts : List Part) → On c → MadeOn (course.leaves_by ask c parts)
leaves_on Connect c parts on = on
leaves_on Put c parts on = on
leaves_on Abort c parts on = on
leaves_on Disconnect c parts on = on
leaves_on Close c parts on = on
leaves_on Nothing c parts on = on

pub failing_on : (c : Client) (parts : List Part) → On c → MadeOn (course.failing c parts)
failing_on c parts on = let failed = ends outcomes.ShelfFault c in leaves_on (course.next_ask failed) failed parts (on_ends outcomes.ShelfFault c on)

pub part_on : (part : Part) (c : Client) (parts : List Part) → On c → MadeOn (course.puts_part part c parts)
part_on (Ok octets) c parts on = on
part_on (Err fault) c parts on = on

pub from_on : (parts : List Part) (c : Client) → On c → MadeOn (course.puts_from parts c)
from_on [] c on = on
from_on (part ∷ parts) c on = part_on part c parts on

pub puts_on : (c : Client) (parts : List Part) → On c → MadeOn (course.puts c parts)
puts_on c parts on = by (eqb (course.put_count c) 0)
  where
    by : (b : Bool) → MadeOn (cond b (course.puts_part (Ok []) c parts) (course.puts_from parts c))
    by true = part_on (Ok []) c parts on
    by false = from_on parts c on

pub put_or_leaves : (outcome : Result (Unit {0}) PortFault) (put : Made) → MadeOn put → MadeOn (course.puts_or_leaves outcome put)
put_or_leaves (Ok done) put on = on
put_or_leaves (Err fault.Failed) put on = failing_on put.client put.left on
put_or_leaves (Err fault.NoMemory) put on = on

pub requests_on : (ask : Ask) (c : Client) (parts : List Part) → On c → MadeOn (course.requests ask c parts)
requests_on Connect c parts on = on
requests_on Put c parts on = let put = course.puts c parts in put_or_leaves put.outcome put (puts_on c parts on)
requests_on Abort c parts on = on
requests_on Disconnect c parts on = on
requests_on Close c parts on = on
requests_on Nothing c parts on = on

pub direct_on : (outcome : Result (Unit {0}) PortFault) (request : Made) → MadeOn request → IsOn (course.sends_direct outcome request)
direct_on (Ok done) request on = on
direct_on (Err fault) request on = on

pub asks_direct_on : (ask : Ask) (c : Client) (parts : List Part) → On c → IsOn (course.asks_direct ask c parts)
asks_direct_on Close c parts on = refl
asks_direct_on Nothing c parts on = on
asks_direct_on Connect c parts on = let request = course.requests Connect c parts in direct_on request.outcome request (requests_on Connect c parts on)
asks_direct_on Put c parts on = let request = course.requests Put c parts in direct_on request.outcome request (requests_on Put c parts on)
asks_direct_on Abort c parts on = let request = course.requests Abort c parts in direct_on request.outcome request (requests_on Abort c parts on)
asks_direct_on Disconnect c parts on = let request = course.requests Disconnect c parts in direct_on request.outcome request (requests_on Disconnect c parts on)

pub filled_on : (c : Client) → On c → On (course.filled c)
filled_on c on = by (is_ready c.mux && not (is_empty c.rest))
  where
    full : Client
    full = record c { mux = sends c.rest c.mux; rest = drop (taken_count (length c.rest) c.mux) c.rest }

    by : (b : Bool) → On (cond b full c)
    by true = on
    by false = on

pub said_on : (said : Option Said) (c : Client) (parts : List Part) → On c → IsOn (course.said_by said c parts)
said_on None c parts on = on
said_on (Some said) c parts on = on

pub says_on : (c : Client) (parts : List Part) → On c → IsOn (course.says c parts)
says_on c parts on = let full = course.filled c in said_on (next full.mux) full parts (filled_on c on)

pub muxed_on : (outcome : Result (Unit {0}) PortFault) (request : Made) → MadeOn request → IsOn (course.sends_muxed outcome request)
muxed_on (Ok done) request on = says_on request.client request.left on
muxed_on (Err fault) request on = on

pub through_on : (ask : Ask) (c : Client) (parts : List Part) → On c → IsOn (course.asks_through ask c parts)
through_on ask c parts on =
    let bare : Client = record c { rest = [] } in
    let request = course.requests ask bare parts in
    either_on (course.takes_some c.mux) (course.sends_muxed request.outcome request) (course.rests c parts) (muxed_on request.outcome request (requests_on ask bare parts on)) on

pub asks_muxed_on : (ask : Ask) (c : Client) (parts : List Part) → On c → IsOn (course.asks_muxed ask c parts)
asks_muxed_on Close c parts on = let leaving : Client = record c { mux = leaves c.mux; contact = Closing } in says_on leaving parts on
asks_muxed_on Nothing c parts on = on
asks_muxed_on Connect c parts on = through_on Connect c parts on
asks_muxed_on Put c parts on = through_on Put c parts on
asks_muxed_on Abort c parts on = through_on Abort c parts on
asks_muxed_on Disconnect c parts on = through_on Disconnect c parts on

pub goes_muxed_on : (said : Option Said) (c : Client) (parts : List Part) → On c → IsOn (course.goes_muxed said c parts)
goes_muxed_on None c parts on =
    let quiet : Client = record c { frame = None } in either_on (course.may_ask quiet) (course.asks_muxed (course.next_ask quiet) quiet parts) (course.rests quiet parts) (asks_muxed_on (course.next_ask quiet) quiet parts on) on
goes_muxed_on (Some said) c parts on = on

pub object_on : (transport : Transport) (c : Client) (parts : List Part) → On c → IsOn (course.steps_object transport c parts)
object_on L2cap c parts on =
    let bare : Client = record c { rest = [] } in either_on (course.may_ask c) (course.asks_direct (course.next_ask c) bare parts) (course.rests c parts) (asks_direct_on (course.next_ask c) bare parts on) on
object_on Rfcomm c parts on = let full = course.filled c in goes_muxed_on (next full.mux) full parts (filled_on c on)
