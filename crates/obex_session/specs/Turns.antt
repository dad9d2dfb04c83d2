-- What a session is behind a packet, and what it says (IrOBEX 1.5, 3.4; Generic Object Exchange Profile 2.1, 4.6, for
-- single response mode). Where a refused object leaves off in that mode is this project's own choice.
use Rattle.std.specs.Prelude.{◌&&◌, not, Bool, true, false, Result, Ok, Err, if◌then◌else◌}
use Rattle.bt_base.specs.declared.ports.PortFault.{PortFault}
use Rattle.bt_base.specs.declared.ports.PortFault.TheVariants as fault
use Rattle.obex_headers.specs.declared.codes.Code.TheVariants as code
use Rattle.obex_session.specs.declared.course.Course.{Course}
use Rattle.obex_session.specs.declared.course.Course.TheVariants.{Rests, Ignores, Runs}
use Rattle.obex_session.specs.declared.course.Verdict.{Verdict}
use Rattle.obex_session.specs.declared.course.Verdict.TheVariants.{Open, Whole, Ended, PassedOver}
use Rattle.obex_session.specs.declared.responding.Saying.{Saying}
use Rattle.obex_session.specs.declared.responding.Saying.TheVariants.{Response, Confirmation, Silence, NoMemory}
use Rattle.obex_session.specs.declared.marks.Kind.{Kind}
use Rattle.obex_session.specs.declared.marks.Kind.TheVariants.{Refused, Put, Other}

-- the first PUT of a run enables single response mode, where the session offers it
abbrev pub enables : Bool → Kind → Bool
enables offered Refused = false
enables offered (Put final marks) = offered && marks.single
enables offered (Other octet) = false

-- whether the run is in single response mode, with this packet
abbrev pub is_single_in : Bool → Course → Kind → Bool
is_single_in offered Rests kind = enables offered kind
is_single_in offered Ignores kind = enables offered kind
is_single_in offered (Runs progress single) kind = single

-- the packet is the first of its run
abbrev pub is_first_in : Course → Bool
is_first_in Rests = true
is_first_in Ignores = true
is_first_in (Runs progress single) = false

-- A refused PUT of a run in single response mode is followed by PUTs that were sent before the refusal was heard:
-- these are ignored, unless the refused one was final. A packet that is refused as a packet is none that ends them.
abbrev pub is_followed : Course → Kind → Bool
is_followed Rests kind = false
is_followed Ignores Refused = true
is_followed Ignores (Put final marks) = false
is_followed Ignores (Other octet) = false
is_followed (Runs progress single) Refused = single
is_followed (Runs progress single) (Put final marks) = single && not final
is_followed (Runs progress single) (Other octet) = false

abbrev pub course_refused : Course → Kind → Course
course_refused course kind = if is_followed course kind then Ignores else Rests

-- no object is under way, and all else is as before
abbrev pub without_object : Course → Course
without_object Rests = Rests
without_object Ignores = Ignores
without_object (Runs progress single) = Rests

-- the course behind a packet of which this came
abbrev pub course_after : Bool → Course → Kind → Result Verdict PortFault → Course
course_after offered course kind (Ok (Open progress)) = Runs progress (is_single_in offered course kind)
course_after offered course kind (Ok Whole) = Rests
course_after offered course kind (Ok (Ended refused)) = course_refused course kind
course_after offered course kind (Ok (PassedOver final)) = if final then Rests else Ignores
course_after offered course kind (Err fault.Failed) = course_refused course kind
course_after offered course kind (Err fault.NoMemory) = without_object course

-- 90, and the confirmation of the mode in the answer to the first PUT; in the mode the others go unanswered
abbrev pub said_open : Bool → Bool → Saying
said_open first single = if single then (if first then Confirmation code.Continue else Silence) else Response code.Continue

abbrev pub said_whole : Bool → Bool → Saying
said_whole first single = if first && single then Confirmation code.Success else Response code.Success

-- what is said of it; a fault of the inbox is answered in place of all else
abbrev pub said_after : Bool → Course → Kind → Result Verdict PortFault → Saying
said_after offered course kind (Ok (Open progress)) = said_open (is_first_in course) (is_single_in offered course kind)
said_after offered course kind (Ok Whole) = said_whole (is_first_in course) (is_single_in offered course kind)
said_after offered course kind (Ok (Ended refused)) = Response refused
said_after offered course kind (Ok (PassedOver final)) = Silence
said_after offered course kind (Err fault.Failed) = Response code.InternalError
said_after offered course kind (Err fault.NoMemory) = NoMemory
