-- What a server does with each packet (IrOBEX 1.5, 3.4; Object Push Profile 1.2, 4.3). Which code answers what breaks
-- a rule, and the bounds on a Name and on an object, are this project's own.
use Rattle.std.specs.Prelude.{ℕ, ◌+◌, ◌==◌, ◌||◌, ◌&&◌, not, Bool, true, false, List, [], ◌∷◌, ◌++◌, length, nat_lt, Option, Some, None, Result, Ok, Err, if◌then◌else◌}
use Rattle.obex_headers.specs.declared.codes.Code.{Code}
use Rattle.obex_headers.specs.declared.codes.Code.TheVariants.{Success, BadRequest, TooLarge, NotImplemented}
use Rattle.obex_headers.specs.declared.fault.ObexRefusal.{ObexRefusal}
use Rattle.obex_headers.specs.Packets.{PlainHeader, PlainPacket, units_of}
use Rattle.obex_headers.specs.Runs.{name_text, body_of, is_final}
use Rattle.obex_session.specs.declared.course.Progress.{Progress}
use Rattle.obex_session.specs.declared.course.Progress.TheVariants.{Unnamed, Named, Filled}
use Rattle.obex_session.specs.declared.course.Course.{Course}
use Rattle.obex_session.specs.declared.course.Course.TheVariants.{Rests, Ignores, Runs}
use Rattle.obex_session.specs.declared.course.Verdict.{Verdict}
use Rattle.obex_session.specs.declared.course.Verdict.TheVariants.{Open, Whole, Ended, PassedOver}
use Rattle.obex_session.specs.InboxCalls.{InboxCall, Begin, Append, Commit, Abort}
use Rattle.obex_session.specs.Marks.{is_name}
use Rattle.std.specs.List.{list_any}

-- an object is under way from its Name on
abbrev pub is_under_way : Progress → Bool
is_under_way Unnamed = false
is_under_way Named = true
is_under_way (Filled octets) = true

-- what a rule says: the inbox is called so, and where no call fails, this is the verdict
pub record Ruling : Type 0 where
  pub calls : List InboxCall
  pub verdict : Verdict

-- the object goes on
abbrev pub opens : List InboxCall → Progress → Ruling
opens calls progress = record { calls = calls; verdict = Open progress }

-- the object ends without being stored: it is aborted if it is under way
abbrev pub aborts : Progress → List InboxCall
aborts progress = if is_under_way progress then Abort ∷ [] else []

abbrev pub ends : Progress → Code → Ruling
ends progress code = record { calls = aborts progress; verdict = Ended code }

-- ---- the headers of a PUT, one by one

-- a Name: there is one, of at most 255 units
abbrev pub at_name : Progress → List ℕ → Ruling
at_name Unnamed units = if nat_lt 255 (length units) then ends Unnamed TooLarge else opens (Begin units ∷ []) Named
at_name Named units = ends Named BadRequest
at_name (Filled octets) units = ends (Filled octets) BadRequest

-- an object with a piece more, of so many octets in all, at most 16,777,215
abbrev pub at_total : Progress → ℕ → List ℕ → Ruling
at_total progress total piece = if nat_lt 16777215 total then ends progress TooLarge else opens (Append piece ∷ []) (Filled total)

-- a body: it stands behind the Name
abbrev pub at_body : Progress → List ℕ → Ruling
at_body Unnamed octets = ends Unnamed BadRequest
at_body Named octets = at_total Named (length octets) octets
at_body (Filled before) octets = at_total (Filled before) (before + length octets) octets

-- a header by the text of its Name and by its body, if it has one; other headers decide nothing
abbrev pub at_parts : Progress → Option (List ℕ) → Option (List ℕ) → Ruling
at_parts progress (Some text) body = at_name progress (units_of text)
at_parts progress None (Some octets) = at_body progress octets
at_parts progress None None = opens [] progress

abbrev pub at_header : Progress → PlainHeader → Ruling
at_header progress header = at_parts progress (name_text header) (body_of header)

-- these calls ahead of those of a ruling
abbrev pub behind : List InboxCall → Ruling → Ruling
behind calls ruling = record ruling { calls = calls ++ ruling.calls }

-- a verdict with its calls, and where the object goes on, what is said of the rest
abbrev pub then_on : List InboxCall → Verdict → (Progress → Ruling) → Ruling
then_on calls (Open progress) next = behind calls (next progress)
then_on calls Whole next = record { calls = calls; verdict = Whole }
then_on calls (Ended code) next = record { calls = calls; verdict = Ended code }
then_on calls (PassedOver final) next = record { calls = calls; verdict = PassedOver final }

abbrev pub then_at : Ruling → (Progress → Ruling) → Ruling
then_at ruling next = then_on ruling.calls ruling.verdict next

-- the headers in order: the first that breaks a rule ends the object
abbrev pub after_headers : Progress → List PlainHeader → Ruling
after_headers progress [] = opens [] progress
after_headers progress (header ∷ headers) = then_at (at_header progress header) (λ next. after_headers next headers)

-- ---- a packet

-- the final PUT: an object is whole where it has a Name and a body
abbrev pub finished : Progress → Ruling
finished Unnamed = ends Unnamed BadRequest
finished Named = ends Named BadRequest
finished (Filled octets) = record { calls = Commit ∷ []; verdict = Whole }

abbrev pub at_put : Progress → PlainPacket → Ruling
at_put progress packet = then_at (after_headers progress packet.headers) (λ next. if is_final packet then finished next else opens [] next)

-- CONNECT (80), DISCONNECT (81) and ABORT (FF) succeed; nothing else but PUT is implemented
abbrev pub other_response : ℕ → Code
other_response code = if (code == 0x80) || (code == 0x81) || (code == 0xFF) then Success else NotImplemented

-- what stands of the object under way; none is where no run goes on
abbrev pub progress_in : Course → Progress
progress_in Rests = Unnamed
progress_in Ignores = Unnamed
progress_in (Runs progress single) = progress

abbrev pub is_ignoring : Course → Bool
is_ignoring Rests = false
is_ignoring Ignores = true
is_ignoring (Runs progress single) = false

-- PUTs of an object that was refused are passed over, up to one with a Name
abbrev pub at_put_in : Course → PlainPacket → Ruling
at_put_in course packet =
    if is_ignoring course && not (list_any is_name packet.headers) then record { calls = []; verdict = PassedOver (is_final packet) }
    else at_put (progress_in course) packet

-- a packet that is refused counts as a refused PUT; one that is no PUT ends the object
abbrev pub at_packet : Course → Result PlainPacket ObexRefusal → Ruling
at_packet course (Ok packet) = if (packet.code == 0x02) || (packet.code == 0x82) then at_put_in course packet else ends (progress_in course) (other_response packet.code)
at_packet course (Err refusal) = ends (progress_in course) BadRequest
