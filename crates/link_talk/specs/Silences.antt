-- Which requests of OBEX are answered: in single response mode a server passes over the PUTs behind one that it refused
-- (IrOBEX 1.5, 3.1, 3.2 and 3.4.3.7). What a server says there is this project's own choice.
use Rattle.std.specs.Prelude.{ℕ, ◌==◌, ◌&&◌, not, Bool, false, List, [], ◌∷◌, ◌++◌, Option, Some, None, is_some, Result, Ok, Err, if◌then◌else◌}
use Rattle.std.specs.List.{list_any}
use Rattle.capture.specs.declared.flow.Flow.{Flow}
use Rattle.capture.specs.Pdus.{same_flow}
use Rattle.obex_headers.specs.declared.fault.ObexRefusal.{ObexRefusal}
use Rattle.obex_headers.specs.declared.packet.Phase.TheVariants.{Request, Response}
use Rattle.obex_headers.specs.Packets.{PlainValue, Text, Octets, One, Four, PlainHeader, PlainPacket}
use Rattle.obex_headers.specs.Reading.{packet_in}
use Rattle.obex_headers.specs.Runs.{is_final, name_text, put_of}
use Rattle.link_talk.specs.declared.course.Asked.{Asked}
use Rattle.link_talk.specs.declared.course.Asked.TheVariants.{Put, Other, Refused}
use Rattle.link_talk.specs.declared.course.Course.{Course}
use Rattle.link_talk.specs.declared.course.Course.TheVariants.{Resting, Offered, Singly, Together, Silent}
use Rattle.link_talk.specs.Sdus.{Spoken}
use Rattle.link_talk.specs.Exchanges.{code_of, Exchange, exchanges}

-- ---- packets

abbrev pub is_one : PlainValue → Bool
is_one (Text octets) = false
is_one (Octets octets) = false
is_one (One octet) = octet == 1
is_one (Four number) = false

-- the header 97 with the value 1: single response mode
abbrev pub is_single : PlainHeader → Bool
is_single header = (header.id == 0x97) && is_one header.value

-- a Name (01)
abbrev pub is_name : PlainHeader → Bool
is_name header = is_some (name_text header)

-- a packet has such a header
abbrev pub says_single : List PlainHeader → Bool
says_single headers = list_any is_single headers

abbrev pub is_named : List PlainHeader → Bool
is_named headers = list_any is_name headers

abbrev pub answers_single : Result PlainPacket ObexRefusal → Bool
answers_single (Ok packet) = says_single packet.headers
answers_single (Err refusal) = false

-- a request as a server that takes so many octets hears it
abbrev pub asked_with : Option PlainPacket → Asked
asked_with None = Other
asked_with (Some put) = Put (is_final put) (is_named put.headers) (says_single put.headers)

abbrev pub asked_by : Result PlainPacket ObexRefusal → Asked
asked_by (Ok packet) = asked_with (put_of (Ok packet))
asked_by (Err refusal) = Refused

abbrev pub asked_in : ℕ → List ℕ → Asked
asked_in most octets = asked_by (packet_in Request most octets)

-- ---- how far an object is

abbrev pub begins : (final single : Bool) → Course
begins final single = if final then Resting else (if single then Offered else Singly)

abbrev pub goes_on : (final : Bool) → Course → Course
goes_on final course = if final then Resting else course

abbrev pub after_put : Course → (final named single : Bool) → Course
after_put Resting final named single = begins final single
after_put Offered final named single = goes_on final Offered
after_put Singly final named single = goes_on final Singly
after_put Together final named single = goes_on final Together
after_put Silent final named single = if named then begins final single else goes_on final Silent

-- what is refused ends an object, but in the mode it is the answer that does
abbrev pub after_refused : Course → Course
after_refused Resting = Resting
after_refused Offered = Resting
after_refused Singly = Resting
after_refused Together = Together
after_refused Silent = Silent

abbrev pub after_asked : Course → Asked → Course
after_asked course (Put final named single) = after_put course final named single
after_asked course Other = Resting
after_asked course Refused = after_refused course

-- 90 says that the object goes on, and any other answer ends it
abbrev pub after_answer : Course → (code : ℕ) → (single : Bool) → Course
after_answer Resting code single = Resting
after_answer Offered code single = if code == 0x90 then (if single then Together else Singly) else Resting
after_answer Singly code single = if code == 0x90 then Singly else Resting
after_answer Together code single = if code == 0x90 then Together else Silent
after_answer Silent code single = Silent

abbrev pub course_after : Flow → ℕ → Course → Spoken → Course
course_after requests most course more =
    if same_flow requests more.flow
    then after_asked course (asked_in most more.octets)
    else after_answer course (code_of more.octets) (answers_single (packet_in Response 65535 more.octets))

-- ---- what is answered

abbrev pub passed_over : Course → Asked → Bool
passed_over Silent (Put final named single) = not named
passed_over course asked = false

abbrev pub heard_at : Flow → ℕ → Course → Spoken → List Spoken
heard_at requests most course more = if same_flow requests more.flow && passed_over course (asked_in most more.octets) then [] else more ∷ []

abbrev pub answered_from : Flow → ℕ → Course → List Spoken → List Spoken
answered_from requests most course [] = []
answered_from requests most course (more ∷ rest) = heard_at requests most course more ++ answered_from requests most (course_after requests most course more) rest

-- the packets on a channel without the requests that are passed over
abbrev pub answered : Flow → ℕ → List Spoken → List Spoken
answered requests most packets = answered_from requests most Resting packets

-- The exchanges on a channel of a server, which hears packets of at most so many octets, or of a client. A response to
-- what comes behind an object that was refused is no response to the last PUT of that object.
abbrev pub channel_exchanges : Flow → ℕ → List Spoken → List Exchange
channel_exchanges requests most packets = exchanges requests (answered requests most packets)
