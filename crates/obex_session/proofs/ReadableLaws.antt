-- What a server says can be read.
use Rattle.std.proofs.Common.{Bool, true, false, cond, eqb, ◌≡◌, ℕ, ◌<◌, ◌≤◌, ◌^◌, ◌&&◌, ◌||◌, ◌⊎◌, inl, inr, List, [], Option, Some, None, Result, Ok, Err, refl, sym, ap, subst, ◌∙◌, arith}
use Rattle.std.specs.Prelude.{IfSome}
use Rattle.std.proofs.lemmas.Bool.{false_from_ne_true}
use Rattle.bt_base.specs.declared.ports.PortFault.TheVariants as fault
use Rattle.obex_headers.specs.declared.codes.Code.{Code}
use Rattle.obex_headers.specs.declared.codes.Code.TheVariants as codes
use Rattle.obex_headers.specs.declared.fault.ObexRefusal.{ObexRefusal}
use Rattle.obex_headers.specs.declared.packet.Phase.TheVariants as phase
use Rattle.obex_headers.specs.Codes.{octet_of}
use Rattle.obex_headers.specs.Packets.{PlainPacket}
use Rattle.obex_headers.specs.Reading.{packet_in}
use Rattle.obex_session.specs.declared.asking.Request.{Request}
use Rattle.obex_session.specs.declared.asking.Request.TheVariants.{Connect, FirstPut, Put, Stream, FinalPut, Abort, Disconnect}
use Rattle.obex_session.specs.declared.client.Answered.TheVariants.{Refused}
use Rattle.obex_session.specs.declared.course.Course.{Course}
use Rattle.obex_session.specs.declared.course.Course.TheVariants.{Rests, Ignores, Runs}
use Rattle.obex_session.specs.declared.course.Verdict.{Verdict}
use Rattle.obex_session.specs.declared.course.Verdict.TheVariants.{Open, Whole, Ended, PassedOver}
use Rattle.obex_session.specs.declared.marks.Kind.{Kind}
use Rattle.obex_session.specs.declared.marks.Kind.TheVariants as kinds
use Rattle.obex_session.specs.declared.marks.Marks.{Marks}
use Rattle.obex_session.specs.declared.responding.Saying.{Saying}
use Rattle.obex_session.specs.declared.responding.Saying.TheVariants as saying
use Rattle.obex_session.specs.Asking.{Asking, phase_of, awaited_code, success_of, answer_to}
use Rattle.obex_session.specs.Exchanges.{stores_one}
use Rattle.obex_session.specs.InboxCalls.{Answer, come_of}
use Rattle.obex_session.specs.Marks.{kind_of}
use Rattle.obex_session.specs.Readable.{awaits_connect, IsReadable, RepliesAreRead}
use Rattle.obex_session.specs.Responses.{is_connect, response_octets}
use Rattle.obex_session.specs.Rules.{ends, at_put_in, at_packet, progress_in, other_response}
use Rattle.obex_session.specs.Serving.{kind_heard, ruling_on, verdict_or, heard_with}
use Rattle.obex_session.specs.Turns.{is_first_in, is_single_in, said_open, said_after}
use Rattle.obex_session.specs.Views.{octets_said, answer_at}
use Rattle.obex_session.proofs.ExchangeLaws.{responses_are_read}
use Rattle.obex_session.proofs.PairReplies.{connect_code, connects}
use Rattle.obex_session.proofs.RuledLaws.{IsOfPut, put_in_of_put}

-- ---- codes are octets

abbrev IsOctet : Verdict → Type 0
IsOctet (Open progress) = Unit {0}
IsOctet Whole = Unit {0}
IsOctet (Ended code) = octet_of code < 256
IsOctet (PassedOver final) = Unit {0}

octet_of_put : (verdict : Verdict) → IsOfPut verdict → IsOctet verdict
octet_of_put (Open progress) is = tt
octet_of_put Whole is = tt
octet_of_put (Ended code) is = is.3
octet_of_put (PassedOver final) is = tt

octet_at : (put : Bool) (course : Course) (packet : PlainPacket) → IsOctet (cond put (at_put_in course packet) (ends (progress_in course) (other_response packet.code))).verdict
octet_at true course packet = octet_of_put (at_put_in course packet).verdict (put_in_of_put course packet)
octet_at false course packet = connect_code packet.code

octet_ruled : (course : Course) (read : Result PlainPacket ObexRefusal) → IsOctet (at_packet course read).verdict
octet_ruled course (Ok packet) = octet_at (eqb packet.code 0x02 || eqb packet.code 0x82) course packet
octet_ruled course (Err refusal) = omega arith

-- ---- what is said

-- a confirmation answers no CONNECT
abbrev Fits : List ℕ → Saying → Type 0
Fits packet (saying.Response code) = octet_of code < 256
Fits packet (saying.Confirmation code) = (octet_of code < 256) × (is_connect packet ≡ false)
Fits packet saying.Silence = Unit {0}
Fits packet saying.NoMemory = Unit {0}

abbrev IsNoPutKind : List ℕ → Kind → Type 0
IsNoPutKind packet kind = is_connect packet ≡ true → (final : Bool) (marks : Marks) → kind ≡ kinds.Put final marks → ⊥

confirms_at : (packet : List ℕ) (offered : Bool) (course : Course) (kind : Kind) → IsNoPutKind packet kind → (is_first_in course && is_single_in offered course kind) ≡ true → is_connect packet ≡ false
confirms_at packet offered Rests kinds.Refused none e = absurd cc
confirms_at packet offered Rests (kinds.Put final marks) none e = false_from_ne_true (is_connect packet) (λ connect. none connect final marks refl)
confirms_at packet offered Rests (kinds.Other octet) none e = absurd cc
confirms_at packet offered Ignores kinds.Refused none e = absurd cc
confirms_at packet offered Ignores (kinds.Put final marks) none e = false_from_ne_true (is_connect packet) (λ connect. none connect final marks refl)
confirms_at packet offered Ignores (kinds.Other octet) none e = absurd cc
confirms_at packet offered (Runs progress single) kind none e = absurd cc

open_fits : (packet : List ℕ) (first single : Bool) → ((first && single) ≡ true → is_connect packet ≡ false) → Fits packet (said_open first single)
open_fits packet true true plain = (omega arith, plain refl)
open_fits packet false true plain = tt
open_fits packet first false plain = omega arith

whole_fits : (packet : List ℕ) (confirms : Bool) → (confirms ≡ true → is_connect packet ≡ false) → Fits packet (cond confirms (saying.Confirmation codes.Success) (saying.Response codes.Success))
whole_fits packet true plain = (omega arith, plain refl)
whole_fits packet false plain = omega arith

said_fits : (packet : List ℕ) (offered : Bool) (course : Course) (kind : Kind) (verdict : Verdict) (come : Answer) → IsOctet verdict → IsNoPutKind packet kind → Fits packet (said_after offered course kind (verdict_or verdict come))
said_fits packet offered course kind (Open progress) (Ok done) is none = open_fits packet (is_first_in course) (is_single_in offered course kind) (confirms_at packet offered course kind none)
said_fits packet offered course kind Whole (Ok done) is none = whole_fits packet (is_first_in course && is_single_in offered course kind) (confirms_at packet offered course kind none)
said_fits packet offered course kind (Ended code) (Ok done) is none = is
said_fits packet offered course kind (PassedOver final) (Ok done) is none = tt
said_fits packet offered course kind verdict (Err fault.Failed) is none = omega arith
said_fits packet offered course kind verdict (Err fault.NoMemory) is none = tt

connect_is_no_put : (maximum : ℕ) (packet : List ℕ) → IsNoPutKind packet (kind_of (packet_in phase.Request maximum packet))
connect_is_no_put maximum packet connect final marks put = no_put_by _ final marks put ((connects maximum packet (packet_in phase.Request maximum packet) refl connect).no_put (saying.Response codes.Success))
  where
    no_put_by : (kind : Kind) (final : Bool) (marks : Marks) → kind ≡ kinds.Put final marks → stores_one kind (saying.Response codes.Success) ≡ false → ⊥
    no_put_by kind final marks k e = let never : true ≡ false = sym (ap (λ (x : Kind). stores_one x (saying.Response codes.Success)) k) ∙ e in cc

-- ---- it is read

success_readable : (request : Request) → IsReadable (success_of request)
success_readable Connect = tt
success_readable FirstPut = tt
success_readable Put = tt
success_readable Stream = tt
success_readable FinalPut = tt
success_readable Abort = tt
success_readable Disconnect = tt

code_readable : (request : Request) (matches : Bool) (code : ℕ) → IsReadable (cond matches (success_of request) (Refused code))
code_readable request true code = success_readable request
code_readable request false code = tt

connect_request : (request : Request) → awaits_connect (Some request) ≡ true → phase_of request ≡ phase.ConnectResponse
connect_request Connect e = refl
connect_request FirstPut e = absurd cc
connect_request Put e = absurd cc
connect_request Stream e = absurd cc
connect_request FinalPut e = absurd cc
connect_request Abort e = absurd cc
connect_request Disconnect e = absurd cc

other_request : (request : Request) → awaits_connect (Some request) ≡ false → phase_of request ≡ phase.Response
other_request Connect e = absurd cc
other_request FirstPut e = refl
other_request Put e = refl
other_request Stream e = refl
other_request FinalPut e = refl
other_request Abort e = refl
other_request Disconnect e = refl

response_read : (connecting : Bool) (request : Request) (packet : List ℕ) (own maximum : ℕ) (code : Code) → 255 ≤ own → own < 2 ^ 16 → 7 ≤ maximum → octet_of code < 256 → is_connect packet ≡ connecting → awaits_connect (Some request) ≡ connecting
    → IsReadable (answer_to maximum request (response_octets packet own code))
response_read true request packet own maximum code least most room fits connect waits =
    subst IsReadable (sym (responses_are_read.answer_connecting request packet own maximum code fits room least most connect (connect_request request waits))) (code_readable request (eqb (octet_of code) (awaited_code request)) (octet_of code))
response_read false request packet own maximum code least most room fits connect waits =
    subst IsReadable (sym (responses_are_read.answer_plain request packet own maximum code fits room connect (other_request request waits))) (code_readable request (eqb (octet_of code) (awaited_code request)) (octet_of code))

said_read : (said : Saying) (awaited : Option Request) (client : Asking) (packet : List ℕ) (own : ℕ) → 255 ≤ own → own < 2 ^ 16 → 7 ≤ client.maximum → Fits packet said → awaits_connect awaited ≡ is_connect packet
    → (octets_said packet own said ≡ []) ⊎ IfSome (answer_at awaited client (octets_said packet own said)) IsReadable
said_read said None client packet own least most room fits waits = inr tt
said_read (saying.Response code) (Some request) client packet own least most room fits waits = inr (response_read (is_connect packet) request packet own client.maximum code least most room fits refl waits)
said_read (saying.Confirmation code) (Some request) client packet own least most room fits waits =
    inr (subst IsReadable (sym (responses_are_read.answer_confirming request client.maximum code fits.0 room (other_request request (waits ∙ fits.1)))) (code_readable request (eqb (octet_of code) (awaited_code request)) (octet_of code)))
said_read saying.Silence (Some request) client packet own least most room fits waits = inl refl
said_read saying.NoMemory (Some request) client packet own least most room fits waits = inl refl

pub replies_are_read : RepliesAreRead
replies_are_read session client packet answers least most room waits =
    let read = packet_in phase.Request session.maximum packet in
    said_read (heard_with session packet answers).saying client.awaited client packet session.maximum least most room
    (said_fits packet session.offered session.course (kind_heard session packet) (ruling_on session packet).verdict (come_of (ruling_on session packet).calls answers) (octet_ruled session.course read) (connect_is_no_put session.maximum packet)) waits
