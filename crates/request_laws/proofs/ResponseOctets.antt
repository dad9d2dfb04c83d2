-- The responses of a session are octets.
use Rattle.std.proofs.Common.{Bool, true, false, cond, eqb, ltb, ◌||◌, ◌&&◌, ◌+◌, ◌<◌, ◌≡◌, ℕ, List, [], ◌∷◌, length, Option, Some, None, Result, Ok, Err, arith, refl}
use Rattle.std.specs.Prelude.{not}
use Rattle.std.specs.List.{list_any}
use Rattle.pair_laws.specs.bt_base.specs.declared.ports.PortFault.TheVariants as fault
use Rattle.pair_laws.specs.bt_base.specs.declared.settings.Transport.{Transport}
use Rattle.pair_laws.specs.bt_base.specs.Octets.{IsOctets}
use Rattle.pair_laws.specs.obex_headers.specs.declared.codes.Code.{Code}
use Rattle.pair_laws.specs.obex_headers.specs.declared.codes.Code.TheVariants.{Success, BadRequest, TooLarge, NotImplemented, Continue, InternalError}
use Rattle.pair_laws.specs.obex_headers.specs.declared.fault.ObexRefusal.{ObexRefusal}
use Rattle.pair_laws.specs.obex_headers.specs.declared.packet.Phase.TheVariants.{Request}
use Rattle.pair_laws.specs.obex_headers.specs.Codes.{octet_of}
use Rattle.pair_laws.specs.obex_headers.specs.Packets.{PlainHeader, PlainPacket, bare, with_header, units_of}
use Rattle.pair_laws.specs.obex_headers.specs.Reading.{packet_in}
use Rattle.pair_laws.specs.obex_headers.specs.Runs.{name_text, body_of, is_final}
use Rattle.pair_laws.specs.obex_session.specs.declared.course.Course.{Course}
use Rattle.pair_laws.specs.obex_session.specs.declared.course.Progress.{Progress}
use Rattle.pair_laws.specs.obex_session.specs.declared.course.Progress.TheVariants.{Unnamed, Named, Filled}
use Rattle.pair_laws.specs.obex_session.specs.InboxCalls.{InboxCall, Begin, Append, Answer, come_of}
use Rattle.pair_laws.specs.obex_session.specs.Marks.{is_name}
use Rattle.pair_laws.specs.obex_session.specs.Past.{Serving}
use Rattle.pair_laws.specs.obex_session.specs.Responses.{is_connect, connect_fields, single_header, response_octets, confirmation_octets}
use Rattle.pair_laws.specs.obex_session.specs.Rules.{Ruling, ends, opens, at_name, at_total, at_body, at_parts, then_on, then_at, after_headers, finished, at_put, other_response, progress_in, is_ignoring, at_put_in, at_packet}
use Rattle.pair_laws.specs.obex_session.specs.Serving.{kind_heard, ruling_on, verdict_or}
use Rattle.pair_laws.specs.obex_session.specs.Turns.{is_first_in, is_single_in, said_open, said_whole, said_after}
use Rattle.pair_laws.specs.obex_session.specs.Views.{octets_said}
use Rattle.pair_laws.specs.push_model.specs.Sessions.{Sessions, Gift, Parted, Heard, session_of, other_of, lets_go, answers_to, is_naming, hears_after, hears}
use Rattle.request_laws.proofs.PacketOctets.{packet_are_octets, connect_are_octets}
use Rattle.request_laws.proofs.SpellableParts.{none_octets}

-- ---- codes

abbrev IsCode : Code → Type 0
IsCode code = octet_of code < 256

-- ---- what is said

fields_are_octets : (b : Bool) (maximum : ℕ) → IsOctets (cond b (connect_fields maximum) [])
fields_are_octets true maximum = connect_are_octets maximum
fields_are_octets false maximum = none_octets

response_is : (packet : List ℕ) (maximum : ℕ) (code : Code) → IsCode code → IsOctets (response_octets packet maximum code)
response_is packet maximum code is = packet_are_octets (bare (octet_of code) (cond (is_connect packet) (connect_fields maximum) [])) is (fields_are_octets (is_connect packet) maximum) tt

confirmation_is : (code : Code) → IsCode code → IsOctets (confirmation_octets code)
confirmation_is code is = packet_are_octets (with_header (bare (octet_of code) []) single_header) is none_octets ((omega arith, omega arith), tt)

open_coded : (packet : List ℕ) (maximum : ℕ) (first single : Bool) → IsOctets (octets_said packet maximum (said_open first single))
open_coded packet maximum true true = confirmation_is Continue (omega arith)
open_coded packet maximum false true = none_octets
open_coded packet maximum true false = response_is packet maximum Continue (omega arith)
open_coded packet maximum false false = response_is packet maximum Continue (omega arith)

whole_coded : (packet : List ℕ) (maximum : ℕ) (first single : Bool) → IsOctets (octets_said packet maximum (said_whole first single))
whole_coded packet maximum true true = confirmation_is Success (omega arith)
whole_coded packet maximum false true = response_is packet maximum Success (omega arith)
whole_coded packet maximum true false = response_is packet maximum Success (omega arith)
whole_coded packet maximum false false = response_is packet maximum Success (omega arith)

-- what is said of a ruling where no call fails, whatever the session
abbrev IsRuled : Ruling → Type 0
IsRuled ruling = (offered : Bool) (course : Course) (session : Serving) (packet : List ℕ) → IsOctets (octets_said packet session.maximum (said_after offered course (kind_heard session packet) (Ok ruling.verdict)))

-- so it is with whatever may follow
abbrev GoesOn : Ruling → Type 0
GoesOn ruling = (calls : List InboxCall) (next : Progress → Ruling) → ((progress : Progress) → IsRuled (next progress)) → IsRuled (then_on calls ruling.verdict next)

-- and so with what follows behind that
abbrev LeadsOn : Ruling → Type 0
LeadsOn ruling = (rest : Progress → Ruling) → ((progress : Progress) → GoesOn (rest progress)) → GoesOn (then_at ruling rest)

opens_ruled : (calls : List InboxCall) (progress : Progress) → IsRuled (opens calls progress)
opens_ruled calls progress offered course session packet = open_coded packet session.maximum (is_first_in course) (is_single_in offered course (kind_heard session packet))

ends_ruled : (progress : Progress) (code : Code) → IsCode code → IsRuled (ends progress code)
ends_ruled progress code is offered course session packet = response_is packet session.maximum code is

opens_lead : (calls : List InboxCall) (progress : Progress) → LeadsOn (opens calls progress)
opens_lead calls progress rest more = more progress

ends_lead : (progress : Progress) (code : Code) → IsCode code → LeadsOn (ends progress code)
ends_lead progress code is rest more calls next all = ends_ruled progress code is

either_lead : (b : Bool) (x y : Ruling) → LeadsOn x → LeadsOn y → LeadsOn (cond b x y)
either_lead true x y p q = p
either_lead false x y p q = q

either : (b : Bool) (x y : Ruling) → IsRuled x → IsRuled y → IsRuled (cond b x y)
either true x y p q = p
either false x y p q = q

name_leads : (progress : Progress) (units : List ℕ) → LeadsOn (at_name progress units)
name_leads Unnamed units = either_lead (ltb 255 (length units)) (ends Unnamed TooLarge) (opens (Begin units ∷ []) Named) (ends_lead Unnamed TooLarge (omega arith)) (opens_lead (Begin units ∷ []) Named)
name_leads Named units = ends_lead Named BadRequest (omega arith)
name_leads (Filled octets) units = ends_lead (Filled octets) BadRequest (omega arith)

total_leads : (progress : Progress) (total : ℕ) (piece : List ℕ) → LeadsOn (at_total progress total piece)
total_leads progress total piece = either_lead (ltb 16777215 total) (ends progress TooLarge) (opens (Append piece ∷ []) (Filled total)) (ends_lead progress TooLarge (omega arith)) (opens_lead (Append piece ∷ []) (Filled total))

body_leads : (progress : Progress) (octets : List ℕ) → LeadsOn (at_body progress octets)
body_leads Unnamed octets = ends_lead Unnamed BadRequest (omega arith)
body_leads Named octets = total_leads Named (length octets) octets
body_leads (Filled before) octets = total_leads (Filled before) (before + length octets) octets

parts_lead : (progress : Progress) (text body : Option (List ℕ)) → LeadsOn (at_parts progress text body)
parts_lead progress (Some text) body = name_leads progress (units_of text)
parts_lead progress None (Some octets) = body_leads progress octets
parts_lead progress None None = opens_lead [] progress

headers_go_on : (progress : Progress) (headers : List PlainHeader) → GoesOn (after_headers progress headers)
headers_go_on progress [] = λ calls next all. all progress
headers_go_on progress (header ∷ headers) = parts_lead progress (name_text header) (body_of header) (λ next. after_headers next headers) (λ next. headers_go_on next headers)

finished_ruled : (progress : Progress) → IsRuled (finished progress)
finished_ruled Unnamed = ends_ruled Unnamed BadRequest (omega arith)
finished_ruled Named = ends_ruled Named BadRequest (omega arith)
finished_ruled (Filled octets) = λ offered course session packet. whole_coded packet session.maximum (is_first_in course) (is_single_in offered course (kind_heard session packet))

put_ruled : (progress : Progress) (packet : PlainPacket) → IsRuled (at_put progress packet)
put_ruled progress packet =
    headers_go_on progress packet.headers (after_headers progress packet.headers).calls (λ next. cond (is_final packet) (finished next) (opens [] next))
    (λ next. either (is_final packet) (finished next) (opens [] next) (finished_ruled next) (opens_ruled [] next))

other_code : (b : Bool) → IsCode (cond b Success NotImplemented)
other_code true = omega arith
other_code false = omega arith

put_in_ruled : (passed : Bool) (course : Course) (packet : PlainPacket) → (is_ignoring course && not (list_any is_name packet.headers)) ≡ passed → IsRuled (at_put_in course packet)
put_in_ruled true course packet is offered other session heard = rw is none_octets
put_in_ruled false course packet is offered other session heard = rw is (put_ruled (progress_in course) packet offered other session heard)

packet_ruled : (course : Course) (read : Result PlainPacket ObexRefusal) → IsRuled (at_packet course read)
packet_ruled course (Err refusal) = ends_ruled (progress_in course) BadRequest (omega arith)
packet_ruled course (Ok packet) =
    either (eqb packet.code 0x02 || eqb packet.code 0x82) (at_put_in course packet) (ends (progress_in course) (other_response packet.code))
    (put_in_ruled (is_ignoring course && not (list_any is_name packet.headers)) course packet refl)
    (ends_ruled (progress_in course) (other_response packet.code) (other_code (eqb packet.code 0x80 || eqb packet.code 0x81 || eqb packet.code 0xFF)))

said_coded : (session : Serving) (packet : List ℕ) (ruling : Ruling) (a : Answer) → IsRuled ruling → IsOctets (octets_said packet session.maximum (said_after session.offered session.course (kind_heard session packet) (verdict_or ruling.verdict a)))
said_coded session packet ruling (Ok done) is = is session.offered session.course session packet
said_coded session packet ruling (Err fault.Failed) is = response_is packet session.maximum InternalError (omega arith)
said_coded session packet ruling (Err fault.NoMemory) is = none_octets

answers_are_octets : (t : Transport) (packet : List ℕ) (sessions : Sessions) (gift : Gift) → IsOctets (answers_to t packet sessions gift).response
answers_are_octets t packet sessions gift =
    let session : Serving = session_of t sessions in
    let ruling : Ruling = ruling_on session packet in
    said_coded session packet ruling (come_of ruling.calls gift.answers) (packet_ruled session.course (packet_in Request session.maximum packet))

either_heard : (b : Bool) (x y : Heard) → IsOctets x.response → IsOctets y.response → IsOctets (cond b x y).response
either_heard true x y p q = p
either_heard false x y p q = q

pub response_are_octets : (t : Transport) (packet : List ℕ) (sessions : Sessions) (gift : Gift) → IsOctets (hears t packet sessions gift).response
response_are_octets t packet sessions gift =
    let parted : Parted = lets_go (other_of t) sessions gift in
    either_heard (is_naming t packet sessions) (hears_after t packet parted) (answers_to t packet sessions gift)
    (either_heard parted.short (record { sessions = parted.sessions; response = []; short = true; gift = parted.gift }) (answers_to t packet parted.sessions parted.gift) none_octets (answers_are_octets t packet parted.sessions parted.gift))
    (answers_are_octets t packet sessions gift)
