-- What a client makes of responses (IrOBEX 1.5, 3.2.1 for the codes, 3.4.1 for the maximum that a response to CONNECT
-- states; Generic Object Exchange Profile 2.1, 4.6, for single response mode).
use Rattle.std.specs.Prelude.{ℕ, ◌==◌, ◌&&◌, Bool, false, List, Option, Some, None, Result, Ok, Err, min, if◌then◌else◌}
use Rattle.obex_headers.specs.declared.fault.ObexRefusal.{ObexRefusal}
use Rattle.obex_headers.specs.declared.packet.Phase.{Phase}
use Rattle.obex_headers.specs.declared.packet.Phase.TheVariants as phase
use Rattle.obex_headers.specs.Packets.{PlainPacket, maximum_of}
use Rattle.obex_headers.specs.Reading.{packet_in}
use Rattle.obex_session.specs.declared.marks.Marks.{Marks}
use Rattle.obex_session.specs.declared.asking.Request.{Request}
use Rattle.obex_session.specs.declared.asking.Request.TheVariants.{Connect, FirstPut, Put, Stream, FinalPut, Abort, Disconnect}
use Rattle.obex_session.specs.declared.client.Answered.{Answered}
use Rattle.obex_session.specs.declared.client.Answered.TheVariants.{Go, Done, Refused, Bad, Srmp}
use Rattle.obex_session.specs.Marks.{marks_of}

-- what clauses see of a session: the greatest length of a packet that it takes, whether it wants single response mode,
-- the greatest length of a packet that it sends, how many octets of the object under way were put, whether that object
-- is in single response mode, and the request that has no response yet
pub record Asking : Type 0 where
  pub maximum : ℕ
  pub wanted : Bool
  pub limit : ℕ
  pub put : Option ℕ
  pub single : Bool
  pub awaited : Option Request

-- a session that has said nothing
abbrev pub fresh : ℕ → Bool → Asking
fresh maximum wanted = record { maximum = maximum; wanted = wanted; limit = maximum; put = None; single = false; awaited = None }

-- the session asks something else, and has no object under way
abbrev pub asks_for : Request → Asking → Asking
asks_for request session = record session { put = None; single = false; awaited = Some request }

abbrev pub phase_of : Request → Phase
phase_of Connect = phase.ConnectResponse
phase_of FirstPut = phase.Response
phase_of Put = phase.Response
phase_of Stream = phase.Response
phase_of FinalPut = phase.Response
phase_of Abort = phase.Response
phase_of Disconnect = phase.Response

-- The code of the response that a request waits for. In single response mode the PUTs behind the first are one request.
abbrev pub awaited_code : Request → ℕ
awaited_code Connect = 0xA0
awaited_code FirstPut = 0x90
awaited_code Put = 0x90
awaited_code Stream = 0xA0
awaited_code FinalPut = 0xA0
awaited_code Abort = 0xA0
awaited_code Disconnect = 0xA0

-- with it an object is stored, if its final PUT was put; else the client goes on
abbrev pub success_of : Request → Answered
success_of Connect = Go
success_of FirstPut = Go
success_of Put = Go
success_of Stream = Go
success_of FinalPut = Done
success_of Abort = Go
success_of Disconnect = Go

-- a response by what its headers mark and its code
abbrev pub answer_by : Request → Marks → ℕ → Answered
answer_by request marks code = if marks.parameters then Srmp else if code == awaited_code request then success_of request else Refused code

abbrev pub answer_read : Request → Result PlainPacket ObexRefusal → Answered
answer_read request (Ok packet) = answer_by request (marks_of packet.headers) packet.code
answer_read request (Err refusal) = Bad refusal

-- what a response says of the request that waited for it
abbrev pub answer_to : ℕ → Request → List ℕ → Answered
answer_to maximum request octets = answer_read request (packet_in (phase_of request) maximum octets)

-- a response to CONNECT bounds what is sent
abbrev pub limit_by : Request → ℕ → List ℕ → ℕ
limit_by Connect limit extra = min limit (maximum_of extra)
limit_by FirstPut limit extra = limit
limit_by Put limit extra = limit
limit_by Stream limit extra = limit
limit_by FinalPut limit extra = limit
limit_by Abort limit extra = limit
limit_by Disconnect limit extra = limit

-- a response to the first PUT of an object confirms single response mode, where the session wants it
abbrev pub single_by : Request → Bool → Bool → Marks → Bool
single_by Connect wanted single marks = single
single_by FirstPut wanted single marks = wanted && marks.single
single_by Put wanted single marks = single
single_by Stream wanted single marks = single
single_by FinalPut wanted single marks = single
single_by Abort wanted single marks = single
single_by Disconnect wanted single marks = single

-- A response ends the wait; one with another code ends the object too. One that has parameters of single response mode
-- leaves the session as it is.
abbrev pub after_by : Asking → Request → Marks → ℕ → List ℕ → Asking
after_by session request marks code extra =
    if marks.parameters then session
    else if code == awaited_code request then record session { limit = limit_by request session.limit extra; single = single_by request session.wanted session.single marks; awaited = None }
    else record session { put = None; single = false; awaited = None }

abbrev pub after_read : Asking → Request → Result PlainPacket ObexRefusal → Asking
after_read session request (Ok packet) = after_by session request (marks_of packet.headers) packet.code packet.extra
after_read session request (Err refusal) = session

abbrev pub after_answer : Asking → Request → List ℕ → Asking
after_answer session request octets = after_read session request (packet_in (phase_of request) session.maximum octets)
