-- What a server's session answers, over any list of packets and whatever its inbox answers (IrOBEX 1.5, 3.2.1 and 3.4; Object Push Profile 1.2,
-- 4.3). Which code answers a broken rule is this project's own.
use Rattle.std.specs.Prelude.{ℕ, ◌≡◌, ◌⊎◌, ◌==◌, ◌||◌, nat_lt, Bool, false, List, [], ◌∷◌, ◌++◌, length, slice_index, Option, Some, None, Result, Ok, Err, if◌then◌else◌}
use Rattle.bt_base.specs.declared.ports.PortFault.TheVariants as fault
use Rattle.obex_headers.specs.declared.fault.ObexRefusal.{ObexRefusal}
use Rattle.obex_headers.specs.declared.packet.Phase.TheVariants.{Request}
use Rattle.obex_headers.specs.Packets.{PlainHeader, PlainPacket, bare, packet_octets}
use Rattle.obex_headers.specs.Reading.{packet_in}
use Rattle.obex_headers.specs.Runs.{name_text, names, run_headers, breaks, lacks, is_final}
use Rattle.obex_session.specs.InboxCalls.{Answer, come_of, left_by}
use Rattle.obex_session.specs.Past.{Serving}
use Rattle.obex_session.specs.Responses.{is_connect, connect_fields}
use Rattle.obex_session.specs.Serving.{heard_with}
use Rattle.obex_session.specs.Tried.{calls_behind, run_behind}
use Rattle.obex_session.specs.Views.{octets_said, rested}

-- ---- the code that is due

abbrev pub has_names : List PlainHeader → Bool
has_names headers = nat_lt 0 (length (names headers))

-- at the header that breaks a rule: CD to a Name that is too long and to octets that are too many, C0 to a second Name and to a body ahead of one
abbrev pub code_at_break : Bool → Option (List ℕ) → ℕ
code_at_break named (Some text) = if named then 0xC0 else 0xCD
code_at_break named None = if named then 0xCD else 0xC0

-- the first such header, behind others
abbrev pub broken_code : List PlainHeader → List PlainHeader → ℕ
broken_code before [] = 0xC0
broken_code before (header ∷ headers) = if breaks (before ++ header ∷ []) then code_at_break (has_names before) (name_text header) else broken_code (before ++ header ∷ []) headers

-- A PUT behind the headers of its run: a final one stores its object (A0), unless that lacks a Name or a body (C0), and another goes on (90).
abbrev pub put_code : List PlainHeader → PlainPacket → ℕ
put_code headers put =
    if breaks (headers ++ put.headers) then broken_code headers put.headers
    else if is_final put then (if lacks (headers ++ put.headers) then 0xC0 else 0xA0)
    else 0x90

-- A0 to CONNECT, DISCONNECT and ABORT, C0 to what is refused as a packet, and D1 to any other request
abbrev pub packet_code : List PlainHeader → Result PlainPacket ObexRefusal → ℕ
packet_code headers (Ok packet) =
    if (packet.code == 0x02) || (packet.code == 0x82) then put_code headers packet
    else if (packet.code == 0x80) || (packet.code == 0x81) || (packet.code == 0xFF) then 0xA0
    else 0xD1
packet_code headers (Err refusal) = 0xC0

-- Where a call of the inbox failed D0 is due in place of all else, and nothing where it lacked memory.
abbrev pub code_or : ℕ → Answer → Option ℕ
code_or code (Ok done) = Some code
code_or code (Err fault.Failed) = Some 0xD0
code_or code (Err fault.NoMemory) = None

abbrev pub code_due : ℕ → List PlainPacket → List ℕ → List Answer → Option ℕ
code_due maximum run packet answers = code_or (packet_code (run_headers run) (packet_in Request maximum packet)) (come_of (calls_behind maximum run packet) answers)

-- ---- the reply

-- the response with this code alone; one to CONNECT states the own maximum
abbrev pub plain_reply : List ℕ → ℕ → Option ℕ → List ℕ
plain_reply packet maximum None = []
plain_reply packet maximum (Some code) = packet_octets (bare code (if is_connect packet then connect_fields maximum else []))

abbrev pub said_to : Serving → List ℕ → List Answer → List ℕ
said_to session packet answers = octets_said packet session.maximum (heard_with session packet answers).saying

-- Where no single response mode is offered, that is the reply to each packet; where it is, a reply has the code that is due, if it is any.
pub record IsReplied (session : Serving) (run : List PlainPacket) (packet : List ℕ) (answers : List Answer) : Type 0 where
  pub plain : session.offered ≡ false → said_to session packet answers ≡ plain_reply packet session.maximum (code_due session.maximum run packet answers)
  pub code : (said_to session packet answers ≡ []) ⊎ ((code : ℕ) × (code_due session.maximum run packet answers ≡ Some code) × (slice_index (said_to session packet answers) 0 ≡ code))

abbrev pub AllReplied : Serving → List PlainPacket → List (List ℕ) → List Answer → Type 0
AllReplied session run [] answers = Unit {0}
AllReplied session run (packet ∷ packets) answers =
    IsReplied session run packet answers
    × AllReplied (heard_with session packet answers).session (run_behind session.maximum run packet answers) packets (left_by (calls_behind session.maximum run packet) answers)

-- So a session replies to each packet by its place in its run, from a session that heard nothing on.
abbrev pub RepliesAreDue : Type 0
RepliesAreDue = (session : Serving) (packets : List (List ℕ)) (answers : List Answer) → AllReplied (rested session) [] packets answers
