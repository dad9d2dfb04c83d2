-- What a server's session answers in single response mode (Generic Object Exchange Profile 2.1, 4.6): the first PUT of a run confirms it, those
-- that go on are heard in silence, and a refusal and the final PUT are answered. That the PUTs behind a refused one, which were sent before it
-- was heard, are passed over in silence, up to one with a Name or the final one, is this project's own.
use Rattle.std.specs.Prelude.{ℕ, ◌≡◌, ◌==◌, ◌&&◌, ◌||◌, not, Bool, true, false, List, [], ◌∷◌, ◌++◌, Option, Some, None, Result, Ok, Err, if◌then◌else◌}
use Rattle.std.specs.List.{list_any}
use Rattle.obex_headers.specs.declared.fault.ObexRefusal.{ObexRefusal}
use Rattle.obex_headers.specs.declared.packet.Phase.TheVariants.{Request}
use Rattle.obex_headers.specs.Packets.{PlainPacket, bare, with_header, packet_octets}
use Rattle.obex_headers.specs.Reading.{packet_in}
use Rattle.obex_headers.specs.Runs.{is_final}
use Rattle.obex_session.specs.InboxCalls.{Answer, left_by}
use Rattle.obex_session.specs.Marks.{is_name, is_single}
use Rattle.obex_session.specs.Past.{Serving}
use Rattle.obex_session.specs.Replied.{code_due, plain_reply, said_to}
use Rattle.obex_session.specs.Responses.{single_header}
use Rattle.obex_session.specs.Serving.{heard_with}
use Rattle.obex_session.specs.Tried.{calls_behind, run_behind}
use Rattle.obex_session.specs.Views.{rested}

-- ---- the mode of a run

-- it is offered, and the first PUT of the run wishes it (97 01)
abbrev pub in_mode : Bool → List PlainPacket → Bool
in_mode offered [] = false
in_mode offered (put ∷ run) = offered && list_any is_single put.headers

-- no PUT of the run was heard
abbrev pub begins : List PlainPacket → Bool
begins [] = true
begins (put ∷ run) = false

abbrev pub is_put : PlainPacket → Bool
is_put packet = (packet.code == 0x02) || (packet.code == 0x82)

-- PUTs are passed over, and this one has no Name
abbrev pub is_passed : Bool → PlainPacket → Bool
is_passed passing put = passing && not (list_any is_name put.headers)

-- ---- the reply

abbrev pub confirming_reply : ℕ → List ℕ
confirming_reply code = packet_octets (with_header (bare code []) single_header)

-- to a PUT in the mode, which is the first of its run or not, by the code that is due
abbrev pub mode_reply : Bool → List ℕ → ℕ → Option ℕ → List ℕ
mode_reply first packet maximum None = []
mode_reply first packet maximum (Some code) =
    if code == 0x90 then (if first then confirming_reply code else [])
    else if (code == 0xA0) && first then confirming_reply code
    else plain_reply packet maximum (Some code)

abbrev pub put_reply : Bool → ℕ → Bool → List PlainPacket → PlainPacket → List ℕ → Option ℕ → List ℕ
put_reply offered maximum passing run put packet due =
    if is_passed passing put then []
    else if in_mode offered (run ++ put ∷ []) then mode_reply (begins run) packet maximum due
    else plain_reply packet maximum due

abbrev pub reply_by : Bool → ℕ → Bool → List PlainPacket → Result PlainPacket ObexRefusal → List ℕ → Option ℕ → List ℕ
reply_by offered maximum passing run (Ok put) packet due = if is_put put then put_reply offered maximum passing run put packet due else plain_reply packet maximum due
reply_by offered maximum passing run (Err refusal) packet due = plain_reply packet maximum due

abbrev pub reply_due : Bool → ℕ → Bool → List PlainPacket → List ℕ → List Answer → List ℕ
reply_due offered maximum passing run packet answers = reply_by offered maximum passing run (packet_in Request maximum packet) packet (code_due maximum run packet answers)

-- ---- behind it

-- behind want of memory it is as before
abbrev pub unless_short : Bool → Bool → Option ℕ → Bool
unless_short before now None = before
unless_short before now (Some code) = now

-- where a PUT is refused in the mode, that is not final, the others are passed over
abbrev pub put_passing : Bool → Bool → List PlainPacket → PlainPacket → Option ℕ → Bool
put_passing offered passing run put None = passing
put_passing offered passing run put (Some code) = if (code == 0x90) || (code == 0xA0) then false else in_mode offered run && not (is_final put)

abbrev pub passing_by : Bool → Bool → List PlainPacket → Result PlainPacket ObexRefusal → Option ℕ → Bool
passing_by offered passing run (Ok put) due =
    if is_put put then (if is_passed passing put then not (is_final put) else put_passing offered passing run put due) else unless_short passing false due
passing_by offered passing run (Err refusal) due = unless_short passing (passing || in_mode offered run) due

abbrev pub passing_behind : Bool → ℕ → Bool → List PlainPacket → List ℕ → List Answer → Bool
passing_behind offered maximum passing run packet answers = passing_by offered passing run (packet_in Request maximum packet) (code_due maximum run packet answers)

-- a PUT that is passed over is of no run
abbrev pub is_of_none : Bool → Result PlainPacket ObexRefusal → Bool
is_of_none passing (Ok put) = is_put put && is_passed passing put
is_of_none passing (Err refusal) = false

abbrev pub run_past : ℕ → Bool → List PlainPacket → List ℕ → List Answer → List PlainPacket
run_past maximum passing run packet answers = if is_of_none passing (packet_in Request maximum packet) then [] else run_behind maximum run packet answers

-- ---- the law

abbrev pub AllKeepModes : Serving → Bool → List PlainPacket → List (List ℕ) → List Answer → Type 0
AllKeepModes session passing run [] answers = Unit {0}
AllKeepModes session passing run (packet ∷ packets) answers =
    (said_to session packet answers ≡ reply_due session.offered session.maximum passing run packet answers)
    × AllKeepModes (heard_with session packet answers).session (passing_behind session.offered session.maximum passing run packet answers) (run_past session.maximum passing run packet answers) packets (left_by (calls_behind session.maximum run packet) answers)

-- The reply to each packet, octet for octet, from a session that heard nothing on.
abbrev pub RepliesKeepModes : Type 0
RepliesKeepModes = (session : Serving) (packets : List (List ℕ)) (answers : List Answer) → AllKeepModes (rested session) false [] packets answers
