-- The calls of an inbox that a list of packets asks for, run by run (Object Push Profile 1.2, 4.3).
use Rattle.std.specs.Prelude.{ℕ, List, [], ◌∷◌, ◌++◌, Option, Some, None, if◌then◌else◌}
use Rattle.std.specs.List.{filter_map}
use Rattle.obex_headers.specs.Packets.{PlainHeader, PlainPacket, units_of}
use Rattle.obex_headers.specs.Runs.{name_text, body_of, names, run_headers, breaks, Stretch, Spelling, Broken}
use Rattle.obex_session.specs.InboxCalls.{InboxCall, Begin, Append, Commit, Abort}
use Rattle.obex_session.specs.Past.{Serving}
use Rattle.obex_session.specs.Serving.{ruling_on, heard_with}

-- a Name begins an object, and a body is appended
abbrev pub call_at : Option (List ℕ) → Option (List ℕ) → Option InboxCall
call_at (Some text) body = Some (Begin (units_of text))
call_at None (Some octets) = Some (Append octets)
call_at None None = None

abbrev pub call_of : PlainHeader → Option InboxCall
call_of header = call_at (name_text header) (body_of header)

abbrev pub calls_of : List PlainHeader → List InboxCall
calls_of headers = filter_map call_of headers

-- the headers ahead of the first with which a rule is broken, behind others
abbrev pub kept_behind : List PlainHeader → List PlainHeader → List PlainHeader
kept_behind before [] = []
kept_behind before (header ∷ headers) = if breaks (before ++ header ∷ []) then [] else header ∷ kept_behind (before ++ header ∷ []) headers

-- an object that was begun is aborted
abbrev pub abort_from : List (List ℕ) → List InboxCall
abort_from [] = []
abort_from (name ∷ names) = Abort ∷ []

abbrev pub abort_behind : List PlainHeader → List InboxCall
abort_behind headers = abort_from (names headers)

abbrev pub headers_of : Option PlainPacket → List PlainHeader
headers_of None = []
headers_of (Some put) = put.headers

abbrev pub begun_and_aborted : List PlainHeader → List InboxCall
begun_and_aborted headers = calls_of headers ++ abort_behind headers

-- A stretch that spells an object begins it, appends each body and commits it. One that its last packet ends without an
-- object does so up to the broken rule, and aborts what it began.
abbrev pub stretch_calls : Stretch → List InboxCall
stretch_calls (Spelling run object) = calls_of (run_headers run) ++ Commit ∷ []
stretch_calls (Broken run last) = begun_and_aborted (run_headers run ++ kept_behind (run_headers run) (headers_of last))

-- ---- the calls that a session makes, where all are granted

abbrev pub calls_made : Serving → List (List ℕ) → List InboxCall
calls_made session [] = []
calls_made session (packet ∷ packets) = (ruling_on session packet).calls ++ calls_made (heard_with session packet []).session packets

abbrev pub session_behind : Serving → List (List ℕ) → Serving
session_behind session [] = session
session_behind session (packet ∷ packets) = session_behind (heard_with session packet []).session packets
