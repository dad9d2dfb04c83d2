-- The calls that a server's session makes of its inbox, over any list of packets and whatever the inbox answers (Object Push Profile 1.2, 4.3).
-- None is made at a packet behind the first that fails there; a PUT at which one failed counts as refused, so that a new run begins behind it.
use Rattle.std.specs.Prelude.{ℕ, ◌≡◌, Bool, List, [], ◌∷◌, ◌++◌, map, is_err, Option, Some, None, Ok, Err, if◌then◌else◌}
use Rattle.std.specs.List.{flat_map}
use Rattle.bt_base.specs.declared.ports.PortFault.{PortFault}
use Rattle.bt_base.specs.Objects.{Object}
use Rattle.obex_headers.specs.declared.packet.Phase.TheVariants.{Request}
use Rattle.obex_headers.specs.Packets.{PlainHeader, PlainPacket}
use Rattle.obex_headers.specs.Reading.{packet_in}
use Rattle.obex_headers.specs.Runs.{put_of, run_headers, is_final, breaks, lacks, FallsInto}
use Rattle.obex_session.specs.Calls.{calls_of, kept_behind, abort_behind, stretch_calls}
use Rattle.obex_session.specs.InboxCalls.{InboxCall, Commit, Answer, come_of, left_by}
use Rattle.obex_session.specs.Past.{Serving, put_heard, open_from}
use Rattle.obex_session.specs.Rules.{aborts, progress_in}
use Rattle.obex_session.specs.Serving.{ruling_on, heard_with}
use Rattle.obex_session.specs.Views.{rested}

-- ---- the calls that are made of those that are asked for

abbrev pub tried_by : List InboxCall → List Answer → List InboxCall
tried_by [] answers = []
tried_by (call ∷ calls) [] = call ∷ tried_by calls []
tried_by (call ∷ calls) (Ok done ∷ answers) = call ∷ tried_by calls answers
tried_by (call ∷ calls) (Err fault ∷ answers) = call ∷ []

-- by a session, packet after packet
abbrev pub calls_tried : Serving → List (List ℕ) → List Answer → List InboxCall
calls_tried session [] answers = []
calls_tried session (packet ∷ packets) answers = tried_by (ruling_on session packet).calls answers ++ calls_tried (heard_with session packet answers).session packets (heard_with session packet answers).left

abbrev pub session_left : Serving → List (List ℕ) → List Answer → Serving
session_left session [] answers = session
session_left session (packet ∷ packets) answers = session_left (heard_with session packet answers).session packets (heard_with session packet answers).left

-- ---- the calls that a packet asks for, behind the headers of the run that goes on

-- a final PUT commits its object, or aborts what is under way where it lacks a Name or a body
abbrev pub calls_at_end : Bool → List PlainHeader → List InboxCall
calls_at_end final headers = if final then (if lacks headers then abort_behind headers else Commit ∷ []) else []

-- a Name begins the object and each body is appended, up to the broken rule, where what is under way is aborted
abbrev pub calls_of_put : List PlainHeader → PlainPacket → List InboxCall
calls_of_put headers put =
    if breaks (headers ++ put.headers) then calls_of (kept_behind headers put.headers) ++ abort_behind (headers ++ kept_behind headers put.headers)
    else calls_of put.headers ++ calls_at_end (is_final put) (headers ++ put.headers)

-- what is no PUT, or is refused as a packet, aborts what is under way
abbrev pub calls_of_packet : List PlainHeader → Option PlainPacket → List InboxCall
calls_of_packet headers None = abort_behind headers
calls_of_packet headers (Some put) = calls_of_put headers put

abbrev pub put_within : ℕ → List ℕ → Option PlainPacket
put_within maximum packet = put_of (packet_in Request maximum packet)

abbrev pub calls_behind : ℕ → List PlainPacket → List ℕ → List InboxCall
calls_behind maximum run packet = calls_of_packet (run_headers run) (put_within maximum packet)

-- the run that goes on behind it
abbrev pub run_behind : ℕ → List PlainPacket → List ℕ → List Answer → List PlainPacket
run_behind maximum run packet answers = open_from run (put_heard maximum (packet, is_err (come_of (calls_behind maximum run packet) answers)) ∷ [])

abbrev pub calls_due : ℕ → List PlainPacket → List (List ℕ) → List Answer → List InboxCall
calls_due maximum run [] answers = []
calls_due maximum run (packet ∷ packets) answers =
    tried_by (calls_behind maximum run packet) answers ++ calls_due maximum (run_behind maximum run packet answers) packets (left_by (calls_behind maximum run packet) answers)

abbrev pub run_left : ℕ → List PlainPacket → List (List ℕ) → List Answer → List PlainPacket
run_left maximum run [] answers = run
run_left maximum run (packet ∷ packets) answers = run_left maximum (run_behind maximum run packet answers) packets (left_by (calls_behind maximum run packet) answers)

-- ---- the laws

-- Each packet makes the calls of its place in its run, up to the first that fails; and where the link goes down what is under way is aborted.
pub record IsCalledInRuns (session : Serving) (packets : List (List ℕ)) (answers : List Answer) : Type 0 where
  pub calls : calls_tried (rested session) packets answers ≡ calls_due session.maximum [] packets answers
  pub down : aborts (progress_in (session_left (rested session) packets answers).course) ≡ abort_behind (run_headers (run_left session.maximum [] packets answers))

abbrev pub InboxIsCalledInRuns : Type 0
InboxIsCalledInRuns = (session : Serving) (packets : List (List ℕ)) (answers : List Answer) → IsCalledInRuns session packets answers

-- However packets fall into stretches and PUTs that go on, where all their calls are granted and a call fails at the packet behind them: the
-- inbox is called for each stretch in turn, for the headers of those that go on, and at that packet up to the call that fails; from there on
-- as of a session that heard nothing.
abbrev pub InboxIsCalledAnew : Type 0
InboxIsCalledAnew = (session : Serving) (packets : List (List ℕ)) (objects : List Object) (falls : FallsInto (map (put_within session.maximum) packets) objects) (packet : List ℕ) (rest : List (List ℕ)) (answers : List Answer) (fault : PortFault) →
    let granted = flat_map stretch_calls falls.stretches ++ calls_of (run_headers falls.open_run) in
    let calls = calls_behind session.maximum falls.open_run packet in
    let left = left_by granted answers in
    come_of granted answers ≡ Ok tt → come_of calls left ≡ Err fault
    → calls_tried (rested session) (packets ++ packet ∷ rest) answers ≡ granted ++ (tried_by calls left ++ calls_tried (rested session) rest (left_by calls left))
