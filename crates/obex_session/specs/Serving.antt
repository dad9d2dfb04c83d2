-- What the calls of a server's session do (this project's own).
use Rattle.std.specs.Prelude.{◌≡◌, ℕ, ◌<◌, ◌≤◌, ◌++◌, ◌||◌, Bool, List, [], ◌∷◌, length, drop, Option, Result, Ok, Err, IsTrue, is_err, is_ok, true, false}
use Rattle.std.specs.Option.{option_map}
use Rattle.bt_base.specs.Counts.{HasCause, HasRisen}
use Rattle.bt_base.specs.Objects.{Object, Contents}
use Rattle.bt_base.specs.declared.no_memory.NoMemory.{NoMemory}
use Rattle.bt_base.specs.declared.ports.PortFault.{PortFault}
use Rattle.obex_headers.specs.declared.packet.Phase.TheVariants.{Request}
use Rattle.obex_headers.specs.Reading.{packet_in}
use Rattle.obex_session.specs.declared.course.Course.TheVariants.{Rests}
use Rattle.obex_session.specs.declared.course.Verdict.{Verdict}
use Rattle.obex_session.specs.declared.marks.Kind.{Kind}
use Rattle.obex_session.specs.declared.marks.Kind.TheVariants as kind
use Rattle.obex_session.specs.declared.responding.Saying.{Saying}
use Rattle.obex_session.specs.declared.responding.Saying.TheVariants as saying
use Rattle.obex_session.specs.declared.server.Reply.{Reply}
use Rattle.obex_session.specs.declared.server.Reply.TheVariants as reply
use Rattle.obex_session.specs.Responses.{response_octets, confirmation_octets}
use Rattle.obex_session.specs.InboxCalls.{Answer, come_of, left_by, held_after, all_done}
use Rattle.obex_session.specs.Marks.{kind_of}
use Rattle.obex_session.specs.Rules.{Ruling, aborts, is_under_way, progress_in, at_packet}
use Rattle.obex_session.specs.Turns.{course_after, said_after}
use Rattle.obex_session.specs.Past.{Heard, Serving, StandsFor, stored_by}

-- ---- the session as a pure machine

-- what a packet is to a session
abbrev pub kind_heard : Serving → List ℕ → Kind
kind_heard session packet = kind_of (packet_in Request session.maximum packet)

-- the calls of the inbox that a packet asks for, and the verdict where none fails
abbrev pub ruling_on : Serving → List ℕ → Ruling
ruling_on session packet = at_packet session.course (packet_in Request session.maximum packet)

-- a verdict, or the fault of a call
abbrev pub verdict_or : Verdict → Answer → Result Verdict PortFault
verdict_or verdict (Ok done) = Ok verdict
verdict_or verdict (Err fault) = Err fault

abbrev pub outcome_on : Serving → List ℕ → List Answer → Result Verdict PortFault
outcome_on session packet answers = verdict_or (ruling_on session packet).verdict (come_of (ruling_on session packet).calls answers)

-- the session behind a packet, what it says, and which answers of the inbox are left
pub record Turn : Type 0 where
  pub session : Serving
  pub saying : Saying
  pub left : List Answer

abbrev pub turn_by : Serving → Kind → Result Verdict PortFault → List Answer → Turn
turn_by session kind outcome left = record {
  session = record session { course = course_after session.offered session.course kind outcome };
  saying = said_after session.offered session.course kind outcome;
  left = left;
}

abbrev pub heard_with : Serving → List ℕ → List Answer → Turn
heard_with session packet answers = turn_by session (kind_heard session packet) (outcome_on session packet answers) (left_by (ruling_on session packet).calls answers)

-- ---- the inbox

abbrev pub has_name : Kind → Bool
has_name kind.Refused = false
has_name (kind.Put final marks) = marks.name
has_name (kind.Other octet) = false

-- A packet has to do with the inbox where an object is under way, or where it is a PUT with a Name. Where it has not,
-- no call is made.
abbrev pub minds_inbox : Serving → List ℕ → Bool
minds_inbox session packet = is_under_way (progress_in session.course) || has_name (kind_heard session packet)

-- ---- a packet was heard

-- a response is written from the first octet on, and the rest of the room stays; without one nothing is written
abbrev pub Says : List ℕ → ℕ → Saying → List ℕ → List ℕ → Reply → Type 0
Says packet maximum (saying.Response code) room room' answer =
    (answer ≡ reply.Respond (length (response_octets packet maximum code))) × (room' ≡ response_octets packet maximum code ++ drop (length (response_octets packet maximum code)) room)
Says packet maximum (saying.Confirmation code) room room' answer =
    (answer ≡ reply.Respond (length (confirmation_octets code))) × (room' ≡ confirmation_octets code ++ drop (length (confirmation_octets code)) room)
Says packet maximum saying.Silence room room' answer = (answer ≡ reply.Silent) × (room' ≡ room)
Says packet maximum saying.NoMemory room room' answer = (answer ≡ reply.NoMemory) × (room' ≡ room)

pub record Hears (session session' : Serving) (packet : List ℕ) (content content' : Option Contents) (faults faults' shortages shortages' : ℕ) (room room' : List ℕ) (answer : Reply) : Type 0 where
  -- the answers of the inbox, of which none is left over
  pub used : List Answer
  pub saying : Saying
  pub turn : (rest : List Answer) → heard_with session packet (used ++ rest) ≡ record { session = session'; saying = saying; left = rest }
  pub content_is : content' ≡ held_after (ruling_on session packet).calls used content
  pub cause : HasCause faults faults' shortages shortages' (come_of (ruling_on session packet).calls used)
  pub says : Says packet session.maximum saying room room' answer
  pub history : (before : List Object) (past : List Heard) → StandsFor before past session content
      → StandsFor before (past ++ (packet, is_err (come_of (ruling_on session packet).calls used)) ∷ []) session' content'

-- ---- the link of a session went down

-- no object is under way, and the session is as a new one; the inbox is asked to abort one that was
pub record LetsGo (session session' : Serving) (content content' : Option Contents) : Type 0 where
  pub session_is : session' ≡ record session { course = Rests }
  pub content_is : content' ≡ option_map (all_done (aborts (progress_in session.course))) content
  pub history : (before : List Object) (past : List Heard) → StandsFor before past session content → StandsFor (before ++ stored_by session.maximum past) [] session' content'

-- want of memory is answered exactly where the count of shortages rose, and no count falls
pub record CountsShortages (faults faults' shortages shortages' : ℕ) (result : Result (Unit {0}) NoMemory) : Type 0 where
  pub faults_stay : faults ≤ faults'
  pub shortages_stay : shortages ≤ shortages'
  pub short : IsTrue (is_err result) → HasRisen shortages shortages'
  pub only_short : shortages < shortages' → IsTrue (is_err result)

-- nothing is asked of the inbox: nothing fails, no count moves, and what is pending stays
pub record IsUnasked {A E : Type 0} (pending pending' : Bool) (faults faults' shortages shortages' : ℕ) (result : Result A E) : Type 0 where
  pub succeeds : is_ok result ≡ true
  pub pending_same : pending' ≡ pending
  pub faults_same : faults' ≡ faults
  pub shortages_same : shortages' ≡ shortages
