-- Sessions as those see them that know no names of requests and of sayings.
use Rattle.std.specs.Prelude.{◌≡◌, ℕ, Bool, true, false, List, [], ◌++◌, length, drop, Option, Some, None, is_none, IfSome}
use Rattle.bt_base.specs.Counts.{HasRisen}
use Rattle.bt_base.specs.Objects.{Contents}
use Rattle.obex_session.specs.declared.asking.Request.{Request}
use Rattle.obex_session.specs.declared.asking.Request.TheVariants.{Connect, FirstPut, Put, Stream, FinalPut, Abort, Disconnect}
use Rattle.obex_session.specs.declared.client.Answered.{Answered}
use Rattle.obex_session.specs.declared.course.Course.TheVariants.{Rests}
use Rattle.obex_session.specs.declared.responding.Saying.{Saying}
use Rattle.obex_session.specs.declared.responding.Saying.TheVariants as saying
use Rattle.obex_session.specs.declared.server.Reply.{Reply}
use Rattle.obex_session.specs.declared.server.Reply.TheVariants as reply
use Rattle.obex_session.specs.InboxCalls.{Answer, held_after}
use Rattle.obex_session.specs.Counting.{Counts, AreCounted}
use Rattle.obex_session.specs.Asking.{Asking, asks_for, answer_to, after_answer}
use Rattle.obex_session.specs.Past.{Serving}
use Rattle.obex_session.specs.Responses.{response_octets, confirmation_octets}
use Rattle.obex_session.specs.Serving.{heard_with, ruling_on}

-- ---- a client's session

abbrev pub asks_connect : Asking → Asking
asks_connect session = asks_for Connect session

abbrev pub asks_abort : Asking → Asking
asks_abort session = asks_for Abort session

abbrev pub asks_disconnect : Asking → Asking
asks_disconnect session = asks_for Disconnect session

-- PUTs behind the first in single response mode, of which more follow before the response
abbrev pub is_stream : Option Request → Bool
is_stream None = false
is_stream (Some Connect) = false
is_stream (Some FirstPut) = false
is_stream (Some Put) = false
is_stream (Some Stream) = true
is_stream (Some FinalPut) = false
is_stream (Some Abort) = false
is_stream (Some Disconnect) = false

abbrev pub is_final_put : Option Request → Bool
is_final_put None = false
is_final_put (Some Connect) = false
is_final_put (Some FirstPut) = false
is_final_put (Some Put) = false
is_final_put (Some Stream) = false
is_final_put (Some FinalPut) = true
is_final_put (Some Abort) = false
is_final_put (Some Disconnect) = false

-- what a response says of the request that waits, if one does, and the session then
abbrev pub answer_at : Option Request → Asking → List ℕ → Option Answered
answer_at None session octets = None
answer_at (Some request) session octets = Some (answer_to session.maximum request octets)

abbrev pub after_at : Option Request → Asking → List ℕ → Asking
after_at None session octets = session
after_at (Some request) session octets = after_answer session request octets

-- ---- a server's session

-- no run of packets goes on
abbrev pub rested : Serving → Serving
rested session = record session { course = Rests }

-- the octets that are said, if any are
abbrev pub octets_said : List ℕ → ℕ → Saying → List ℕ
octets_said packet maximum (saying.Response code) = response_octets packet maximum code
octets_said packet maximum (saying.Confirmation code) = confirmation_octets code
octets_said packet maximum saying.Silence = []
octets_said packet maximum saying.NoMemory = []

abbrev pub is_shortage : Saying → Bool
is_shortage (saying.Response code) = false
is_shortage (saying.Confirmation code) = false
is_shortage saying.Silence = false
is_shortage saying.NoMemory = true

abbrev pub is_silence : Saying → Bool
is_silence (saying.Response code) = false
is_silence (saying.Confirmation code) = false
is_silence saying.Silence = true
is_silence saying.NoMemory = false

-- the packet is heard in silence, where no call of the inbox fails
abbrev pub is_silent : Serving → List ℕ → Bool
is_silent session packet = is_silence (heard_with session packet []).saying

-- ---- a packet was answered

-- the session behind a packet, the octets that it says, whether it says none for want of memory, and which answers of the
-- inbox are left
pub record Viewed : Type 0 where
  pub session : Serving
  pub response : List ℕ
  pub short : Bool
  pub left : List Answer

abbrev pub viewed : Serving → List ℕ → List Answer → Viewed
viewed session packet answers = record {
  session = (heard_with session packet answers).session;
  response = octets_said packet session.maximum (heard_with session packet answers).saying;
  short = is_shortage (heard_with session packet answers).saying;
  left = (heard_with session packet answers).left;
}

-- how many octets were written, if memory was not wanting
abbrev pub count_in : Reply → Option ℕ
count_in (reply.Respond count) = Some count
count_in reply.Silent = Some 0
count_in reply.NoMemory = None

-- what a call with a packet does, whatever answers of the inbox are left over
pub record IsAnswered (session session' : Serving) (packet : List ℕ) (content content' : Option Contents) (old new : Counts) (room room' : List ℕ) (answer : Reply) : Type 0 where
  pub used : List Answer
  pub counted : AreCounted used old new
  pub response : List ℕ
  pub turn : (rest : List Answer) → viewed session packet (used ++ rest) ≡ record { session = session'; response = response; short = is_none (count_in answer); left = rest }
  pub held : (rest : List Answer) → held_after (ruling_on session packet).calls (used ++ rest) content ≡ content'
  pub written : IfSome (count_in answer) (λ count. (count ≡ length response) × (room' ≡ response ++ drop count room))
  pub none : is_none (count_in answer) ≡ true → response ≡ []
  pub short : is_none (count_in answer) ≡ true → HasRisen old.shortages new.shortages
