-- Two sessions over a pipe of packets, from the start of a connection on: a client that asks CONNECT, puts one object and takes leave, and a server
-- (IrOBEX 1.5, 3.4; Object Push Profile 1.2, 4.3). Each way carries packets in order until it breaks. Then nothing more comes on it, so that there are
-- no more moves of that way: what holds behind any moves holds wherever either way breaks. Each push has such a pipe of its own, which begins so: the
-- client's session is begun again, and the end of the link left the server's as a new one, with what it stored (`LetsGo`).
use Rattle.std.specs.Prelude.{◌≡◌, ℕ, ◌<◌, ◌≤◌, ◌^◌, ◌⊎◌, Bool, true, false, List, [], ◌∷◌, ◌++◌, length, map, take, Option, Some, is_some, is_err, if◌then◌else◌}
use Rattle.std.specs.List.{AllByRecursion}
use Rattle.bt_base.specs.Objects.{Object, octets_of}
use Rattle.obex_headers.specs.Packets.{bare, packet_octets}
use Rattle.obex_headers.specs.Runs.{spelled}
use Rattle.obex_session.specs.declared.asking.Request.{Request}
use Rattle.obex_session.specs.declared.asking.Request.TheVariants.{Connect, FirstPut, Put, Stream, FinalPut, Abort, Disconnect}
use Rattle.obex_session.specs.declared.client.Answered.{Answered}
use Rattle.obex_session.specs.declared.client.Answered.TheVariants.{Go, Done, Refused, Bad, Srmp}
use Rattle.obex_session.specs.declared.course.Course.TheVariants.{Rests}
use Rattle.obex_session.specs.declared.responding.Saying.{Saying}
use Rattle.obex_session.specs.declared.responding.Saying.TheVariants as saying
use Rattle.obex_session.specs.Responses.{connect_fields, response_octets, confirmation_octets}
use Rattle.obex_session.specs.InboxCalls.{Answer, come_of}
use Rattle.obex_session.specs.Past.{Heard, Serving, stored_by}
use Rattle.obex_session.specs.Serving.{ruling_on, heard_with}
use Rattle.obex_session.specs.PutPackets.{units_in}
use Rattle.obex_session.specs.Asking.{Asking, fresh, asks_for, answer_to, after_answer}
use Rattle.obex_session.specs.NextPut.{is_waiting, PutsPacket}
use Rattle.obex_session.specs.ObjectPuts.{HasPut, IsWhole}
use Rattle.obex_session.specs.Pushes.{IsNoPut, Fits}
use Rattle.obex_session.specs.Views.{is_stream}

-- both sessions, whether the client's push ended, so that it puts nothing more, all that the client asked, what the server heard, and what is under
-- way each way
pub record Pair : Type 0 where
  pub client : Asking
  pub server : Serving
  pub ended : Bool
  pub asked : List (List ℕ)
  pub past : List Heard
  pub requests : List (List ℕ)
  pub responses : List (List ℕ)

abbrev pub connect_packet : ℕ → List ℕ
connect_packet maximum = packet_octets (bare 0x80 (connect_fields maximum))

-- CONNECT is under way
abbrev pub connecting : ℕ → Bool → ℕ → Bool → Pair
connecting maximum wanted own offered = record {
  client = asks_for Connect (fresh maximum wanted);
  server = record { maximum = own; offered = offered; course = Rests };
  ended = false;
  asked = connect_packet maximum ∷ [];
  past = [];
  requests = connect_packet maximum ∷ [];
  responses = [];
}

-- what a saying sends
abbrev pub sent_by : List ℕ → ℕ → Saying → List (List ℕ)
sent_by packet maximum (saying.Response code) = response_octets packet maximum code ∷ []
sent_by packet maximum (saying.Confirmation code) = confirmation_octets code ∷ []
sent_by packet maximum saying.Silence = []
sent_by packet maximum saying.NoMemory = []

-- ---- what the client does

-- it asks one packet more
abbrev pub asks_also : Asking → Bool → List ℕ → Pair → Pair
asks_also client ended packet a = record a { client = client; ended = ended; asked = a.asked ++ packet ∷ []; requests = a.requests ++ packet ∷ [] }

-- it puts the next packet of its object, as its shelf tells it
pub record Puts (name : List ℕ) (size : ℕ) (content : Option (List Object)) (a b : Pair) : Type 0 where
  pub limit : ℕ
  pub room : List ℕ
  pub room' : List ℕ
  pub count : ℕ
  pub final : Bool
  pub least : 255 ≤ limit
  pub most : limit < 2 ^ 15
  pub goes_on : a.ended ≡ false
  pub puts : PutsPacket a.client b.client name size limit content room room' count final
  pub rest_is : b ≡ asks_also b.client false (take count room') a

abbrev pub leave_request : Bool → Request
leave_request under_way = if under_way then Abort else Disconnect

abbrev pub leave_packet : Bool → List ℕ
leave_packet under_way = packet_octets (bare (if under_way then 0xFF else 0x81) [])

-- It puts nothing more, as where it was cancelled, its shelf failed or its push is over: an object that is under way is aborted, and where none is it
-- disconnects.
pub record Leaves (a b : Pair) : Type 0 where
  pub free : is_waiting a.client.awaited ≡ false
  pub rest_is : b ≡ asks_also (asks_for (leave_request (is_some a.client.put)) a.client) true (leave_packet (is_some a.client.put)) a

-- it takes the next response, and goes on
pub record Takes (a b : Pair) : Type 0 where
  pub response : List ℕ
  pub rest : List (List ℕ)
  pub request : Request
  pub next_is : a.responses ≡ response ∷ rest
  pub waits : a.client.awaited ≡ Some request
  pub goes : answer_to a.client.maximum request response ≡ Go
  pub rest_is : b ≡ record a { client = after_answer a.client request response; responses = rest }

abbrev pub is_put_request : Request → Bool
is_put_request Connect = false
is_put_request FirstPut = true
is_put_request Put = true
is_put_request Stream = true
is_put_request FinalPut = true
is_put_request Abort = false
is_put_request Disconnect = false

-- with success of the final PUT a push ends, and with a refusal of any
abbrev pub EndsPush : Request → Answered → Type 0
EndsPush request Go = ⊥
EndsPush request Done = is_put_request request ≡ true
EndsPush request (Refused code) = is_put_request request ≡ true
EndsPush request (Bad refusal) = ⊥
EndsPush request Srmp = ⊥

-- It takes the next response, and its push ends with it. Behind a refusal of CONNECT, ABORT or DISCONNECT it does nothing more.
pub record Ends (a b : Pair) : Type 0 where
  pub response : List ℕ
  pub rest : List (List ℕ)
  pub request : Request
  pub next_is : a.responses ≡ response ∷ rest
  pub waits : a.client.awaited ≡ Some request
  pub ends : EndsPush request (answer_to a.client.maximum request response)
  pub rest_is : b ≡ record a { client = after_answer a.client request response; ended = true; responses = rest }

-- ---- what the server does

-- it hears the next packet, and the inbox gives these answers, want of memory not among them
pub record Hears (a b : Pair) : Type 0 where
  pub packet : List ℕ
  pub rest : List (List ℕ)
  pub answers : List Answer
  pub next_is : a.requests ≡ packet ∷ rest
  pub memory : (heard_with a.server packet answers).saying ≡ saying.NoMemory → ⊥
  pub rest_is : b ≡ record a {
    server = (heard_with a.server packet answers).session;
    past = a.past ++ (packet, is_err (come_of (ruling_on a.server packet).calls answers)) ∷ [];
    requests = rest;
    responses = a.responses ++ sent_by packet a.server.maximum (heard_with a.server packet answers).saying;
  }

abbrev pub past_packets : List Heard → List (List ℕ)
past_packets past = map (λ (heard : Heard). heard.0) past

-- ---- any moves

pub data Move (name : List ℕ) (size : ℕ) (content : Option (List Object)) (a b : Pair) : Type 0 where
  Putting : Puts name size content a b → Move name size content a b
  Leaving : Leaves a b → Move name size content a b
  Hearing : Hears a b → Move name size content a b
  Taking : Takes a b → Move name size content a b
  Ending : Ends a b → Move name size content a b

-- one move after the other
abbrev pub Goes : List ℕ → ℕ → Option (List Object) → Pair → List Pair → Pair → Type 0
Goes name size content a [] b = b ≡ a
Goes name size content a (next ∷ others) b = Move name size content a next × Goes name size content next others b

-- wherever the packets of a push have moved to
abbrev pub HoldsAtEachMove : (List ℕ → ℕ → Option (List Object) → Pair → Type 0) → Type 0
HoldsAtEachMove Holds = (name : List ℕ) (size : ℕ) (content : Option (List Object)) (maximum own : ℕ) (wanted offered : Bool) (others : List Pair) (b : Pair) → length (units_in name) ≤ 100 → size < 2 ^ 32 → 255 ≤ maximum → 255 ≤ own → own < 2 ^ 16
    → Goes name size content (connecting maximum wanted own offered) others b → Holds name size content b

-- ---- the laws

abbrev pub pair_stored : Pair → List Object
pair_stored b = stored_by b.server.maximum b.past

-- what an answer may be: with `Done` the object is stored
abbrev pub MeansWell : ℕ → Answered → Type 0
MeansWell stored Go = Unit {0}
MeansWell stored Done = stored ≡ 1
MeansWell stored (Refused code) = Unit {0}
MeansWell stored (Bad refusal) = ⊥
MeansWell stored Srmp = ⊥

-- However the packets move: the next response is never bad, and never has parameters of single response mode; and where
-- the client takes it for the success of its final PUT, the server has stored the one object.
abbrev pub PairsMeanWell : Type 0
PairsMeanWell = HoldsAtEachMove (λ name size content b. (request : Request) (response : List ℕ) (rest : List (List ℕ)) → b.client.awaited ≡ Some request → b.responses ≡ response ∷ rest → MeansWell (length (pair_stored b)) (answer_to b.client.maximum request response))

-- a request waits for the response, which is no success where more PUTs of it follow
pub record IsExpected (client : Asking) (response : List ℕ) : Type 0 where
  pub request : Request
  pub waits : client.awaited ≡ Some request
  pub in_time : is_stream client.awaited ≡ true → (code : ℕ) × (answer_to client.maximum request response ≡ Refused code)

-- No response comes that no request waits for, or ahead of the final PUT as its success.
abbrev pub ResponsesAreAwaited : Type 0
ResponsesAreAwaited = HoldsAtEachMove (λ name size content b. (response : List ℕ) (rest : List (List ℕ)) → b.responses ≡ response ∷ rest → IsExpected b.client response)

-- what the server heard spells the object once or nothing, and it stored the object once or nothing; where the client takes a response for the success
-- of its final PUT, the object
pub record StoresOnce (object : Object) (b : Pair) : Type 0 where
  pub spells : (spelled (past_packets b.past) ≡ []) ⊎ (spelled (past_packets b.past) ≡ object ∷ [])
  pub once : (pair_stored b ≡ []) ⊎ (pair_stored b ≡ object ∷ [])
  pub done : (request : Request) (response : List ℕ) (rest : List (List ℕ)) → b.client.awaited ≡ Some request → b.responses ≡ response ∷ rest → answer_to b.client.maximum request response ≡ Done → pair_stored b ≡ object ∷ []

-- What the server heard, with what is under way, is what the client asked: CONNECT, all PUTs of its object or the first of them, and no PUT more. So
-- it stores no other object, and that one once.
pub record HearsFront (name : List ℕ) (size : ℕ) (content : Option (List Object)) (b : Pair) : Type 0 where
  pub said : List (List ℕ)
  pub after : List (List ℕ)
  pub front : past_packets b.past ++ b.requests ≡ b.asked
  pub in_order : b.asked ≡ connect_packet b.client.maximum ∷ (said ++ after)
  pub no_puts : AllByRecursion IsNoPut after
  pub puts : IsWhole b.client.wanted name size said content ⊎ ((session : Asking) × (session.wanted ≡ b.client.wanted) × HasPut name size said session content)
  pub stores : (objects : List Object) (object : List ℕ) → Fits name size → content ≡ Some objects → octets_of name objects ≡ Some object → length object ≡ size → StoresOnce (record { name = units_in name; octets = object }) b

abbrev pub PairsHearFronts : Type 0
PairsHearFronts = HoldsAtEachMove HearsFront
