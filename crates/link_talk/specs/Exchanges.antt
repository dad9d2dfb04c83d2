-- Requests and responses of OBEX on a channel (IrOBEX 1.5, 3.1, 3.2 and 3.4.3.7): the requests are answered one after the
-- other.
use Rattle.std.specs.Prelude.{ℕ, ◌==◌, ◌||◌, ◌&&◌, Bool, List, [], ◌∷◌, ◌++◌, slice_index, if◌then◌else◌}
use Rattle.capture.specs.declared.flow.Flow.{Flow}
use Rattle.capture.specs.Pdus.{same_flow}
use Rattle.link_talk.specs.Sdus.{Spoken}

-- ---- requests

abbrev pub code_of : List ℕ → ℕ
code_of packet = slice_index packet 0

-- a PUT is 02, and 82 where it is the final one
abbrev pub is_put : List ℕ → Bool
is_put packet = (code_of packet == 0x02) || (code_of packet == 0x82)

abbrev pub is_abort : List ℕ → Bool
is_abort packet = code_of packet == 0xFF

-- A request: one packet. In single response mode the PUTs behind the first are one request, and no other client sends a
-- PUT while one waits for its response.
abbrev pub goes_on : List ℕ → List ℕ → Bool
goes_on before packet = (code_of before == 0x02) && is_put packet

-- the last packet of a request
abbrev pub last_packet : List ℕ → List (List ℕ) → List ℕ
last_packet first [] = first
last_packet first (packet ∷ packets) = last_packet packet packets

-- a request that waits: its first packet and those behind it
pub record Pending : Type 0 where
  pub first : List ℕ
  pub behind : List (List ℕ)

abbrev pub fresh : List ℕ → Pending
fresh packet = record { first = packet; behind = [] }

abbrev pub joins : Pending → List ℕ → Bool
joins pending packet = goes_on (last_packet pending.first pending.behind) packet

-- An ABORT takes the place of a request that waits, a PUT may go on with it, and any other packet waits behind it.
abbrev pub with_last : Pending → List ℕ → List Pending
with_last pending packet =
    if is_abort packet then fresh packet ∷ [] else
    if joins pending packet then record { first = pending.first; behind = pending.behind ++ packet ∷ [] } ∷ [] else
    pending ∷ fresh packet ∷ []

abbrev pub with_request : List Pending → List ℕ → List Pending
with_request [] packet = fresh packet ∷ []
with_request (pending ∷ []) packet = with_last pending packet
with_request (pending ∷ next ∷ others) packet = pending ∷ with_request (next ∷ others) packet

-- ---- responses

-- a request and its response
pub record Exchange : Type 0 where
  pub request : Pending
  pub response : List ℕ

-- a response answers the first request that waits; where none waits it answers none
abbrev pub without_first : List Pending → List Pending
without_first [] = []
without_first (pending ∷ others) = others

abbrev pub answered_first : List ℕ → List Pending → List Exchange
answered_first response [] = []
answered_first response (pending ∷ others) = record { request = pending; response = response } ∷ []

-- the requests that wait behind one packet more; requests go one way, and responses the other
abbrev pub pending_after : Flow → List Pending → Spoken → List Pending
pending_after requests waiting more = if same_flow requests more.flow then with_request waiting more.octets else without_first waiting

abbrev pub exchanges_from : Flow → List Pending → List Spoken → List Exchange
exchanges_from requests waiting [] = []
exchanges_from requests waiting (more ∷ rest) =
    (if same_flow requests more.flow then [] else answered_first more.octets waiting) ++ exchanges_from requests (pending_after requests waiting more) rest

-- the exchanges on a channel, in the order of their responses, of the packets that went over it both ways
abbrev pub exchanges : Flow → List Spoken → List Exchange
exchanges requests packets = exchanges_from requests [] packets

-- ---- what ends an object

-- the final PUT has code 82
abbrev pub is_final : Exchange → Bool
is_final exchange = code_of (last_packet exchange.request.first exchange.request.behind) == 0x82

-- the response to a final PUT has this code: A0 says success, D0 that the object was not stored
abbrev pub ends_object_with : ℕ → Exchange → Bool
ends_object_with code exchange = is_final exchange && (code_of exchange.response == code)
