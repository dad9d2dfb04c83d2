-- A query whose requests are answered part by part.
use Rattle.std.specs.Prelude.{◌≡◌, ℕ, ◌<◌, ◌≤◌, List, [], ◌∷◌, length, Some, None, unwrap_or}
use Rattle.std.specs.List.{AllByRecursion}
use Rattle.bt_base.specs.declared.settings.Serves.{Serves}
use Rattle.bt_base.specs.declared.settings.Serves.TheVariants as serving
use Rattle.sdp_elements.specs.declared.target.Target.{Target}
use Rattle.sdp_elements.specs.Answers.{Question, Search, answer}
use Rattle.sdp_elements.specs.Exchange.{offset_in, part_reply}
use Rattle.sdp_server.specs.Replies.{reply_to}
use Rattle.sdp_client.specs.declared.reason.Found.{Found}
use Rattle.sdp_client.specs.declared.reason.Found.TheVariants.{More, Service, NoService, Refused}
use Rattle.sdp_client.specs.Asking.{Asking, begun, asked_pattern, asked_ranges, request_octets, after_request}
use Rattle.sdp_client.specs.Hearing.{found_at, after_reply, found_whole}

-- how many octets a request asks for at most, and in how much room it is answered
pub record Size : Type 0 where
  pub most : ℕ
  pub room : ℕ

abbrev pub IsSize : Size → Type 0
IsSize size = (7 ≤ size.most) × (48 ≤ size.room)

-- the reply to a query that carries the next part of an answer
abbrev pub next_part : List ℕ → Size → Asking → List ℕ
next_part octets size asking = part_reply 7 asking.transaction octets (unwrap_or (offset_in asking.continuation (length octets)) 0) size.most size.room

-- what is found first, where a part with more behind it is nothing found yet
abbrev pub or_later : Found → Found → Found
or_later More later = later
or_later (Service target) later = Service target
or_later NoService later = NoService
or_later (Refused reason) later = Refused reason

-- what a query finds where each of its requests is answered by the next part, in these sizes
abbrev pub found_over : List ℕ → Asking → List Size → Found
found_over octets asking [] = More
found_over octets asking (size ∷ sizes) =
    or_later (found_at (after_request asking) (next_part octets size asking)) (found_over octets (after_reply (after_request asking) (next_part octets size asking)) sizes)

-- the parts of an answer, in whatever sizes they come, are judged as the answer: as many as it has octets are enough
abbrev pub PartsJoin : Type 0
PartsJoin = (octets : List ℕ) (sizes : List Size) → 0 < length octets → length octets ≤ 4096 → AllByRecursion IsSize sizes → length octets ≤ length sizes → found_over octets begun sizes ≡ found_whole octets

-- ---- the answer to the question of a query

-- the protocols and the PSM of Object Push
abbrev pub asked_question : Question
asked_question = Search asked_pattern asked_ranges

-- the ways to the service that its record names
abbrev pub served_target : Serves → Target
served_target serving.Both = record { l2cap = Some 0x1001; rfcomm = Some 9 }
served_target serving.L2cap = record { l2cap = Some 0x1001; rfcomm = None }
served_target serving.Rfcomm = record { l2cap = None; rfcomm = Some 9 }

-- the whole answer of a server names the ways to its service
abbrev pub FindsWhatIsServed : Type 0
FindsWhatIsServed = (serves : Serves) → found_whole (answer serves asked_question) ≡ Service (served_target serves)

-- ---- a query and a server

-- the reply of a server of these transports to the first request of a query, in so much room
abbrev pub first_reply : Serves → ℕ → List ℕ
first_reply serves room = reply_to serves room (request_octets (after_request begun))

-- the first reply of a server has its whole answer, and names the ways to its service
abbrev pub FindsTheServer : Type 0
FindsTheServer = (serves : Serves) (room : ℕ) → 48 ≤ room → found_at (after_request begun) (first_reply serves room) ≡ Service (served_target serves)
