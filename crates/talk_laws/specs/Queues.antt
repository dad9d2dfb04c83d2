-- Which requests of OBEX wait on a channel, looking back to where none did (IrOBEX 1.5, 3.1, 3.2 and 3.4.3.7).
use Rattle.std.specs.Prelude.{ℕ, ◌≡◌, Bool, true, false, List, [], ◌∷◌, ◌++◌, length, drop, fold, Option, Some, None, if◌then◌else◌}
use Rattle.std.specs.List.{filter_map}
use Rattle.link_talk.specs.capture.specs.declared.flow.Flow.{Flow}
use Rattle.link_talk.specs.capture.specs.Histories.{given_by}
use Rattle.link_talk.specs.capture.specs.Pdus.{same_flow}
use Rattle.link_talk.specs.Sdus.{Spoken, spoken_one_way}
use Rattle.link_talk.specs.Exchanges.{Pending, Exchange, with_request, answered_first, exchanges}
use Rattle.talk_laws.specs.Exchanges.{pending}

abbrev pub response_of : Flow → Spoken → Option (List ℕ)
response_of requests one = if same_flow requests one.flow then None else Some one.octets

abbrev pub responses_in : Flow → List Spoken → List (List ℕ)
responses_in requests packets = filter_map (response_of requests) packets

-- PUTs behind a PUT that is not final are one request with it, and an ABORT takes the place of the request before it
abbrev pub requests_in : Flow → List Spoken → List Pending
requests_in requests packets = fold with_request [] (spoken_one_way requests packets)

-- the requests without as many of the first as there are responses
abbrev pub left_in : Flow → List Spoken → List Pending
left_in requests packets = drop (length (responses_in requests packets)) (requests_in requests packets)

abbrev pub is_none : List Pending → Bool
is_none [] = true
is_none (one ∷ others) = false

-- the packets since none waited last
abbrev pub busy_with : Flow → List Spoken → Spoken → List Spoken
busy_with requests busy more = if is_none (left_in requests (busy ++ more ∷ [])) then [] else busy ++ more ∷ []

abbrev pub busy : Flow → List Spoken → List Spoken
busy requests packets = fold (busy_with requests) [] packets

-- of the requests since then, those that no response answers wait
abbrev pub pending_back : Flow → List Spoken → List Pending
pending_back requests packets = left_in requests (busy requests packets)

abbrev pub answered_back : Flow → List Spoken → Spoken → List Exchange
answered_back requests past more = if same_flow requests more.flow then [] else answered_first more.octets (pending_back requests past)

pub record QueuesLookBack : Type 0 where
  pub waiting : (requests : Flow) (packets : List Spoken) → pending requests packets ≡ pending_back requests packets
  pub answered : (requests : Flow) (packets : List Spoken) → exchanges requests packets ≡ given_by (answered_back requests) packets
