-- Requests and responses of OBEX on a channel, looking back from each response (IrOBEX 1.5, 3.1, 3.2 and 3.4.3.7).
use Rattle.std.specs.Prelude.{ℕ, ◌≡◌, ◌&&◌, Bool, false, List, [], ◌∷◌, ◌++◌, map, fold, if◌then◌else◌}
use Rattle.std.specs.List.{flat_map, list_any, count_by}
use Rattle.link_talk.specs.capture.specs.declared.flow.Flow.{Flow}
use Rattle.link_talk.specs.capture.specs.Histories.{given_by}
use Rattle.link_talk.specs.capture.specs.Pdus.{same_flow}
use Rattle.link_talk.specs.Sdus.{Spoken, spoken_one_way}
use Rattle.link_talk.specs.Exchanges.{Pending, Exchange, is_abort, pending_after, answered_first, exchanges}

-- the requests that wait behind packets
abbrev pub pending : Flow → List Spoken → List Pending
pending requests packets = fold (pending_after requests) [] packets

-- a response answers the first request that waits behind all packets before it
abbrev pub answered_behind : Flow → List Spoken → Spoken → List Exchange
answered_behind requests past more = if same_flow requests more.flow then [] else answered_first more.octets (pending requests past)

abbrev pub packets_of : Pending → List (List ℕ)
packets_of request = request.first ∷ request.behind

-- all requests, in their order: those that were answered, and those that wait
abbrev pub requests_made : Flow → List Spoken → List Pending
requests_made requests packets = map (λ (one : Exchange). one.request) (exchanges requests packets) ++ pending requests packets

-- the last request that waits
abbrev pub last_waiting : List Pending → List Pending
last_waiting [] = []
last_waiting (one ∷ []) = one ∷ []
last_waiting (one ∷ next ∷ others) = last_waiting (next ∷ others)

abbrev pub displaced_behind : Flow → List Spoken → Spoken → List Pending
displaced_behind requests past more = if same_flow requests more.flow && is_abort more.octets then last_waiting (pending requests past) else []

-- the requests whose place an ABORT took: no response answers them
abbrev pub displaced : Flow → List Spoken → List Pending
displaced requests packets = given_by (displaced_behind requests) packets

pub record ExchangesLookBack : Type 0 where
  pub answered : (requests : Flow) (packets : List Spoken) → exchanges requests packets ≡ given_by (answered_behind requests) packets
  -- without an ABORT each packet of a request stands in one request, in their order
  pub complete : (requests : Flow) (packets : List Spoken) → list_any is_abort (spoken_one_way requests packets) ≡ false
      → flat_map packets_of (requests_made requests packets) ≡ spoken_one_way requests packets
  -- with ABORTs too it stands in exactly one: a request that was answered, one that waits, or one that was displaced
  pub once : (requests : Flow) (packets : List Spoken) (passes : List ℕ → Bool)
      → count_by passes (flat_map packets_of (requests_made requests packets ++ displaced requests packets)) ≡ count_by passes (spoken_one_way requests packets)

-- one packet more
pub record ExchangesGrow : Type 0 where
  pub exchanged : (requests : Flow) (packets : List Spoken) (more : Spoken) → exchanges requests (packets ++ more ∷ []) ≡ exchanges requests packets ++ answered_behind requests packets more
  pub waiting : (requests : Flow) (packets : List Spoken) (more : Spoken) → pending requests (packets ++ more ∷ []) ≡ pending_after requests (pending requests packets) more
