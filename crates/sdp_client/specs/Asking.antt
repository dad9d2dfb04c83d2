-- A query, and the request that it makes (Core 5.1, Volume 3 Part B, 4.7.1).
use Rattle.std.specs.Prelude.{ℕ, Bool, true, false, List, [], ◌∷◌}
use Rattle.sdp_elements.specs.Answers.{Range}
use Rattle.sdp_elements.specs.Elements.{short_uuid}
use Rattle.sdp_elements.specs.Exchange.{pdu_octets}
use Rattle.sdp_elements.specs.Questions.{search_parameters}
use Rattle.sdp_client.specs.declared.query.Stage.{Stage}
use Rattle.sdp_client.specs.declared.query.Stage.TheVariants.{Due, Written, Again, Answered, Refused}

-- where a query stands, the transaction and the continuation state of its request, and the parts that came, joined
pub record Asking : Type 0 where
  pub stage : Stage
  pub transaction : ℕ
  pub continuation : List ℕ
  pub joined : List ℕ

-- a new query
abbrev pub begun : Asking
begun = record { stage = Due; transaction = 1; continuation = []; joined = [] }

-- ---- the request

-- Object Push
abbrev pub asked_pattern : List (List ℕ)
asked_pattern = short_uuid 0x1105 ∷ []

-- the protocols and the PSM
abbrev pub asked_ranges : List Range
asked_ranges = record { low = 0x0004; high = 0x0004 } ∷ record { low = 0x0200; high = 0x0200 } ∷ []

-- the question, at most 256 octets of its answer, the continuation state
abbrev pub request_parameters : List ℕ → List ℕ
request_parameters continuation = search_parameters asked_pattern 256 asked_ranges continuation

abbrev pub request_octets : Asking → List ℕ
request_octets asking = pdu_octets 6 asking.transaction (request_parameters asking.continuation)

-- ---- writing it

-- a request waits to be written
abbrev pub waits : Stage → Bool
waits Due = true
waits Written = false
waits Again = true
waits Answered = false
waits (Refused reason) = false

abbrev pub is_due : Asking → Bool
is_due asking = waits asking.stage

abbrev pub written : Stage → Stage
written Due = Written
written Written = Written
written Again = Written
written Answered = Answered
written (Refused reason) = Refused reason

abbrev pub after_request : Asking → Asking
after_request asking = record asking { stage = written asking.stage }

-- a reply is awaited, and the request is to be written once more
abbrev pub again : Stage → Stage
again Due = Due
again Written = Again
again Again = Again
again Answered = Answered
again (Refused reason) = Refused reason

abbrev pub after_resend : Asking → Asking
after_resend asking = record asking { stage = again asking.stage }
