-- The text of an outcome by itself, and how it is read (this project's own).
use Rattle.std.specs.Prelude.{ℕ, ◌≡◌, ◌&&◌, cond, nat_lt, List, codes, Option, Some, None}
use Rattle.std.specs.Str.{bytes_eq}
use Rattle.push_terms.specs.declared.outcome.Outcome.{Outcome}
use Rattle.push_terms.specs.declared.outcome.Outcome.TheVariants.{Done, LinkLost, RetryLimit, Refused, NoService, ShelfFault, Cancelled, PeerClosed, PeerFault, ScriptEnded}
use Rattle.push_terms.specs.Outcomes.{outcome_text, IsOutcome}
use Rattle.script_words.specs.Parts.{and_then, first_word, rest_of, octet_of, pair_of}

-- the octets are the text of that outcome
abbrev pub SaysOutcome : List ℕ → Outcome → Type 0
SaysOutcome text outcome = IsOutcome outcome × (text ≡ outcome_text outcome)

-- ---- how it is read

-- an outcome without numbers
unfoldable pub short_outcome : List ℕ → Option Outcome
short_outcome text =
    cond (bytes_eq text (codes "done")) (Some Done) (
    cond (bytes_eq text (codes "link-lost")) (Some LinkLost) (
    cond (bytes_eq text (codes "retry-limit")) (Some RetryLimit) (
    cond (bytes_eq text (codes "no-service")) (Some NoService) (
    cond (bytes_eq text (codes "shelf")) (Some ShelfFault) (
    cond (bytes_eq text (codes "cancelled")) (Some Cancelled) (
    cond (bytes_eq text (codes "peer-closed")) (Some PeerClosed) (
    cond (bytes_eq text (codes "script-ended")) (Some ScriptEnded) None)))))))

-- a layer and a reason, if they are octets
abbrev pub fault_within : ℕ × ℕ → Option Outcome
fault_within pair = cond (nat_lt pair.0 256 && nat_lt pair.1 256) (Some (PeerFault pair.0 pair.1)) None

-- an outcome with numbers
unfoldable pub long_outcome : List ℕ → List ℕ → Option Outcome
long_outcome word rest =
    cond (bytes_eq word (codes "refused")) (and_then (octet_of rest) (λ code. Some (Refused code))) (
    cond (bytes_eq word (codes "peer-fault")) (and_then (pair_of rest) fault_within) None)

abbrev pub outcome_behind : List ℕ → Option (List ℕ) → Option Outcome
outcome_behind word (Some rest) = long_outcome word rest
outcome_behind word None = short_outcome word

-- the outcome that a text says
unfoldable pub outcome_read : List ℕ → Option Outcome
outcome_read text = outcome_behind (first_word text) (rest_of text)
