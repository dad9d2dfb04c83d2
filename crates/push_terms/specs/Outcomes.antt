-- The text of what came of a push (this project's own).
use Rattle.std.specs.Prelude.{ℕ, ◌<◌, List, ◌++◌, codes, decimal}
use Rattle.push_terms.specs.Words.{hex_octet}
use Rattle.push_terms.specs.declared.outcome.Outcome.{Outcome}
use Rattle.push_terms.specs.declared.outcome.Outcome.TheVariants.{Done, LinkLost, RetryLimit, Refused, NoService, ShelfFault, Cancelled, PeerClosed, PeerFault, ScriptEnded}

-- a code of OBEX is two upper case hexadecimal digits; a layer and a reason are decimal
abbrev pub outcome_text : Outcome → List ℕ
outcome_text Done = codes "done"
outcome_text LinkLost = codes "link-lost"
outcome_text RetryLimit = codes "retry-limit"
outcome_text (Refused code) = codes "refused " ++ hex_octet code
outcome_text NoService = codes "no-service"
outcome_text ShelfFault = codes "shelf"
outcome_text Cancelled = codes "cancelled"
outcome_text PeerClosed = codes "peer-closed"
outcome_text (PeerFault layer reason) = codes "peer-fault " ++ decimal layer ++ codes " " ++ decimal reason
outcome_text ScriptEnded = codes "script-ended"

-- codes, layers and reasons are octets
abbrev pub IsOutcome : Outcome → Type 0
IsOutcome (Refused code) = code < 256
IsOutcome (PeerFault layer reason) = (layer < 256) × (reason < 256)
IsOutcome Done = Unit {0}
IsOutcome LinkLost = Unit {0}
IsOutcome RetryLimit = Unit {0}
IsOutcome NoService = Unit {0}
IsOutcome ShelfFault = Unit {0}
IsOutcome Cancelled = Unit {0}
IsOutcome PeerClosed = Unit {0}
IsOutcome ScriptEnded = Unit {0}
