use Rattle.std.proofs.Common.{ℕ, List, length}
use Rattle.sdp_elements.specs.Elements.{left_of}
use Rattle.sdp_elements.specs.Records.{matches, service_record}
use Rattle.sdp_server.specs.Lists.{Seeks}
use Rattle.sdp_server.specs.Requests.{uuid_of}
use Rattle.sdp_server.proofs.Lists.{Asks}
use Rattle.sdp_server.proofs.pattern.matches.Given as goal

abbrev pub invariant-loop-part : goal.invariant-loop-part
invariant-loop-part l = (identifiers : List (List ℕ)) → Seeks l.fn.pattern identifiers → Asks uuid_of (λ ids. matches ids (service_record l.fn.serves)) identifiers (left_of l.left)

abbrev pub decreases-loop-part : goal.decreases-loop-part
decreases-loop-part l = length (left_of l.left)
