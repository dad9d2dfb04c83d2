use Rattle.std.proofs.Common.{List, length}
use Rattle.sdp_elements.specs.Answers.{Range, is_listed}
use Rattle.sdp_elements.specs.Elements.{left_of}
use Rattle.sdp_server.specs.Lists.{Lists}
use Rattle.sdp_server.specs.Requests.{range_of}
use Rattle.sdp_server.proofs.Lists.{Asks}
use Rattle.sdp_server.proofs.list.is_listed.Given as goal

abbrev pub invariant-loop-part : goal.invariant-loop-part
invariant-loop-part l = (ranges : List Range) → Lists l.fn.list ranges → Asks range_of (λ rs. is_listed rs l.fn.identifier) ranges (left_of l.left)

abbrev pub decreases-loop-part : goal.decreases-loop-part
decreases-loop-part l = length (left_of l.left)
