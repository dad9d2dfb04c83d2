use Rattle.std.proofs.Common.{◌≡◌, length}
use Rattle.shelf_model.specs.host_model.specs.Endpoints.{endpoint_of}
use Rattle.bt_host.specs.EndpointLists.{endpoints_of}
use Rattle.bt_host.proofs.endpoints.found.Given as goal

-- none before is for that PSM
abbrev pub invariant-loop-left : goal.invariant-loop-left
invariant-loop-left l = endpoint_of l.psm (endpoints_of l.endpoints) ≡ endpoint_of l.psm (endpoints_of l.left)

abbrev pub decreases-loop-left : goal.decreases-loop-left
decreases-loop-left l = length l.left
