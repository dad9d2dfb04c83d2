use Rattle.std.proofs.Common.{◌≡◌, ◌++◌, replicate, None}
use Rattle.h4_view.proofs.links.make_place.Given as goal

abbrev pub invariant-loop : goal.invariant-loop
invariant-loop g l = l.places.items ≡ l.initial.places.items ++ replicate l.counter None
