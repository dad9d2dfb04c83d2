use Rattle.std.proofs.Common.{None, get_or, ap, ◌∙◌}
use Rattle.h4_view.proofs.Places.{same_places}
use Rattle.h4_view.proofs.links.make_place.Goals as goal

pub returns-clause-same : goal.returns-clause-same
returns-clause-same g c = λ handle. ap (λ places. get_or places handle None) c.loop.invariant ∙ same_places c.args.places.now.items c.loop.counter handle
