use Rattle.std.proofs.Common.{true, false, refl, ap}
use Rattle.acl_fragments.specs.Pieces.{starts}
use Rattle.acl_fragments.proofs.Holding.{joins, start_is}
use Rattle.acl_fragments.proofs.joiner.Joiner.take.Goals as goal

pub returns-in-First : goal.returns-in-First
returns-in-First c =
    ((refl, (λ w. tt), joins _ _ _ _ _ true (start_is c.args.boundary c.in-First.is) c.start.ensures), tt)

pub returns-in-Continuing : goal.returns-in-Continuing
returns-in-Continuing c =
    ((refl, (λ w. tt), joins _ _ _ _ _ false (ap starts c.in-Continuing.is) c.go_on.follows.holds-at-none), tt)
