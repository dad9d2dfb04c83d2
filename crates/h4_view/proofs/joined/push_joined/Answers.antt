use Rattle.h4_view.proofs.Joining.{joined_shows}
use Rattle.h4_view.proofs.joined.push_joined.Goals as goal

pub returns : goal.returns
returns c = joined_shows _ _ c.args.boundary c.args.octets.now c.args.text.now.items c.push_unfinished.new.text.items _ c.args.direction _ _ c.goes_on-on.result c.take-joined.result c.take-joined.follows.holds-at-none c.goes_on-on.ensures c.in_ok-push_unfinished.ensures c.in_ok-push_got.ensures
