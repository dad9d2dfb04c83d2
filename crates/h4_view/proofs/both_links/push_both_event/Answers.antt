use Rattle.h4_view.proofs.BothWays.{event_both}
use Rattle.h4_view.proofs.both_links.push_both_event.Goals as goal

pub returns : goal.returns
returns c past knows =
    (c.in_ok-push_bad_event.ensures, event_both c.closed_by-closed.result past _ _ c.args.direction c.args.code c.args.params.now c.closed_by-closed.ensures c.forget_both.ensures.places c.forget_both.ensures.spare knows)
