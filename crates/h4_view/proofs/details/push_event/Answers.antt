use Rattle.h4_view.proofs.Knowing.{knows_by}
use Rattle.h4_view.proofs.details.push_event.Goals as goal

pub returns : goal.returns
returns c past knows =
    (c.in_ok-push_bad_event.ensures, knows_by c.closed_by-closed.result past _ _ c.args.code c.args.params.now c.closed_by-closed.ensures c.forget.ensures.places c.forget.ensures.spare knows)
