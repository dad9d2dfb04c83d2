use Rattle.std.proofs.Common.{refl}
use Rattle.h4_view.proofs.Joining.{link_more}
use Rattle.h4_view.proofs.joined.push_on_link.Goals as goal

pub returns : goal.returns
returns c past is spare =
    let kept = c.in_ok-push_on_lane.ensures past _ is.joiner is.channels spare in
    let more = link_more past _ c.args.link.now _ _ _ c.turned-direction.result is c.turned-direction.ensures kept.0 refl in
    (more.0, more.1, kept.1)
