use Rattle.std.proofs.Common.{refl}
use Rattle.h4_view.proofs.BothWays.{out_more, in_more}
use Rattle.h4_view.proofs.both_links.push_on_both.Goals as goal

pub returns-in_ok-push_on_lane-in-Out : goal.returns-in_ok-push_on_lane-in-Out
returns-in_ok-push_on_lane-in-Out c past is spare =
    let kept = c.in_ok-push_on_lane-in-Out.ensures _ _ is.out is.channels spare in
    let more = out_more past _ c.args.link.now _ _ _ is kept.0 refl in
    rw c.in-Out.is (more.0, more.1, kept.1)

pub returns-in_ok-push_on_lane-in-In : goal.returns-in_ok-push_on_lane-in-In
returns-in_ok-push_on_lane-in-In c past is spare =
    let kept = c.in_ok-push_on_lane-in-In.ensures _ _ is.into is.channels spare in
    let more = in_more past _ c.args.link.now _ _ _ is kept.0 refl in
    rw c.in-In.is (more.0, more.1, kept.1)
