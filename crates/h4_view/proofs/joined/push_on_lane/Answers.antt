use Rattle.h4_view.proofs.Joining.{lane_kept, alone_kept, same_few}
use Rattle.h4_view.proofs.joined.push_on_lane.Goals as goal

pub returns-in-Some : goal.returns-in-Some
returns-in-Some c past known is keeps spare = (
  alone_kept past known c.args.direction _ _ _ _ _ _ c.in-Some.got c.in-Some.ensures.0 c.in-Some.ensures.1 c.in_ok-push_got.ensures is keeps,
  spare,
  same_few c.args.spare.now.items c.args.lane.now,
)

pub returns : goal.returns
returns c past known is keeps spare =
    lane_kept past known c.args.direction _ _ _ _ _ _ _ _ _ _ _ _ _ _ c.take.ensures.value c.in_default.ensures c.in_ok-joiner.ensures.joiner c.in_ok-joiner.ensures.spare c.in_ok-joiner.ensures.few c.in_ok-goes_on.ensures c.in_ok-lane.ensures.kept c.in_ok-lane.ensures.spare is keeps spare
