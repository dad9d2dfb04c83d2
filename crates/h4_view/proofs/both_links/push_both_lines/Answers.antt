use Rattle.h4_view.proofs.BothWays.{three_added}
use Rattle.h4_view.proofs.both_links.push_both_lines.Goals as goal

pub returns : goal.returns
returns c past knows =
    let last = c.in_ok-push_both_details.ensures past knows in
    (three_added _ _ _ _ _ _ _ c.in_ok-push_packet.ensures c.in_ok-push_text.ensures last.0, last.1)
