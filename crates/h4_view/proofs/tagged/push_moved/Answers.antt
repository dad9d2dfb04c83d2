use Rattle.h4_view.proofs.TaggedLines.{behind_blank}
use Rattle.h4_view.proofs.tagged.push_moved.Goals as goal

pub returns : goal.returns
returns c past knows =
    let last = c.in_ok-push_both_lines.ensures past knows in
    (behind_blank _ _ _ _ _ _ _ c.in_ok-push_text.ensures c.in_ok-push_text-2.ensures last.0, last.1)
