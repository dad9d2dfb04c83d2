use Rattle.std.proofs.Common.{refl, ap}
use Rattle.h4_framing.specs.Packets.{packet}
use Rattle.capture.specs.Entries.{Moved, Acted, Begun, Ended}
use Rattle.capture.specs.Lent.{plain_entry}
use Rattle.h4_view.proofs.TaggedLines.{of_none, entry_shown, shown_as}
use Rattle.h4_view.proofs.tagged.push_entry.Goals as goal

pub returns-in_ok-push_of_host-in-Moved : goal.returns-in_ok-push_of_host-in-Moved
returns-in_ok-push_of_host-in-Moved c =
    let arm = c.in-Moved in
    shown_as _ (Moved arm.side arm.flow (packet arm.unit)) c.args.view.now _ _ _ (ap plain_entry arm.is)
    (entry_shown (Moved arm.side arm.flow (packet arm.unit)) c.args.view.now _ _ _ _ _ c.in_ok-push_decimal.ensures c.in_ok-push_text.ensures c.in_ok-push_of_host-in-Moved.ensures)

pub returns-in_ok-push_acted-in-Acted : goal.returns-in_ok-push_acted-in-Acted
returns-in_ok-push_acted-in-Acted c =
    let arm = c.in-Acted in
    shown_as _ (Acted arm.ordinal arm.word) c.args.view.now _ _ _ (ap plain_entry arm.is)
    (entry_shown (Acted arm.ordinal arm.word) c.args.view.now _ _ _ _ _ c.in_ok-push_decimal.ensures c.in_ok-push_text.ensures (of_none (Acted arm.ordinal arm.word) c.args.view.now _ _ c.in_ok-push_acted-in-Acted.ensures refl refl (λ past. refl)))

pub returns-in_ok-push_begun-in-Begun : goal.returns-in_ok-push_begun-in-Begun
returns-in_ok-push_begun-in-Begun c =
    let arm = c.in-Begun in
    shown_as _ (Begun arm.push) c.args.view.now _ _ _ (ap plain_entry arm.is)
    (entry_shown (Begun arm.push) c.args.view.now _ _ _ _ _ c.in_ok-push_decimal.ensures c.in_ok-push_text.ensures (of_none (Begun arm.push) c.args.view.now _ _ c.in_ok-push_begun-in-Begun.ensures refl refl (λ past. refl)))

pub returns-in_ok-push_ended-in-Ended : goal.returns-in_ok-push_ended-in-Ended
returns-in_ok-push_ended-in-Ended c =
    let arm = c.in-Ended in
    shown_as _ (Ended arm.push arm.outcome) c.args.view.now _ _ _ (ap plain_entry arm.is)
    (entry_shown (Ended arm.push arm.outcome) c.args.view.now _ _ _ _ _ c.in_ok-push_decimal.ensures c.in_ok-push_text.ensures (of_none (Ended arm.push arm.outcome) c.args.view.now _ _ c.in_ok-push_ended-in-Ended.ensures refl refl (λ past. refl)))
