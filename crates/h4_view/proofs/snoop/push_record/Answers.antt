use Rattle.std.proofs.Common.{refl}
use Rattle.h4_framing.specs.Packets.{packet}
use Rattle.btsnoop.specs.Files.{plain_record}
use Rattle.h4_view.proofs.SnoopLines.{whole_shown, cut_shown}
use Rattle.h4_view.proofs.snoop.push_record.Goals as goal

pub returns-in_ok-push_both_lines-in-Some : goal.returns-in_ok-push_both_lines-in-Some
returns-in_ok-push_both_lines-in-Some c =
    whole_shown (plain_record c.args.item.now) (packet c.in-Some.unit) c.direction_of-direction.result c.args.view.now _ _ _ _ _ _ _ c.mark.result.now c.requires c.in-Some.ensures.some.0 c.in-Some.ensures.some.1 c.direction_of-direction.ensures c.mark.ensures
    c.in_ok-push_decimal.ensures c.in_ok-push_text.ensures c.in_ok-push_text-2.ensures c.in_ok-push_text-3.ensures c.in_ok-push_both_lines-in-Some.ensures refl

pub returns-in_ok-push_text-in-None : goal.returns-in_ok-push_text-in-None
returns-in_ok-push_text-in-None c =
    cut_shown (plain_record c.args.item.now) c.direction_of-direction.result c.args.view.now _ _ _ _ _ _ _ c.mark.result.now c.requires c.in-None.ensures.none c.direction_of-direction.ensures c.mark.ensures
    c.in_ok-push_decimal.ensures c.in_ok-push_text.ensures c.in_ok-push_text-2.ensures c.in_ok-push_text-3.ensures c.in_ok-push_cut-in-None.ensures c.in_ok-push_text-in-None.ensures
