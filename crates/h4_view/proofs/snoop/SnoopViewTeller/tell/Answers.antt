use Rattle.std.proofs.Common.{refl, ap, arith}
use Rattle.btsnoop.specs.Files.{plain_record}
use Rattle.h4_view.specs.declared.snoop.SnoopView.{SnoopView}
use Rattle.h4_view.proofs.SnoopLines.{some_fault, same_shown, shows_header, shows_record}
use Rattle.h4_view.proofs.snoop.SnoopViewTeller.tell.Goals as goal

pub returns-in-Header : goal.returns-in-Header
returns-in-Header c =
    let found = c.in-Header.ensures in
    shows_header c.args.self.now _ c.args.octets.now _ c.in-Header.length found.0 found.1 found.2 refl refl (λ within. omega (arith, within, c.saturating_add-self.ensures))

pub returns-in_ok-push_record-in-Record : goal.returns-in_ok-push_record-in-Record
returns-in_ok-push_record-in-Record c =
    let found = c.in-Record.ensures in
    let shown = c.in_ok-push_record-in-Record.ensures in
    shows_record c.args.self.now c.push_record.new.view _ c.args.octets.now _ _ (plain_record c.in-Record.item) c.in-Record.length found.0 found.1 found.3 shown refl refl
    (λ within. omega (arith, within, c.saturating_add-self-in-Record.ensures, ap (λ (v : SnoopView). v.place) shown.3))

pub returns-in-Refused : goal.returns-in-Refused
returns-in-Refused c =
    let found = c.in-Refused.ensures in
    (some_fault c.args.self.now.part c.args.octets.now c.in-Refused.refusal c.in-Refused.within found.0, (c.in-Refused.refusal, found.0, c.view_refusal-self.ensures, found.1), (refl, λ first before said h. same_shown first c.args.self.now _ before said refl refl refl h))
