use Rattle.std.proofs.Common.{◌∙◌, ◌≡◌, ◌≤◌, sym, ap, subst, length, rules}
use Rattle.std.specs.Prelude.{Option}
use Rattle.channel_model.specs.Value.{Carrier}
use Rattle.channel_model.specs.Giving.{some_carrier_gives}
use Rattle.ertm_model.specs.Giving.{next_frame}
use Rattle.l2cap_channels.specs.Given.{WritesNext}
use Rattle.l2cap_channels.specs.Lines.{carrier_of}
use Rattle.l2cap_channels.specs.declared.line.Carrying.{Carrying}
use Rattle.l2cap_channels.proofs.Framing.{frame_written}
use Rattle.l2cap_channels.proofs.line.Line.give.Goals as goal

pub returns-in-Enhanced-clause-pdu : goal.returns-in-Enhanced-clause-pdu
returns-in-Enhanced-clause-pdu c =
    let m = c.self.inside.machine.ertm in
    let same : length c.next_frame.new.into ≡ length c.args.into.now = search rules in
    let room : 1020 ≤ length c.args.into.now = search rules in
    subst (λ (o : Option Carrier). WritesNext (some_carrier_gives o c.args.peer) c.args.into.now c.next_frame.result c.next_frame.new.into)
    (ap (λ (k : Carrying). carrier_of k m c.self.inside.sdu.items) (sym c.in-Enhanced.is) ∙ c.self.view_is)
    (frame_written (next_frame m) c.args.peer c.args.into.now c.next_frame.new.into c.next_frame.result c.next_frame.ensures.gives.frame c.next_frame.ensures.few room same)
