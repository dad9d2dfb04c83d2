use Rattle.std.proofs.Common.{sym, ap, ◌∙◌}
use Rattle.wire_model.specs.Machine.{Wire, says, is_reset, link_packet}
use Rattle.three_wire.specs.contracts.wire.Wire.{the_view}
use Rattle.three_wire.proofs.Rooms.{says_message, first_rest}
use Rattle.three_wire.proofs.wire.Wire.next_packet.Goals as goal

pub returns-then-not-is_empty : goal.returns-then-not-is_empty
returns-then-not-is_empty c =
    let w = c.self.inside in
    let m = c.remove-message.result in
    let sound = ap (λ (x : Wire). is_reset x.stage) c.self.view_is ∙ sym c.closed.ensures ∙ c.if-closed.false in
    let first = first_rest w.waiting.items c.remove-message.new.self.items m (sym c.is_empty.ensures ∙ c.if-not-is_empty.true) c.remove-message.ensures.value c.remove-message.ensures.items in
    (link_packet m, record { says = ap says (sym c.self.view_is) ∙ says_message (the_view w) m c.remove-message.new.self.items sound first }, c.put_message.ensures)
