use Rattle.std.proofs.Common.{sym, ap, ◌∙◌}
use Rattle.wire_packets.specs.Packets.{Packet}
use Rattle.wire_model.specs.Machine.{hears}
use Rattle.three_wire.proofs.Hearing.{no_other, read_line, is_read, not_refused}
use Rattle.three_wire.proofs.crossing.hear.Goals as goal

pub returns-in_default : goal.returns-in_default
returns-in_default c = record {
  whole = λ packet fits is. absurd (no_other packet c.args.slip.now c.take.follows.lender-at-none c.args.octets.now c.take.result fits c.requires.rest is c.take.follows.holds-at-none c.in_default.not-Packet);
  room = c.requires.room;
}

pub returns-in_default-packet_of-clause-whole : goal.returns-in_default-packet_of-clause-whole
returns-in_default-packet_of-clause-whole c = λ packet fits is.
    let r = read_line packet c.args.slip.now c.take.follows.lender-at-none c.args.octets.now c.take.result c.in-Packet.bytes c.in-Packet.field-1 fits c.requires.rest is c.take.follows.holds-at-none c.in-Packet.is in
    absurd (not_refused packet c.in-Packet.bytes.now c.in_default-packet_of.field-0 fits r.0 c.in_default-packet_of.ensures)

pub returns-in-Unit-clause-whole : goal.returns-in-Unit-clause-whole
returns-in-Unit-clause-whole c = λ packet fits is.
    let r = read_line packet c.args.slip.now c.take.follows.lender-at-none c.args.octets.now c.take.result c.in-Packet.bytes c.in-Packet.field-1 fits c.requires.rest is c.take.follows.holds-at-none c.in-Packet.is in
    let same = is_read packet c.in-Packet.bytes.now c.in-Ok.packet fits r.0 c.in-Ok.ensures in
    record {
      after = c.in-Unit.ensures.after ∙ ap (λ (p : Packet). (hears p c.args.to.now).after) same;
      rest = r.1;
      unit = (record { kind = c.in-Unit.kind; octets = c.in-Unit.octets.now }, ap (λ (p : Packet). (hears p c.args.to.now).unit) (sym same) ∙ c.in-Unit.ensures.heard.0, c.fill_unit.ensures.items);
    }

pub returns-in-Reset-clause-whole : goal.returns-in-Reset-clause-whole
returns-in-Reset-clause-whole c = λ packet fits is.
    let r = read_line packet c.args.slip.now c.take.follows.lender-at-none c.args.octets.now c.take.result c.in-Packet.bytes c.in-Packet.field-1 fits c.requires.rest is c.take.follows.holds-at-none c.in-Packet.is in
    let same = is_read packet c.in-Packet.bytes.now c.in-Ok.packet fits r.0 c.in-Ok.ensures in
    record {
      after = c.in-Reset.ensures.after ∙ ap (λ (p : Packet). (hears p c.args.to.now).after) same;
      rest = r.1;
      unit = ap (λ (p : Packet). (hears p c.args.to.now).unit) (sym same) ∙ c.in-Reset.ensures.heard.0;
    }

pub returns-in-Nothing-clause-whole : goal.returns-in-Nothing-clause-whole
returns-in-Nothing-clause-whole c = λ packet fits is.
    let r = read_line packet c.args.slip.now c.take.follows.lender-at-none c.args.octets.now c.take.result c.in-Packet.bytes c.in-Packet.field-1 fits c.requires.rest is c.take.follows.holds-at-none c.in-Packet.is in
    let same = is_read packet c.in-Packet.bytes.now c.in-Ok.packet fits r.0 c.in-Ok.ensures in
    record {
      after = c.in-Nothing.ensures.after ∙ ap (λ (p : Packet). (hears p c.args.to.now).after) same;
      rest = r.1;
      unit = ap (λ (p : Packet). (hears p c.args.to.now).unit) (sym same) ∙ c.in-Nothing.ensures.heard.0;
    }
