use Rattle.std.proofs.Common.{◌-◌, ◌≤◌, length, sym, ap, subst, ◌∙◌, arith, All}
use Rattle.wire_model.specs.Machine.{hears_ack}
use Rattle.three_wire.specs.Held.{HasRoom, IsUnit, units_of}
use Rattle.three_wire.specs.contracts.wire.Wire.{the_view}
use Rattle.three_wire.proofs.Rooms.{rotated, acked, all_rotated, all_dropped}
use Rattle.three_wire.proofs.wire.Wire.on_ack.Goals as goal

pub invariant_of-self : goal.invariant_of-self
invariant_of-self c =
    let w = c.self.inside in
    let k = c.past-count.result in
    let i = c.self.invariant in
    let fits : w.count ≤ length w.rooms.items = omega (arith, i.rooms, i.count, i.within, w.rooms.ok.0) in
    let is = c.rotate_left.ensures.items in
    record {
      some = i.some;
      within = i.within;
      few = i.few;
      rooms = c.rotate_left.ensures.len ∙ i.rooms;
      room = all_rotated HasRoom k w.rooms.items c.rotate_left.new.self.items (omega (arith, i.given)) is i.room;
      units = subst (All IsUnit) (sym (rotated k w.count w.rooms.items c.rotate_left.new.self.items (omega (arith, i.given)) fits is)) (all_dropped IsUnit k (units_of w.count w.rooms.items) i.units);
      fresh = λ a r. let none = i.fresh a r in omega arith;
      count = omega (arith, i.count);
      given = omega (arith, i.given);
      next = omega (arith, i.next, c.saturating_sub-self-inside.ensures);
      first = omega arith;
      expected = i.expected;
      scratch = i.scratch;
    }

pub returns : goal.returns
returns c =
    let w = c.self.inside in
    let k = c.past-count.result in
    let i = c.self.invariant in
    let fits : w.count ≤ length w.rooms.items = omega (arith, i.rooms, i.count, i.within, w.rooms.ok.0) in
    acked (the_view w) c.args.ack k c.saturating_sub-self-inside.result (units_of (w.count - k) c.rotate_left.new.self.items) c.past-count.ensures c.if-count-self.false
    (rotated k w.count w.rooms.items c.rotate_left.new.self.items (omega (arith, i.given)) fits c.rotate_left.ensures.items) c.saturating_sub-self-inside.ensures
    ∙ ap (hears_ack c.args.ack) c.self.view_is
