use Rattle.std.proofs.Common.{◌+◌, ◌%◌, Some, false, refl, sym, ap, subst, ◌∙◌, arith}
use Rattle.wire_model.specs.Machine.{Wire, says, unit_packet, ack_packet}
use Rattle.three_wire.specs.Held.{unit_of, units_of, IsUnit}
use Rattle.three_wire.specs.Wire.{Puts}
use Rattle.three_wire.specs.contracts.wire.Wire.{the_view}
use Rattle.three_wire.proofs.Rooms.{kept, unit_at, units_length, says_next, says_answer, says_none}
use Rattle.three_wire.proofs.wire.Wire.next_unit.Goals as goal

pub put_unit-n-requires-clause-unit : goal.put_unit-n-requires-clause-unit
put_unit-n-requires-clause-unit c =
    let w = c.self.inside in
    let at = kept w.rooms.items w.count w.next c.index-room.result.now c.if-self.true (omega (arith, c.self.invariant.rooms, c.self.invariant.count, c.self.invariant.within, w.rooms.ok.0)) c.index-room.ensures in
    subst (λ xs. IsUnit (record { kind = c.index-room.result.now.kind; octets = xs })) (sym c.deref.ensures.value)
    (unit_at (units_of w.count w.rooms.items) w.next (unit_of c.index-room.result.now) c.self.invariant.units at)

pub returns-then-self : goal.returns-then-self
returns-then-self c =
    let w = c.self.inside in
    let v = the_view w in
    let active = ap (λ (x : Wire). x.stage) c.self.view_is ∙ c.requires.active in
    let none = ap (λ (x : Wire). x.waiting) c.self.view_is ∙ c.requires.none in
    let at = kept w.rooms.items w.count w.next c.index-room.result.now c.if-self.true (omega (arith, c.self.invariant.rooms, c.self.invariant.count, c.self.invariant.within, w.rooms.ok.0)) c.index-room.ensures in
    let said = says_next v (unit_of c.index-room.result.now) active none at in
    let p = unit_packet ((w.first + w.next) % 8) w.expected (unit_of c.index-room.result.now) in (
      p,
      record { says = ap says (sym c.self.view_is) ∙ said ∙ ap (λ g. Some (record { packet = p; after = record v { given = g; next = w.next + 1; answers = false } })) (sym c.max-self-inside.ensures) },
      subst (λ xs. Puts (unit_packet ((w.first + w.next) % 8) w.expected (record { kind = c.index-room.result.now.kind; octets = xs })) c.args.into.now c.put_unit-n.new.into c.put_unit-n.result) c.deref.ensures.value c.put_unit-n.ensures,
    )

pub returns-then-not-self : goal.returns-then-not-self
returns-then-not-self c =
    let w = c.self.inside in
    let active = ap (λ (x : Wire). x.stage) c.self.view_is ∙ c.requires.active in
    let none = ap (λ (x : Wire). x.waiting) c.self.view_is ∙ c.requires.none in
    (ap says (sym c.self.view_is) ∙ says_none (the_view w) active none (omega (arith, units_length w.count w.rooms.items)) c.if-not-self.true, refl, refl)

pub returns : goal.returns
returns c =
    let w = c.self.inside in
    let active = ap (λ (x : Wire). x.stage) c.self.view_is ∙ c.requires.active in
    let none = ap (λ (x : Wire). x.waiting) c.self.view_is ∙ c.requires.none in
    (ack_packet w.expected, record { says = ap says (sym c.self.view_is) ∙ says_answer (the_view w) active none (omega (arith, units_length w.count w.rooms.items)) c.if-not-self.false }, c.put_ack.ensures)
