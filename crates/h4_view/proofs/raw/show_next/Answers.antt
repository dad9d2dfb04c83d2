use Rattle.std.proofs.Common.{Ok, ap, arith}
use Rattle.std.proofs.lemmas.List.{length-take}
use Rattle.h4_view.specs.declared.refusal.ViewFault.TheVariants.{NoMemory}
use Rattle.h4_view.proofs.Stands.{front_stands, fault_shows, sink_fault_shows, front_more, standing_more}
use Rattle.h4_view.proofs.Endings.{ended, refused}
use Rattle.h4_view.proofs.raw.show_next.Goals as goal

pub returns-in-Err-clause-steps : goal.returns-in-Err-clause-steps
returns-in-Err-clause-steps g c input old s = fault_shows c.in-Err.fault input _ _ old _ _ _ _ _ s c.in-Err.ensures.of_port c.in-Err.ensures.kept

pub returns-then-n-eq0-clause-steps : goal.returns-then-n-eq0-clause-steps
returns-then-n-eq0-clause-steps g c input old s = ended c.ending.result _ _ _ _ _ _ _ _ s c.requires.below (c.in-Ok.ensures.finish (ap Ok c.if-n-eq0.true) (omega (arith, length-take c.min-room.result c.args.piece.now, c.min-room.ensures, c.requires.room, c.requires.below))) c.ending.ensures

pub returns-in_default-clause-steps : goal.returns-in_default-clause-steps
returns-in_default-clause-steps g c input old s = sink_fault_shows NoMemory input input old _ tt (front_stands _ _ _ _ _ _ _ _ s)

pub returns-in-Err-write_text-clause-steps : goal.returns-in-Err-write_text-clause-steps
returns-in-Err-write_text-clause-steps g c input old s =
    let shows = rw c.requires.text at c.in-Ok-shown.ensures in
    let front = rw c.deref.ensures.value at c.in-Err-write_text.ensures.front in
    sink_fault_shows c.in-Err-write_text.fault input _ old _ c.in-Err-write_text.ensures.of_sink (front_more _ _ _ _ _ _ _ _ _ _ _ _ _ _ _ _ s c.in-Ok.ensures.took.1 shows front (omega (arith, length-take c.in-Ok.n c.read_piece.new.piece, length-take c.min-room.result c.args.piece.now, c.in-Ok.ensures.took.0, c.min-room.ensures, c.requires.below)))

pub returns-in-None-clause-steps : goal.returns-in-None-clause-steps
returns-in-None-clause-steps g c = (
  omega (arith, c.if-n-eq0.false),
  λ input old s.
      let shows = rw (c.requires.text, c.in-None.is) at c.in-Ok-shown.ensures in
      let wrote = rw c.deref.ensures.value at c.in_default-write_text.ensures.ok in
      standing_more _ _ _ _ _ _ _ _ _ _ _ _ _ _ _ _ s c.in-Ok.ensures.took.1 shows wrote (omega (arith, length-take c.in-Ok.n c.read_piece.new.piece, c.in-Ok.ensures.took.0, c.read_piece.auto.piece)) (omega (arith, length-take c.min-room.result c.args.piece.now, c.in-Ok.ensures.took.0, c.min-room.ensures, c.requires.below)),
)

pub returns-in-Some-clause-steps : goal.returns-in-Some-clause-steps
returns-in-Some-clause-steps g c input old s =
    let shows = rw (c.requires.text, c.in-Some.is) at c.in-Ok-shown.ensures in
    let wrote = rw c.deref.ensures.value at c.in_default-write_text.ensures.ok in
    refused _ _ _ _ _ _ _ _ _ _ _ _ _ c.in-Ok.n c.in-Some.place c.in-Some.field-0-0 _ _ s c.in-Ok.ensures.took.1 shows wrote (omega (arith, length-take c.in-Ok.n c.read_piece.new.piece, c.in-Ok.ensures.took.0, c.read_piece.auto.piece)) (omega (arith, length-take c.min-room.result c.args.piece.now, c.in-Ok.ensures.took.0, c.min-room.ensures, c.requires.below))
