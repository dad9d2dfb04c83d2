use Rattle.std.proofs.Common.{[], ◌∷◌, Ok, Err, arith}
use Rattle.wire_packets.specs.declared.stepping.Place.TheVariants.{Inside}
use Rattle.wire_packets.specs.Stepping.{standing, step_to}
use Rattle.wire_packets.proofs.Walking.{walked, completed}
use Rattle.wire_packets.proofs.stepping.advance.Goals as goal

pub returns-in-Packet-clause-goes : goal.returns-in-Packet-clause-goes
returns-in-Packet-clause-goes c =
    completed (standing c.args.place c.args.buffer.now.items) c.args.piece.now c.loop-i.i (standing c.loop-i.place c.loop-i.buffer.items) (standing Inside []) (Ok c.step.new.buffer.items)
    c.loop-i-test.true c.loop-i.invariant.stands c.loop-i.invariant.quiet c.in-Packet.ensures.steps

pub returns-in-Bad-clause-goes : goal.returns-in-Bad-clause-goes
returns-in-Bad-clause-goes c =
    completed (standing c.args.place c.args.buffer.now.items) c.args.piece.now c.loop-i.i (standing c.loop-i.place c.loop-i.buffer.items) (standing c.in-Bad.next []) (Err c.in-Bad.refusal)
    c.loop-i-test.true c.loop-i.invariant.stands c.loop-i.invariant.quiet c.in-Bad.ensures.steps

pub loop-i-preserved : goal.loop-i-preserved
loop-i-preserved c =
    let w = walked (standing c.args.place c.args.buffer.now.items) c.args.piece.now c.loop-i.i (standing c.loop-i.place c.loop-i.buffer.items) (step_to c.in-On.next c.step.new.buffer.items [])
    c.loop-i-test.true c.loop-i.invariant.stands c.loop-i.invariant.quiet c.in-On.ensures.steps in
    record {
      stands = w.0;
      quiet = w.1;
      fits = c.in-On.ensures.fits;
      room = omega (arith, c.in-On.ensures.capacity, c.loop-i.invariant.room);
      capacity = omega (arith, c.in-On.ensures.capacity, c.loop-i.invariant.capacity);
    }
