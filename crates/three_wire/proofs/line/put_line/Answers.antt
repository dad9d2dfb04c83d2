use Rattle.std.proofs.Common.{◌≡◌, ◌++◌, length, take, drop, ap, ◌∙◌, arith}
use Rattle.std.proofs.lemmas.List.{take_at}
use Rattle.wire_packets.specs.Packets.{plain, spelling}
use Rattle.wire_packets.specs.Slip.{slip}
use Rattle.wire_packets.proofs.Spelling.{slip-bound}
use Rattle.wire_model.specs.Line.{line}
use Rattle.three_wire.proofs.line.put_line.Goals as goal

pub put_slip-requires : goal.put_slip-requires
put_slip-requires c =
    let whole : take c.put_packet-n.result c.put_packet-n.new.into ≡ spelling (plain c.args.packet.now) =
    ap (take c.put_packet-n.result) c.put_packet-n.ensures.written ∙ take_at (spelling (plain c.args.packet.now)) (drop c.put_packet-n.result c.args.scratch.now) c.put_packet-n.result (omega (arith, c.put_packet-n.ensures.count)) in
    omega (arith, slip-bound (take c.put_packet-n.result c.put_packet-n.new.into), ap length whole, c.requires.room, c.requires.fits.length_fits)

pub returns : goal.returns
unfolding line
returns c =
    let whole : take c.put_packet-n.result c.put_packet-n.new.into ≡ spelling (plain c.args.packet.now) =
    ap (take c.put_packet-n.result) c.put_packet-n.ensures.written ∙ take_at (spelling (plain c.args.packet.now)) (drop c.put_packet-n.result c.args.scratch.now) c.put_packet-n.result (omega (arith, c.put_packet-n.ensures.count)) in
    record {
      fits = c.requires.fits;
      count = c.put_slip.ensures.count ∙ ap (λ xs. length (slip xs)) whole;
      written = c.put_slip.ensures.written ∙ ap (λ xs. slip xs ++ drop c.put_slip.result c.args.into.now) whole;
    }
