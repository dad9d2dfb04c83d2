use Rattle.std.proofs.Common.{◌+◌, take, drop, arith}
use Rattle.std.proofs.lemmas.List.{length-take, length-drop}
use Rattle.obex_headers.specs.Packets.{PlainHeader, Octets}
use Rattle.obex_headers.proofs.WritingLaws.{packet_grown}
use Rattle.obex_headers.proofs.writing.add_placed.Goals as goal

pub returns-clause-packet : goal.returns-clause-packet
returns-clause-packet c =
    let header : PlainHeader = record { id = c.args.id; value = Octets (take c.args.n (drop (c.args.at + 3) c.args.into.now)) } in
    packet_grown c.args.into.now c.put_length.new.into c.args.at c.put_front-end.result header
    (record { started = c.requires.started; room = omega arith; len = omega (arith, c.put_front-end.ensures.len, length-take c.args.n (drop (c.args.at + 3) c.args.into.now), length-drop (c.args.at + 3) c.args.into.now); mid = c.put_front-end.new.into; behind = c.put_front-end.ensures.written; stated = c.put_length.ensures })
