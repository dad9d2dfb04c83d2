use Rattle.std.proofs.Common.{arith}
use Rattle.obex_headers.specs.Packets.{plain_header}
use Rattle.obex_headers.proofs.WritingLaws.{packet_grown}
use Rattle.obex_headers.proofs.writing.add_header.Goals as goal

pub returns-clause-packet : goal.returns-clause-packet
returns-clause-packet c =
    packet_grown c.args.into.now c.put_length.new.into c.args.at c.put_header-end.result (plain_header c.args.header.now)
    (record { started = c.requires.started; room = omega arith; len = c.put_header-end.ensures.len; mid = c.put_header-end.new.into; behind = c.put_header-end.ensures.written; stated = c.put_length.ensures })
