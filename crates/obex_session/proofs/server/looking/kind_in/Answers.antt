use Rattle.std.proofs.Common.{ap, sym, ◌∙◌}
use Rattle.obex_headers.specs.declared.packet.Phase.TheVariants.{Request}
use Rattle.obex_headers.proofs.PacketLaws.{packet_again}
use Rattle.obex_session.specs.Marks.{kind_of}
use Rattle.obex_session.proofs.server.looking.kind_in.Goals as goal

pub returns : goal.returns
returns c =
    let found = c.in-Ok.ensures.found in
    let read = packet_again Request c.args.maximum c.args.packet.now found.0 found.1 in
    c.kind_of.ensures found.0 found.1.sound.headers found.2 ∙ ap kind_of (sym read)
