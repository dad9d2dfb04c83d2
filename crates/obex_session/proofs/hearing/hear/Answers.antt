use Rattle.std.proofs.Common.{◌≡◌, ◌||◌, Result, sym, ◌∙◌, ap, subst}
use Rattle.obex_headers.specs.declared.fault.ObexRefusal.{ObexRefusal}
use Rattle.obex_headers.specs.declared.packet.Phase.TheVariants.{Request}
use Rattle.obex_headers.specs.Packets.{PlainPacket}
use Rattle.obex_headers.specs.Reading.{packet_in}
use Rattle.obex_headers.proofs.PacketLaws.{packet_again}
use Rattle.obex_session.specs.declared.marks.Kind.{Kind}
use Rattle.obex_session.specs.Hearing.{Heeds}
use Rattle.obex_session.specs.Marks.{kind_of}
use Rattle.obex_session.specs.Rules.{at_packet, is_under_way, progress_in}
use Rattle.obex_session.specs.Serving.{has_name}
use Rattle.obex_session.proofs.hearing.hear.Goals as goal

pub on_request-requires : goal.on_request-requires
on_request-requires g c =
    let found = c.in-Ok.ensures.found in
    let read = packet_again Request c.args.maximum c.args.packet.now found.0 found.1 in
    let same : c.kind_of-kind.result ≡ kind_of (packet_in Request c.args.maximum c.args.packet.now) = c.kind_of-kind.ensures found.0 found.1.sound.headers found.2 ∙ ap kind_of (sym read) in
    record { pending = λ minds. c.requires.pending (ap (λ (k : Kind). is_under_way (progress_in c.args.course) || has_name k) (sym same) ∙ minds) }

pub returns-clause-kind : goal.returns-clause-kind
returns-clause-kind g c =
    let found = c.in-Ok.ensures.found in
    let read = packet_again Request c.args.maximum c.args.packet.now found.0 found.1 in
    c.kind_of-kind.ensures found.0 found.1.sound.headers found.2 ∙ ap kind_of (sym read)

pub returns-clause-heeds : goal.returns-clause-heeds
returns-clause-heeds g c =
    let found = c.in-Ok.ensures.found in
    let read = packet_again Request c.args.maximum c.args.packet.now found.0 found.1 in
    subst (λ (r : Result PlainPacket ObexRefusal). Heeds (at_packet c.args.course r) (g.B.Inbox.content c.args.inbox.now) (g.B.Inbox.content c.on_request.new.inbox) (g.B.Inbox.faults c.args.inbox.now) (g.B.Inbox.faults c.on_request.new.inbox)
    (g.B.Inbox.shortages c.args.inbox.now) (g.B.Inbox.shortages c.on_request.new.inbox) c.on_request.result) (sym read)
    (c.on_request.ensures.heeds found.0 found.1.sound.headers found.2 (c.kind_of-kind.ensures found.0 found.1.sound.headers found.2))
