use Rattle.std.proofs.Common.{sym, ap, ◌∙◌}
use Rattle.obex_headers.specs.Assembled.{answer_of}
use Rattle.obex_headers.specs.Assembling as assembling
use Rattle.push_terms.specs.declared.outcome.Outcome.{Outcome}
use Rattle.push_client.specs.Courses.{ends}
use Rattle.push_client.proofs.StreamLaws.{packet_answer, packet_ends, packet_follows, part_ends, broken_ends}
use Rattle.push_client.proofs.stream.hear_next.Goals as goal

pub returns-then-not-is_object-clause-hears : goal.returns-then-not-is_object-clause-hears
returns-then-not-is_object-clause-hears c = λ more.
    packet_ends more c.args.assembler.now c.args.piece.now c.in-Packet.packet.now c.in-Packet.used c.take.follows.lender-at-none c.args.dialog.now c.hear_response.new.self c.requires.suits
    (packet_answer _ _ c.take.result (assembling.Packet c.in-Packet.packet.now c.in-Packet.used) _ (ap answer_of c.in-Packet.is) c.take.follows.holds-at-none)
    c.hear_response.ensures.hears (sym c.is_object.ensures ∙ c.if-not-is_object.true)

pub returns-else-not-is_object-clause-hears : goal.returns-else-not-is_object-clause-hears
returns-else-not-is_object-clause-hears c = λ more.
    packet_follows more c.args.assembler.now c.args.piece.now c.in-Packet.packet.now c.in-Packet.used c.take.follows.lender-at-none c.args.dialog.now c.hear_response.new.self c.requires.suits
    (packet_answer _ _ c.take.result (assembling.Packet c.in-Packet.packet.now c.in-Packet.used) _ (ap answer_of c.in-Packet.is) c.take.follows.holds-at-none)
    c.hear_response.ensures.hears (sym c.is_object.ensures ∙ c.if-not-is_object.false)

pub returns-in-More-clause-hears : goal.returns-in-More-clause-hears
returns-in-More-clause-hears c = λ more.
    part_ends more c.args.assembler.now c.args.piece.now c.take.follows.lender-at-none c.args.dialog.now c.requires.suits
    (packet_answer _ _ c.take.result assembling.More _ (ap answer_of c.in-More.is) c.take.follows.holds-at-none)

pub returns-in-Refused-clause-hears : goal.returns-in-Refused-clause-hears
returns-in-Refused-clause-hears c = λ more.
    broken_ends more c.args.assembler.now c.args.piece.now c.in-Refused.refusal c.take.follows.lender-at-none c.reset.new.self c.args.dialog.now c.end.new.self c.requires.suits
    (packet_answer _ _ c.take.result (assembling.Refused c.in-Refused.refusal) _ (ap answer_of c.in-Refused.is) c.take.follows.holds-at-none)
    c.reset.ensures (c.end.ensures ∙ ap (λ (o : Outcome). ends o c.args.dialog.now.course) c.of_obex.ensures)
