use Rattle.std.proofs.Common.{true, false, sym, ap, ◌∙◌}
use Rattle.obex_headers.specs.Assembled.{answer_of}
use Rattle.obex_headers.specs.Assembling as assembling
use Rattle.push_profile.proofs.StreamSteps.{packet_answer, packet_ends, packet_follows, part_ends, broken_ends, or_right}
use Rattle.push_profile.proofs.stream.hear_next.Goals as goal

pub returns-in_default-clause-comes : goal.returns-in_default-clause-comes
returns-in_default-clause-comes g c = λ more.
    packet_ends more c.args.assembler.now c.args.piece.now c.in-Packet.packet.now c.in-Packet.used c.take.follows.lender-at-none c.args.listener.now c.hear_carried.new.self _ _ _ _ true c.requires.suits
    (packet_answer _ _ c.take.result (assembling.Packet c.in-Packet.packet.now c.in-Packet.used) _ (ap answer_of c.in-Packet.is) c.take.follows.holds-at-none)
    (or_right _ _ (sym c.in_default.ensures.fails)) c.in_default.ensures.comes

pub returns-then-stops-clause-comes : goal.returns-then-stops-clause-comes
returns-then-stops-clause-comes g c = λ more.
    packet_ends more c.args.assembler.now c.args.piece.now c.in-Packet.packet.now c.in-Packet.used c.take.follows.lender-at-none c.args.listener.now c.hear_carried.new.self _ _ _ _ false c.requires.suits
    (packet_answer _ _ c.take.result (assembling.Packet c.in-Packet.packet.now c.in-Packet.used) _ (ap answer_of c.in-Packet.is) c.take.follows.holds-at-none)
    (sym c.stops.ensures ∙ c.if-stops.true) c.in-Ok.ensures.comes

pub returns-else-stops-clause-comes : goal.returns-else-stops-clause-comes
returns-else-stops-clause-comes g c = λ more.
    packet_follows more c.args.assembler.now c.args.piece.now c.in-Packet.packet.now c.in-Packet.used c.take.follows.lender-at-none c.args.listener.now c.hear_carried.new.self _ _ _ _ false c.requires.suits
    (packet_answer _ _ c.take.result (assembling.Packet c.in-Packet.packet.now c.in-Packet.used) _ (ap answer_of c.in-Packet.is) c.take.follows.holds-at-none)
    (sym c.stops.ensures ∙ c.if-stops.false) c.in-Ok.ensures.comes

pub returns-in-More-clause-comes : goal.returns-in-More-clause-comes
returns-in-More-clause-comes g c = λ more.
    part_ends more c.args.assembler.now c.args.piece.now c.take.follows.lender-at-none c.args.listener.now _ _ c.requires.suits
    (packet_answer _ _ c.take.result assembling.More _ (ap answer_of c.in-More.is) c.take.follows.holds-at-none)

pub returns-in_default-hear_broken-clause-comes : goal.returns-in_default-hear_broken-clause-comes
returns-in_default-hear_broken-clause-comes g c = λ more.
    broken_ends more c.args.assembler.now c.args.piece.now c.in-Refused.field-0 c.take.follows.lender-at-none c.reset.new.self c.held.result.now _ c.args.listener.now c.hear_broken.new.self _ _ _ _ true c.requires.suits
    (packet_answer _ _ c.take.result (assembling.Refused c.in-Refused.field-0) _ (ap answer_of c.in-Refused.is) c.take.follows.holds-at-none)
    c.held.ensures c.first_three-front.ensures c.reset.ensures c.in_default-hear_broken.ensures.comes

pub returns-in-Ok-hear_broken-clause-comes : goal.returns-in-Ok-hear_broken-clause-comes
returns-in-Ok-hear_broken-clause-comes g c = λ more.
    broken_ends more c.args.assembler.now c.args.piece.now c.in-Refused.field-0 c.take.follows.lender-at-none c.reset.new.self c.held.result.now _ c.args.listener.now c.hear_broken.new.self _ _ _ _ false c.requires.suits
    (packet_answer _ _ c.take.result (assembling.Refused c.in-Refused.field-0) _ (ap answer_of c.in-Refused.is) c.take.follows.holds-at-none)
    c.held.ensures c.first_three-front.ensures c.reset.ensures c.in-Ok-hear_broken.ensures.comes
