use Rattle.std.proofs.Common.{◌∙◌}
use Rattle.object_lines.specs.Matter.{plain_matter, carriage}
use Rattle.object_lines.proofs.Mattering.{packet_after, frame_after}
use Rattle.object_lines.proofs.matter.Matter.hear.Goals as goal

pub returns-in_ok-hear_packet-in-Into-clause-matter : goal.returns-in_ok-hear_packet-in-Into-clause-matter
returns-in_ok-hear_packet-in-Into-clause-matter c =
    c.in_ok-hear_packet-in-Into.ensures.matter ∙ packet_after c.args.party.now c.args.psm c.args.mode (plain_matter c.args.self.now) c.args.flow c.args.pdu.now c.if-psm-eq-OBJECT_PUSH.true c.in-Into.is

pub returns-in_ok-hear_frame-clause-matter : goal.returns-in_ok-hear_frame-clause-matter
returns-in_ok-hear_frame-clause-matter c =
    c.in_ok-hear_frame.ensures.matter ∙ frame_after c.args.party.now c.args.psm c.args.mode (plain_matter c.args.self.now) (carriage c.args.flow c.args.pdu.now) c.if-psm-eq-RFCOMM.true
