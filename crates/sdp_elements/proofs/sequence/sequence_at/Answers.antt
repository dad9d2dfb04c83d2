use Rattle.std.proofs.Common.{◌-◌, length, refl, ap}
use Rattle.sdp_elements.specs.Elements.{plain, left_of}
use Rattle.sdp_elements.proofs.SequenceLaws.{sequence_found}
use Rattle.sdp_elements.proofs.sequence.sequence_at.Goals as goal

pub returns-in-Ok-Sequence-default : goal.returns-in-Ok-Sequence-default
returns-in-Ok-Sequence-default c =
    let step = c.in-Ok-Sequence-default in
    sequence_found c.args.octets.now (left_of step.parts) (plain step.field-0-0) step.used (length c.args.octets.now - step.used) (ap plain step.field-0-0-is) step.ensures.found step.ensures.exact refl
