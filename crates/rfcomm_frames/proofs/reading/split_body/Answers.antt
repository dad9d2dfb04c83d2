use Rattle.std.proofs.Common.{◌++◌, length}
use Rattle.rfcomm_frames.specs.Frames.{credit_octets}
use Rattle.rfcomm_frames.proofs.reading.split_body.Goals as goal

pub returns-in_err-count-clause-none : goal.returns-in_err-count-clause-none
returns-in_err-count-clause-none c =
    rw c.from_residual.ensures (λ credits octets (field, states, granting, parts). c.in_err-count.ensures.none field (credit_octets credits ++ octets) (length octets) states parts)
