use Rattle.wire_model.proofs.Causing.{once_per_cause}
use Rattle.wire_model.proofs.laws.once_per_cause.Goals as goal

pub returns : goal.returns
returns c number events last run own = once_per_cause number events last run own
