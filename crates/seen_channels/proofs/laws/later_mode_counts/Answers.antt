use Rattle.seen_channels.proofs.Repeated.{later_mode}
use Rattle.seen_channels.proofs.laws.later_mode_counts.Goals as goal

pub returns : goal.returns
returns c = later_mode
