use Rattle.std.proofs.Common.{length}
use Rattle.seen_channels.proofs.Keeping.{IsHearing}
use Rattle.seen_channels.proofs.channels.Channels.hear_all.Given as goal

abbrev pub invariant-loop-given : goal.invariant-loop-given
invariant-loop-given l = IsHearing l.direction l.initial.self l.self l.payload l.signals

abbrev pub decreases-loop-given : goal.decreases-loop-given
decreases-loop-given l = length l.signals
