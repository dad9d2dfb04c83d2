use Rattle.std.proofs.Common.{◌≡◌, length, map, fold}
use Rattle.l2cap_signal.specs.Reading.{answers}
use Rattle.link_talk.specs.Sayings.{Command}
use Rattle.object_lines.specs.Passes.{telling_after, plain_telling}
use Rattle.object_lines.proofs.passing.LinkPass.hear_signals.Given as goal

abbrev pub invariant-loop-given : goal.invariant-loop-given
invariant-loop-given l = fold (telling_after l.party) (plain_telling l.self) (map (Command l.flow) l.signals) ≡ fold (telling_after l.party) (plain_telling l.fn.self) (map (Command l.flow) (answers l.payload))

abbrev pub decreases-loop-given : goal.decreases-loop-given
decreases-loop-given l = length l.signals
