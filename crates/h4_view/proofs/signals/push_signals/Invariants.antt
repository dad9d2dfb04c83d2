use Rattle.std.proofs.Common.{◌≡◌, ◌++◌, length}
use Rattle.std.specs.List.{flat_map}
use Rattle.h4_view.specs.Signals.{signal_text, signals_text}
use Rattle.h4_view.proofs.signals.push_signals.Given as goal

abbrev pub invariant-loop-given : goal.invariant-loop-given
invariant-loop-given l = l.text.items ++ flat_map signal_text l.signals ≡ l.fn.text.items ++ signals_text l.payload

abbrev pub decreases-loop-given : goal.decreases-loop-given
decreases-loop-given l = length l.signals
