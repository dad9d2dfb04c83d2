use Rattle.std.proofs.Common.{◌≡◌, ◌++◌, take}
use Rattle.std.specs.List.{flat_map}
use Rattle.push_script.specs.Scenarios.{run_line}
use Rattle.push_script.proofs.writing.push_runs.Given as goal

abbrev pub invariant-loop-count : goal.invariant-loop-count
invariant-loop-count l = l.text.items ≡ l.initial.text.items ++ flat_map run_line (take l.count-index l.count-items)
