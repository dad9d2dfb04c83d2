use Rattle.std.proofs.Common.{◌≡◌, ◌+◌, ◌≤◌, length}
use Rattle.std.specs.List.{position_or_len}
use Rattle.push_script.specs.Reading.{lines}
use Rattle.push_script.specs.Refusals.{is_object_line, object_line}
use Rattle.push_script.proofs.finding.object_line.Given as goal

abbrev pub invariant-loop-rest : goal.invariant-loop-rest
invariant-loop-rest l = record {
  so_far : position_or_len is_object_line (lines l.rest) + l.number ≡ object_line l.fn.text;
  few : l.number + length l.rest ≤ 1048577;
}

abbrev pub decreases-loop-rest : goal.decreases-loop-rest
decreases-loop-rest l = length l.rest
