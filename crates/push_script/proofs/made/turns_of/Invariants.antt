use Rattle.std.proofs.Common.{◌≡◌, ◌+◌, ◌*◌, ◌≤◌, take}
use Rattle.std.specs.List.{sum_by}
use Rattle.push_script.specs.Made.{object_need}
use Rattle.push_script.proofs.made.turns_of.Given as goal

abbrev pub invariant-loop-length : goal.invariant-loop-length
invariant-loop-length l = record {
  turns : l.turns ≡ 1000 + sum_by object_need (take l.length-index l.lengths);
  some : 1000 ≤ l.turns;
  few : l.turns ≤ 1000 + 240200 * l.length-index;
}
