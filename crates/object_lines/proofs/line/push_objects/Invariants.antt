use Rattle.std.proofs.Common.{◌≡◌, ◌++◌, drop, map}
use Rattle.object_lines.specs.Tallies.{told_lines, plain_told}
use Rattle.object_lines.proofs.line.push_objects.Given as goal

abbrev pub invariant-loop-object : goal.invariant-loop-object
invariant-loop-object l = l.text.items ++ told_lines (map plain_told (drop l.object-index l.objects)) ≡ l.initial.text.items ++ told_lines (map plain_told l.objects)
