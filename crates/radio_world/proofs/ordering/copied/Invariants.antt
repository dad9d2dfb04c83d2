use Rattle.std.proofs.Common.{◌≡◌, ◌≤◌, take, length}
use Rattle.std.specs.List.{AllByRecursion}
use Rattle.push_script.specs.Names.{IsName}
use Rattle.radio_world.proofs.ordering.copied.Given as goal

abbrev pub invariant-loop-i : goal.invariant-loop-i
invariant-loop-i l = (l.copies.items ≡ take l.i l.names) × (l.i ≤ length l.names) × AllByRecursion IsName l.names
