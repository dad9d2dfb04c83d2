use Rattle.std.proofs.Common.{◌≡◌, drop}
use Rattle.std.specs.Prelude.{find}
use Rattle.object_lines.specs.Passes.{has_endpoint, kept_entries}
use Rattle.object_lines.proofs.taking.mode_with.Given as goal

abbrev pub invariant-loop-one : goal.invariant-loop-one
invariant-loop-one l = find (has_endpoint l.own) (kept_entries (drop l.one-index l.kept)) ≡ find (has_endpoint l.own) (kept_entries l.kept)
