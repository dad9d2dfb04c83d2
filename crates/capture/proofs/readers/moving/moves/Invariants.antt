use Rattle.std.proofs.Common.{◌≡◌, ◌++◌, drop}
use Rattle.capture.specs.Moves.{moves}
use Rattle.capture.specs.Lent.{plain_entries, plain_moves}
use Rattle.capture.proofs.readers.moving.moves.Given as goal

abbrev pub invariant-loop-entry : goal.invariant-loop-entry
invariant-loop-entry l = plain_moves l.found.items ++ moves l.host (plain_entries (drop l.entry-index l.entries)) ≡ moves l.host (plain_entries l.entries)
