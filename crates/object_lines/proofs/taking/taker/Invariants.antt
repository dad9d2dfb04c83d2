use Rattle.std.proofs.Common.{◌≡◌, drop}
use Rattle.link_talk.specs.Carriages.{is_heard, taker}
use Rattle.object_lines.specs.Passes.{kept_entries}
use Rattle.object_lines.proofs.taking.taker.Given as goal

abbrev pub invariant-loop-one : goal.invariant-loop-one
invariant-loop-one l = taker is_heard l.flow l.pdu (kept_entries (drop l.one-index l.kept)) ≡ taker is_heard l.flow l.pdu (kept_entries l.kept)
