use Rattle.std.proofs.Common.{◌≡◌, ◌≤◌, length, vec_capacity}
use Rattle.l2cap_channels.proofs.lines.four_lines.Given as goal

abbrev pub invariant-loop : goal.invariant-loop
invariant-loop l = (length l.lines.items ≡ l.counter) × (4 ≤ vec_capacity l.lines)
