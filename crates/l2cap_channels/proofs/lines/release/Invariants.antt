use Rattle.std.proofs.Common.{◌≡◌, ◌+◌, ◌≤◌, length, vec_capacity, vec_len}
use Rattle.l2cap_channels.proofs.lines.release.Given as goal

abbrev pub invariant-loop-place : goal.invariant-loop-place
invariant-loop-place l = (length l.places.items + length l.free.items ≡ 4) × (4 ≤ vec_capacity l.free) × (vec_capacity l.fn.places ≤ vec_capacity l.places)

abbrev pub decreases-loop-place : goal.decreases-loop-place
decreases-loop-place l = vec_len l.places
