use Rattle.std.proofs.Common.{◌≡◌, ◌≤◌, take, length}
use Rattle.arrayvec.specs.ArrayVec.{array_vec_len}
use Rattle.l2cap_channels.specs.Sound.{owns}
use Rattle.l2cap_channels.proofs.channels.Channels.endpoints.Given as goal

abbrev pub invariant-loop-place : goal.invariant-loop-place
invariant-loop-place l = (l.endpoints.items ≡ owns (take l.place-index l.place-items)) × (array_vec_len l.endpoints ≡ l.place-index) × (length l.place-items ≤ 4)
