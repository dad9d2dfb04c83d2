use Rattle.std.proofs.Common.{◌≤◌, vec_len, vec_capacity, ◌≡◌, [], take}
use Rattle.wire_packets.specs.Slip.{longest}
use Rattle.wire_packets.specs.Stepping.{standing, after, found}
use Rattle.wire_packets.proofs.stepping.advance.Given as goal

abbrev pub invariant-loop-i : goal.invariant-loop-i
invariant-loop-i l = record {
  stands : after (standing l.fn.place l.initial.buffer.items) (take l.i l.piece) ≡ standing l.place l.buffer.items;
  quiet : found (standing l.fn.place l.initial.buffer.items) (take l.i l.piece) ≡ [];
  fits : vec_len l.buffer ≤ longest;
  room : longest ≤ vec_capacity l.buffer;
  capacity : vec_capacity l.initial.buffer ≤ vec_capacity l.buffer;
}
