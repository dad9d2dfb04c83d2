use Rattle.std.proofs.Common.{◌≡◌, take, drop}
use Rattle.radio_air.specs.Rings.{total}
use Rattle.radio_air.proofs.frames.take_lengths.Given as goal

-- so many lengths were taken, and added up
abbrev pub invariant-loop : goal.invariant-loop
invariant-loop l = record {
  sum : l.octets ≡ total (take l.counter l.fn.lengths.items);
  left : l.lengths.items ≡ drop l.counter l.fn.lengths.items;
  room : l.lengths.capacity ≡ l.fn.lengths.capacity;
}
