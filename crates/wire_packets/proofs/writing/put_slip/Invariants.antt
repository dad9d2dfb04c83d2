use Rattle.std.proofs.Common.{◌≡◌, ◌∷◌, ◌++◌, ◌+◌, length, take, drop}
use Rattle.wire_packets.specs.Slip.{delimiter, all_escaped}
use Rattle.wire_packets.proofs.writing.put_slip.Given as goal

abbrev pub invariant-loop-octet : goal.invariant-loop-octet
invariant-loop-octet l = record {
  place : l.at ≡ 1 + length (all_escaped (take l.octet-index l.bytes));
  written : l.into ≡ (delimiter ∷ all_escaped (take l.octet-index l.bytes)) ++ drop l.at l.fn.into;
}
