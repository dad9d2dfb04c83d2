use Rattle.std.proofs.Common.{◌≡◌, take}
use Rattle.making.specs.Counting.{octets_counted}
use Rattle.making.proofs.counting.octets_in.Given as goal

abbrev pub invariant-loop-i : goal.invariant-loop-i
invariant-loop-i l = l.octets ≡ octets_counted (take l.i l.inbox.contents.stored)
