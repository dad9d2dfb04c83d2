use Rattle.std.proofs.Common.{◌≡◌, take}
use Rattle.check_words.specs.CheckWords.{low_bits}
use Rattle.check_words.proofs.Eights.{left_behind}
use Rattle.check_words.proofs.fcs.with_octets.Given as goal

abbrev pub invariant-loop-octet : goal.invariant-loop-octet
invariant-loop-octet l = low_bits 16 l.next ≡ left_behind l.word (take l.octet-index l.octets)
