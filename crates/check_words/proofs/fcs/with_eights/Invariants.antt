use Rattle.std.proofs.Common.{◌≡◌, ◌*◌, take}
use Rattle.check_words.specs.CheckWords.{low_bits}
use Rattle.check_words.proofs.Eights.{left_behind}
use Rattle.check_words.proofs.fcs.with_eights.Given as goal

abbrev pub invariant-loop-eight : goal.invariant-loop-eight
invariant-loop-eight l = low_bits 16 l.next ≡ left_behind l.word (take (8 * l.eight) l.octets)
