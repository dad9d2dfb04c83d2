use Rattle.std.proofs.Common.{◌≡◌, ◌++◌, take}
use Rattle.check_words.specs.Division.{remainder, zeros}
use Rattle.check_words.specs.CheckWords.{low_bits, bits_of_words, l2cap_generator}
use Rattle.check_words.proofs.fcs.check_word_of_words.Given as goal

abbrev pub invariant-loop-place : goal.invariant-loop-place
invariant-loop-place l = low_bits 16 l.next ≡ remainder l2cap_generator (bits_of_words (take l.place l.words) ++ zeros 16)
