use Rattle.std.proofs.Common.{◌*◌, take}
use Rattle.check_words.proofs.Words.{StandFor}
use Rattle.check_words.proofs.fcs.fcs16.Given as goal

abbrev pub invariant-loop-block : goal.invariant-loop-block
invariant-loop-block l = StandFor l.words (take (128 * l.block) l.octets)
