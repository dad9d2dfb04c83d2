use Rattle.std.proofs.Common.{◌≡◌, take}
use Rattle.check_words.specs.CheckWords.{low_bits, rfcomm_rest}
use Rattle.check_words.proofs.rfcomm.fcs8.Given as goal

abbrev pub invariant-loop-octet : goal.invariant-loop-octet
invariant-loop-octet l = low_bits 8 l.rest ≡ rfcomm_rest (take l.octet-index l.octets)
