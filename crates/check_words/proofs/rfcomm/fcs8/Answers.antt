use Rattle.std.proofs.Common.{not, map, ◌∙◌, ap, arith, refl}
use Rattle.std.proofs.lemmas.List.{take_all}
use Rattle.check_words.specs.Division.{added, divided}
use Rattle.check_words.specs.CheckWords.{low_bits, rfcomm_rest}
use Rattle.check_words.proofs.RfcommWord.{rest_more, inverted}
use Rattle.check_words.proofs.rfcomm.fcs8.Goals as goal

pub loop-octet-init : goal.loop-octet-init
unfolding low_bits added divided
loop-octet-init c = refl

pub loop-octet-preserved : goal.loop-octet-preserved
loop-octet-preserved c = rest_more c.args.octets.now c.loop-octet.octet-index _ c.loop-octet.rest c.rest_of-rest.result c.loop-octet-test.true refl c.loop-octet.invariant c.rest_of-rest.ensures

pub returns : goal.returns
returns c = inverted c.loop-octet.rest ∙ ap (map not) (c.loop-octet.invariant ∙ ap rfcomm_rest (take_all c.loop-octet.octet-index c.args.octets.now (omega arith)))
