use Rattle.std.proofs.Common.{◌∙◌, ap, arith, refl}
use Rattle.std.proofs.lemmas.List.{take_all}
use Rattle.check_words.proofs.Eights.{left_behind, none_behind, one_behind}
use Rattle.check_words.proofs.fcs.with_octets.Goals as goal

pub loop-octet-init : goal.loop-octet-init
loop-octet-init c = none_behind c.args.word

pub loop-octet-preserved : goal.loop-octet-preserved
loop-octet-preserved c = one_behind c.args.word c.args.octets.now c.loop-octet.octet-index _ c.loop-octet.next c.with_octet-next.result c.loop-octet-test.true refl c.loop-octet.invariant c.with_octet-next.ensures

pub returns : goal.returns
returns c = c.loop-octet.invariant ∙ ap (left_behind c.args.word) (take_all c.loop-octet.octet-index c.args.octets.now (omega arith))
