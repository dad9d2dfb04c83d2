use Rattle.std.proofs.Common.{List, ℕ, ◌++◌, ap, refl, ◌∙◌, arith}
use Rattle.std.proofs.lemmas.List.{take_all}
use Rattle.check_words.specs.Division.{divided, remainder, zeros}
use Rattle.check_words.specs.CheckWords.{low_bits, bits_of_words, l2cap_generator}
use Rattle.check_words.proofs.Eights.{left_behind}
use Rattle.check_words.proofs.Words.{one_word_more}
use Rattle.check_words.proofs.fcs.check_word_of_words.Goals as goal

pub loop-place-init : goal.loop-place-init
unfolding low_bits divided
loop-place-init c = refl

pub loop-place-preserved : goal.loop-place-preserved
loop-place-preserved c =
    one_word_more c.args.words c.loop-place.place c.loop-place.next c.with_eight-next.result (omega arith) c.loop-place.invariant
    (c.with_eight-next.ensures ∙ ap (left_behind c.loop-place.next) c.to_le_bytes.ensures)

pub returns : goal.returns
returns c =
    c.loop-place.invariant
    ∙ ap (λ (xs : List ℕ). remainder l2cap_generator (bits_of_words xs ++ zeros 16)) (take_all c.loop-place.place c.args.words (omega arith))
