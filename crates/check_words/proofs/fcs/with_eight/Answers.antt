use Rattle.check_words.proofs.Eights.{eight_behind}
use Rattle.check_words.proofs.fcs.with_eight.Goals as goal

pub returns : goal.returns
returns c =
    eight_behind c.args.word c.args.octets.now
    c.check_word_behind-7.result c.check_word_behind-6.result c.check_word_behind-5.result c.check_word_behind-4.result
    c.check_word_behind-3.result c.check_word_behind-2.result c.check_word_behind.result c.check_word_of.result c.requires
    c.check_word_behind-7.ensures c.check_word_behind-6.ensures c.check_word_behind-5.ensures c.check_word_behind-4.ensures
    c.check_word_behind-3.ensures c.check_word_behind-2.ensures c.check_word_behind.ensures c.check_word_of.ensures
