use Rattle.std.proofs.Common.{[], ◌∷◌, refl, arith}
use Rattle.check_words.proofs.Folding.{with_added, fold_words}
use Rattle.check_words.proofs.Words.{octets_folded}
use Rattle.check_words.proofs.fold.fold.Goals as goal

pub returns : goal.returns
unfolding with_added fold_words
returns c =
    octets_folded c.args.words.now
    (c.word_of.result ∷ c.word_of-2.result ∷ c.word_of-3.result ∷ c.word_of-4.result ∷ c.word_of-5.result ∷ c.word_of-6.result ∷ c.word_of-7.result ∷ c.word_of-8.result ∷ c.word_of-9.result ∷ c.word_of-10.result ∷ c.word_of-11.result ∷ c.word_of-12.result ∷ c.word_of-13.result ∷ c.word_of-14.result ∷ c.word_of-15.result ∷ c.word_of-16.result ∷ [])
    c.args.octets.now (omega arith) refl
    (c.word_of.ensures, (c.word_of-2.ensures, (c.word_of-3.ensures, (c.word_of-4.ensures, (c.word_of-5.ensures, (c.word_of-6.ensures, (c.word_of-7.ensures, (c.word_of-8.ensures, (c.word_of-9.ensures, (c.word_of-10.ensures, (c.word_of-11.ensures, (c.word_of-12.ensures, (c.word_of-13.ensures, (c.word_of-14.ensures, (c.word_of-15.ensures, (c.word_of-16.ensures, c.requires))))))))))))))))
