-- Two numbers with a blank between them are read again as they were written.
use Rattle.std.proofs.Common.{◌≡◌, ℕ, ◌^◌, ◌<◌, true, List, ◌∷◌, ◌++◌, Some, refl, ap, ◌∙◌}
use Rattle.std.specs.Prelude.{decimal}
use Rattle.std.specs.List.{list_all}
use Rattle.script_words.specs.Parts.{first_word, rest_of, number_of, pair_of}
use Rattle.script_words.proofs.Numbers.{numbers_again, graphic_number}
use Rattle.script_words.proofs.Splitting.{is_graphic, without_blank, word_again, rest_again}

pair_from : (text rest : List ℕ) (a b : ℕ) → number_of (first_word text) ≡ Some a → rest_of text ≡ Some rest → number_of rest ≡ Some b → pair_of text ≡ Some (a, b)
pair_from text rest a b e1 e2 e3 = rw (e1, e2, e3) refl

pub pair_again : (a b : ℕ) → a < 10 ^ 10 → b < 10 ^ 10 → pair_of (decimal a ++ 32 ∷ decimal b) ≡ Some (a, b)
pair_again a b low high =
    let digits : list_all is_graphic (decimal a) ≡ true = graphic_number a low in
    pair_from (decimal a ++ 32 ∷ decimal b) (decimal b) a b
    (ap number_of (word_again (decimal a) (decimal b) (without_blank (decimal a) digits)) ∙ numbers_again a low)
    (rest_again (decimal a) (decimal b) (without_blank (decimal a) digits))
    (numbers_again b high)
