-- The line of a run of a word is read again as it was written, and so is a number within a range.
use Rattle.std.proofs.Common.{◌≡◌, ℕ, ◌<◌, ◌≤◌, true, List, ◌∷◌, ◌++◌, Option, Some, None, Ok, refl, ap, arith}
use Rattle.std.specs.Prelude.{decimal}
use Rattle.std.specs.List.{list_all}
use Rattle.std.proofs.lemmas.Bool.{le-ltb, ne_eqb}
use Rattle.bt_base.specs.declared.settings.Transport.{Transport}
use Rattle.bt_base.specs.declared.settings.Transport.TheVariants as transports
use Rattle.push_terms.specs.declared.word.Word.{Word}
use Rattle.push_terms.specs.Words.{word_text}
use Rattle.script_words.specs.declared.said.Said.{Said}
use Rattle.script_words.specs.Parts.{first_word, rest_of, number_of}
use Rattle.script_words.specs.Words.{said_of, word_within}
use Rattle.script_words.proofs.Numbers.{numbers_again, graphic_number}
use Rattle.script_words.proofs.Splitting.{is_graphic, without_blank, rest_again}
use Rattle.script_words.proofs.WordsAgain.{first_is, said_by, said_again, number_within_again, word_again_within}
use Rattle.push_script.specs.Runs.{IsRun, IsBorne}
use Rattle.push_script.specs.Keys.{or_refusal, within}
use Rattle.push_script.specs.Radio.{count_within, lossless, run_of}
use Rattle.push_script.specs.declared.refusal.ScriptRefusal.TheVariants.{OutOfRange}

pub within_again : (low high n : ℕ) → low ≤ n → n ≤ high → within low high n ≡ Ok n
within_again low high n a b = ap (or_refusal OutOfRange) (number_within_again low high n a b)

count_again : (n : ℕ) → 1 ≤ n → n < 4294967296 → count_within n ≡ Ok n
count_again n some few = rw (ne_eqb n 0 (λ e. omega arith), le-ltb 4294967295 n (omega arith)) refl

lossless_again : (transport : Option Transport) (count : ℕ) (word : Word) → IsBorne transport (count, word) → lossless transport word ≡ Ok tt
lossless_again (Some transports.Rfcomm) count word h = rw h refl
lossless_again (Some transports.L2cap) count word h = refl
lossless_again None count word h = refl

run_from : (transport : Option Transport) (line text : List ℕ) (n : ℕ) (s : Said) (count : ℕ) (word : Word) → rest_of line ≡ Some text → number_of (first_word line) ≡ Some n → said_of text ≡ Some s → count_within n ≡ Ok count → word_within s ≡ Some word → lossless transport word ≡ Ok tt
    → run_of transport line ≡ Ok (count, word)
unfolding run_of
run_from transport line text n s count word e1 e2 e3 e4 e5 e6 = rw (e1, e2, e3, e4, e5, e6) refl

-- a run of a word is read again
pub run_again : (transport : Option Transport) (count : ℕ) (word : Word) → IsRun (count, word) → IsBorne transport (count, word) → run_of transport (decimal count ++ 32 ∷ word_text word) ≡ Ok (count, word)
run_again transport count word is borne =
    let small : count < 4294967296 = is.1 in
    let digits : list_all is_graphic (decimal count) ≡ true = graphic_number count (omega arith) in
    run_from transport _ (word_text word) count (said_by word) count word
    (rest_again (decimal count) (word_text word) (without_blank (decimal count) digits))
    (first_is (decimal count) _ number_of (Some count) digits (numbers_again count (omega arith)))
    (said_again word is.2)
    (count_again count is.0 small)
    (word_again_within word is.2)
    (lossless_again transport count word borne)
