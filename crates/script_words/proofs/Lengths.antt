-- The text of a word and that of an outcome have at most 24 octets.
use Rattle.std.proofs.Common.{◌≡◌, ℕ, ◌+◌, ◌≤◌, ◌<◌, List, ◌∷◌, ◌++◌, length, refl, ap, arith, length-append}
use Rattle.std.specs.Prelude.{codes, decimal}
use Rattle.std.proofs.lemmas.Fmt.{length-decimal-le}
use Rattle.push_terms.specs.declared.word.Way.{Way}
use Rattle.push_terms.specs.declared.word.Way.TheVariants.{Ab, Ba}
use Rattle.push_terms.specs.declared.word.Side.TheVariants as sides
use Rattle.push_terms.specs.declared.word.Word.{Word}
use Rattle.push_terms.specs.declared.word.Word.TheVariants.{Pass, Lose, Repeat, Damage, Cut, Timer, Drop, Cancel}
use Rattle.push_terms.specs.declared.outcome.Outcome.{Outcome}
use Rattle.push_terms.specs.declared.outcome.Outcome.TheVariants.{Done, LinkLost, RetryLimit, Refused, NoService, ShelfFault, Cancelled, PeerClosed, PeerFault, ScriptEnded}
use Rattle.push_terms.specs.Words.{hex_word, way_text, word_text, IsWord}
use Rattle.push_terms.specs.Outcomes.{outcome_text, IsOutcome}
use Rattle.script_words.proofs.WordsAgain.{damage_text, cut_text}
use Rattle.script_words.proofs.OutcomesWritten.{fault_text}

-- a number of five digits at most
number_short : (n : ℕ) → n < 65536 → length (decimal n) ≤ 5
number_short n lt = length-decimal-le 5 n (omega arith) (omega arith) (omega arith)

way_short : (way : Way) → length (way_text way) ≡ 2
way_short Ab = refl
way_short Ba = refl

joined_short : (first second : List ℕ) (m n : ℕ) → length first ≤ m → length second ≤ n → length (first ++ 32 ∷ second) ≤ m + 1 + n
joined_short first second m n one two = omega (arith, length-append first (32 ∷ second))

pub word_short : (word : Word) → IsWord word → length (word_text word) ≤ 24
word_short Pass is = omega arith
word_short (Lose Ab) is = omega arith
word_short (Lose Ba) is = omega arith
word_short (Repeat Ab) is = omega arith
word_short (Repeat Ba) is = omega arith
word_short (Damage way at mask) is =
    let numbers : length (decimal at ++ 32 ∷ hex_word mask) ≤ 5 + 1 + 4 = joined_short (decimal at) (hex_word mask) 5 4 (number_short at (omega (arith, is.1))) (omega arith) in
    let behind : length (way_text way ++ 32 ∷ (decimal at ++ 32 ∷ hex_word mask)) ≤ 2 + 1 + (5 + 1 + 4) = joined_short (way_text way) _ 2 _ (omega (arith, way_short way)) numbers in
    let whole : length (codes "damage" ++ 32 ∷ (way_text way ++ 32 ∷ (decimal at ++ 32 ∷ hex_word mask))) ≤ 6 + 1 + (2 + 1 + (5 + 1 + 4)) = joined_short (codes "damage") _ 6 _ (omega arith) behind in
    omega (arith, whole, ap length (damage_text way at mask))
word_short (Cut way packets) is =
    let behind : length (way_text way ++ 32 ∷ decimal packets) ≤ 2 + 1 + 5 = joined_short (way_text way) (decimal packets) 2 5 (omega (arith, way_short way)) (number_short packets (omega (arith, is.1))) in
    let whole : length (codes "cut" ++ 32 ∷ (way_text way ++ 32 ∷ decimal packets)) ≤ 3 + 1 + (2 + 1 + 5) = joined_short (codes "cut") _ 3 _ (omega arith) behind in
    omega (arith, whole, ap length (cut_text way packets))
word_short (Timer sides.A) is = omega arith
word_short (Timer sides.B) is = omega arith
word_short Drop is = omega arith
word_short Cancel is = omega arith

pub outcome_short : (outcome : Outcome) → IsOutcome outcome → length (outcome_text outcome) ≤ 24
outcome_short Done is = omega arith
outcome_short LinkLost is = omega arith
outcome_short RetryLimit is = omega arith
outcome_short (Refused code) is = omega arith
outcome_short NoService is = omega arith
outcome_short ShelfFault is = omega arith
outcome_short Cancelled is = omega arith
outcome_short PeerClosed is = omega arith
outcome_short (PeerFault layer reason) is =
    let numbers : length (decimal layer ++ 32 ∷ decimal reason) ≤ 5 + 1 + 5 = joined_short (decimal layer) (decimal reason) 5 5 (number_short layer (omega (arith, is.0))) (number_short reason (omega (arith, is.1))) in
    let whole : length (codes "peer-fault" ++ 32 ∷ (decimal layer ++ 32 ∷ decimal reason)) ≤ 10 + 1 + (5 + 1 + 5) = joined_short (codes "peer-fault") _ 10 _ (omega arith) numbers in
    omega (arith, whole, ap length (fault_text layer reason))
outcome_short ScriptEnded is = omega arith
