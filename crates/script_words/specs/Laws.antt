-- Laws of the texts of words, outcomes and numbers (this project's own).
use Rattle.std.specs.Prelude.{ℕ, ◌≡◌, ◌<◌, ◌^◌, List, Some, decimal}
use Rattle.push_terms.specs.declared.word.Word.{Word}
use Rattle.push_terms.specs.declared.outcome.Outcome.{Outcome}
use Rattle.script_words.specs.Parts.{number_of}
use Rattle.script_words.specs.Words.{SaysWord}
use Rattle.script_words.specs.Outcomes.{SaysOutcome}

-- a number of at most ten digits is read again as it was written
abbrev pub NumbersAgain : Type 0
NumbersAgain = (n : ℕ) → n < 10 ^ 10 → number_of (decimal n) ≡ Some n

-- a text says one word, and one outcome
abbrev pub OneWord : Type 0
OneWord = (text : List ℕ) (word other : Word) → SaysWord text word → SaysWord text other → word ≡ other

abbrev pub OneOutcome : Type 0
OneOutcome = (text : List ℕ) (outcome other : Outcome) → SaysOutcome text outcome → SaysOutcome text other → outcome ≡ other
