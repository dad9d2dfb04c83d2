-- How many words a clean script is given (this project's own).
use Rattle.std.specs.Prelude.{ℕ, ◌+◌, ◌*◌, List, [], ◌∷◌, length, Option, Some, None}
use Rattle.bt_base.specs.Objects.{Object, octets_of}
use Rattle.push_terms.specs.declared.word.Word.{Word}

-- the length of an object; one that the shelf lacks counts as empty
abbrev pub length_of : Option (List ℕ) → ℕ
length_of (Some octets) = length octets
length_of None = 0

-- the words that the objects need: 200 for each, and 8 for each of its octets
abbrev pub object_turns : List Object → List (List ℕ) → ℕ
object_turns shelf [] = 0
object_turns shelf (name ∷ names) = (200 + 8 * length_of (octets_of name shelf)) + object_turns shelf names

-- the number of words `pass` that a clean script is given for objects of these names on this shelf
abbrev pub turns : List Object → List (List ℕ) → ℕ
turns shelf names = 1000 + object_turns shelf names

-- how many words a script has
abbrev pub word_count : List (ℕ × Word) → ℕ
word_count [] = 0
word_count (run ∷ runs) = run.0 + word_count runs
