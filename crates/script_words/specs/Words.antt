-- The text of a word by itself, and how it is read (this project's own).
use Rattle.std.specs.Prelude.{ℕ, ◌≡◌, cond, nat_lt, List, codes, Option, Some, None}
use Rattle.std.specs.Str.{bytes_eq}
use Rattle.push_terms.specs.declared.word.Word.{Word}
use Rattle.push_terms.specs.declared.word.Word.TheVariants as words
use Rattle.push_terms.specs.Words.{word_text, IsWord}
use Rattle.script_words.specs.declared.said.Said.{Said}
use Rattle.script_words.specs.declared.said.Said.TheVariants.{Pass, Lose, Repeat, Damage, Cut, Timer, Drop, Cancel}
use Rattle.script_words.specs.Parts.{and_then, first_word, rest_of, number_of, way_of, side_of, mask_of}

-- the octets are the text of that word, whose numbers are within their ranges
abbrev pub SaysWord : List ℕ → Word → Type 0
SaysWord text word = IsWord word × (text ≡ word_text word)

-- ---- how it is read

-- a direction, a number and a mask behind `damage`
unfoldable pub damage_said : List ℕ → Option Said
damage_said rest =
    and_then (way_of (first_word rest)) (λ way.
    and_then (rest_of rest) (λ rest.
    and_then (number_of (first_word rest)) (λ at.
    and_then (rest_of rest) (λ mask.
    and_then (mask_of mask) (λ mask.
    Some (Damage way at mask))))))

-- a direction and a number behind `cut`
unfoldable pub cut_said : List ℕ → Option Said
cut_said rest =
    and_then (way_of (first_word rest)) (λ way.
    and_then (rest_of rest) (λ packets.
    and_then (number_of packets) (λ packets.
    Some (Cut way packets))))

-- a word with something behind it
unfoldable pub long_said : List ℕ → List ℕ → Option Said
long_said word rest =
    cond (bytes_eq word (codes "lose")) (and_then (way_of rest) (λ way. Some (Lose way))) (
    cond (bytes_eq word (codes "repeat")) (and_then (way_of rest) (λ way. Some (Repeat way))) (
    cond (bytes_eq word (codes "damage")) (damage_said rest) (
    cond (bytes_eq word (codes "cut")) (cut_said rest) (
    cond (bytes_eq word (codes "timer")) (and_then (side_of rest) (λ side. Some (Timer side))) None))))

-- a word with nothing behind it
abbrev pub short_said : List ℕ → Option Said
short_said word =
    cond (bytes_eq word (codes "pass")) (Some Pass) (
    cond (bytes_eq word (codes "drop")) (Some Drop) (
    cond (bytes_eq word (codes "cancel")) (Some Cancel) None))

abbrev pub said_behind : List ℕ → Option (List ℕ) → Option Said
said_behind word (Some rest) = long_said word rest
said_behind word None = short_said word

-- the word that a text says
unfoldable pub said_of : List ℕ → Option Said
said_of text = said_behind (first_word text) (rest_of text)

-- a number that is within a range
abbrev pub number_within : ℕ → ℕ → ℕ → Option ℕ
number_within low high number = cond (nat_lt number low) None (cond (nat_lt high number) None (Some number))

-- the word, if its numbers are within their ranges
unfoldable pub word_within : Said → Option Word
word_within Pass = Some words.Pass
word_within (Lose way) = Some (words.Lose way)
word_within (Repeat way) = Some (words.Repeat way)
word_within (Damage way at mask) = and_then (number_within 4 65534 at) (λ at. and_then (number_within 1 65535 mask) (λ mask. Some (words.Damage way at mask)))
word_within (Cut way packets) = and_then (number_within 1 65535 packets) (λ packets. Some (words.Cut way packets))
word_within (Timer side) = Some (words.Timer side)
word_within Drop = Some words.Drop
word_within Cancel = Some words.Cancel

-- the word that a text says, if its numbers are within their ranges
abbrev pub word_read : List ℕ → Option Word
word_read text = and_then (said_of text) word_within
