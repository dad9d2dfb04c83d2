-- The text of the words of a radio script (this project's own).
use Rattle.std.specs.Prelude.{ℕ, ◌+◌, ◌-◌, ◌/◌, ◌%◌, ◌≤◌, cond, nat_lt, List, [], ◌∷◌, ◌++◌, codes, decimal}
use Rattle.push_terms.specs.declared.word.Way.{Way}
use Rattle.push_terms.specs.declared.word.Way.TheVariants.{Ab, Ba}
use Rattle.push_terms.specs.declared.word.Side.{Side}
use Rattle.push_terms.specs.declared.word.Side.TheVariants as sides
use Rattle.push_terms.specs.declared.word.Word.{Word}
use Rattle.push_terms.specs.declared.word.Word.TheVariants.{Pass, Lose, Repeat, Damage, Cut, Timer, Drop, Cancel}

-- the upper case hexadecimal digit of a number below 16
abbrev pub hex_digit : ℕ → ℕ
hex_digit n = cond (nat_lt n 10) (48 + n) (65 + (n - 10))

-- two upper case hexadecimal digits
abbrev pub hex_octet : ℕ → List ℕ
hex_octet n = hex_digit (n / 16) ∷ hex_digit (n % 16) ∷ []

-- four upper case hexadecimal digits
abbrev pub hex_word : ℕ → List ℕ
hex_word n = hex_octet (n / 256) ++ hex_octet (n % 256)

-- a direction of the air
abbrev pub way_text : Way → List ℕ
way_text Ab = codes "ab"
way_text Ba = codes "ba"

-- a host
abbrev pub side_text : Side → List ℕ
side_text sides.A = codes "a"
side_text sides.B = codes "b"

-- a word, without how often it stands
abbrev pub word_text : Word → List ℕ
word_text Pass = codes "pass"
word_text (Lose way) = codes "lose " ++ way_text way
word_text (Repeat way) = codes "repeat " ++ way_text way
word_text (Damage way at mask) = codes "damage " ++ way_text way ++ codes " " ++ decimal at ++ codes " " ++ hex_word mask
word_text (Cut way packets) = codes "cut " ++ way_text way ++ codes " " ++ decimal packets
word_text (Timer side) = codes "timer " ++ side_text side
word_text Drop = codes "drop"
word_text Cancel = codes "cancel"

-- The numbers of a word are in range: places of a frame count from 0, the basic header stays and there is a place behind
-- the one that is named, at least one bit changes, and at least one packet is delivered.
abbrev pub IsWord : Word → Type 0
IsWord (Damage way at mask) = (4 ≤ at) × (at ≤ 65534) × (1 ≤ mask) × (mask ≤ 65535)
IsWord (Cut way packets) = (1 ≤ packets) × (packets ≤ 65535)
IsWord Pass = Unit {0}
IsWord (Lose way) = Unit {0}
IsWord (Repeat way) = Unit {0}
IsWord (Timer side) = Unit {0}
IsWord Drop = Unit {0}
IsWord Cancel = Unit {0}
