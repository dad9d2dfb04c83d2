-- The parts of a line: its words and its numbers (this project's own).
use Rattle.std.specs.Prelude.{ℕ, ◌+◌, ◌-◌, ◌*◌, Bool, true, false, ◌&&◌, cond, ◌==◌, nat_lt, nat_le, List, [], ◌∷◌, length, codes, Option, Some, None}
use Rattle.std.specs.List.{position_or_len, before_first, after_first, list_all}
use Rattle.std.specs.Str.{bytes_eq}
use Rattle.push_terms.specs.declared.word.Way.{Way}
use Rattle.push_terms.specs.declared.word.Way.TheVariants.{Ab, Ba}
use Rattle.push_terms.specs.declared.word.Side.{Side}
use Rattle.push_terms.specs.declared.word.Side.TheVariants as sides

-- what comes of a value, where there is one
abbrev pub and_then : {A B : Type 0} → Option A → (A → Option B) → Option B
and_then (Some x) f = f x
and_then None f = None

-- what stands before the first blank of a line
abbrev pub first_word : List ℕ → List ℕ
first_word line = before_first (λ octet. octet == 32) line

-- what stands behind the first blank, where there is one
abbrev pub rest_of : List ℕ → Option (List ℕ)
rest_of line = cond (nat_lt (position_or_len (λ octet. octet == 32) line) (length line)) (Some (after_first (λ octet. octet == 32) line)) None

abbrev pub is_digit : ℕ → Bool
is_digit octet = nat_le 48 octet && nat_le octet 57

-- the first digit of several is a zero
abbrev pub has_leading_zero : List ℕ → Bool
has_leading_zero (first ∷ second ∷ more) = first == 48
has_leading_zero _ = false

-- 1 to 10 decimal digits, the first of them no zero unless it is alone
abbrev pub is_number : List ℕ → Bool
is_number text = cond (length text == 0) false (cond (nat_lt 10 (length text)) false (cond (has_leading_zero text) false (list_all is_digit text)))

-- the number that decimal digits spell behind that number
abbrev pub value_behind : ℕ → List ℕ → ℕ
value_behind number [] = number
value_behind number (digit ∷ more) = value_behind (10 * number + (digit - 48)) more

-- the number that a text spells
abbrev pub number_of : List ℕ → Option ℕ
number_of text = cond (is_number text) (Some (value_behind 0 text)) None

abbrev pub way_of : List ℕ → Option Way
way_of text = cond (bytes_eq text (codes "ab")) (Some Ab) (cond (bytes_eq text (codes "ba")) (Some Ba) None)

abbrev pub side_of : List ℕ → Option Side
side_of text = cond (bytes_eq text (codes "a")) (Some sides.A) (cond (bytes_eq text (codes "b")) (Some sides.B) None)

-- the value of an upper case hexadecimal digit
abbrev pub hex_value : ℕ → Option ℕ
hex_value digit = cond (is_digit digit) (Some (digit - 48)) (cond (nat_le 65 digit && nat_le digit 70) (Some (digit - 65 + 10)) None)

-- the number of four upper case hexadecimal digits
abbrev pub mask_of : List ℕ → Option ℕ
mask_of (a ∷ b ∷ c ∷ d ∷ []) = and_then (hex_value a) (λ a. and_then (hex_value b) (λ b. and_then (hex_value c) (λ c. and_then (hex_value d) (λ d. Some (((a * 16 + b) * 16 + c) * 16 + d)))))
mask_of _ = None

-- the number of two upper case hexadecimal digits
abbrev pub octet_of : List ℕ → Option ℕ
octet_of (high ∷ low ∷ []) = and_then (hex_value high) (λ high. and_then (hex_value low) (λ low. Some (high * 16 + low)))
octet_of _ = None

-- two numbers with a blank between them
abbrev pub pair_of : List ℕ → Option (ℕ × ℕ)
pair_of text = and_then (number_of (first_word text)) (λ first. and_then (rest_of text) (λ rest. and_then (number_of rest) (λ second. Some (first, second))))
