-- The names of objects (this project's own).
use Rattle.std.specs.Prelude.{ℕ, ◌+◌, ◌≤◌, ◌≡◌, Bool, true, false, ◌||◌, ◌==◌, nat_le, nat_lt, count_by, List}
use Rattle.std.specs.List.{list_any}
use Rattle.std.specs.Str.{is_utf8}

-- the octet begins a character of UTF-8 text (The Unicode Standard, 3.9): it is none of 80 to BF
abbrev pub begins_character : ℕ → Bool
begins_character octet = nat_lt octet 0x80 || nat_le 0xC0 octet

-- How many UTF-16 units a text in UTF-8 has: one for each character, and one more for each of four octets
-- (The Unicode Standard, 3.9).
abbrev pub utf16_length : List ℕ → ℕ
utf16_length text = count_by begins_character text + count_by (λ octet. nat_le 0xF0 octet) text

-- the octet is a NUL or a line feed
abbrev pub ends_name : ℕ → Bool
ends_name octet = octet == 0 || octet == 10

-- What an object may be called: text of 1 to 100 UTF-16 units, with no NUL, on one line.
pub record IsName (name : List ℕ) : Type 0 where
  pub text : is_utf8 name ≡ true
  pub some : 1 ≤ utf16_length name
  pub few : utf16_length name ≤ 100
  pub line : list_any ends_name name ≡ false
