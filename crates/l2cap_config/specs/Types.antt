-- The types of configuration options (Core 5.1, Volume 3 Part A, section 5).
use Rattle.std.specs.Prelude.{ℕ, ◌%◌, Bool, not, ◌&&◌, ◌==◌, nat_eq, nat_lt, if◌then◌else◌, IsTrue, List, [], ◌∷◌, ◌++◌, Option, Some, None, is_some}
use Rattle.std.specs.List.{list_any, list_all, IsDistinct}

-- a type octet without its highest bit, which marks a hint: an option that may be passed over
abbrev pub kind_of : ℕ → ℕ
kind_of octet = octet % 128

-- the length of the value of a known option: 01 MTU (5.1), 02 flush timeout (5.2), 03 quality of service
-- (5.3), 04 retransmission and flow control, that is the mode (5.4), 05 FCS (5.5)
abbrev pub size_of_kind : ℕ → Option ℕ
size_of_kind kind =
    if kind == 1 then Some 2 else
    if kind == 2 then Some 2 else
    if kind == 3 then Some 22 else
    if kind == 4 then Some 9 else
    if kind == 5 then Some 1 else
    None

-- the option is not known, and no hint
abbrev pub is_unknown : ℕ → Bool
is_unknown octet = nat_lt octet 128 && not (is_some (size_of_kind octet))

-- ---- each type once, in the order of their first appearance

abbrev pub contains : List ℕ → ℕ → Bool
contains types octet = list_any (λ x. x == octet) types

-- a type behind the others, unless it is among them
abbrev pub with_type : List ℕ → ℕ → List ℕ
with_type types octet = if contains types octet then types else types ++ octet ∷ []

-- each of the later ones in turn
abbrev pub joined_types : List ℕ → List ℕ → List ℕ
joined_types types [] = types
joined_types types (octet ∷ later) = joined_types (with_type types octet) later

-- unknown types, no two of them equal
pub record AreUnknown (types : List ℕ) : Type 0 where
  pub distinct : IsDistinct nat_eq types
  pub unknown : IsTrue (list_all is_unknown types)
