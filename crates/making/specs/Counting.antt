-- What is counted of a run (this project's own).
use Rattle.std.specs.Prelude.{ℕ, zero, suc, ◌+◌, ◌-◌, ◌^◌, ◌==◌, Bool, cond, List, length, Option, Some, None, codes, min}
use Rattle.std.specs.List.{before_first, after_first, starts_with, sum_by}
use Rattle.bt_base.specs.Objects.{Object}

abbrev pub is_blank : ℕ → Bool
is_blank octet = octet == 32

abbrev pub is_feed : ℕ → Bool
is_feed octet = octet == 10

-- The line of a push tells that it is done: behind its number stand that word and a name.
abbrev pub tells_done : List ℕ → Bool
tells_done line = starts_with (λ x y. x == y) (after_first is_blank line) (codes "done ")

-- how many of so many lines at the front of a report tell that a push is done
unfoldable pub done_lines : ℕ → List ℕ → ℕ
done_lines zero report = 0
done_lines (suc n) report = cond (tells_done (before_first is_feed report)) 1 0 + done_lines n (after_first is_feed report)

-- how many octets an object has, where there is one
abbrev pub length_of : Option Object → ℕ
length_of (Some object) = length object.octets
length_of None = 0

-- the greatest number of octets that is counted
abbrev pub most_octets : ℕ
most_octets = 2 ^ 64 - 1

-- how many octets objects have together
abbrev pub octet_count : List Object → ℕ
octet_count objects = sum_by (λ object. length object.octets) objects

-- the same, as far as it is counted
abbrev pub octets_counted : List Object → ℕ
octets_counted objects = min (octet_count objects) most_octets
