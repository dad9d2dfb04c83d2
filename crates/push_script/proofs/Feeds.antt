-- Texts without a line feed, and the line of an object.
use Rattle.std.proofs.Common.{◌≡◌, ℕ, List, length, None, arith, inl, inr}
use Rattle.std.proofs.lemmas.Bool.{cases_lt, lt-ltb}
use Rattle.std.proofs.lemmas.List.Sums.{prefix_len-le-length}
use Rattle.std.specs.Prelude.{not}
use Rattle.std.specs.List.{position, position_or_len}
use Rattle.push_script.specs.Reading.{is_feed}

-- where no line feed was found there is none
pub no_feed : (text : List ℕ) → None ≡ position is_feed text → position_or_len is_feed text ≡ length text
no_feed text h = elim (cases_lt (position_or_len is_feed text) (length text)) [
  | inl lt ↦ let found = rw (lt-ltb (position_or_len is_feed text) (length text) lt) at h in absurd cc
  | inr ge ↦ omega (arith, prefix_len-le-length (λ (c : ℕ). not (is_feed c)) text)
]
