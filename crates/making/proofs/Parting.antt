-- A text is parted at the first of its octets that passes a test.
use Rattle.std.proofs.Common.{◌≡◌, ℕ, ◌+◌, Bool, List, [], length, None, sym, arith, inl, inr}
use Rattle.std.proofs.lemmas.Bool.{cases_lt, lt-ltb}
use Rattle.std.proofs.lemmas.List.{take_all, drop_all}
use Rattle.std.proofs.lemmas.List.Sums.{prefix_len-le-length}
use Rattle.std.specs.Prelude.{not}
use Rattle.std.specs.List.{position, position_or_len, before_first, after_first}

-- where none passes, the place is the text's end
none_passes : (p : ℕ → Bool) (text : List ℕ) → None ≡ position p text → position_or_len p text ≡ length text
none_passes p text h = elim (cases_lt (position_or_len p text) (length text)) [
  | inl lt ↦ let found = rw (lt-ltb (position_or_len p text) (length text) lt) at h in absurd cc
  | inr ge ↦ omega (arith, prefix_len-le-length (λ (c : ℕ). not (p c)) text)
]

-- then all stands before it, and nothing behind
pub all_before : (p : ℕ → Bool) (text : List ℕ) → None ≡ position p text → text ≡ before_first p text
all_before p text h = sym (take_all (position_or_len p text) text (omega (arith, none_passes p text h)))

pub none_behind : (p : ℕ → Bool) (text : List ℕ) → None ≡ position p text → [] ≡ after_first p text
none_behind p text h = sym (drop_all (position_or_len p text + 1) text (omega (arith, none_passes p text h)))
