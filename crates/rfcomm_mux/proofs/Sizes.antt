-- How many octets a control message has.
use Rattle.std.proofs.Common.{◌≡◌, ℕ, ◌<◌, ◌≤◌, length, true, false, inl, inr, refl, arith, length-append}
use Rattle.std.specs.Prelude.{nat_le}
use Rattle.std.proofs.lemmas.Bool.{cases_lt, lt-ltb, le-ltb, le-leb, lt-leb}
use Rattle.rfcomm_frames.specs.Lengths.{shortest}
use Rattle.rfcomm_frames.specs.Controls.{PlainControl, value_of, written}

short_length : (n : ℕ) → n ≤ 38 → length (shortest n) ≡ 1
short_length n small = let less : n < 128 = omega arith in rw (lt-ltb n 128 less) refl

pub short_value : (control : PlainControl) → length (value_of control) ≤ 38 → nat_le (length (written control)) 40 ≡ true
short_value control small =
    let one = short_length (length (value_of control)) small in
    let size : length (written control) ≤ 40 = omega (arith, one, length-append (shortest (length (value_of control))) (value_of control)) in
    le-leb (length (written control)) 40 size

some_length : (n : ℕ) → 1 ≤ length (shortest n)
some_length n =
    elim (cases_lt n 128) [
      | inl less ↦ let e : length (shortest n) ≡ 1 = rw (lt-ltb n 128 less) refl in omega arith
      | inr more ↦ let e : length (shortest n) ≡ 2 = rw (le-ltb n 128 more) refl in omega arith
    ]

pub long_value : (control : PlainControl) → 38 < length (value_of control) → nat_le (length (written control)) 40 ≡ false
long_value control long =
    let some = some_length (length (value_of control)) in
    let size : 40 < length (written control) = omega (arith, some, length-append (shortest (length (value_of control))) (value_of control)) in
    lt-leb (length (written control)) 40 size
