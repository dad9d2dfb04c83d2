-- The draws of a number (this project's own). The generator is linear congruential, with the multiplier and the
-- increment of the example of `rand` in ISO/IEC 9899:1990, 7.10.2.2, and the modulus 2^31.
use Rattle.std.specs.Prelude.{ℕ, ◌+◌, ◌*◌, ◌/◌, ◌%◌}

-- the state that a number begins with
abbrev pub first_state : ℕ → ℕ
first_state number = number % 2147483648

-- the state behind another
abbrev pub next_state : ℕ → ℕ
next_state state = (1103515245 * state + 12345) % 2147483648

-- what is drawn at a state: its upper bits
abbrev pub drawn : ℕ → ℕ
drawn state = state / 65536
