-- The register that Annex B of TS 07.10 draws, for a check word of eight bits with its lowest bit first.
use Rattle.std.specs.Prelude.{ℕ, zero, suc, ◌/◌, ◌%◌, bit_xor, ◌==◌, if◌then◌else◌}

-- The register after so many bits. All move down by one place; where the bit that falls out is 1 the divisor is
-- taken away, of which 0xE0 has the coefficients of x^0, x^1 and x^2.
abbrev pub register_after : ℕ → ℕ → ℕ
register_after zero register = register
register_after (suc bits) register = register_after bits (if register % 2 == 1 then bit_xor (register / 2) 0xE0 else register / 2)
