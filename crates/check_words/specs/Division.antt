-- Polynomials whose coefficients are bits: a list has the coefficients, the highest power first.
use Rattle.std.specs.Prelude.{ℕ, zero, suc, ◌-◌, Bool, true, false, not, List, [], ◌∷◌, length, drop, replicate}

-- the sum of two bits
abbrev pub plus : Bool → Bool → Bool
plus true b = not b
plus false b = b

-- bit by bit the sum of two lists, from their fronts on; what only the longer one has stays as it is
unfoldable pub added : List Bool → List Bool → List Bool
added [] ys = ys
added (x ∷ xs) [] = x ∷ xs
added (x ∷ xs) (y ∷ ys) = plus x y ∷ added xs ys

-- One step of a long division. Where the highest bit is 1 the divisor is taken away at the front (bits are
-- taken away as they are added); then the highest bit is 0, and falls away.
unfoldable pub reduced : List Bool → List Bool → List Bool
reduced divisor [] = []
reduced divisor (true ∷ bits) = drop 1 (added divisor (true ∷ bits))
reduced divisor (false ∷ bits) = bits

-- so many steps
unfoldable pub divided : List Bool → ℕ → List Bool → List Bool
divided divisor zero bits = bits
divided divisor (suc steps) bits = divided divisor steps (reduced divisor bits)

-- the power of the highest coefficient
abbrev pub degree : List Bool → ℕ
degree divisor = length divisor - 1

-- what a long division leaves: as many bits as the divisor's degree, where there were as many
abbrev pub remainder : List Bool → List Bool → List Bool
remainder divisor bits = divided divisor (length bits - degree divisor) bits

abbrev pub zeros : ℕ → List Bool
zeros count = replicate count false
