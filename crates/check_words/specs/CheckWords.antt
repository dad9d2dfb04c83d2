-- The check words of L2CAP and of RFCOMM.
use Rattle.std.specs.Prelude.{ℕ, zero, suc, ◌/◌, ◌%◌, ◌≡◌, Bool, true, false, not, ◌==◌, List, [], ◌∷◌, ◌++◌, map, replicate}
use Rattle.std.specs.List.{flat_map}
use Rattle.check_words.specs.Division.{added, remainder, zeros}

-- the low bits of a number, the lowest first
unfoldable pub low_bits : ℕ → ℕ → List Bool
low_bits zero n = []
low_bits (suc count) n = (n % 2 == 1) ∷ low_bits count (n / 2)

-- octets in the order of their bits on the air: of each the lowest bit first (Core 5.1, Volume 2 Part B, 6.2)
abbrev pub bits_of : List ℕ → List Bool
bits_of octets = flat_map (low_bits 8) octets

-- words of 64 bits in the order of the air, of each the lowest bit first
abbrev pub bits_of_words : List ℕ → List Bool
bits_of_words words = flat_map (low_bits 64) words

-- D^16 + D^15 + D^2 + 1 (Core 5.1, Volume 3 Part A, 3.3.5)
abbrev pub l2cap_generator : List Bool
l2cap_generator = true ∷ true ∷ (zeros 12 ++ true ∷ false ∷ true ∷ [])

-- x^8 + x^2 + x + 1 (TS 07.10, 5.2.1.6 and Annex B)
abbrev pub rfcomm_generator : List Bool
rfcomm_generator = true ∷ (zeros 5 ++ true ∷ true ∷ true ∷ [])

-- The sixteen bits of the check word of L2CAP over octets, in the order of the air: what their division leaves
-- with sixteen zeros behind them (Core 5.1, Volume 3 Part A, 3.3.5).
abbrev pub l2cap_check : List ℕ → List Bool
l2cap_check octets = remainder l2cap_generator (bits_of octets ++ zeros 16)

-- the octets, their check word included, leave nothing: the check word holds
abbrev pub L2capCheckHolds : List ℕ → Type 0
L2capCheckHolds octets = remainder l2cap_generator (bits_of octets) ≡ zeros 16

-- what the division by the generator of RFCOMM leaves of octets with eight zeros behind them and their first eight
-- bits inverted (TS 07.10, Annex B)
abbrev pub rfcomm_rest : List ℕ → List Bool
rfcomm_rest octets = remainder rfcomm_generator (added (replicate 8 true) (bits_of octets ++ zeros 8))

-- the eight bits of the check word of RFCOMM over octets, in the order of the air: the complement of what is left
abbrev pub rfcomm_check : List ℕ → List Bool
rfcomm_check octets = map not (rfcomm_rest octets)

-- the word is the check word of RFCOMM over the octets: it holds
abbrev pub RfcommCheckHolds : List ℕ → ℕ → Type 0
RfcommCheckHolds octets word = low_bits 8 word ≡ rfcomm_check octets
