-- How an SDU is cut into segments (Core 5.1, Volume 3 Part A, 3.3.2 and 7.3).
use Rattle.std.specs.Prelude.{ℕ, ◌≡◌, ◌⊎◌, List, [], ◌∷◌, ◌++◌, length, map}
use Rattle.std.specs.List.{flat_map}

-- what an I-frame carries of an SDU: SAR, the length that a start states, the octets
pub record Segment : Type 0 where
  pub sar : ℕ
  pub total : ℕ
  pub octets : List ℕ

-- an SDU whole (SAR 0), its start (1), its end (2), what continues it (3)
abbrev pub whole : List ℕ → Segment
whole octets = record { sar = 0; total = 0; octets = octets }

abbrev pub start : ℕ → List ℕ → Segment
start total octets = record { sar = 1; total = total; octets = octets }

abbrev pub end : List ℕ → Segment
end octets = record { sar = 2; total = 0; octets = octets }

abbrev pub continuation : List ℕ → Segment
continuation octets = record { sar = 3; total = 0; octets = octets }

-- a start that states the SDU's length, continuations, and an end, whose octets joined are the SDU
pub record IsCut (segments : List Segment) (sdu : List ℕ) : Type 0 where
  pub first : List ℕ
  pub inner : List (List ℕ)
  pub last : List ℕ
  pub parts : segments ≡ start (length sdu) first ∷ (map continuation inner ++ end last ∷ [])
  pub joined : sdu ≡ first ++ (flat_map (λ octets. octets) inner ++ last)

-- the segments, in their order, are those of the SDU
abbrev pub SpellsSdu : List Segment → List ℕ → Type 0
SpellsSdu segments sdu = (segments ≡ whole sdu ∷ []) ⊎ IsCut segments sdu

-- the segments, in their order, are those of the SDUs, one after the other
abbrev pub SpellSdus : List Segment → List (List ℕ) → Type 0
SpellSdus segments [] = segments ≡ []
SpellSdus segments (sdu ∷ sdus) = (own : List Segment) × (behind : List Segment) × (segments ≡ own ++ behind) × SpellsSdu own sdu × SpellSdus behind sdus
