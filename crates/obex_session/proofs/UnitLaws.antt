-- The units of a text stand in two octets each.
use Rattle.std.proofs.Common.{inl, inr, ◌⊎◌, true, ltb, ◌+◌, ◌-◌, ◌/◌, ◌%◌, ◌<◌, ◌≤◌, ◌^◌, ◌≡◌, ℕ, List, [], ◌∷◌, ◌++◌, arith}
use Rattle.std.specs.List.{AllByRecursion, flat_map}
use Rattle.std.specs.Char.Escape.{encode_utf16}
use Rattle.std.specs.Str.{chars, all_scalars}
use Rattle.std.proofs.lemmas.Bool.{and_parts, cond_both, ltb-true}
use Rattle.std.proofs.lemmas.Str.{scalars-chars}
use lib.Utf8.{scalar, scalar_cases}
use Rattle.obex_session.specs.Naming.{NamesHaveUnits}

abbrev Small : List ℕ → Type 0
Small units = AllByRecursion (λ unit. unit < 2 ^ 16) units

both_small : (a b : List ℕ) → Small a → Small b → Small (a ++ b)
both_small [] b x y = y
both_small (unit ∷ a) b x y = (x.0, both_small a b x.1 y)

below : (c : ℕ) → (c < 55296) ⊎ ((57344 ≤ c) × (c < 1114112)) → c < 1114112
below c (inl low) = omega (arith, low)
below c (inr range) = range.1

one_small : (c : ℕ) → scalar c ≡ true → Small (encode_utf16 c)
one_small c is =
    let most : c < 1114112 = below c (scalar_cases c is) in
    cond_both (ltb c 65536) (c ∷ []) ((0xD800 + (c - 65536) / 1024) ∷ (0xDC00 + (c - 65536) % 1024) ∷ []) Small (λ e. let low = ltb-true c 65536 e in (omega (arith, low), tt)) (λ e. (omega (arith, most), (omega arith, tt)))

all_small : (cs : List ℕ) → all_scalars cs ≡ true → Small (flat_map encode_utf16 cs)
all_small [] is = tt
all_small (c ∷ cs) is = let parts = and_parts (scalar c) (all_scalars cs) is in both_small (encode_utf16 c) (flat_map encode_utf16 cs) (one_small c parts.0) (all_small cs parts.1)

pub names-have_units : NamesHaveUnits
names-have_units name text = all_small (chars name) (scalars-chars name text)
