-- Each value of the table of RFCOMM is what the division of its octet leaves.
use Rattle.std.proofs.Common.{◌≡◌, ℕ, ◌<◌, Bool, true, ◌==◌, [], ◌∷◌, ◌++◌, get_or, refl}
use Rattle.std.proofs.lemmas.Bool.{eqb-true, agree_below, agree_below_at}
use Rattle.check_words.specs.Division.{added, reduced, divided, remainder, zeros}
use Rattle.check_words.specs.CheckWords.{low_bits, bits_of, rfcomm_generator}
use Rattle.check_words.specs.Register.{register_after}
use Rattle.check_words.specs.declared.rfcomm_table.TheConstants.{RESTS}
use Rattle.check_words.proofs.TableValues.{same_bits, same_bits-true}

is_right : ℕ → Bool
is_right octet = same_bits (low_bits 8 (get_or RESTS octet 0)) (remainder rfcomm_generator (bits_of (octet ∷ []) ++ zeros 8))

all_right : agree_below is_right (λ k. true) 256 ≡ true
unfolding is_right same_bits added reduced divided low_bits
all_right = refl

pub rest_is : (octet : ℕ) → octet < 256 → low_bits 8 (get_or RESTS octet 0) ≡ remainder rfcomm_generator (bits_of (octet ∷ []) ++ zeros 8)
unfolding is_right
rest_is octet small =
    same_bits-true (low_bits 8 (get_or RESTS octet 0)) (remainder rfcomm_generator (bits_of (octet ∷ []) ++ zeros 8)) (agree_below_at is_right (λ k. true) 256 octet all_right small)

is_register : ℕ → Bool
is_register octet = get_or RESTS octet 0 == register_after 8 octet

all_register : agree_below is_register (λ k. true) 256 ≡ true
unfolding is_register
all_register = refl

pub register_is : (octet : ℕ) → octet < 256 → get_or RESTS octet 0 ≡ register_after 8 octet
unfolding is_register
register_is octet small = eqb-true (get_or RESTS octet 0) (register_after 8 octet) (agree_below_at is_register (λ k. true) 256 octet all_register small)
