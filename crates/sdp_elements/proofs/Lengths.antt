-- The lengths of content.
use Rattle.std.proofs.Common.{◌≡◌, ℕ, zero, suc, ◌-◌, ◌≤◌, true, List, length, take, drop, refl, arith, inl, inr}
use Rattle.std.proofs.lemmas.Bool.Decides.{nat_tests}
use Rattle.std.proofs.lemmas.List.{length-take, length-drop}
use Rattle.sdp_elements.specs.declared.header.Kind.{Kind}
use Rattle.sdp_elements.specs.declared.header.Kind.TheVariants.{Nil, Unsigned, Signed, Uuid, Text, Boolean, Sequence, Alternative, Url}
use Rattle.sdp_elements.specs.Headers.{has_index, content_len, HasLength}

pub has_length : (kind : Kind) (index : ℕ) (octets : List ℕ) → has_index kind index ≡ true → HasLength kind (content_len kind index octets)
has_length Nil zero octets h = refl
has_length Nil (suc n) octets h = absurd (grind (arith, nat_tests))
has_length Boolean zero octets h = refl
has_length Boolean (suc n) octets h = absurd (grind (arith, nat_tests))
has_length Unsigned zero octets h = (omega arith, omega arith)
has_length Unsigned (suc zero) octets h = (omega arith, omega arith)
has_length Unsigned (suc (suc zero)) octets h = (omega arith, omega arith)
has_length Unsigned (suc (suc (suc zero))) octets h = (omega arith, omega arith)
has_length Unsigned (suc (suc (suc (suc zero)))) octets h = (omega arith, omega arith)
has_length Unsigned (suc (suc (suc (suc (suc n))))) octets h = absurd (grind (arith, nat_tests))
has_length Signed zero octets h = (omega arith, omega arith)
has_length Signed (suc zero) octets h = (omega arith, omega arith)
has_length Signed (suc (suc zero)) octets h = (omega arith, omega arith)
has_length Signed (suc (suc (suc zero))) octets h = (omega arith, omega arith)
has_length Signed (suc (suc (suc (suc zero)))) octets h = (omega arith, omega arith)
has_length Signed (suc (suc (suc (suc (suc n))))) octets h = absurd (grind (arith, nat_tests))
has_length Uuid zero octets h = absurd cc
has_length Uuid (suc zero) octets h = inl refl
has_length Uuid (suc (suc zero)) octets h = inr (inl refl)
has_length Uuid (suc (suc (suc zero))) octets h = absurd cc
has_length Uuid (suc (suc (suc (suc zero)))) octets h = inr (inr refl)
has_length Uuid (suc (suc (suc (suc (suc n))))) octets h = absurd (grind (arith, nat_tests))
has_length Text index octets h = tt
has_length Sequence index octets h = tt
has_length Alternative index octets h = tt
has_length Url index octets h = tt

-- how many octets stand between two places
pub length-between : (from end : ℕ) (octets : List ℕ) → from ≤ end → end ≤ length octets → length (take (end - from) (drop from octets)) ≡ end - from
length-between from end octets h k = omega (arith, length-take (end - from) (drop from octets), length-drop from octets)
