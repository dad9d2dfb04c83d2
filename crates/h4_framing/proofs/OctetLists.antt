-- Lists of octets, and parts of them.
use Rattle.std.proofs.Common.{ℕ, zero, suc, ◌+◌, ◌-◌, ◌<◌, List, [], ◌∷◌, ◌++◌, length, take, drop, refl, arith, inl, inr}
use Rattle.std.proofs.lemmas.Bool.{cases_lt}
use Rattle.std.proofs.lemmas.List.{length-take, get_or-drop, get_or-take, get_or_past, get_or_append_left, get_or-append_right}
use Rattle.std.specs.Prelude.{replicate}
use Rattle.bt_base.specs.Octets.{IsOctets}

pub IsOctets-drop : (n : ℕ) (octets : List ℕ) → IsOctets octets → IsOctets (drop n octets)
IsOctets-drop n octets fits i = rw get_or-drop (fits (n + i))

pub IsOctets-take : (n : ℕ) (octets : List ℕ) → IsOctets octets → IsOctets (take n octets)
IsOctets-take n octets fits i =
    elim (cases_lt i n) [
      | inl lt ↦ rw (get_or-take n octets i 0 lt) (fits i)
      | inr le ↦ rw (get_or_past (take n octets) i 0 (omega (arith, length-take n octets))) (omega arith)
    ]

pub IsOctets-append : (xs ys : List ℕ) → IsOctets xs → IsOctets ys → IsOctets (xs ++ ys)
IsOctets-append xs ys fits-xs fits-ys i =
    elim (cases_lt i (length xs)) [
      | inl lt ↦ rw (get_or_append_left xs ys 0 i lt) (fits-xs i)
      | inr le ↦ rw (get_or-append_right xs ys (length xs) i 0 refl le) (fits-ys (i - length xs))
    ]

pub IsOctets-front : (xs ys : List ℕ) → IsOctets (xs ++ ys) → IsOctets xs
IsOctets-front xs ys fits i =
    elim (cases_lt i (length xs)) [
      | inl lt ↦ rw (← get_or_append_left xs ys 0 i lt) (fits i)
      | inr le ↦ rw (get_or_past xs i 0 le) (omega arith)
    ]

pub IsOctets-tail : (x : ℕ) (xs : List ℕ) → IsOctets (x ∷ xs) → IsOctets xs
IsOctets-tail x xs fits i = fits (suc i)

pub IsOctets-cons : (x : ℕ) (xs : List ℕ) → x < 256 → IsOctets xs → IsOctets (x ∷ xs)
IsOctets-cons x xs lt fits zero = lt
IsOctets-cons x xs lt fits (suc i) = fits i

pub IsOctets-nil : IsOctets []
IsOctets-nil i = omega arith

pub IsOctets-zeros : (n : ℕ) → IsOctets (replicate n 0)
IsOctets-zeros zero = IsOctets-nil
IsOctets-zeros (suc n) = IsOctets-cons 0 (replicate n 0) (omega arith) (IsOctets-zeros n)
