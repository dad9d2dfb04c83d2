-- Numbers modulo 64.
use Rattle.std.proofs.Common.{ℕ, ◌≡◌, ◌+◌, ◌-◌, ◌%◌, ◌<◌, ◌≤◌, zero, suc, refl, arith}
use Rattle.ertm_model.specs.Hearing.{past}

pub past-up : (a x : ℕ) → a ≤ x → x < a + 64 → past (a % 64) (x % 64) ≡ x - a
past-up a x le lt = omega arith

pub past-down : (c n : ℕ) → n < c → c ≤ n + 63 → past (c % 64) (n % 64) ≡ n + 64 - c
past-down c n lt le = omega arith

pub past-below : (a x : ℕ) → past a x < 64
past-below a x = omega arith

pub add-on : (a k : ℕ) → (a % 64 + k) % 64 ≡ (a + k) % 64
add-on a k = omega arith

-- how two numbers stand to one another
pub data Order (n c : ℕ) : Type 0 where
  below : n < c → Order n c
  equal : n ≡ c → Order n c
  above : c < n → Order n c

order_suc : {n c : ℕ} → Order n c → Order (suc n) (suc c)
order_suc (below h) = below (omega arith)
order_suc (equal h) = equal (omega arith)
order_suc (above h) = above (omega arith)

pub order : (n c : ℕ) → Order n c
order zero zero = equal refl
order zero (suc c) = below (omega arith)
order (suc n) zero = above (omega arith)
order (suc n) (suc c) = order_suc (order n c)
