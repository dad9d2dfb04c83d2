-- Long division by steps: it is linear, and all that it keeps of bits that it is through with are as many bits as
-- its degree.
use Rattle.std.proofs.Common.{◌≡◌, ℕ, zero, suc, ◌+◌, ◌-◌, ◌<◌, ◌≤◌, Bool, true, false, cond, List, [], ◌∷◌, ◌++◌, length, refl, sym, ap, ◌∙◌, arith, length-append}
use Rattle.std.proofs.lemmas.List.{length-replicate}
use Rattle.check_words.specs.Division.{plus, added, reduced, divided, remainder, zeros}
use Rattle.check_words.proofs.Sums.{added-comm, added-assoc, added-left-comm, added-twice, length-added, added-padded, zeros-added}

-- ---- it is linear

reduced-added : (low xs ys : List Bool) → length xs ≡ length ys → length low < length xs
    → reduced (true ∷ low) (added xs ys) ≡ added (reduced (true ∷ low) xs) (reduced (true ∷ low) ys)
unfolding added reduced
reduced-added low [] ys same long = absurd (omega arith)
reduced-added low (x ∷ xs) [] same long = absurd (omega arith)
reduced-added low (false ∷ xs) (false ∷ ys) same long = refl
reduced-added low (true ∷ xs) (false ∷ ys) same long = sym (added-assoc low xs ys)
reduced-added low (false ∷ xs) (true ∷ ys) same long = added-left-comm low xs ys
reduced-added low (true ∷ xs) (true ∷ ys) same long =
    let e : length xs ≡ length ys = omega arith in
    sym (added-twice low xs ys (omega (arith, length-added xs ys (omega arith))))

length-reduced : (low xs : List Bool) → length low < length xs → suc (length (reduced (true ∷ low) xs)) ≡ length xs
unfolding added reduced
length-reduced low [] long = absurd (omega arith)
length-reduced low (false ∷ xs) long = refl
length-reduced low (true ∷ xs) long = ap suc (length-added low xs (omega arith))

pub divided-added : (low : List Bool) (n : ℕ) (xs ys : List Bool) → length xs ≡ length ys → n + length low ≤ length xs
    → divided (true ∷ low) n (added xs ys) ≡ added (divided (true ∷ low) n xs) (divided (true ∷ low) n ys)
unfolding divided
divided-added low zero xs ys same long = refl
divided-added low (suc n) xs ys same long =
    ap (divided (true ∷ low) n) (reduced-added low xs ys same (omega arith))
    ∙ (let left : suc (length (reduced (true ∷ low) xs)) ≡ length xs = length-reduced low xs (omega arith) in
    let right : suc (length (reduced (true ∷ low) ys)) ≡ length ys = length-reduced low ys (omega arith) in
    divided-added low n (reduced (true ∷ low) xs) (reduced (true ∷ low) ys) (omega arith) (omega arith))

pub length-divided : (low : List Bool) (n : ℕ) (xs : List Bool) → n + length low ≤ length xs → n + length (divided (true ∷ low) n xs) ≡ length xs
unfolding divided
length-divided low zero xs long = omega arith
length-divided low (suc n) xs long =
    let one : suc (length (reduced (true ∷ low) xs)) ≡ length xs = length-reduced low xs (omega arith) in
    omega (arith, length-divided low n (reduced (true ∷ low) xs) (omega arith))

-- ---- what it keeps of the bits that it is through with

-- the kept bits after one bit more
unfoldable pub kept : List Bool → List Bool → Bool → List Bool
kept low [] bit = []
kept low (x ∷ xs) bit = cond (plus x bit) (added low (xs ++ false ∷ [])) (xs ++ false ∷ [])

unfoldable pub kept_all : List Bool → List Bool → List Bool → List Bool
kept_all low state [] = state
kept_all low state (bit ∷ bits) = kept_all low (kept low state bit) bits

length-snoc : (xs : List Bool) → length (xs ++ false ∷ []) ≡ suc (length xs)
length-snoc xs = simp length-append (omega arith)

pub length-kept : (low state : List Bool) (bit : Bool) → length state ≡ length low → length (kept low state bit) ≡ length low
unfolding kept
length-kept low [] bit same = same
length-kept low (x ∷ xs) bit same =
    let snoc : length (xs ++ false ∷ []) ≡ length low = length-snoc xs ∙ same in
    elim (plus x bit) as (λ b. length (cond b (added low (xs ++ false ∷ [])) (xs ++ false ∷ [])) ≡ length low)
    [ true ↦ length-added low (xs ++ false ∷ []) (omega arith) ∙ snoc | false ↦ snoc ]

pub length-kept_all : (low state bits : List Bool) → length state ≡ length low → length (kept_all low state bits) ≡ length low
unfolding kept_all
length-kept_all low state [] same = same
length-kept_all low state (bit ∷ bits) same = length-kept_all low (kept low state bit) bits (length-kept low state bit same)

kept-reduced : (low state : List Bool) (bit : Bool) (bits : List Bool) → length state ≡ length low → length low ≤ length bits → 0 < length low
    → reduced (true ∷ low) (added state (bit ∷ bits)) ≡ added (kept low state bit) bits
unfolding added reduced kept
kept-reduced low [] bit bits same long some = absurd (omega arith)
kept-reduced low (x ∷ xs) bit bits same long some =
    elim (plus x bit) as (λ b. reduced (true ∷ low) (b ∷ added xs bits) ≡ added (cond b (added low (xs ++ false ∷ [])) (xs ++ false ∷ [])) bits) [
      | true ↦ ap (added low) (sym (added-padded xs bits (omega arith))) ∙ sym (added-assoc low (xs ++ false ∷ []) bits)
      | false ↦ sym (added-padded xs bits (omega arith))
    ]

-- with so many bits done, the kept bits stand added to the front of the others
pub divided-kept : (low state bits behind : List Bool) → length state ≡ length low → length low ≤ length behind → 0 < length low
    → divided (true ∷ low) (length bits) (added state (bits ++ behind)) ≡ added (kept_all low state bits) behind
unfolding divided kept_all
divided-kept low state [] behind same long some = refl
divided-kept low state (bit ∷ bits) behind same long some =
    let room : length low ≤ length (bits ++ behind) = omega (arith, length-append bits behind) in
    ap (divided (true ∷ low) (length bits)) (kept-reduced low state bit (bits ++ behind) same room some)
    ∙ divided-kept low (kept low state bit) bits behind (length-kept low state bit same) long some

-- the remainder of bits in front of as many as the degree
pub remainder-kept : (low bits end : List Bool) → length end ≡ length low → 0 < length low
    → remainder (true ∷ low) (bits ++ end) ≡ added (kept_all low (zeros (length low)) bits) end
remainder-kept low bits end same some =
    let steps : length (bits ++ end) - (suc (length low) - 1) ≡ length bits = omega (arith, length-append bits end) in
    let whole : added (zeros (length low)) (bits ++ end) ≡ bits ++ end = zeros-added (length low) (bits ++ end) (omega (arith, length-append bits end)) in
    ap (λ (n : ℕ). divided (true ∷ low) n (bits ++ end)) steps
    ∙ ap (divided (true ∷ low) (length bits)) (sym whole)
    ∙ divided-kept low (zeros (length low)) bits end (length-replicate (length low) false) (omega arith) some

-- and with kept bits in front
pub remainder-from : (low state bits : List Bool) → length state ≡ length low → 0 < length low
    → remainder (true ∷ low) (added state (bits ++ zeros (length low))) ≡ kept_all low state bits
remainder-from low state bits same some =
    let n : ℕ = length low in
    let size : length (zeros n) ≡ n = length-replicate n false in
    let all : length (bits ++ zeros n) ≡ length bits + n = length-append bits (zeros n) ∙ ap (λ (k : ℕ). length bits + k) size in
    let sums : length (added state (bits ++ zeros n)) ≡ length (bits ++ zeros n) = length-added state (bits ++ zeros n) (omega arith) in
    let steps : length (added state (bits ++ zeros n)) - (suc n - 1) ≡ length bits = omega arith in
    ap (λ (k : ℕ). divided (true ∷ low) k (added state (bits ++ zeros n))) steps
    ∙ divided-kept low state bits (zeros n) same (omega arith) some
    ∙ added-comm (kept_all low state bits) (zeros n)
    ∙ zeros-added n (kept_all low state bits) (omega (arith, length-kept_all low state bits same))

pub kept_all-append : (low state bits more : List Bool) → kept_all low state (bits ++ more) ≡ kept_all low (kept_all low state bits) more
unfolding kept_all
kept_all-append low state [] more = refl
kept_all-append low state (bit ∷ bits) more = kept_all-append low (kept low state bit) bits more

-- bits with zeros behind them, from no kept bits on
pub remainder-behind : (low bits : List Bool) → 0 < length low → remainder (true ∷ low) (bits ++ zeros (length low)) ≡ kept_all low (zeros (length low)) bits
remainder-behind low bits some =
    let n : ℕ = length low in
    let size : length (zeros n) ≡ n = length-replicate n false in
    ap (remainder (true ∷ low)) (sym (zeros-added n (bits ++ zeros n) (omega (arith, length-append bits (zeros n)))))
    ∙ remainder-from low (zeros n) bits size some
