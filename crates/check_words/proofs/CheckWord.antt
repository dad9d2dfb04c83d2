-- The check word of L2CAP, a bit and an octet at a time.
use Rattle.std.proofs.Common.{◌≡◌, ℕ, suc, ◌+◌, ◌-◌, ◌/◌, ◌%◌, ◌^◌, ◌<◌, Bool, true, false, List, [], ◌∷◌, ◌++◌, length, bit_xor, refl, sym, ap, ◌∙◌, arith, append_assoc, length-append}
use Rattle.std.proofs.lemmas.List.{append-nil, length-replicate}
use Rattle.check_words.specs.Division.{added, divided, remainder, zeros}
use Rattle.check_words.specs.CheckWords.{low_bits, bits_of, l2cap_generator, l2cap_check}
use Rattle.check_words.proofs.Sums.{plus-self, added-comm, added-assoc, added-left-comm, added-append, added-cancels, zeros-added, length-added}
use Rattle.check_words.proofs.Steps.{divided-added, kept, kept_all, remainder-from, remainder-behind}
use Rattle.check_words.proofs.LowBits.{low_bits-xor, low_bits-mod, low_bits-halves, low_bits-octet}

-- the generator without its highest coefficient
abbrev pub low_part : List Bool
low_part = true ∷ (zeros 12 ++ true ∷ false ∷ true ∷ [])

-- ---- what is kept is linear too

pub interchange : (a b c d : List Bool) → added (added a b) (added c d) ≡ added (added a c) (added b d)
interchange a b c d =
    added-assoc a b (added c d) ∙ ap (added a) (added-left-comm b c d) ∙ sym (added-assoc a c (added b d))

length-behind : (n : ℕ) (bits : List Bool) → length (bits ++ zeros n) ≡ length bits + n
length-behind n bits = length-append bits (zeros n) ∙ ap (λ (k : ℕ). length bits + k) (length-replicate n false)

added-behind : (n : ℕ) (p q : List Bool) → length p ≡ length q → added (p ++ zeros n) (q ++ zeros n) ≡ added p q ++ zeros n
added-behind n p q same = added-append p q (zeros n) (zeros n) same ∙ ap (λ (xs : List Bool). added p q ++ xs) (zeros-added n (zeros n) (omega (arith, length-replicate n false)))

pub kept_all-added : (low s s' p q : List Bool) → length s ≡ length low → length s' ≡ length low → length p ≡ length q → 0 < length low
    → kept_all low (added s s') (added p q) ≡ added (kept_all low s p) (kept_all low s' q)
kept_all-added low s s' p q is is' same some =
    let d : ℕ = length low in
    let n : ℕ = length p in
    let xs : List Bool = added s (p ++ zeros d) in
    let ys : List Bool = added s' (q ++ zeros d) in
    let pq : length (added p q) ≡ length q = length-added p q (omega arith) in
    let ss : length (added s s') ≡ length s' = length-added s s' (omega arith) in
    let long : length xs ≡ n + d = length-added s (p ++ zeros d) (omega (arith, length-behind d p)) ∙ length-behind d p in
    let long' : length ys ≡ n + d = length-added s' (q ++ zeros d) (omega (arith, length-behind d q)) ∙ length-behind d q ∙ ap (λ (k : ℕ). k + d) (sym same) in
    let shape : added (added s s') (added p q ++ zeros d) ≡ added xs ys = ap (added (added s s')) (sym (added-behind d p q same)) ∙ interchange s s' (p ++ zeros d) (q ++ zeros d) in
    let all : length (added xs ys) ≡ n + d = length-added xs ys (omega arith) ∙ long' in
    let steps : length (added xs ys) - (suc d - 1) ≡ n = omega arith in
    let left : length xs - (suc d - 1) ≡ n = omega arith in
    let right : length ys - (suc d - 1) ≡ n = omega arith in
    sym (remainder-from low (added s s') (added p q) (ss ∙ is') some)
    ∙ ap (remainder (true ∷ low)) shape
    ∙ ap (λ (k : ℕ). divided (true ∷ low) k (added xs ys)) steps
    ∙ divided-added low n xs ys (omega arith) (omega arith)
    ∙ ap (λ (k : ℕ). added (divided (true ∷ low) k xs) (divided (true ∷ low) n ys)) (sym left)
    ∙ ap (λ (k : ℕ). added (remainder (true ∷ low) xs) (divided (true ∷ low) k ys)) (sym right)
    ∙ ap (λ (w : List Bool). added w (remainder (true ∷ low) ys)) (remainder-from low s p is some)
    ∙ ap (added (kept_all low s p)) (remainder-from low s' q is' some)

-- bits that stand at the front of the kept ones as well are taken away
pub kept_all-same : (low p rest : List Bool) → kept_all low (p ++ rest) p ≡ rest ++ zeros (length p)
unfolding kept kept_all
kept_all-same low [] rest = sym (append-nil rest)
kept_all-same low (x ∷ p) rest =
    rw (plus-self x)
    (ap (λ (s : List Bool). kept_all low s p) (append_assoc p rest (false ∷ [])) ∙ kept_all-same low p (rest ++ false ∷ []) ∙ append_assoc rest (false ∷ []) (zeros (length p)))

-- so many bits may be added to the kept ones at once
pub kept_all-front : (low front rest bits : List Bool) → length front ≡ length bits → length (front ++ rest) ≡ length low → 0 < length low
    → kept_all low (front ++ rest) bits ≡ added (rest ++ zeros (length bits)) (kept_all low (zeros (length low)) (added front bits))
kept_all-front low front rest bits same size some =
    let d : ℕ = length low in
    let state : added (zeros d) (front ++ rest) ≡ front ++ rest = zeros-added d (front ++ rest) (omega arith) in
    let again : added (added front bits) front ≡ bits = added-comm (added front bits) front ∙ added-cancels front bits (omega arith) in
    let sums : length (added front bits) ≡ length bits = length-added front bits (omega arith) in
    ap (λ (s : List Bool). kept_all low s bits) (sym state)
    ∙ ap (kept_all low (added (zeros d) (front ++ rest))) (sym again)
    ∙ kept_all-added low (zeros d) (front ++ rest) (added front bits) front (length-replicate d false) size (sums ∙ sym same) some
    ∙ ap (added (kept_all low (zeros d) (added front bits))) (kept_all-same low front rest ∙ ap (λ (k : ℕ). rest ++ zeros k) same)
    ∙ added-comm (kept_all low (zeros d) (added front bits)) (rest ++ zeros (length bits))

-- ---- octets

pub check_is_kept : (octets : List ℕ) → l2cap_check octets ≡ kept_all low_part (zeros 16) (bits_of octets)
check_is_kept octets = remainder-behind low_part (bits_of octets) (omega arith)

-- one octet more, by the check word of a single octet
pub octet_more : (word octet entry : ℕ) → word < 2 ^ 16
    → low_bits 16 entry ≡ l2cap_check (bit_xor (word % 256) octet ∷ [])
    → low_bits 16 (bit_xor (word / 256) entry) ≡ remainder l2cap_generator (added (low_bits 16 word) (low_bits 8 octet ++ zeros 16))
unfolding low_bits
octet_more word octet entry small is =
    let front : List Bool = low_bits 8 word in
    let rest : List Bool = low_bits 8 (word / 256) in
    let bits : List Bool = low_bits 8 octet in
    let mixed : low_bits 8 (bit_xor (word % 256) octet) ≡ added front bits = low_bits-xor 8 (word % 256) octet ∙ ap (λ (w : List Bool). added w bits) (low_bits-mod 8 word) in
    let single : low_bits 16 entry ≡ kept_all low_part (zeros 16) (added front bits) =
    is ∙ check_is_kept (bit_xor (word % 256) octet ∷ []) ∙ ap (kept_all low_part (zeros 16)) (append-nil (low_bits 8 (bit_xor (word % 256) octet)) ∙ mixed) in
    low_bits-xor 16 (word / 256) entry
    ∙ ap (λ (w : List Bool). added w (low_bits 16 entry)) (low_bits-octet (word / 256) (omega arith))
    ∙ ap (added (rest ++ zeros 8)) single
    ∙ sym (kept_all-front low_part front rest bits refl refl (omega arith))
    ∙ sym (remainder-from low_part (front ++ rest) bits refl (omega arith))
    ∙ ap (λ (w : List Bool). remainder l2cap_generator (added w (bits ++ zeros 16))) (sym (low_bits-halves word))
