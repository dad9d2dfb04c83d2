-- Octets written one part after the other, and parts of octets put together again.
use Rattle.std.proofs.Common.{◌≡◌, ℕ, ◌+◌, ◌*◌, ◌/◌, ◌%◌, ◌<◌, ◌≤◌, List, [], ◌∷◌, ◌++◌, length, take, drop, refl, sym, ap, ◌∙◌, append_assoc, length-append, arith}
use Rattle.std.proofs.lemmas.List.{take_at, take_all, take-append-drop, drop-drop, length-drop}
use Rattle.std.proofs.Math.Seq.{drop-append-add, take-add}
use Rattle.btsnoop.specs.Writing.{Writes}

pub writes_none : (origin : List ℕ) → Writes origin origin 0 []
writes_none origin = (refl, refl)

-- one part more, which is known to be these octets
pub writes_more : (origin old new front octets known : List ℕ) (at end : ℕ) → Writes origin old at front → end ≡ at + length octets
    → new ≡ take at old ++ (octets ++ drop (at + length octets) old) → octets ≡ known → Writes origin new end (front ++ known)
writes_more origin old new front octets known at end so_far end-is new-is is =
    let n : at ≡ length front = so_far.0 in
    let kept : take at old ≡ front = ap (take at) so_far.1 ∙ take_at front (drop (length front) origin) at (sym n) in
    let after : drop (at + length octets) old ≡ drop (length front + length octets) origin =
    ap (λ (k : ℕ). drop (k + length octets) old) n
    ∙ ap (drop (length front + length octets)) so_far.1
    ∙ drop-append-add front (drop (length front) origin) (length octets)
    ∙ drop-drop (length octets) (length front) origin in
    let size : length octets ≡ length known = ap length is in
    let count : end ≡ length (front ++ known) = omega (arith, length-append front known) in
    let whole : new ≡ front ++ (octets ++ drop (length front + length octets) origin) = rw (new-is, kept, after) refl in
    let there : length front + length octets ≡ length (front ++ known) = omega (arith, length-append front known) in
    (count, whole ∙ ap (λ (xs : List ℕ). front ++ (xs ++ drop (length front + length octets) origin)) is ∙ sym (append_assoc front known (drop (length front + length octets) origin)) ∙ ap (λ (k : ℕ). (front ++ known) ++ drop k origin) there)

pub three_parts : (a b c : List ℕ) → (a ++ b) ++ c ≡ a ++ (b ++ c)
three_parts a b c = append_assoc a b c

pub six_parts : (a b c d e f : List ℕ) → ((((a ++ b) ++ c) ++ d) ++ e) ++ f ≡ a ++ (b ++ (c ++ (d ++ (e ++ f))))
six_parts a b c d e f = simp append_assoc

-- a part, and what stands behind it
-- one known part more behind others
part_added : (t old new front part known : List ℕ) → old ≡ t ++ front → new ≡ old ++ part → part ≡ known → new ≡ t ++ (front ++ known)
part_added t old new front part known so_far more is = more ∙ ap (λ (xs : List ℕ). xs ++ part) so_far ∙ ap (λ (xs : List ℕ). (t ++ front) ++ xs) is ∙ append_assoc t front known

-- six parts added one after the other, of which five are known
pub six_added : (t t1 t2 t3 t4 t5 t6 a a' b b' d d' e e' f f' g : List ℕ) → t1 ≡ t ++ a → a ≡ a' → t2 ≡ t1 ++ b → b ≡ b' → t3 ≡ t2 ++ d → d ≡ d' → t4 ≡ t3 ++ e → e ≡ e' → t5 ≡ t4 ++ f → f ≡ f' → t6 ≡ t5 ++ g
    → t6 ≡ t ++ (a' ++ (b' ++ (d' ++ (e' ++ (f' ++ g)))))
six_added t t1 t2 t3 t4 t5 t6 a a' b b' d d' e e' f f' g p1 q1 p2 q2 p3 q3 p4 q4 p5 q5 p6 =
    let s1 : t1 ≡ t ++ a' = p1 ∙ ap (λ (xs : List ℕ). t ++ xs) q1 in
    let s2 = part_added t t1 t2 a' b b' s1 p2 q2 in
    let s3 = part_added t t2 t3 (a' ++ b') d d' s2 p3 q3 in
    let s4 = part_added t t3 t4 ((a' ++ b') ++ d') e e' s3 p4 q4 in
    let s5 = part_added t t4 t5 (((a' ++ b') ++ d') ++ e') f f' s4 p5 q5 in
    let s6 = part_added t t5 t6 ((((a' ++ b') ++ d') ++ e') ++ f') g g s5 p6 refl in
    s6 ∙ ap (λ (xs : List ℕ). t ++ xs) (six_parts a' b' d' e' f' g)

pub next_part : (a p : ℕ) (xs : List ℕ) → take a (drop p xs) ++ drop (p + a) xs ≡ drop p xs
next_part a p xs = ap (λ (t : List ℕ). take a (drop p xs) ++ t) (sym (drop-drop a p xs)) ∙ take-append-drop a (drop p xs)

-- two parts that stand side by side
pub joined : (a b p : ℕ) (xs : List ℕ) → take a (drop p xs) ++ take b (drop (p + a) xs) ≡ take (a + b) (drop p xs)
joined a b p xs = ap (λ (t : List ℕ). take a (drop p xs) ++ take b t) (sym (drop-drop a p xs)) ∙ sym (take-add a b (drop p xs))

-- the fields of a file header
pub header_parts : (xs : List ℕ) → take 8 xs ++ (take 4 (drop 8 xs) ++ take 4 (drop 12 xs)) ≡ take 16 xs
header_parts xs =
    let back : take 4 (drop 8 xs) ++ take 4 (drop 12 xs) ≡ take 8 (drop 8 xs) = joined 4 4 8 xs in
    ap (λ (t : List ℕ). take 8 xs ++ t) back ∙ joined 8 8 0 xs

-- the fields of a record and its octets
pub record_parts : (n : ℕ) (xs : List ℕ) → length xs ≡ 24 + n → take 4 xs ++ (take 4 (drop 4 xs) ++ (take 4 (drop 8 xs) ++ (take 4 (drop 12 xs) ++ (take 8 (drop 16 xs) ++ take n (drop 24 xs))))) ≡ xs
record_parts n xs size =
    let rest : take n (drop 24 xs) ≡ drop 24 xs = take_all n (drop 24 xs) (omega (arith, length-drop 24 xs)) in
    let e : take 8 (drop 16 xs) ++ take n (drop 24 xs) ≡ drop 16 xs = ap (λ (t : List ℕ). take 8 (drop 16 xs) ++ t) rest ∙ next_part 8 16 xs in
    let d : take 4 (drop 12 xs) ++ (take 8 (drop 16 xs) ++ take n (drop 24 xs)) ≡ drop 12 xs = ap (λ (t : List ℕ). take 4 (drop 12 xs) ++ t) e ∙ next_part 4 12 xs in
    let c : take 4 (drop 8 xs) ++ (take 4 (drop 12 xs) ++ (take 8 (drop 16 xs) ++ take n (drop 24 xs))) ≡ drop 8 xs = ap (λ (t : List ℕ). take 4 (drop 8 xs) ++ t) d ∙ next_part 4 8 xs in
    let b : take 4 (drop 4 xs) ++ (take 4 (drop 8 xs) ++ (take 4 (drop 12 xs) ++ (take 8 (drop 16 xs) ++ take n (drop 24 xs)))) ≡ drop 4 xs = ap (λ (t : List ℕ). take 4 (drop 4 xs) ++ t) c ∙ next_part 4 4 xs in
    ap (λ (t : List ℕ). take 4 xs ++ t) b ∙ take-append-drop 4 xs
