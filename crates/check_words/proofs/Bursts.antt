-- A divisor with 1 at both ends divides no burst.
use Rattle.std.proofs.Common.{◌≡◌, ℕ, zero, suc, ◌+◌, ◌-◌, ◌≤◌, Bool, true, false, List, [], ◌∷◌, ◌++◌, length, refl, sym, ap, ◌∙◌, arith, length-append}
use Rattle.std.proofs.lemmas.List.{length-replicate, replicate-append-replicate, same_from_push}
use Rattle.check_words.specs.Division.{added, reduced, divided, remainder, zeros}
use Rattle.check_words.specs.Laws.{BurstsAreSeen}
use Rattle.check_words.proofs.Sums.{plus-false, added-self, added-append, added-zero, added-twice, zeros-added, added-comm, length-added}
use Rattle.check_words.proofs.Steps.{divided-added, length-divided, kept, kept_all, length-kept, length-kept_all, divided-kept}

zeros-snoc : (n : ℕ) → zeros (suc n) ≡ zeros n ++ false ∷ []
zeros-snoc zero = refl
zeros-snoc (suc n) = ap (λ (xs : List Bool). false ∷ xs) (zeros-snoc n)

kept-zero : (inner xs : List Bool) (x : Bool) → length xs ≡ length inner
    → kept (inner ++ true ∷ []) (x ∷ xs) false ≡ zeros (suc (length inner)) → x ∷ xs ≡ zeros (suc (length inner))
unfolding kept added
kept-zero inner xs true same none =
    let parts : added (inner ++ true ∷ []) (xs ++ false ∷ []) ≡ added inner xs ++ true ∷ [] = added-append inner xs (true ∷ []) (false ∷ []) (sym same) in
    let ends = same_from_push (added inner xs) (zeros (length inner)) true false (sym parts ∙ none ∙ zeros-snoc (length inner)) in
    absurd (let e : true ≡ false = ends.1 in cc)
kept-zero inner xs false same none =
    let ends = same_from_push xs (zeros (length inner)) false false (none ∙ zeros-snoc (length inner)) in
    ap (λ (ys : List Bool). false ∷ ys) ends.0

kept_all-zero : (inner state : List Bool) (n : ℕ) → length state ≡ suc (length inner)
    → kept_all (inner ++ true ∷ []) state (zeros n) ≡ zeros (suc (length inner)) → state ≡ zeros (suc (length inner))
unfolding kept_all
kept_all-zero inner state zero same none = none
kept_all-zero inner [] (suc n) same none = absurd (omega arith)
kept_all-zero inner (x ∷ xs) (suc n) same none =
    let low : length (inner ++ true ∷ []) ≡ suc (length inner) = simp length-append (omega arith) in
    kept-zero inner xs x (omega arith)
    (kept_all-zero inner (kept (inner ++ true ∷ []) (x ∷ xs) false) n (length-kept (inner ++ true ∷ []) (x ∷ xs) false (same ∙ sym low) ∙ low) none)

padded : (xs : List Bool) (n : ℕ) → added xs (zeros (length xs + n)) ≡ xs ++ zeros n
unfolding added
padded [] n = rw (zero_plus n) refl
  where
    zero_plus : (k : ℕ) → 0 + k ≡ k
    zero_plus k = omega arith
padded (x ∷ xs) n =
    let e : suc (length xs) + n ≡ suc (length xs + n) = omega arith in
    rw (e, plus-false x, padded xs n) refl

-- with zeros alone behind it a stretch that is divided was zeros
stretch-zero : (inner state : List Bool) (n : ℕ) → length state ≡ suc (length inner)
    → divided (true ∷ (inner ++ true ∷ [])) n (state ++ zeros n) ≡ zeros (suc (length inner)) → state ≡ zeros (suc (length inner))
stretch-zero inner state n same none =
    let low : List Bool = inner ++ true ∷ [] in
    let d : ℕ = suc (length inner) in
    let size : length low ≡ d = simp length-append (omega arith) in
    let sum : length state + n ≡ n + d = omega arith in
    let shape : added state (zeros n ++ zeros d) ≡ state ++ zeros n =
    ap (added state) (replicate-append-replicate n d false ∙ ap (λ (k : ℕ). zeros k) (sym sum)) ∙ padded state n in
    let steps : divided (true ∷ low) n (state ++ zeros n) ≡ added (kept_all low state (zeros n)) (zeros d) =
    ap (divided (true ∷ low) n) (sym shape)
    ∙ ap (λ (k : ℕ). divided (true ∷ low) k (added state (zeros n ++ zeros d))) (sym (length-replicate n false))
    ∙ divided-kept low state (zeros n) (zeros d) (same ∙ sym size) (omega (arith, length-replicate d false)) (omega arith) in
    let whole : added (kept_all low state (zeros n)) (zeros d) ≡ kept_all low state (zeros n) =
    added-comm (kept_all low state (zeros n)) (zeros d) ∙ zeros-added d (kept_all low state (zeros n)) (omega (arith, length-kept_all low state (zeros n) (same ∙ sym size))) in
    kept_all-zero inner state n same (sym whole ∙ sym steps ∙ none)

zeros-fall : (divisor bits : List Bool) (m n : ℕ) → divided divisor (m + n) (zeros m ++ bits) ≡ divided divisor n bits
unfolding reduced divided
zeros-fall divisor bits zero n = let e : 0 + n ≡ n = omega arith in rw e refl
zeros-fall divisor bits (suc m) n = let e : suc m + n ≡ suc (m + n) = omega arith in rw e (zeros-fall divisor bits m n)

difference : (front burst other behind : List Bool) → length burst ≡ length other
    → added (front ++ (burst ++ behind)) (front ++ (other ++ behind)) ≡ zeros (length front) ++ (added burst other ++ zeros (length behind))
difference front burst other behind same =
    added-append front front (burst ++ behind) (other ++ behind) refl
    ∙ ap (λ (xs : List Bool). xs ++ added (burst ++ behind) (other ++ behind)) (added-self front)
    ∙ ap (λ (xs : List Bool). zeros (length front) ++ xs) (added-append burst other behind behind same ∙ ap (λ (xs : List Bool). added burst other ++ xs) (added-self behind))

-- stretches that leave the same, whatever is added at the front of all bits, are one
pub bursts-same : (inner start front burst other behind : List Bool)
    → length burst ≡ suc (length inner) → length other ≡ suc (length inner) → length start ≤ length (front ++ (burst ++ behind))
    → remainder (true ∷ (inner ++ true ∷ [])) (added start (front ++ (burst ++ behind))) ≡ remainder (true ∷ (inner ++ true ∷ [])) (added start (front ++ (other ++ behind)))
    → burst ≡ other
bursts-same inner start front burst other behind b o within same =
    let low : List Bool = inner ++ true ∷ [] in
    let d : ℕ = suc (length inner) in
    let size : length low ≡ d = simp length-append (omega arith) in
    let xs : List Bool = front ++ (burst ++ behind) in
    let ys : List Bool = front ++ (other ++ behind) in
    let long : length xs ≡ length front + (d + length behind) = length-append front (burst ++ behind) ∙ ap (λ (k : ℕ). length front + k) (length-append burst behind ∙ ap (λ (k : ℕ). k + length behind) b) in
    let long' : length ys ≡ length front + (d + length behind) = length-append front (other ++ behind) ∙ ap (λ (k : ℕ). length front + k) (length-append other behind ∙ ap (λ (k : ℕ). k + length behind) o) in
    let us : List Bool = added start xs in
    let vs : List Bool = added start ys in
    let all : length us ≡ length front + (d + length behind) = length-added start xs within ∙ long in
    let all' : length vs ≡ length front + (d + length behind) = length-added start ys (omega arith) ∙ long' in
    let n : ℕ = length front + length behind in
    let steps : length us - (suc (length low) - 1) ≡ n = omega arith in
    let steps' : length vs - (suc (length low) - 1) ≡ n = omega arith in
    let equal : divided (true ∷ low) n us ≡ divided (true ∷ low) n vs =
    ap (λ (k : ℕ). divided (true ∷ low) k us) (sym steps) ∙ same ∙ ap (λ (k : ℕ). divided (true ∷ low) k vs) steps' in
    let left : length (divided (true ∷ low) n vs) ≡ d = omega (arith, length-divided low n vs (omega arith)) in
    let sum : length (added xs ys) ≡ length ys = length-added xs ys (omega arith) in
    let none : divided (true ∷ low) n (added xs ys) ≡ zeros d =
    ap (divided (true ∷ low) n) (sym (added-twice start xs ys (omega arith)))
    ∙ divided-added low n us vs (omega arith) (omega arith)
    ∙ ap (λ (ws : List Bool). added ws (divided (true ∷ low) n vs)) equal
    ∙ added-self (divided (true ∷ low) n vs)
    ∙ ap (λ (k : ℕ). zeros k) left in
    let alone : divided (true ∷ low) (length behind) (added burst other ++ zeros (length behind)) ≡ zeros d =
    sym (zeros-fall (true ∷ low) (added burst other ++ zeros (length behind)) (length front) (length behind))
    ∙ ap (divided (true ∷ low) n) (sym (difference front burst other behind (omega arith))) ∙ none in
    let sums : length (added burst other) ≡ d = length-added burst other (omega arith) ∙ o in
    added-zero burst other (omega arith) (stretch-zero inner (added burst other) (length behind) sums alone ∙ ap (λ (k : ℕ). zeros k) (sym b))

pub bursts-seen : BurstsAreSeen
unfolding added
bursts-seen inner front burst other behind burst_is other_is differ before after =
    let b : length burst ≡ suc (length inner) = omega (arith, length-append inner (true ∷ [])) in
    let o : length other ≡ suc (length inner) = omega (arith, length-append inner (true ∷ [])) in
    differ (bursts-same inner [] front burst other behind b o (omega arith) (before ∙ sym after))
