-- What is read of an input up to the greatest length.
use Rattle.std.proofs.Common.{◌≡◌, ◌≢◌, ℕ, ◌+◌, ◌-◌, ◌≤◌, ◌⊎◌, List, [], ◌∷◌, ◌++◌, length, take, refl, ap, ◌∙◌, arith, inl, inr}
use Rattle.std.proofs.lemmas.List.{append-nil, take_at, take_all}
use Rattle.std.proofs.Math.Seq.{take-append-add}
use Rattle.item_stream.specs.Running.{input_limit}
use Rattle.btsnoop.specs.Converting.{read_of}

pub some_behind : (held left : List ℕ) → held ≢ [] → held ++ left ≢ []
some_behind [] left some e = some refl
some_behind (x ∷ held) left some e = absurd cc

-- what was read of what is left behind the entries
pub all_read : (from : ℕ) (held left : List ℕ) → from + length held ≤ input_limit → ((left ≡ []) ⊎ (from + length held ≡ input_limit)) → read_of from (held ++ left) ≡ held
all_read from held left within (inl none) = ap (λ (t : List ℕ). read_of from (held ++ t)) none ∙ ap (read_of from) (append-nil held) ∙ take_all (input_limit - from) held (omega arith)
all_read from held left within (inr full) = take_at held left (input_limit - from) (omega arith)

pub read_more : (from : ℕ) (held left : List ℕ) → from + length held ≤ input_limit → read_of from (held ++ left) ≡ held ++ take (input_limit - (from + length held)) left
read_more from held left within = ap (λ (n : ℕ). take n (held ++ left)) (omega arith) ∙ take-append-add held left (input_limit - (from + length held))

-- what is read of an input that begins with some octets
pub begins_read : (input octets rest : List ℕ) → input ≡ octets ++ rest → length octets ≤ input_limit → take input_limit input ≡ octets ++ read_of (length octets) rest
begins_read input octets rest whole within =
    let limit : input_limit ≡ length octets + (input_limit - length octets) = omega (arith, within) in
    ap (take input_limit) whole ∙ ap (λ (n : ℕ). take n (octets ++ rest)) limit ∙ take-append-add octets rest (input_limit - length octets)
