-- What a ring of octets keeps of frames.
use Rattle.std.proofs.Common.{◌≡◌, ℕ, zero, suc, ◌+◌, ◌-◌, ◌*◌, ◌≤◌, ◌<◌, min, List, [], ◌∷◌, ◌++◌, length, take, drop, Option, Some, None, refl, sym, ap, ap₂, subst, ◌∙◌, arith, length-append, length-take, length-drop}
use Rattle.std.specs.Prelude.{slice_set, slice_index, slice_get, bit_xor}
use Rattle.std.proofs.lemmas.List.{take_all, drop_all, drop-append-le, drop-drop, drop-take, take-take, get_or-take, drop-set-lt}
use Rattle.byteorder.specs.Endian.{little_number}
use Rattle.circular_buffer.specs.Buffer.{Buffer, keep_last}
use Rattle.acl_fragments.specs.Pieces.{joined}
use Rattle.radio_air.specs.Rings.{total, split, Kept, kept_of, with_first, octets_in}
use Rattle.radio_model.specs.Radio.{first_or_nothing}
use Rattle.radio_air.proofs.Splitting.{split-append, split-more, split-take, split-drop, length-split, joined-split, split-set}

pub kept_on : (whole : ℕ) (lengths octets more : List ℕ) → whole ≡ total lengths → whole ≤ length octets
    → kept_of whole lengths (octets ++ more) ≡ record { frames = split lengths octets; begun = drop whole octets ++ more }
kept_on whole lengths octets more is within =
    ap₂ (λ frames begun. let kept : Kept = record { frames = frames; begun = begun } in kept) (split-append lengths octets more (omega arith)) (drop-append-le whole octets more within)

pub kept_forgotten : (whole : ℕ) (lengths octets : List ℕ) → whole ≡ total lengths → whole ≤ length octets
    → kept_of whole lengths (take whole octets) ≡ record { frames = split lengths octets; begun = [] }
kept_forgotten whole lengths octets is within =
    ap₂ (λ frames begun. let kept : Kept = record { frames = frames; begun = begun } in kept) (split-take lengths whole octets (omega arith)) (drop_all whole (take whole octets) (omega (arith, length-take whole octets)))

pub kept_completed : (whole : ℕ) (lengths octets : List ℕ) → whole ≡ total lengths → whole ≤ length octets
    → kept_of (length octets) (lengths ++ (length octets - whole) ∷ []) octets ≡ record { frames = split lengths octets ++ drop whole octets ∷ []; begun = [] }
kept_completed whole lengths octets is within =
    let behind : take (length octets - whole) (drop (total lengths) octets) ≡ drop whole octets =
    ap (λ k. take (length octets - whole) (drop k octets)) (sym is) ∙ take_all (length octets - whole) (drop whole octets) (omega (arith, length-drop whole octets)) in
    ap₂ (λ frames begun. let kept : Kept = record { frames = frames; begun = begun } in kept)
    (split-more lengths (length octets - whole) octets ∙ ap (λ frame. split lengths octets ++ frame ∷ []) behind) (drop_all (length octets) octets (omega arith))

-- the first frames leave: so many lengths are taken, with the octets behind which the last ones are kept
pub kept_left : (whole count gone : ℕ) (lengths octets : List ℕ) → gone ≡ total (take count lengths) → gone ≤ whole
    → kept_of (whole - gone) (drop count lengths) (drop gone octets) ≡ record { frames = drop count (split lengths octets); begun = drop whole octets }
kept_left whole count gone lengths octets is within =
    let front : split (drop count lengths) (drop gone octets) ≡ drop count (split lengths octets) = ap (λ k. split (drop count lengths) (drop k octets)) is ∙ split-drop count lengths octets in
    let all : gone + (whole - gone) ≡ whole = omega arith in
    let behind : drop (whole - gone) (drop gone octets) ≡ drop whole octets = drop-drop (whole - gone) gone octets ∙ ap (λ k. drop k octets) all in
    ap₂ (λ frames begun. let kept : Kept = record { frames = frames; begun = begun } in kept) front behind

-- ---- the first frame

first_is : (n : ℕ) (lengths octets : List ℕ) → total (n ∷ lengths) ≤ length octets → length (take n octets) ≡ n
first_is n lengths octets within = length-take n octets ∙ omega arith

pub first_len : (lengths octets : List ℕ) (n : ℕ) → total lengths ≤ length octets → slice_get lengths 0 ≡ Some n → n ≡ length (first_or_nothing (split lengths octets))
first_len [] octets n within is = cc
first_len (m ∷ lengths) octets n within is = let e = first_is m lengths octets within in cc

pub first_none : (lengths octets : List ℕ) → slice_get lengths 0 ≡ None → 0 ≡ length (first_or_nothing (split lengths octets))
first_none [] octets is = refl
first_none (m ∷ lengths) octets is = cc

pub first_within : (lengths octets : List ℕ) → total lengths ≤ length octets → length (first_or_nothing (split lengths octets)) ≤ length octets
first_within [] octets within = omega arith
first_within (m ∷ lengths) octets within = omega (arith, length-take m octets)

-- a part of the first frame is one of the octets
pub first_part : (lengths octets : List ℕ) (from n : ℕ) → from + n ≤ length (first_or_nothing (split lengths octets)) → take n (drop from octets) ≡ take n (drop from (first_or_nothing (split lengths octets)))
first_part [] octets from n fits =
    let none : n ≡ 0 = omega arith in
    ap (λ k. take k (drop from octets)) none ∙ sym (ap (λ k. take k (drop from [])) none)
first_part (m ∷ lengths) octets from n fits =
    let whole : m ≡ from + (m - from) = omega (arith, length-take m octets) in
    sym (ap (λ k. take n (drop from (take k octets))) whole ∙ ap (λ xs. take n xs) (drop-take from (m - from) octets) ∙ take-take n (m - from) (drop from octets) (omega (arith, length-take m octets)))

pub first_changed : (lengths octets : List ℕ) (at value : ℕ) → at < length (first_or_nothing (split lengths octets))
    → split lengths (slice_set octets at value) ≡ with_first (slice_set (first_or_nothing (split lengths octets)) at value) (split lengths octets)
first_changed [] octets at value within = refl
first_changed (n ∷ lengths) octets at value within = split-set n at value lengths octets (omega (arith, length-take n octets))

pub first_octet : (lengths octets : List ℕ) (at : ℕ) → at < length (first_or_nothing (split lengths octets)) → slice_index octets at ≡ slice_index (first_or_nothing (split lengths octets)) at
first_octet [] octets at within = absurd (omega arith)
first_octet (n ∷ lengths) octets at within = sym (get_or-take n octets at 0 (omega (arith, length-take n octets)))

get_or-two : (xs ys : List ℕ) (i : ℕ) → i < 2 → take 2 xs ≡ take 2 ys → slice_index xs i ≡ slice_index ys i
get_or-two xs ys i within same = sym (get_or-take 2 xs i 0 within) ∙ ap (λ zs. slice_index zs i) same ∙ get_or-take 2 ys i 0 within

two_octets : (xs ys : List ℕ) → take 2 xs ≡ take 2 ys → little_number 2 xs ≡ little_number 2 ys
two_octets xs ys same = ap₂ (λ m n. m + 256 * (n + 0)) (get_or-two xs ys 0 (omega arith) same) (get_or-two xs ys 1 (omega arith) same)

pub number_in_first : (lengths octets : List ℕ) (at : ℕ) → at + 2 ≤ length (first_or_nothing (split lengths octets))
    → little_number 2 (drop at octets) ≡ little_number 2 (drop at (first_or_nothing (split lengths octets)))
number_in_first lengths octets at fits =
    two_octets (drop at octets) (drop at (first_or_nothing (split lengths octets))) (first_part lengths octets at 2 fits)

pub all_octets : (whole : ℕ) (lengths octets : List ℕ) → whole ≡ total lengths → whole ≤ length octets → octets_in (kept_of whole lengths octets) ≡ length octets
all_octets whole lengths octets is within = omega (arith, joined-split lengths octets (omega arith), length-drop whole octets)

-- where there is room for one item more, all are kept
pub keep_fits : {X : Type 0} (capacity : ℕ) (items : List X) (item : X) → length items + 1 ≤ capacity → keep_last capacity (items ++ item ∷ []) ≡ items ++ item ∷ []
keep_fits capacity items item fits =
    let none : length (items ++ item ∷ []) - capacity ≡ 0 = omega (arith, length-append items (item ∷ [])) in
    ap (λ n. drop n (items ++ item ∷ [])) none

-- the last of so many items less are those behind the first
pub keep_behind : {X : Type 0} (gone : ℕ) (items : List X) → gone ≤ length items → keep_last (length items - gone) items ≡ drop gone items
keep_behind gone items within = let same : length items - (length items - gone) ≡ gone = omega arith in ap (λ n. drop n items) same

first_fits : (lengths octets : List ℕ) (at : ℕ) → at < length (first_or_nothing (split lengths octets)) → at < total lengths
first_fits [] octets at within = absurd (omega arith)
first_fits (n ∷ lengths) octets at within = omega (arith, length-take n octets)

-- an octet of the first frame is combined with a mask
pub first_change : (whole : ℕ) (lengths octets next : List ℕ) (at mask : ℕ) → whole ≡ total lengths → at < length (first_or_nothing (split lengths octets))
    → next ≡ slice_set octets at (bit_xor (slice_index octets at) mask)
    → kept_of whole lengths next ≡ record {
      frames = with_first (slice_set (first_or_nothing (split lengths octets)) at (bit_xor (slice_index (first_or_nothing (split lengths octets)) at) mask)) (split lengths octets);
      begun = drop whole octets;
    }
first_change whole lengths octets next at mask is within changes =
    let value : ℕ = bit_xor (slice_index (first_or_nothing (split lengths octets)) at) mask in
    let same : next ≡ slice_set octets at value = changes ∙ ap (λ octet. slice_set octets at (bit_xor octet mask)) (first_octet lengths octets at within) in
    ap (λ xs. kept_of whole lengths xs) same
    ∙ ap₂ (λ frames begun. let kept : Kept = record { frames = frames; begun = begun } in kept) (first_changed lengths octets at value within)
    (drop-set-lt whole octets at value (omega (arith, is, first_fits lengths octets at within)))
