-- The octets of an SDU's segments, joined.
use Rattle.std.proofs.Common.{◌≡◌, ℕ, List, [], ◌∷◌, ◌++◌, length, map, refl, sym, ap, subst, arith, ◌∙◌, inl, inr}
use Rattle.std.specs.List.{flat_map}
use Rattle.std.proofs.lemmas.Grind.{flat_map-append}
use Rattle.std.proofs.lemmas.List.{append-nil}
use Rattle.ertm_frames.specs.Segments.{Segment, whole, start, end, continuation, SpellsSdu, SpellSdus}
use Rattle.ertm_frames.specs.Laws.{OneSdu, OneSduList}

inner_joined : (inner : List (List ℕ)) → flat_map (λ (s : Segment). s.octets) (map continuation inner) ≡ flat_map (λ (octets : List ℕ). octets) inner
inner_joined [] = refl
inner_joined (octets ∷ inner) = ap (λ (x : List ℕ). octets ++ x) (inner_joined inner)

pub one-sdu : OneSdu
one-sdu segments sdu (inl alone) = sym (append-nil sdu) ∙ ap (flat_map (λ (s : Segment). s.octets)) (sym alone)
one-sdu segments sdu (inr cut) =
    let behind : flat_map (λ (s : Segment). s.octets) (map continuation cut.inner ++ end cut.last ∷ []) ≡ flat_map (λ (octets : List ℕ). octets) cut.inner ++ cut.last =
    flat_map-append (λ (s : Segment). s.octets) (map continuation cut.inner) (end cut.last ∷ [])
    ∙ ap (λ (x : List ℕ). x ++ (cut.last ++ [])) (inner_joined cut.inner)
    ∙ ap (λ (x : List ℕ). flat_map (λ (octets : List ℕ). octets) cut.inner ++ x) (append-nil cut.last) in
    cut.joined ∙ ap (λ (x : List ℕ). cut.first ++ x) (sym behind) ∙ ap (flat_map (λ (s : Segment). s.octets)) (sym cut.parts)

cons_same : (x y : Segment) (xs ys : List Segment) → x ∷ xs ≡ y ∷ ys → (x ≡ y) × (xs ≡ ys)
cons_same x y xs ys e = (cc, cc)

sars_same : (x y : Segment) → x ≡ y → x.sar ≡ y.sar
sars_same x y e = ap (λ (s : Segment). s.sar) e

-- continuations and an end, with others behind them, end where the end is
ends_same : (inner inner' : List (List ℕ)) (last last' : List ℕ) (rest rest' : List Segment)
    → (map continuation inner ++ end last ∷ []) ++ rest ≡ (map continuation inner' ++ end last' ∷ []) ++ rest'
    → (map continuation inner ++ end last ∷ [] ≡ map continuation inner' ++ end last' ∷ []) × (rest ≡ rest')
ends_same [] [] last last' rest rest' e =
    let h = cons_same (end last) (end last') rest rest' e in
    (ap (λ (s : Segment). s ∷ []) h.0, h.1)
ends_same [] (o ∷ inner') last last' rest rest' e =
    let h = cons_same (end last) (continuation o) rest ((map continuation inner' ++ end last' ∷ []) ++ rest') e in
    absurd (omega (arith, sars_same (end last) (continuation o) h.0))
ends_same (o ∷ inner) [] last last' rest rest' e =
    let h = cons_same (continuation o) (end last') ((map continuation inner ++ end last ∷ []) ++ rest) rest' e in
    absurd (omega (arith, sars_same (continuation o) (end last') h.0))
ends_same (o ∷ inner) (o' ∷ inner') last last' rest rest' e =
    let h = cons_same (continuation o) (continuation o') ((map continuation inner ++ end last ∷ []) ++ rest) ((map continuation inner' ++ end last' ∷ []) ++ rest') e in
    let t = ends_same inner inner' last last' rest rest' h.1 in
    (ap (λ (s : Segment). s ∷ (map continuation inner ++ end last ∷ [])) h.0 ∙ ap (λ (xs : List Segment). continuation o' ∷ xs) t.0, t.1)

-- the segments of an SDU, with others behind them, end where the SDU ends
own_same : (own own' behind behind' : List Segment) (sdu sdu' : List ℕ) → SpellsSdu own sdu → SpellsSdu own' sdu'
    → own ++ behind ≡ own' ++ behind' → (own ≡ own') × (behind ≡ behind')
own_same own own' behind behind' sdu sdu' (inl alone) (inl alone') e =
    let h = cons_same (whole sdu) (whole sdu') behind behind' (ap (λ (xs : List Segment). xs ++ behind) (sym alone) ∙ e ∙ ap (λ (xs : List Segment). xs ++ behind') alone') in
    (alone ∙ ap (λ (s : Segment). s ∷ []) h.0 ∙ sym alone', h.1)
own_same own own' behind behind' sdu sdu' (inl alone) (inr cut') e =
    let other : List Segment = map continuation cut'.inner ++ end cut'.last ∷ [] in
    let h = cons_same (whole sdu) (start (length sdu') cut'.first) behind (other ++ behind') (ap (λ (xs : List Segment). xs ++ behind) (sym alone) ∙ e ∙ ap (λ (xs : List Segment). xs ++ behind') cut'.parts) in
    absurd (omega (arith, sars_same (whole sdu) (start (length sdu') cut'.first) h.0))
own_same own own' behind behind' sdu sdu' (inr cut) (inl alone') e =
    let other : List Segment = map continuation cut.inner ++ end cut.last ∷ [] in
    let h = cons_same (start (length sdu) cut.first) (whole sdu') (other ++ behind) behind' (ap (λ (xs : List Segment). xs ++ behind) (sym cut.parts) ∙ e ∙ ap (λ (xs : List Segment). xs ++ behind') alone') in
    absurd (omega (arith, sars_same (start (length sdu) cut.first) (whole sdu') h.0))
own_same own own' behind behind' sdu sdu' (inr cut) (inr cut') e =
    let tail : List Segment = map continuation cut.inner ++ end cut.last ∷ [] in
    let tail' : List Segment = map continuation cut'.inner ++ end cut'.last ∷ [] in
    let h = cons_same (start (length sdu) cut.first) (start (length sdu') cut'.first) (tail ++ behind) (tail' ++ behind') (ap (λ (xs : List Segment). xs ++ behind) (sym cut.parts) ∙ e ∙ ap (λ (xs : List Segment). xs ++ behind') cut'.parts) in
    let t = ends_same cut.inner cut'.inner cut.last cut'.last behind behind' h.1 in
    (cut.parts ∙ ap (λ (s : Segment). s ∷ tail) h.0 ∙ ap (λ (xs : List Segment). start (length sdu') cut'.first ∷ xs) t.0 ∙ sym cut'.parts, t.1)

no_sdu : (own behind : List Segment) (sdu : List ℕ) → SpellsSdu own sdu → [] ≡ own ++ behind → ⊥
no_sdu own behind sdu (inl alone) e = let f : [] ≡ whole sdu ∷ behind = e ∙ ap (λ (xs : List Segment). xs ++ behind) alone in cc
no_sdu own behind sdu (inr cut) e =
    let f : [] ≡ start (length sdu) cut.first ∷ ((map continuation cut.inner ++ end cut.last ∷ []) ++ behind) = e ∙ ap (λ (xs : List Segment). xs ++ behind) cut.parts in cc

pub one-sdu_list : OneSduList
one-sdu_list segments [] [] a b = refl
one-sdu_list segments [] (sdu' ∷ sdus') none (own', behind', parts', first', later') = absurd (no_sdu own' behind' sdu' first' (sym none ∙ parts'))
one-sdu_list segments (sdu ∷ sdus) [] (own, behind, parts, first, later) none = absurd (no_sdu own behind sdu first (sym none ∙ parts))
one-sdu_list segments (sdu ∷ sdus) (sdu' ∷ sdus') (own, behind, parts, first, later) (own', behind', parts', first', later') =
    let h = own_same own own' behind behind' sdu sdu' first first' (sym parts ∙ parts') in
    let same : sdu ≡ sdu' = one-sdu own sdu first ∙ ap (flat_map (λ (s : Segment). s.octets)) h.0 ∙ sym (one-sdu own' sdu' first') in
    let rest : sdus ≡ sdus' = one-sdu_list behind sdus sdus' later (subst (λ (xs : List Segment). SpellSdus xs sdus') (sym h.1) later') in
    rw (same, rest) refl
