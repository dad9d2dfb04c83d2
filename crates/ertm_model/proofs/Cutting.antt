-- How an SDU is cut, row by row.
use Rattle.std.proofs.Common.{ℕ, zero, suc, ◌≡◌, ◌-◌, ◌<◌, ◌≤◌, Bool, true, false, cond, List, [], ◌∷◌, length, take, drop, map, ◌++◌, inl, inr, refl, sym, ap, ◌∙◌, arith, length-drop}
use Rattle.std.specs.List.{flat_map, AllByRecursion}
use Rattle.std.proofs.lemmas.List.{append_assoc, take-append-drop}
use Rattle.std.specs.Prelude.{nat_le}
use Rattle.std.proofs.lemmas.Bool.{lt-leb, le-leb}
use Rattle.ertm_frames.specs.Segments.{Segment, whole, start, end, continuation, SpellsSdu}
use Rattle.ertm_model.specs.Hearing.{stated}
use Rattle.ertm_model.specs.Laws.{CutSpells}
use Rattle.ertm_model.specs.Submitting.{later_within, later_segments, cut}

-- as many steps as there are octets are enough
enough : (n m mps : ℕ) (octets : List ℕ) → 0 < mps → length octets ≤ n → length octets ≤ m → later_within n mps octets ≡ later_within m mps octets
enough zero zero mps octets some le le' = refl
enough zero (suc m) mps octets some le le' = let e = le-leb (length octets) mps (omega arith) in rw e refl
enough (suc n) zero mps octets some le le' = let e = le-leb (length octets) mps (omega arith) in rw e refl
enough (suc n) (suc m) mps octets some le le' =
    let fewer = length-drop mps octets in
    ap (λ (l : List Segment). cond (nat_le (length octets) mps) (end octets ∷ []) (continuation (take mps octets) ∷ l))
    (enough n m mps (drop mps octets) some (omega arith) (omega arith))

pub cut-whole : (mps : ℕ) (sdu : List ℕ) → length sdu ≤ mps → cut mps sdu ≡ whole sdu ∷ []
cut-whole mps sdu le = let e = le-leb (length sdu) mps le in rw e refl

pub cut-start : (mps : ℕ) (sdu : List ℕ) → mps < length sdu → cut mps sdu ≡ start (length sdu) (take (mps - 2) sdu) ∷ later_segments mps (drop (mps - 2) sdu)
cut-start mps sdu lt = let e = lt-leb (length sdu) mps lt in rw e refl

pub later-end : (mps : ℕ) (octets : List ℕ) → length octets ≤ mps → later_segments mps octets ≡ end octets ∷ []
later-end mps [] le = refl
later-end mps (octet ∷ octets) le = let e = le-leb (length (octet ∷ octets)) mps le in rw e refl

pub later-continuation : (mps : ℕ) (octets : List ℕ) → 0 < mps → mps < length octets → later_segments mps octets ≡ continuation (take mps octets) ∷ later_segments mps (drop mps octets)
later-continuation mps [] some lt = absurd (omega arith)
later-continuation mps (octet ∷ octets) some lt =
    let e = lt-leb (length (octet ∷ octets)) mps lt in
    let fewer = length-drop mps (octet ∷ octets) in
    rw e (ap (λ (l : List Segment). continuation (take mps (octet ∷ octets)) ∷ l)
    (enough (length octets) (length (drop mps (octet ∷ octets))) mps (drop mps (octet ∷ octets)) some (omega arith) (omega arith)))

-- ---- what is cut spells the SDU

-- continuations and an end, that come to these octets
record IsLater (segments : List Segment) (octets : List ℕ) : Type 0 where
  inner : List (List ℕ)
  last : List ℕ
  parts : segments ≡ map continuation inner ++ end last ∷ []
  come : octets ≡ flat_map (λ (o : List ℕ). o) inner ++ last

later_one : (octets : List ℕ) → IsLater (end octets ∷ []) octets
later_one octets = record { inner = []; last = octets; parts = refl; come = refl }

later_more : (mps : ℕ) (octets : List ℕ) (segments : List Segment) → IsLater segments (drop mps octets) → IsLater (continuation (take mps octets) ∷ segments) octets
later_more mps octets segments h = record {
  inner = take mps octets ∷ h.inner;
  last = h.last;
  parts = ap (λ (l : List Segment). continuation (take mps octets) ∷ l) h.parts;
  come =
      sym (take-append-drop mps octets) ∙ ap (λ (l : List ℕ). take mps octets ++ l) h.come
      ∙ sym (append_assoc (take mps octets) (flat_map (λ (o : List ℕ). o) h.inner) h.last);
}

later_by : (short : Bool) (mps : ℕ) (octets : List ℕ) (segments : List Segment) → IsLater segments (drop mps octets)
    → IsLater (cond short (end octets ∷ []) (continuation (take mps octets) ∷ segments)) octets
later_by true mps octets segments h = later_one octets
later_by false mps octets segments h = later_more mps octets segments h

later_is : (count mps : ℕ) (octets : List ℕ) → IsLater (later_within count mps octets) octets
later_is zero mps octets = later_one octets
later_is (suc count) mps octets = later_by (nat_le (length octets) mps) mps octets (later_within count mps (drop mps octets)) (later_is count mps (drop mps octets))

cut_by : (short : Bool) (mps : ℕ) (sdu : List ℕ) (segments : List Segment) → IsLater segments (drop (mps - 2) sdu)
    → SpellsSdu (cond short (whole sdu ∷ []) (start (length sdu) (take (mps - 2) sdu) ∷ segments)) sdu
cut_by true mps sdu segments h = inl refl
cut_by false mps sdu segments h = inr (record {
  first = take (mps - 2) sdu;
  inner = h.inner;
  last = h.last;
  parts = ap (λ (l : List Segment). start (length sdu) (take (mps - 2) sdu) ∷ l) h.parts;
  joined = sym (take-append-drop (mps - 2) sdu) ∙ ap (λ (l : List ℕ). take (mps - 2) sdu ++ l) h.come;
})

pub cut-spells : CutSpells
cut-spells mps sdu =
    cut_by (nat_le (length sdu) mps) mps sdu (later_segments mps (drop (mps - 2) sdu)) (later_is (length (drop (mps - 2) sdu)) mps (drop (mps - 2) sdu))

-- ---- and states its length

later_within_stated : (count mps most : ℕ) (octets : List ℕ) → AllByRecursion (λ (s : Segment). stated s ≤ most) (later_within count mps octets)
later_within_stated zero mps most octets = (omega arith, tt)
later_within_stated (suc count) mps most octets = elim (nat_le (length octets) mps) as (λ (short : Bool). AllByRecursion (λ (s : Segment). stated s ≤ most) (cond short (end octets ∷ []) (continuation (take mps octets) ∷ later_within count mps (drop mps octets)))) [
  | true ↦ (omega arith, tt)
  | false ↦ (omega arith, later_within_stated count mps most (drop mps octets))
]

pub cut-stated : (mps most : ℕ) (sdu : List ℕ) → length sdu ≤ most → AllByRecursion (λ (s : Segment). stated s ≤ most) (cut mps sdu)
cut-stated mps most sdu le = elim (nat_le (length sdu) mps) as (λ (short : Bool). AllByRecursion (λ (s : Segment). stated s ≤ most) (cond short (whole sdu ∷ []) (start (length sdu) (take (mps - 2) sdu) ∷ later_segments mps (drop (mps - 2) sdu)))) [
  | true ↦ (le, tt)
  | false ↦ (le, later_within_stated (length (drop (mps - 2) sdu)) mps most (drop (mps - 2) sdu))
]
