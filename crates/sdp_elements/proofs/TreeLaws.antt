-- An element with all its parts: what is read is spelled so, and what is spelled so is read.
use Rattle.std.proofs.Common.{◌≡◌, ℕ, zero, suc, ◌≤◌, List, [], ◌∷◌, ◌++◌, length, Result, Ok, refl, ap, subst, ◌∙◌, arith}
use Rattle.std.specs.Prelude.{max}
use Rattle.bt_base.specs.Octets.{IsOctets}
use Rattle.sdp_elements.specs.declared.fault.SdpRefusal.{SdpRefusal}
use Rattle.sdp_elements.specs.declared.fault.SdpRefusal.TheVariants.{LengthMismatch}
use Rattle.sdp_elements.specs.Elements.{PlainValue, PlainElement, Value, Sequence, Alternative, Tree, Leaf, SequenceOf, AlternativeOf, Trees, Finish, Then, content_of}
use Rattle.sdp_elements.specs.Reading.{◌>>=◌, front_at, parts_at, parts_in, tree_of, tree_at, whole, no_parts, IsWithin}
use Rattle.sdp_elements.specs.Spelling.{IsForm, IsSpelledBy, AreSpelledBy, depth, parts_depth}
use Rattle.sdp_elements.proofs.ReadingLaws.{bind_ok, ok_is, parts_nil, parts_step}
use Rattle.sdp_elements.proofs.FormLaws.{TakesFront, front_takes, front_again}

-- ---- what is read is spelled so

-- a tree was read from the front
pub record TakesTree (levels : ℕ) (octets : List ℕ) (tree : Tree) (rest : List ℕ) : Type 0 where
  pub front : List ℕ
  pub parts : octets ≡ front ++ rest
  pub spelled : IsSpelledBy tree front
  pub within : depth tree ≤ levels
  pub rest_fits : IsOctets rest

-- parts were read to the end
pub record TakesParts (levels : ℕ) (octets : List ℕ) (parts : Trees) : Type 0 where
  pub spelled : AreSpelledBy parts octets
  pub within : parts_depth parts ≤ levels

max_within : (a b n : ℕ) → a ≤ n → b ≤ n → max a b ≤ n
max_within a b n h k = omega arith

parts_take : (part : List ℕ → Result (Tree × List ℕ) SdpRefusal) (levels n : ℕ) (octets : List ℕ) (parts : Trees)
    → ((octets : List ℕ) (x : Tree × List ℕ) → IsOctets octets → part octets ≡ Ok x → TakesTree levels octets x.0 x.1)
    → IsOctets octets → parts_at part n octets ≡ Ok parts → TakesParts levels octets parts
unfolding parts_at
parts_take part levels n [] parts takes h e = subst (TakesParts levels []) (ok_is Finish parts e) (record { spelled = refl; within = omega arith })
parts_take part levels zero (octet ∷ octets) parts takes h e = absurd cc
parts_take part levels (suc n) (octet ∷ octets) parts takes h e =
    let a = bind_ok (part (octet ∷ octets)) (λ first. parts_at part n first.1 >>= λ others. Ok (Then first.0 others)) parts e in
    let b = bind_ok (parts_at part n a.0.1) (λ others. Ok (Then a.0.0 others)) parts a.2 in
    let t = takes (octet ∷ octets) a.0 h a.1 in
    let more = parts_take part levels n a.0.1 b.0 takes t.rest_fits b.1 in
    subst (TakesParts levels (octet ∷ octets)) (ok_is (Then a.0.0 b.0) parts b.2)
    (record { spelled = (t.front, a.0.1, t.parts, t.spelled, more.spelled); within = max_within (depth a.0.0) (parts_depth b.0) levels t.within more.within })

-- the tree of an element whose parts were read
record TakesWhole (levels : ℕ) (element : PlainElement) (tree : Tree) : Type 0 where
  spelled : (front : List ℕ) → IsForm element front → IsSpelledBy tree front
  within : depth tree ≤ suc levels

tree_of_takes : (parts : List ℕ → Result Trees SdpRefusal) (levels : ℕ) (element : PlainElement) (tree : Tree) → ((octets : List ℕ) (found : Trees) → IsOctets octets → parts octets ≡ Ok found → TakesParts levels octets found)
    → IsOctets (content_of element) → tree_of parts element ≡ Ok tree → TakesWhole levels element tree
unfolding tree_of
tree_of_takes parts levels (Value value) tree takes h e = subst (TakesWhole levels (Value value)) (ok_is (Leaf value) tree e) (record { spelled = λ front f. f; within = omega arith })
tree_of_takes parts levels (Sequence content) tree takes h e =
    let a = bind_ok (parts content) (λ found. Ok (SequenceOf found)) tree e in
    let t = takes content a.0 h a.1 in
    let deep = t.within in
    subst (TakesWhole levels (Sequence content)) (ok_is (SequenceOf a.0) tree a.2) (record { spelled = λ front f. (content, f, t.spelled); within = omega arith })
tree_of_takes parts levels (Alternative content) tree takes h e =
    let a = bind_ok (parts content) (λ found. Ok (AlternativeOf found)) tree e in
    let t = takes content a.0 h a.1 in
    let deep = t.within in
    subst (TakesWhole levels (Alternative content)) (ok_is (AlternativeOf a.0) tree a.2) (record { spelled = λ front f. (content, f, t.spelled); within = omega arith })

whole_takes : (parts : List ℕ → Result Trees SdpRefusal) (levels : ℕ) (octets : List ℕ) (found : PlainElement × List ℕ) (x : Tree × List ℕ)
    → ((octets : List ℕ) (found : Trees) → IsOctets octets → parts octets ≡ Ok found → TakesParts levels octets found) → TakesFront octets found.0 found.1 → whole parts found ≡ Ok x → TakesTree (suc levels) octets x.0 x.1
whole_takes parts levels octets found x takes t e =
    let a = bind_ok (tree_of parts found.0) (λ tree. Ok (tree, found.1)) x e in
    let w = tree_of_takes parts levels found.0 a.0 takes t.content_fits a.1 in
    let made : Tree × List ℕ = (a.0, found.1) in
    subst (λ (y : Tree × List ℕ). TakesTree (suc levels) octets y.0 y.1) (ok_is made x a.2)
    (record { front = t.front; parts = t.parts; spelled = w.spelled t.front t.is_form; within = w.within; rest_fits = t.rest_fits })

leaf_takes : (octets : List ℕ) (found : PlainElement × List ℕ) (x : Tree × List ℕ) → TakesFront octets found.0 found.1 → whole no_parts found ≡ Ok x → TakesTree 0 octets x.0 x.1
unfolding tree_of
leaf_takes octets (Value value, rest) x t e =
    let made : Tree × List ℕ = (Leaf value, rest) in
    subst (λ (y : Tree × List ℕ). TakesTree 0 octets y.0 y.1) (ok_is made x e) (record { front = t.front; parts = t.parts; spelled = t.is_form; within = omega arith; rest_fits = t.rest_fits })
leaf_takes octets (Sequence content, rest) x t e = absurd cc
leaf_takes octets (Alternative content, rest) x t e = absurd cc

pub tree_takes : (past : SdpRefusal) (levels : ℕ) (octets : List ℕ) (x : Tree × List ℕ) → IsOctets octets → tree_at past levels octets ≡ Ok x → TakesTree levels octets x.0 x.1
unfolding tree_at
tree_takes past zero octets x h e =
    let a = bind_ok (front_at past 0 octets) (whole no_parts) x e in
    leaf_takes octets a.0 x (front_takes past 0 octets a.0 h a.1) a.2
tree_takes past (suc levels) octets x h e =
    let part : List ℕ → Result (Tree × List ℕ) SdpRefusal = tree_at LengthMismatch levels in
    let parts : List ℕ → Result Trees SdpRefusal = λ content. parts_at part (length content) content in
    let a = bind_ok (front_at past (suc levels) octets) (whole parts) x e in
    whole_takes parts levels octets a.0 x (λ content found fits f. parts_take part levels (length content) content found (tree_takes LengthMismatch levels) fits f)
    (front_takes past (suc levels) octets a.0 h a.1) a.2

pub parts_in_take : (levels : ℕ) (octets : List ℕ) (parts : Trees) → IsOctets octets → parts_in levels octets ≡ Ok parts → TakesParts levels octets parts
unfolding parts_in
parts_in_take levels octets parts h e = parts_take (tree_at LengthMismatch levels) levels (length octets) octets parts (tree_takes LengthMismatch levels) h e

-- ---- what is spelled so is read

leaf_again : (past : SdpRefusal) (levels : ℕ) (element : PlainElement) (tree : Tree) (front rest : List ℕ) → IsForm element front → IsWithin levels element
    → ((parts : List ℕ → Result Trees SdpRefusal) → tree_of parts element ≡ Ok tree) → tree_at past levels (front ++ rest) ≡ Ok (tree, rest)
unfolding tree_at
leaf_again past zero element tree front rest f w t =
    ap (λ (r : Result (PlainElement × List ℕ) SdpRefusal). r >>= whole no_parts) (front_again past 0 element front rest f w)
    ∙ ap (λ (r : Result Tree SdpRefusal). r >>= λ found. Ok (found, rest)) (t no_parts)
leaf_again past (suc levels) element tree front rest f w t =
    let parts : List ℕ → Result Trees SdpRefusal = λ content. parts_at (tree_at LengthMismatch levels) (length content) content in
    ap (λ (r : Result (PlainElement × List ℕ) SdpRefusal). r >>= whole parts) (front_again past (suc levels) element front rest f w)
    ∙ ap (λ (r : Result Tree SdpRefusal). r >>= λ found. Ok (found, rest)) (t parts)

holder_again : (past : SdpRefusal) (levels : ℕ) (element : PlainElement) (tree : Tree) (front rest : List ℕ) → IsForm element front → IsWithin (suc levels) element
    → tree_of (parts_in levels) element ≡ Ok tree → tree_at past (suc levels) (front ++ rest) ≡ Ok (tree, rest)
unfolding tree_at parts_in
holder_again past levels element tree front rest f w t =
    let parts : List ℕ → Result Trees SdpRefusal = λ content. parts_at (tree_at LengthMismatch levels) (length content) content in
    ap (λ (r : Result (PlainElement × List ℕ) SdpRefusal). r >>= whole parts) (front_again past (suc levels) element front rest f w)
    ∙ ap (λ (r : Result Tree SdpRefusal). r >>= λ found. Ok (found, rest)) t

max_left : (a b n : ℕ) → max a b ≤ n → a ≤ n
max_left a b n h = omega arith

max_right : (a b n : ℕ) → max a b ≤ n → b ≤ n
max_right a b n h = omega arith

leaf_tree : (value : PlainValue) (parts : List ℕ → Result Trees SdpRefusal) → tree_of parts (Value value) ≡ Ok (Leaf value)
unfolding tree_of
leaf_tree value parts = refl

sequence_tree : (parts : List ℕ → Result Trees SdpRefusal) (content : List ℕ) (found : Trees) → parts content ≡ Ok found → tree_of parts (Sequence content) ≡ Ok (SequenceOf found)
unfolding tree_of
sequence_tree parts content found e = ap (λ (r : Result Trees SdpRefusal). r >>= λ found. Ok (SequenceOf found)) e

alternative_tree : (parts : List ℕ → Result Trees SdpRefusal) (content : List ℕ) (found : Trees) → parts content ≡ Ok found → tree_of parts (Alternative content) ≡ Ok (AlternativeOf found)
unfolding tree_of
alternative_tree parts content found e = ap (λ (r : Result Trees SdpRefusal). r >>= λ found. Ok (AlternativeOf found)) e

mutual
  pub tree_again : (tree : Tree) (past : SdpRefusal) (levels : ℕ) (front rest : List ℕ) → IsSpelledBy tree front → depth tree ≤ levels → tree_at past levels (front ++ rest) ≡ Ok (tree, rest)
  tree_again (Leaf value) past levels front rest s d = leaf_again past levels (Value value) (Leaf value) front rest s tt (leaf_tree value)
  tree_again (SequenceOf parts) past zero front rest s d = absurd (omega arith)
  tree_again (SequenceOf parts) past (suc levels) front rest s d =
      holder_again past levels (Sequence s.0) (SequenceOf parts) front rest s.1 (omega arith) (sequence_tree (parts_in levels) s.0 parts (parts_again parts levels s.0 s.2 (omega arith)))
  tree_again (AlternativeOf parts) past zero front rest s d = absurd (omega arith)
  tree_again (AlternativeOf parts) past (suc levels) front rest s d =
      holder_again past levels (Alternative s.0) (AlternativeOf parts) front rest s.1 (omega arith) (alternative_tree (parts_in levels) s.0 parts (parts_again parts levels s.0 s.2 (omega arith)))

  pub parts_again : (parts : Trees) (levels : ℕ) (octets : List ℕ) → AreSpelledBy parts octets → parts_depth parts ≤ levels → parts_in levels octets ≡ Ok parts
  parts_again Finish levels octets s d = ap (parts_in levels) s ∙ parts_nil levels
  parts_again (Then first others) levels octets s d =
      ap (parts_in levels) s.2
      ∙ parts_step levels (s.0 ++ s.1) (first, s.1) (tree_again first LengthMismatch levels s.0 s.1 s.3 (max_left (depth first) (parts_depth others) levels d))
      ∙ ap (λ (r : Result Trees SdpRefusal). r >>= λ found. Ok (Then first found)) (parts_again others levels s.1 s.4 (max_right (depth first) (parts_depth others) levels d))
