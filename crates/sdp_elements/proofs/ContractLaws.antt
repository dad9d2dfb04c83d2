-- From what reading gives to what the calls promise.
use Rattle.std.proofs.Common.{◌≡◌, ℕ, ◌-◌, ◌≤◌, List, ◌++◌, length, take, drop, Result, Ok, Err, refl, sym, ap, subst, ◌∙◌, arith}
use Rattle.std.specs.Prelude.{IfOk, IsOkAnd}
use Rattle.std.proofs.lemmas.List.{length-append, length-drop, take_at, take_all, drop_at}
use Rattle.bt_base.specs.Octets.{IsOctets}
use Rattle.sdp_elements.specs.declared.fault.SdpRefusal.{SdpRefusal}
use Rattle.sdp_elements.specs.Elements.{PlainElement, Value, Sequence, Alternative, Tree, Leaf, SequenceOf, AlternativeOf, content_of}
use Rattle.sdp_elements.specs.Reading.{front_at, tree_at, IsWithin, Shows, Gives, GivesTree}
use Rattle.sdp_elements.specs.Spelling.{IsForm, IsSpelledBy, depth, Stands}
use Rattle.sdp_elements.proofs.ReadingLaws.{ok_is}
use Rattle.sdp_elements.proofs.FormLaws.{front_takes, front_again}
use Rattle.sdp_elements.proofs.TreeLaws.{tree_takes, tree_again, parts_in_take}

-- the front is so long as was said
front_taken : (octets front : List ℕ) (used : ℕ) → used ≤ length octets → octets ≡ front ++ drop used octets → front ≡ take used octets
front_taken octets front used h e =
    let len : length front ≡ used = omega (arith, ap length e, length-append front (drop used octets), length-drop used octets) in
    sym (take_at front (drop used octets) used len) ∙ ap (take used) (sym e)

front_len : (octets front rest : List ℕ) (used : ℕ) → used ≤ length octets → octets ≡ front ++ rest → drop used octets ≡ rest → used ≡ length front
front_len octets front rest used h e same = omega (arith, ap length e, ap length same, length-append front rest, length-drop used octets)

shows_stands : (levels : ℕ) (element : PlainElement) (tree : Tree) → IsOctets (content_of element) → Shows levels element tree → Stands element tree
shows_stands levels (Value value) tree h s = s
shows_stands levels (Sequence content) tree h s = (s.0, s.2, (parts_in_take levels content s.0 h s.1).spelled)
shows_stands levels (Alternative content) tree h s = (s.0, s.2, (parts_in_take levels content s.0 h s.1).spelled)

-- ---- one element without a look at its parts

pub form_found : {X : Type 0} (view : X → PlainElement) (used : X → ℕ) (past : SdpRefusal) (levels : ℕ) (octets : List ℕ) (result : Result X SdpRefusal) → IsOctets octets → Gives view used octets result (front_at past levels octets)
    → IfOk result (λ x. IsForm (view x) (take (used x) octets))
form_found view used past levels octets (Ok x) h g =
    let t = front_takes past levels octets (view x, drop (used x) octets) h g.1 in
    subst (IsForm (view x)) (front_taken octets t.front (used x) g.0 t.parts) t.is_form
form_found view used past levels octets (Err d) h g = tt

abbrev pair_done : {A : Type 0} → A → List ℕ → Result (A × List ℕ) SdpRefusal
pair_done a x = Ok (a, x)

same_pair : {A : Type 0} (a b : A) (x y : List ℕ) → pair_done a x ≡ pair_done b y → (a ≡ b) × (x ≡ y)
same_pair {A} a b x y e =
    let made : A × List ℕ = (a, x) in
    let other : A × List ℕ = (b, y) in
    let same = ok_is made other e in
    (ap (λ (z : A × List ℕ). z.0) same, ap (λ (z : A × List ℕ). z.1) same)

pub form_only : {X : Type 0} (view : X → PlainElement) (used : X → ℕ) (past : SdpRefusal) (levels : ℕ) (octets : List ℕ) (result : Result X SdpRefusal) → Gives view used octets result (front_at past levels octets)
    → (element : PlainElement) (front rest : List ℕ) → IsForm element front → IsWithin levels element → octets ≡ front ++ rest → IsOkAnd result (λ x. (view x ≡ element) × (used x ≡ length front))
form_only view used past levels octets (Ok x) g element front rest f w e =
    let read = ap (front_at past levels) e ∙ front_again past levels element front rest f w in
    let same = same_pair (view x) element (drop (used x) octets) rest (sym g.1 ∙ read) in
    (same.0, front_len octets front rest (used x) g.0 e same.1)
form_only view used past levels octets (Err d) g element front rest f w e =
    absurd (let read = sym g ∙ ap (front_at past levels) e ∙ front_again past levels element front rest f w in cc)

-- ---- an element with all its parts

-- the element that was lent, and the octets behind it
abbrev pub IsFront : {X : Type 0} → (X → PlainElement) → (X → ℕ) → SdpRefusal → ℕ → List ℕ → Result X SdpRefusal → Type 0
IsFront view used past levels octets result = IfOk result (λ x. front_at past levels octets ≡ Ok (view x, drop (used x) octets))

pub tree_found : {X : Type 0} (view : X → PlainElement) (used : X → ℕ) (past : SdpRefusal) (levels : ℕ) (octets : List ℕ) (result : Result X SdpRefusal) → IsOctets octets → IsFront view used past levels octets result
    → GivesTree view used levels octets result (tree_at past levels octets)
    → IfOk result (λ x. (tree : Tree) × IsSpelledBy tree (take (used x) octets) × (depth tree ≤ levels) × Stands (view x) tree)
tree_found view used past levels octets (Ok x) h f g =
    let t = tree_takes past levels octets (g.1.0, drop (used x) octets) h g.1.1 in
    let content = front_takes past levels octets (view x, drop (used x) octets) h f in
    (g.1.0, subst (IsSpelledBy g.1.0) (front_taken octets t.front (used x) g.0 t.parts) t.spelled, t.within, shows_stands (levels - 1) (view x) g.1.0 content.content_fits g.1.2)
tree_found view used past levels octets (Err d) h f g = tt

pub tree_only : {X : Type 0} (view : X → PlainElement) (used : X → ℕ) (past : SdpRefusal) (levels : ℕ) (octets : List ℕ) (result : Result X SdpRefusal) → IsOctets octets → IsFront view used past levels octets result
    → GivesTree view used levels octets result (tree_at past levels octets)
    → (tree : Tree) (front rest : List ℕ) → IsSpelledBy tree front → depth tree ≤ levels → octets ≡ front ++ rest → IsOkAnd result (λ x. Stands (view x) tree × (used x ≡ length front))
tree_only view used past levels octets (Ok x) h f g tree front rest s d e =
    let read = ap (tree_at past levels) e ∙ tree_again tree past levels front rest s d in
    let same = same_pair g.1.0 tree (drop (used x) octets) rest (sym g.1.1 ∙ read) in
    let content = front_takes past levels octets (view x, drop (used x) octets) h f in
    (subst (Stands (view x)) same.0 (shows_stands (levels - 1) (view x) g.1.0 content.content_fits g.1.2), front_len octets front rest (used x) g.0 e same.1)
tree_only view used past levels octets (Err d) h f g tree front rest s w e =
    absurd (let read = sym g ∙ ap (tree_at past levels) e ∙ tree_again tree past levels front rest s w in cc)

-- ---- the first of some parts

-- a part, without a look at its own parts
pub record Part (tree : Tree) (octets : List ℕ) : Type 0 where
  pub element : PlainElement
  pub is_form : IsForm element octets
  pub stands : Stands element tree

pub part_of : (tree : Tree) (octets : List ℕ) → IsSpelledBy tree octets → Part tree octets
part_of (Leaf value) octets s = record { element = Value value; is_form = s; stands = refl }
part_of (SequenceOf parts) octets s = record { element = Sequence s.0; is_form = s.1; stands = (parts, refl, s.2) }
part_of (AlternativeOf parts) octets s = record { element = Alternative s.0; is_form = s.1; stands = (parts, refl, s.2) }

pub within_one : (element : PlainElement) → IsWithin 1 element
within_one (Value value) = tt
within_one (Sequence content) = omega arith
within_one (Alternative content) = omega arith

-- what is left behind the first part
pub left_behind : (left front rest : List ℕ) (used : ℕ) → left ≡ front ++ rest → used ≡ length front → take (length left - used) (drop used left) ≡ rest
left_behind left front rest used e len =
    let behind : drop used left ≡ rest = ap (drop used) e ∙ drop_at front rest used (sym len) in
    ap (take (length left - used)) behind ∙ take_all (length left - used) rest (omega (arith, ap length e, length-append front rest))
