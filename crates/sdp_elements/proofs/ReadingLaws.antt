-- Reading the parts of an element one after the other.
use Rattle.std.proofs.Common.{◌≡◌, ℕ, zero, suc, ◌+◌, ◌-◌, ◌%◌, ◌<◌, ◌≤◌, Bool, true, false, cond, ltb, List, [], ◌∷◌, length, take, drop, Result, Ok, Err, refl, sym, ap, subst, ◌∙◌, arith}
use Rattle.std.proofs.lemmas.List.{length-drop, nil_from_length, take_all}
use Rattle.sdp_elements.specs.declared.fault.SdpRefusal.{SdpRefusal}
use Rattle.sdp_elements.specs.declared.fault.SdpRefusal.TheVariants.{TooDeep, LengthMismatch}
use Rattle.sdp_elements.specs.declared.header.Kind.{Kind}
use Rattle.sdp_elements.specs.declared.header.Kind.TheVariants as kinds
use Rattle.sdp_elements.specs.Headers.{header_at, length_octets, content_len}
use Rattle.sdp_elements.specs.Elements.{PlainElement, Value, Sequence, Alternative, Tree, Leaf, SequenceOf, AlternativeOf, Trees, Finish, Then, element_in, content_of}
use Rattle.sdp_elements.specs.Reading.{◌>>=◌, is_holder, content_at, behind_header, front_at, parts_at, parts_in, tree_of, tree_at, whole, no_parts, IsWithin, Shows}

-- the value of a step that did not fail
pub bind_ok : {A B : Type 0} (r : Result A SdpRefusal) (f : A → Result B SdpRefusal) (y : B) → (r >>= f) ≡ Ok y → (x : A) × (r ≡ Ok x) × (f x ≡ Ok y)
bind_ok (Ok x) f y e = (x, refl, e)
bind_ok (Err d) f y e = absurd cc

-- a test that did not refuse
pub passed : {A : Type 0} (b : Bool) (d : SdpRefusal) (r : Result A SdpRefusal) (y : A) → cond b (Err d) r ≡ Ok y → (b ≡ false) × (r ≡ Ok y)
passed true d r y e = absurd cc
passed false d r y e = (refl, e)

abbrev done : {A : Type 0} → A → Result A SdpRefusal
done x = Ok x

pub ok_is : {A : Type 0} (x y : A) → done x ≡ done y → x ≡ y
ok_is x y e = cc

-- ---- a step over an element leaves fewer octets

content_shorter : (past : SdpRefusal) (kind : Kind) (index : ℕ) (octets : List ℕ) (x : List ℕ × List ℕ) → content_at past kind index octets ≡ Ok x → length x.1 ≤ length octets
unfolding content_at
content_shorter past kind index octets x e =
    let end = length_octets index + content_len kind index octets in
    let a = passed (ltb (length octets) end) past _ x e in
    let made : List ℕ × List ℕ = (take (content_len kind index octets) (drop (length_octets index) octets), drop end octets) in
    subst (λ (y : List ℕ × List ℕ). length y.1 ≤ length octets) (ok_is made x a.1) (omega (arith, length-drop end octets))

behind_shorter : (past : SdpRefusal) (levels : ℕ) (kind : Kind) (index : ℕ) (octets : List ℕ) (x : PlainElement × List ℕ) → behind_header past levels kind index octets ≡ Ok x → length x.1 ≤ length octets
unfolding behind_header
behind_shorter past levels kind index octets x e =
    let a = passed _ TooDeep _ x e in
    let b = bind_ok (content_at past kind index octets) (λ found. Ok (element_in kind found.0, found.1)) x a.1 in
    let made : PlainElement × List ℕ = (element_in kind b.0.0, b.0.1) in
    subst (λ (y : PlainElement × List ℕ). length y.1 ≤ length octets) (ok_is made x b.2) (content_shorter past kind index octets b.0 b.1)

front_shorter : (past : SdpRefusal) (levels : ℕ) (octets : List ℕ) (x : PlainElement × List ℕ) → front_at past levels octets ≡ Ok x → length x.1 < length octets
unfolding front_at
front_shorter past levels [] x e = absurd cc
front_shorter past levels (octet ∷ octets) x e =
    let a = bind_ok (header_at octet) (λ kind. behind_header past levels kind (octet % 8) octets) x e in
    let l = behind_shorter past levels a.0 (octet % 8) octets x a.2 in
    omega arith

whole_rest : (parts : List ℕ → Result Trees SdpRefusal) (front : PlainElement × List ℕ) (x : Tree × List ℕ) → whole parts front ≡ Ok x → front.1 ≡ x.1
whole_rest parts front x e =
    let a = bind_ok (tree_of parts front.0) (λ tree. Ok (tree, front.1)) x e in
    let made : Tree × List ℕ = (a.0, front.1) in
    ap (λ (y : Tree × List ℕ). y.1) (ok_is made x a.2)

shorter : (octets : List ℕ) (read : Result (PlainElement × List ℕ) SdpRefusal) (parts : List ℕ → Result Trees SdpRefusal) (x : Tree × List ℕ) → ((y : PlainElement × List ℕ) → read ≡ Ok y → length y.1 < length octets)
    → (read >>= whole parts) ≡ Ok x → length x.1 < length octets
shorter octets read parts x less e =
    let a = bind_ok read (whole parts) x e in
    subst (λ (rest : List ℕ). length rest < length octets) (whole_rest parts a.0 x a.2) (less a.0 a.1)

pub tree_shorter : (past : SdpRefusal) (levels : ℕ) (octets : List ℕ) (x : Tree × List ℕ) → tree_at past levels octets ≡ Ok x → length x.1 < length octets
unfolding tree_at
tree_shorter past zero octets x e = shorter octets (front_at past 0 octets) no_parts x (front_shorter past 0 octets) e
tree_shorter past (suc levels) octets x e =
    shorter octets (front_at past (suc levels) octets) (λ content. parts_at (tree_at LengthMismatch levels) (length content) content) x (front_shorter past (suc levels) octets) e

-- ---- one part after the other

each_more : (part : List ℕ → Result (Tree × List ℕ) SdpRefusal) (n m : ℕ) (octets : List ℕ) (read : Result (Tree × List ℕ) SdpRefusal) → ((x : Tree × List ℕ) → read ≡ Ok x → length x.1 < length octets)
    → ((rest : List ℕ) → length rest ≤ n → length rest ≤ m → parts_at part n rest ≡ parts_at part m rest) → length octets ≤ suc n → length octets ≤ suc m
    → (read >>= λ first. parts_at part n first.1 >>= λ others. Ok (Then first.0 others)) ≡ (read >>= λ first. parts_at part m first.1 >>= λ others. Ok (Then first.0 others))
each_more part n m octets (Ok x) less same h k =
    let l = less x refl in
    ap (λ (r : Result Trees SdpRefusal). r >>= λ others. Ok (Then x.0 others)) (same x.1 (omega arith) (omega arith))
each_more part n m octets (Err d) less same h k = refl

-- more steps than there are octets change nothing
parts_more : (part : List ℕ → Result (Tree × List ℕ) SdpRefusal) (n m : ℕ) (octets : List ℕ) → ((octets : List ℕ) (x : Tree × List ℕ) → part octets ≡ Ok x → length x.1 < length octets)
    → length octets ≤ n → length octets ≤ m → parts_at part n octets ≡ parts_at part m octets
unfolding parts_at
parts_more part n m [] less h k = refl
parts_more part zero m (octet ∷ octets) less h k = absurd (omega arith)
parts_more part (suc n) zero (octet ∷ octets) less h k = absurd (omega arith)
parts_more part (suc n) (suc m) (octet ∷ octets) less h k = each_more part n m (octet ∷ octets) (part (octet ∷ octets)) (less (octet ∷ octets)) (λ rest. parts_more part n m rest less) h k

pub parts_nil : (levels : ℕ) → parts_in levels [] ≡ Ok Finish
unfolding parts_in parts_at
parts_nil levels = refl

pub parts_step : (levels : ℕ) (octets : List ℕ) (x : Tree × List ℕ) → tree_at LengthMismatch levels octets ≡ Ok x → parts_in levels octets ≡ (parts_in levels x.1 >>= λ others. Ok (Then x.0 others))
unfolding parts_in parts_at
parts_step levels [] x e = absurd (let l = tree_shorter LengthMismatch levels [] x e in omega arith)
parts_step levels (octet ∷ octets) x e =
    let part : List ℕ → Result (Tree × List ℕ) SdpRefusal = tree_at LengthMismatch levels in
    let l = tree_shorter LengthMismatch levels (octet ∷ octets) x e in
    ap (λ (r : Result (Tree × List ℕ) SdpRefusal). r >>= λ first. parts_at part (length octets) first.1 >>= λ others. Ok (Then first.0 others)) e
    ∙ ap (λ (r : Result Trees SdpRefusal). r >>= λ others. Ok (Then x.0 others)) (parts_more part (length octets) (length x.1) x.1 (tree_shorter LengthMismatch levels) (omega arith) (omega arith))

pub parts_refused : (levels : ℕ) (octets : List ℕ) (d : SdpRefusal) → 0 < length octets → tree_at LengthMismatch levels octets ≡ Err d → parts_in levels octets ≡ Err d
unfolding parts_in parts_at
parts_refused levels [] d h e = absurd (omega arith)
parts_refused levels (octet ∷ octets) d h e =
    ap (λ (r : Result (Tree × List ℕ) SdpRefusal). r >>= λ first. parts_at (tree_at LengthMismatch levels) (length octets) first.1 >>= λ others. Ok (Then first.0 others)) e

-- ---- the loop over the parts

-- what the parts that are left decide of all parts
pub record Decides (levels : ℕ) (content left : List ℕ) : Type 0 where
  pub found : (parts : Trees) → parts_in levels left ≡ Ok parts → (all : Trees) × (parts_in levels content ≡ Ok all)
  pub refused : (d : SdpRefusal) → parts_in levels left ≡ Err d → parts_in levels content ≡ Err d
  pub len : length left ≤ length content

pub decides_all : (levels : ℕ) (content : List ℕ) → Decides levels content content
decides_all levels content = record { found = λ parts e. (parts, e); refused = λ d e. e; len = omega arith }

pub goes_on : (levels : ℕ) (content left : List ℕ) (tree : Tree) (rest : List ℕ) → Decides levels content left → tree_at LengthMismatch levels left ≡ Ok (tree, rest) → Decides levels content rest
goes_on levels content left tree rest so_far e =
    let step = parts_step levels left (tree, rest) e in
    let l = tree_shorter LengthMismatch levels left (tree, rest) e in
    record {
      found = λ parts f. so_far.found (Then tree parts) (step ∙ ap (λ (r : Result Trees SdpRefusal). r >>= λ others. Ok (Then tree others)) f);
      refused = λ d f. so_far.refused d (step ∙ ap (λ (r : Result Trees SdpRefusal). r >>= λ others. Ok (Then tree others)) f);
      len = omega (arith, so_far.len);
    }

pub goes_on_by : (levels : ℕ) (content left : List ℕ) (tree : Tree) (part n : ℕ) → Decides levels content left → tree_at LengthMismatch levels left ≡ Ok (tree, drop part left) → n ≡ length left - part
    → Decides levels content (take n (drop part left))
goes_on_by levels content left tree part n so_far e h =
    subst (Decides levels content) (sym (take_all n (drop part left) (omega (arith, length-drop part left)))) (goes_on levels content left tree (drop part left) so_far e)

-- a front that is refused refuses the whole
pub front_refused : (past : SdpRefusal) (levels : ℕ) (octets : List ℕ) (d : SdpRefusal) → front_at past levels octets ≡ Err d → tree_at past levels octets ≡ Err d
unfolding tree_at
front_refused past zero octets d e = ap (λ (r : Result (PlainElement × List ℕ) SdpRefusal). r >>= whole no_parts) e
front_refused past (suc levels) octets d e =
    ap (λ (r : Result (PlainElement × List ℕ) SdpRefusal). r >>= whole (λ content. parts_at (tree_at LengthMismatch levels) (length content) content)) e

within_no_level : (element : PlainElement) → IsWithin 0 element → (value : PlainElement) → element ≡ value → 0 < length (content_of element) → ⊥
within_no_level (Value value) w other e h = omega arith
within_no_level (Sequence content) w other e h = omega arith
within_no_level (Alternative content) w other e h = omega arith

holder_refused : (parts : List ℕ → Result Trees SdpRefusal) (element : PlainElement) (rest : List ℕ) (d : SdpRefusal) → 0 < length (content_of element) → parts (content_of element) ≡ Err d → whole parts (element, rest) ≡ Err d
unfolding tree_of
holder_refused parts (Value value) rest d h e = absurd (omega arith)
holder_refused parts (Sequence content) rest d h e = ap (λ (r : Result Trees SdpRefusal). (r >>= λ found. Ok (SequenceOf found)) >>= λ tree. Ok (tree, rest)) e
holder_refused parts (Alternative content) rest d h e = ap (λ (r : Result Trees SdpRefusal). (r >>= λ found. Ok (AlternativeOf found)) >>= λ tree. Ok (tree, rest)) e

-- a part that is refused refuses the whole
pub tree_refused : (past : SdpRefusal) (levels : ℕ) (octets : List ℕ) (element : PlainElement) (rest left : List ℕ) (d : SdpRefusal) → front_at past levels octets ≡ Ok (element, rest) → IsWithin levels element
    → Decides (levels - 1) (content_of element) left → 0 < length left → tree_at LengthMismatch (levels - 1) left ≡ Err d → tree_at past levels octets ≡ Err d
unfolding tree_at parts_in
tree_refused past zero octets element rest left d f w so_far h e = absurd (within_no_level element w element refl (omega (arith, so_far.len)))
tree_refused past (suc levels) octets element rest left d f w so_far h e =
    let parts : List ℕ → Result Trees SdpRefusal = λ content. parts_at (tree_at LengthMismatch levels) (length content) content in
    let l : suc levels - 1 ≡ levels = omega arith in
    let part = subst (λ (n : ℕ). tree_at LengthMismatch n left ≡ Err d) l e in
    let all = subst (λ (n : ℕ). Decides n (content_of element) left) l so_far in
    ap (λ (r : Result (PlainElement × List ℕ) SdpRefusal). r >>= whole parts) f ∙ holder_refused parts element rest d (omega (arith, so_far.len)) (all.refused d (parts_refused levels left d h part))

whole_found : (levels : ℕ) (element : PlainElement) (rest : List ℕ) (all : Trees) → parts_in levels (content_of element) ≡ Ok all → (tree : Tree) × (whole (parts_in levels) (element, rest) ≡ Ok (tree, rest)) × Shows levels element tree
unfolding tree_of
whole_found levels (Value value) rest all e = (Leaf value, refl, refl)
whole_found levels (Sequence content) rest all e = (SequenceOf all, ap (λ (r : Result Trees SdpRefusal). (r >>= λ found. Ok (SequenceOf found)) >>= λ tree. Ok (tree, rest)) e, (all, e, refl))
whole_found levels (Alternative content) rest all e = (AlternativeOf all, ap (λ (r : Result Trees SdpRefusal). (r >>= λ found. Ok (AlternativeOf found)) >>= λ tree. Ok (tree, rest)) e, (all, e, refl))

value_found : (element : PlainElement) (rest : List ℕ) → IsWithin 0 element → (tree : Tree) × (whole no_parts (element, rest) ≡ Ok (tree, rest)) × Shows 0 element tree
unfolding tree_of
value_found (Value value) rest w = (Leaf value, refl, refl)
value_found (Sequence content) rest w = absurd (omega arith)
value_found (Alternative content) rest w = absurd (omega arith)

-- all parts were read
pub tree_found : (past : SdpRefusal) (levels : ℕ) (octets : List ℕ) (element : PlainElement) (rest left : List ℕ) → front_at past levels octets ≡ Ok (element, rest) → IsWithin levels element
    → Decides (levels - 1) (content_of element) left → length left ≡ 0 → (tree : Tree) × (tree_at past levels octets ≡ Ok (tree, rest)) × Shows (levels - 1) element tree
unfolding tree_at parts_in
tree_found past zero octets element rest left f w so_far h =
    let found = value_found element rest w in
    (found.0, ap (λ (r : Result (PlainElement × List ℕ) SdpRefusal). r >>= whole no_parts) f ∙ found.1, found.2)
tree_found past (suc levels) octets element rest left f w so_far h =
    let l : suc levels - 1 ≡ levels = omega arith in
    let now = subst (λ (n : ℕ). Decides n (content_of element) left) l so_far in
    let last : parts_in levels left ≡ Ok Finish = ap (parts_in levels) (nil_from_length left h) ∙ parts_nil levels in
    let all = now.found Finish last in
    let found = whole_found levels element rest all.0 all.1 in
    let shown = subst (λ (n : ℕ). Shows n element found.0) (sym l) found.2 in
    (found.0, ap (λ (r : Result (PlainElement × List ℕ) SdpRefusal). r >>= whole (λ content. parts_at (tree_at LengthMismatch levels) (length content) content)) f ∙ found.1, shown)

-- ---- levels

pub is_within : (kind : Kind) (levels : ℕ) (content : List ℕ) → (is_holder kind ≡ true → 0 < levels) → IsWithin levels (element_in kind content)
is_within kinds.Nil levels content h = tt
is_within kinds.Unsigned levels content h = tt
is_within kinds.Signed levels content h = tt
is_within kinds.Uuid levels content h = tt
is_within kinds.Text levels content h = tt
is_within kinds.Boolean levels content h = tt
is_within kinds.Sequence levels content h = h refl
is_within kinds.Alternative levels content h = h refl
is_within kinds.Url levels content h = tt

pub level_left : (levels : ℕ) (element : PlainElement) (left : List ℕ) → IsWithin levels element → Decides (levels - 1) (content_of element) left → 0 < length left → 0 < levels
level_left levels (Value value) left w so_far h = absurd (omega (arith, so_far.len))
level_left levels (Sequence content) left w so_far h = w
level_left levels (Alternative content) left w so_far h = w
