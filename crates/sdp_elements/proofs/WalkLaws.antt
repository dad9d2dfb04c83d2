-- A walk over parts, one by one.
use Rattle.std.proofs.Common.{◌≡◌, ℕ, ◌<◌, List, ◌∷◌, ◌++◌, length, Option, Some, None, refl, sym, ap, arith}
use Rattle.std.proofs.lemmas.List.{length-append}
use Rattle.sdp_elements.specs.Elements.{PlainElement, Tree, Trees, Finish, Then}
use Rattle.sdp_elements.specs.Optional.{◌>>=◌}
use Rattle.sdp_elements.specs.Sequences.{collected}
use Rattle.sdp_elements.specs.Spelling.{IsForm, AreSpelledBy, Stands}

-- ---- one step

form_some : (element : PlainElement) (octets : List ℕ) → IsForm element octets → 0 < length octets
form_some element octets f = let e = ap length f.octets_are in omega arith

pub walk_shorter : (element : PlainElement) (old new : List ℕ) → ((front : List ℕ) × IsForm element front × (old ≡ front ++ new)) → length new < length old
walk_shorter element old new found =
    let some = form_some element found.0 found.1 in
    omega (arith, ap length found.2, length-append found.0 new)

-- the part that was given is the first of those that were left
pub record Walked (rest : Trees) (element : PlainElement) (left : List ℕ) : Type 0 where
  pub first : Tree
  pub others : Trees
  pub rest_is : rest ≡ Then first others
  pub stands : Stands element first
  pub spelled : AreSpelledBy others left

pub walked : (rest : Trees) (element : PlainElement) (old new : List ℕ) → ((front : List ℕ) × IsForm element front × (old ≡ front ++ new))
    → ((first : Tree) (others : Trees) → AreSpelledBy (Then first others) old → Stands element first × AreSpelledBy others new) → AreSpelledBy rest old → Walked rest element new
walked Finish element old new found parts s = absurd (let shorter = walk_shorter element old new found in omega (arith, ap length s))
walked (Then first others) element old new found parts s =
    let p = parts first others s in
    record { first = first; others = others; rest_is = refl; stands = p.0; spelled = p.1 }

-- where no part was given, none was left
pub walk_over : (rest : Trees) (old new : List ℕ) → ((first : Tree) (others : Trees) → AreSpelledBy (Then first others) old → ⊥ × AreSpelledBy others new) → AreSpelledBy rest old → rest ≡ Finish
walk_over Finish old new parts s = refl
walk_over (Then first others) old new parts s = absurd (parts first others s).0

-- ---- what the parts are

pub record Collected {A : Type 0} (what : Tree → Option A) (first : Tree) (others : Trees) (all : List A) : Type 0 where
  pub found : A
  pub more : List A
  pub first_is : what first ≡ Some found
  pub others_are : collected what others ≡ Some more
  pub all_is : all ≡ found ∷ more

some_is : {A : Type 0} (x y : A) → Some x ≡ Some y → x ≡ y
some_is x y e = cc

bind_some : {A B : Type 0} (o : Option A) (f : A → Option B) (y : B) → (o >>= f) ≡ Some y → (x : A) × (o ≡ Some x) × (f x ≡ Some y)
bind_some (Some x) f y e = (x, refl, e)
bind_some None f y e = absurd cc

pub collected_step : {A : Type 0} (what : Tree → Option A) (first : Tree) (others : Trees) (all : List A) → collected what (Then first others) ≡ Some all → Collected what first others all
collected_step what first others all e =
    let a = bind_some (what first) (λ found. collected what others >>= λ more. Some (found ∷ more)) all e in
    let b = bind_some (collected what others) (λ more. Some (a.0 ∷ more)) all a.2 in
    record { found = a.0; more = b.0; first_is = a.1; others_are = b.1; all_is = sym (some_is (a.0 ∷ b.0) all b.2) }
