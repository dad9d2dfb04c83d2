-- What a shelf answers.
use Rattle.std.proofs.Common.{ℕ, suc, ◌≡◌, ◌≤◌, ◌==◌, ◌+◌, ◌∙◌, Bool, true, false, List, [], ◌∷◌, ◌++◌, map, length, take, drop, Option, Some, None, Result, Ok, Err, refl, sym, ap, subst, arith}
use Rattle.std.specs.Prelude.{min, nat_le}
use Rattle.std.specs.Str.{bytes_eq}
use Rattle.std.proofs.lemmas.Slice.Eq.{bytes_eq-Decides}
use Rattle.std.specs.List.{AllByRecursion}
use Rattle.std.proofs.lemmas.Bool.{eqb-true, eq-eqb, and_parts, and_from, leb-true, le-leb, false≢true}
use Rattle.host_model.specs.bt_base.specs.Objects.{Object, octets_of, HasAt}
use Rattle.host_model.specs.bt_base.specs.Octets.{IsOctets}
use Rattle.host_model.specs.bt_base.specs.declared.ports.PortFault.{PortFault}
use Rattle.host_model.specs.h4_framing.proofs.OctetLists.{IsOctets-cons, IsOctets-nil}
use Rattle.host_model.specs.push_model.specs.Steps.{Part as Octets}
use Rattle.host_model.specs.world_model.specs.Machines.{News, Linked, Failed, Heard, TimerFired, Cancelled, Opening}
use Rattle.host_model.specs.Circumstances.{Circumstance, Excerpt, Size, Part, Stored, size_in, parts_in}
use Rattle.shelf_model.specs.Held.{longest_octets, low_octet, part_in_octets, is_at, part_where, standing, given_at, given_by, IsThere, IsHeld, IsPartOctets, length_of, is_length, size_where, sized, sized_in, told_by, held_by, ShelvesGiveWhatTheyHold, SizesAreOfObjects}

-- the first of these is asked for, and of that the length alone
pub size_sized : (name : List ℕ) (objects : List Object) (answers : List Circumstance) → size_in (map (sized_in name objects) answers) ≡ sized name objects (size_in answers)
size_sized name objects [] = refl
size_sized name objects (Size answer ∷ answers) = refl
size_sized name objects (Part answer ∷ answers) = size_sized name objects answers
size_sized name objects (Stored answer ∷ answers) = size_sized name objects answers

-- parts of objects are what they are
pub parts_stay : (name : List ℕ) (objects : List Object) (answers : List Circumstance) → parts_in (map (sized_in name objects) answers) ≡ parts_in answers
parts_stay name objects [] = refl
parts_stay name objects (Size answer ∷ answers) = parts_stay name objects answers
parts_stay name objects (Part excerpt ∷ answers) = ap (λ (l : List Excerpt). excerpt ∷ l) (parts_stay name objects answers)
parts_stay name objects (Stored answer ∷ answers) = parts_stay name objects answers

length_is : (found : Option ℕ) (size : ℕ) → is_length found size ≡ true → found ≡ Some size
length_is None size is = cc
length_is (Some length) size is = ap Some (eqb-true length size is)

where_so : (test : Bool) (size told : ℕ) → size_where test size ≡ Ok told → (test ≡ true) × (size ≡ told)
where_so true size told is = (refl, cc)
where_so false size told is = cc

sized_is : (name : List ℕ) (objects : List Object) (answer : Result ℕ PortFault) (size : ℕ) → sized name objects answer ≡ Ok size → length_of name objects ≡ Some size
sized_is name objects (Ok told) size is =
    let so = where_so (is_length (length_of name objects) told) told size is in length_is (length_of name objects) told so.0 ∙ ap Some so.1
sized_is name objects (Err fault) size is = cc

pub sizes-are_of_objects : SizesAreOfObjects
sizes-are_of_objects objects name answers size is = sized_is name objects (size_in answers) size (sym (size_sized name objects answers) ∙ is)

-- what is so is not changed
pub sized_stays : (name : List ℕ) (objects : List Object) (size : ℕ) → length_of name objects ≡ Some size → sized name objects (Ok size) ≡ Ok size
sized_stays name objects size is = ap (λ (found : Option ℕ). size_where (is_length found size) size) is ∙ ap (λ (test : Bool). size_where test size) (eq-eqb size size refl)

parts_told : (shelf : Option (List Object)) (news : News) (answers : List Circumstance) → parts_in (told_by shelf news answers) ≡ parts_in answers
parts_told None news answers = refl
parts_told (Some objects) (Linked event) answers = refl
parts_told (Some objects) (Failed status) answers = refl
parts_told (Some objects) (Heard pdu) answers = refl
parts_told (Some objects) TimerFired answers = refl
parts_told (Some objects) Cancelled answers = refl
parts_told (Some objects) (Opening name) answers = parts_stay name objects answers

pub parts_held : (shelf : Option (List Object)) (news : News) (answers : List Circumstance) → parts_in (held_by shelf news answers) ≡ parts_in (map (given_by shelf) answers)
parts_held shelf news answers = parts_told shelf news (map (given_by shelf) answers)

-- ---- octets

low_octets : (xs : List ℕ) → IsOctets (map low_octet xs)
low_octets [] = IsOctets-nil
low_octets (x ∷ xs) = IsOctets-cons (low_octet x) (map low_octet xs) (omega arith) (low_octets xs)

-- what are octets stays
octets_stay : (xs : List ℕ) → IsOctets xs → map low_octet xs ≡ xs
octets_stay [] are = refl
octets_stay (x ∷ xs) are =
    let first = are 0 in
    let same : low_octet x ≡ x = omega (arith, first) in
    ap (λ (n : ℕ). n ∷ map low_octet xs) same ∙ ap (λ (l : List ℕ). x ∷ l) (octets_stay xs (λ i. are (suc i)))

pub part_stays : (answer : Octets) → IsPartOctets answer → part_in_octets answer ≡ answer
part_stays (Ok part) are = ap (λ (p : List ℕ). let one : Octets = Ok p in one) (octets_stay part are)
part_stays (Err fault) are = refl

pub size_stays : (size : ℕ) → size ≤ longest_octets → min size longest_octets ≡ size
size_stays size short = omega (arith, short)

-- ---- excerpts

-- octets are there where the test says so, and only there
stands_there : (at : ℕ) (part : List ℕ) (found : Option (List ℕ)) → is_at at part found ≡ true → HasAt at part found
stands_there at part None is = absurd (false≢true is)
stands_there at part (Some octets) is =
    let both = and_parts (nat_le (at + length part) (length octets)) (bytes_eq part (take (length part) (drop at octets))) is in
    (leb-true (at + length part) (length octets) both.0, (bytes_eq-Decides part (take (length part) (drop at octets))).0 both.1)

is_there : (at : ℕ) (part : List ℕ) (found : Option (List ℕ)) → HasAt at part found → is_at at part found ≡ true
is_there at part None has = absurd has
is_there at part (Some octets) has =
    and_from (nat_le (at + length part) (length octets)) (bytes_eq part (take (length part) (drop at octets))) (le-leb (at + length part) (length octets) has.0) ((bytes_eq-Decides part (take (length part) (drop at octets))).1 has.1)

there_where : (objects : List Object) (name : List ℕ) (at : ℕ) (part : List ℕ) (test : Bool) → is_at at part (octets_of name objects) ≡ test → IsOctets part → IsThere (Some objects) name at (part_where test part)
there_where objects name at part true is are = (are, stands_there at part (octets_of name objects) is)
there_where objects name at part false is are = tt

there_given : (objects : List Object) (name : List ℕ) (at : ℕ) (answer : Octets) → IsThere (Some objects) name at (standing objects name at (part_in_octets answer))
there_given objects name at (Ok part) = there_where objects name at (map low_octet part) (is_at at (map low_octet part) (octets_of name objects)) refl (low_octets part)
there_given objects name at (Err fault) = tt

there_octets : (name : List ℕ) (at : ℕ) (answer : Octets) → IsThere None name at (part_in_octets answer)
there_octets name at (Ok part) = (low_octets part, tt)
there_octets name at (Err fault) = tt

given_there : (shelf : Option (List Object)) (name : List ℕ) (at : ℕ) (answer : Octets) → IsThere shelf name at (given_at shelf name at (part_in_octets answer))
given_there None name at answer = there_octets name at answer
given_there (Some objects) name at answer = there_given objects name at answer

all_held : (shelf : Option (List Object)) (answers : List Circumstance) → AllByRecursion (IsHeld shelf) (parts_in (map (given_by shelf) answers))
all_held shelf [] = tt
all_held shelf (Size answer ∷ answers) = all_held shelf answers
all_held shelf (Part excerpt ∷ answers) = (given_there shelf excerpt.name excerpt.at excerpt.answer, all_held shelf answers)
all_held shelf (Stored answer ∷ answers) = all_held shelf answers

-- what is there is not changed
there_stays : (objects : List Object) (name : List ℕ) (at : ℕ) (answer : Octets) → IsThere (Some objects) name at answer → standing objects name at answer ≡ answer
there_stays objects name at (Ok part) is = ap (λ (test : Bool). part_where test part) (is_there at part (octets_of name objects) is.1)
there_stays objects name at (Err fault) is = refl

-- octets that stand there are octets
pub held_any : (shelf : Option (List Object)) (name : List ℕ) (at : ℕ) (answer : Octets) → IsThere shelf name at answer → IsThere None name at answer
held_any shelf name at (Ok part) is = (is.0, tt)
held_any shelf name at (Err fault) is = tt

pub octets_held : (shelf : Option (List Object)) (name : List ℕ) (at : ℕ) (answer : Octets) → IsThere shelf name at answer → IsPartOctets answer
octets_held shelf name at (Ok part) is = is.0
octets_held shelf name at (Err fault) is = tt

given_stays : (shelf : Option (List Object)) (name : List ℕ) (at : ℕ) (answer : Octets) → IsThere shelf name at answer → given_at shelf name at answer ≡ answer
given_stays None name at answer is = refl
given_stays (Some objects) name at answer is = there_stays objects name at answer is

pub held_stays : (shelf : Option (List Object)) (excerpt : Excerpt) → IsHeld shelf excerpt → given_by shelf (Part excerpt) ≡ Part excerpt
held_stays shelf excerpt is =
    ap (λ (answer : Octets). Part (record excerpt { answer = given_at shelf excerpt.name excerpt.at answer })) (part_stays excerpt.answer (octets_held shelf excerpt.name excerpt.at excerpt.answer is))
    ∙ ap (λ (answer : Octets). Part (record excerpt { answer = answer })) (given_stays shelf excerpt.name excerpt.at excerpt.answer is)

-- lengths
abbrev IsFew : Result ℕ PortFault → Type 0
IsFew answer = (size : ℕ) → answer ≡ Ok size → size ≤ longest_octets

few_given : (shelf : Option (List Object)) (answers : List Circumstance) → IsFew (size_in (map (given_by shelf) answers))
few_given shelf [] size is = cc
few_given shelf (Size (Ok told) ∷ answers) size is = let same : min told longest_octets ≡ size = cc in omega (arith, same)
few_given shelf (Size (Err fault) ∷ answers) size is = cc
few_given shelf (Part excerpt ∷ answers) size is = few_given shelf answers size is
few_given shelf (Stored answer ∷ answers) size is = few_given shelf answers size is

few_where : (test : Bool) (told : ℕ) → told ≤ longest_octets → IsFew (size_where test told)
few_where true told short size is = let same : told ≡ size = cc in omega (arith, same, short)
few_where false told short size is = cc

few_sized : (name : List ℕ) (objects : List Object) (answer : Result ℕ PortFault) → IsFew answer → IsFew (sized name objects answer)
few_sized name objects (Ok told) few size is = few_where (is_length (length_of name objects) told) told (few told refl) size is
few_sized name objects (Err fault) few size is = cc

few_told : (shelf : Option (List Object)) (news : News) (answers : List Circumstance) → IsFew (size_in answers) → IsFew (size_in (told_by shelf news answers))
few_told None news answers few = few
few_told (Some objects) (Linked event) answers few = few
few_told (Some objects) (Failed status) answers few = few
few_told (Some objects) (Heard pdu) answers few = few
few_told (Some objects) TimerFired answers few = few
few_told (Some objects) Cancelled answers few = few
few_told (Some objects) (Opening name) answers few = λ size is. few_sized name objects (size_in answers) few size (sym (size_sized name objects answers) ∙ is)

pub shelves-give_what_they_hold : ShelvesGiveWhatTheyHold
shelves-give_what_they_hold = record {
  parts = λ shelf news answers. subst (AllByRecursion (IsHeld shelf)) (sym (parts_held shelf news answers)) (all_held shelf answers);
  sizes = λ shelf news answers. few_told shelf news (map (given_by shelf) answers) (few_given shelf answers);
}
