-- Members of a list by a number that each has.
use Rattle.std.proofs.Common.{◌≡◌, ℕ, List, [], ◌∷◌, ◌++◌, map, Bool, true, false, cond, ◌&&◌, ◌||◌, eqb, not, Option, Some, None, refl, sym, ap, ◌∙◌}
use Rattle.std.specs.Prelude.{find, filter, option_map}
use Rattle.std.specs.Option.{option_or}
use Rattle.std.specs.List.{list_any}
use Rattle.std.proofs.lemmas.Bool.{eqb-true, eq-eqb}
use Rattle.channel_model.specs.Value.{Held}
use Rattle.channel_model.specs.Changing.{in_place_of, has_own}

pub or_on : (b : Bool) → (b || true) ≡ true
or_on true = refl
or_on false = refl

pub and_off : (b : Bool) → (b && false) ≡ false
and_off true = refl
and_off false = refl

pub off_and : (a b : Bool) → a ≡ false → (a && b) ≡ false
off_and a b is = ap (λ t. t && b) is

-- the number of a member
abbrev pub has : {X : Type 0} → (X → ℕ) → ℕ → X → Bool
has key n x = eqb (key x) n

pub eqb-same : (n : ℕ) → eqb n n ≡ true
eqb-same n = eq-eqb n n refl

pub map_choice : {X Y : Type 0} (f : X → Y) (test : Bool) (x : X) (rest : Option X) → option_map f (cond test (Some x) rest) ≡ cond test (Some (f x)) (option_map f rest)
map_choice f true x rest = refl
map_choice f false x rest = refl

found_by : {X : Type 0} (key : X → ℕ) (n : ℕ) (x found : X) (rest : Option X) (test : Bool) → has key n x ≡ test → (rest ≡ Some found → key found ≡ n) → cond test (Some x) rest ≡ Some found → key found ≡ n
found_by key n x found rest true is later some = let same : x ≡ found = cc in ap key (sym same) ∙ eqb-true (key x) n is
found_by key n x found rest false is later some = later some

-- what is found has the number
pub found-has : {X : Type 0} (key : X → ℕ) (n : ℕ) (xs : List X) (found : X) → find (has key n) xs ≡ Some found → key found ≡ n
found-has key n [] found is = cc
found-has key n (x ∷ xs) found is = found_by key n x found (find (has key n) xs) (has key n x) refl (found-has key n xs found) is

-- a change that keeps the numbers
pub find-map : {X : Type 0} (key : X → ℕ) (f : X → X) → ((x : X) → key (f x) ≡ key x) → (n : ℕ) (xs : List X) → find (has key n) (map f xs) ≡ option_map f (find (has key n) xs)
find-map key f keeps n [] = refl
find-map key f keeps n (x ∷ xs) =
    ap (λ m. cond (eqb m n) (Some (f x)) (find (has key n) (map f xs))) (keeps x)
    ∙ (ap (λ rest. cond (eqb (key x) n) (Some (f x)) rest) (find-map key f keeps n xs)
    ∙ sym (map_choice f (eqb (key x) n) x (find (has key n) xs)))

or_choice : {X : Type 0} (test : Bool) (x : X) (rest last : Option X) → cond test (Some x) (option_or rest last) ≡ option_or (cond test (Some x) rest) last
or_choice true x rest last = refl
or_choice false x rest last = refl

pub find-append : {X : Type 0} (key : X → ℕ) (n : ℕ) (xs : List X) (y : X) → find (has key n) (xs ++ y ∷ []) ≡ option_or (find (has key n) xs) (cond (has key n y) (Some y) None)
find-append key n [] y = refl
find-append key n (x ∷ xs) y =
    ap (λ rest. cond (has key n x) (Some x) rest) (find-append key n xs y)
    ∙ or_choice (has key n x) x (find (has key n) xs) (cond (has key n y) (Some y) None)

-- a member less

other_by : {X : Type 0} (key : X → ℕ) (gone n : ℕ) (x : X) (xs ys : List X) (test : Bool) → eqb (key x) gone ≡ test → eqb gone n ≡ false → find (has key n) ys ≡ find (has key n) xs
    → find (has key n) (cond (not test) (x ∷ ys) ys) ≡ cond (has key n x) (Some x) (find (has key n) xs)
other_by key gone n x xs ys true is apart same = same ∙ sym (ap (λ t. cond t (Some x) (find (has key n) xs)) (ap (λ m. eqb m n) (eqb-true (key x) gone is) ∙ apart))
other_by key gone n x xs ys false is apart same = ap (λ rest. cond (has key n x) (Some x) rest) same

pub find-others : {X : Type 0} (key : X → ℕ) (gone n : ℕ) (xs : List X) → eqb gone n ≡ false → find (has key n) (filter (λ x. not (eqb (key x) gone)) xs) ≡ find (has key n) xs
find-others key gone n [] apart = refl
find-others key gone n (x ∷ xs) apart = other_by key gone n x xs (filter (λ y. not (eqb (key y) gone)) xs) (eqb (key x) gone) refl apart (find-others key gone n xs apart)

none_by : {X : Type 0} (key : X → ℕ) (gone : ℕ) (x : X) (ys : List X) (test : Bool) → eqb (key x) gone ≡ test → find (has key gone) ys ≡ None → find (has key gone) (cond (not test) (x ∷ ys) ys) ≡ None
none_by key gone x ys true is none = none
none_by key gone x ys false is none = ap (λ t. cond t (Some x) (find (has key gone) ys)) is ∙ none

pub find-gone : {X : Type 0} (key : X → ℕ) (gone : ℕ) (xs : List X) → find (has key gone) (filter (λ x. not (eqb (key x) gone)) xs) ≡ None
find-gone key gone [] = refl
find-gone key gone (x ∷ xs) = none_by key gone x (filter (λ y. not (eqb (key y) gone)) xs) (eqb (key x) gone) refl (find-gone key gone xs)

-- a member that passes is found
pub any-finds : {X : Type 0} (p : X → Bool) (xs : List X) → list_any p xs ≡ true → (found : X) × (find p xs ≡ Some found) × (p found ≡ true)
any-finds p [] is = cc
any-finds {X = X} p (x ∷ xs) is = by (p x) refl (λ any. any-finds p xs any) is
  where
    by : (t : Bool) → p x ≡ t → (list_any p xs ≡ true → (found : X) × (find p xs ≡ Some found) × (p found ≡ true)) → (t || list_any p xs) ≡ true → (found : X) × (cond t (Some x) (find p xs) ≡ Some found) × (p found ≡ true)
    by true passes later any = (x, refl, passes)
    by false passes later any = later any

-- ---- each number is that of one member

abbrev pub Distinct : {X : Type 0} → (X → ℕ) → List X → Type 0
Distinct key [] = Unit {0}
Distinct key (x ∷ xs) = (find (has key (key x)) xs ≡ None) × Distinct key xs

pub distinct-map : {X : Type 0} (key : X → ℕ) (f : X → X) → ((x : X) → key (f x) ≡ key x) → (xs : List X) → Distinct key xs → Distinct key (map f xs)
distinct-map key f keeps [] distinct = tt
distinct-map key f keeps (x ∷ xs) distinct =
    (ap (λ n. find (has key n) (map f xs)) (keeps x) ∙ (find-map key f keeps (key x) xs ∙ ap (option_map f) distinct.0), distinct-map key f keeps xs distinct.1)

none_before : {X : Type 0} (f : X → X) (found : Option X) → option_map f found ≡ None → found ≡ None
none_before f None is = refl
none_before f (Some x) is = cc

pub distinct-before : {X : Type 0} (key : X → ℕ) (f : X → X) → ((x : X) → key (f x) ≡ key x) → (xs : List X) → Distinct key (map f xs) → Distinct key xs
distinct-before key f keeps [] distinct = tt
distinct-before key f keeps (x ∷ xs) distinct =
    (none_before f (find (has key (key x)) xs) (sym (find-map key f keeps (key x) xs) ∙ (sym (ap (λ n. find (has key n) (map f xs)) (keeps x)) ∙ distinct.0)), distinct-before key f keeps xs distinct.1)

pub not_found : {X : Type 0} (test : Bool) (x : X) (rest : Option X) → cond test (Some x) rest ≡ None → (test ≡ false) × (rest ≡ None)
not_found true x rest is = cc
not_found false x rest is = (refl, is)

none_passing : {X : Type 0} (p q : X → Bool) (xs : List X) → find q xs ≡ None → find q (filter p xs) ≡ None
none_passing p q [] none = refl
none_passing p q (x ∷ xs) none = by (p x) (none_passing p q xs (not_found (q x) x (find q xs) none).1)
  where
    by : (t : Bool) → find q (filter p xs) ≡ None → find q (cond t (x ∷ filter p xs) (filter p xs)) ≡ None
    by true rest = ap (λ t. cond t (Some x) (find q (filter p xs))) (not_found (q x) x (find q xs) none).0 ∙ rest
    by false rest = rest

pub distinct-filter : {X : Type 0} (key : X → ℕ) (p : X → Bool) (xs : List X) → Distinct key xs → Distinct key (filter p xs)
distinct-filter key p [] distinct = tt
distinct-filter key p (x ∷ xs) distinct = by (p x) (distinct-filter key p xs distinct.1)
  where
    by : (t : Bool) → Distinct key (filter p xs) → Distinct key (cond t (x ∷ filter p xs) (filter p xs))
    by true rest = (none_passing p (has key (key x)) xs distinct.0, rest)
    by false rest = rest

pub eqb-away : (a b : ℕ) → eqb a b ≡ false → eqb b a ≡ false
eqb-away a b is = by (eqb b a) refl
  where
    by : (t : Bool) → eqb b a ≡ t → t ≡ false
    by false now = refl
    by true now = let never : true ≡ false = sym (eqb-same a) ∙ (ap (eqb a) (sym (eqb-true b a now)) ∙ is) in absurd cc

pub distinct-append : {X : Type 0} (key : X → ℕ) (xs : List X) (y : X) → find (has key (key y)) xs ≡ None → Distinct key xs → Distinct key (xs ++ y ∷ [])
distinct-append key [] y none distinct = (refl, tt)
distinct-append key (x ∷ xs) y none distinct =
    let parts = not_found (has key (key y) x) x (find (has key (key y)) xs) none in (
      find-append key (key x) xs y ∙ (ap (λ o. option_or o (cond (has key (key x) y) (Some y) None)) distinct.0 ∙ ap (λ t. cond t (Some y) None) (eqb-away (key x) (key y) parts.0)),
      distinct-append key xs y parts.1 distinct.1,
    )

-- a member that is found otherwise is found by its number
pub found-distinct : {X : Type 0} (key : X → ℕ) (p : X → Bool) (xs : List X) (found : X) → Distinct key xs → find p xs ≡ Some found → find (has key (key found)) xs ≡ Some found
found-distinct key p [] found distinct is = cc
found-distinct {X = X} key p (x ∷ xs) found distinct is = by (p x) (λ some. found-distinct key p xs found distinct.1 some) is
  where
    further : find (has key (key found)) xs ≡ Some found → (t : Bool) → has key (key found) x ≡ t → cond t (Some x) (find (has key (key found)) xs) ≡ Some found
    further there false now = there
    further there true now = let never : None ≡ Some found = sym distinct.0 ∙ (ap (λ n. find (has key n) xs) (eqb-true (key x) (key found) now) ∙ there) in absurd cc

    by : (t : Bool) → (find p xs ≡ Some found → find (has key (key found)) xs ≡ Some found) → cond t (Some x) (find p xs) ≡ Some found → cond (has key (key found) x) (Some x) (find (has key (key found)) xs) ≡ Some found
    by true later some =
        let same : x ≡ found = cc in
        ap (λ (y : X). cond (eqb (key x) (key y)) (Some x) (find (has key (key y)) xs)) (sym same) ∙ (ap (λ t. cond t (Some x) (find (has key (key x)) xs)) (eqb-same (key x)) ∙ ap Some same)
    by false later some = further (later some) (has key (key found) x) refl

-- ---- channels that are held

abbrev pub own_of : Held → ℕ
own_of held = held.own

place_by : (held other : Held) (test : Bool) → eqb other.own held.own ≡ test → (cond test held other).own ≡ other.own
place_by held other true is = sym (eqb-true other.own held.own is)
place_by held other false is = refl

in_place_keeps : (held other : Held) → (in_place_of held other).own ≡ other.own
in_place_keeps held other = place_by held other (eqb other.own held.own) refl

-- a channel that is put in place of one
pub found-placed : (held before : Held) (hs : List Held) → find (has_own held.own) hs ≡ Some before → find (has_own held.own) (map (in_place_of held) hs) ≡ Some held
found-placed held before hs is =
    find-map own_of (in_place_of held) (in_place_keeps held) held.own hs
    ∙ (ap (option_map (in_place_of held)) is
    ∙ ap (λ t. Some (cond t held before)) (ap (λ n. eqb n held.own) (found-has own_of held.own hs before is) ∙ eqb-same held.own))

map_others : (held : Held) (own : ℕ) (found : Option Held) → ((x : Held) → found ≡ Some x → x.own ≡ own) → eqb held.own own ≡ false → option_map (in_place_of held) found ≡ found
map_others held own None at apart = refl
map_others held own (Some x) at apart = ap (λ t. Some (cond t held x)) (flip (eqb x.own held.own) refl)
  where
    flip : (t : Bool) → eqb x.own held.own ≡ t → eqb x.own held.own ≡ false
    flip false is = is
    flip true is =
        let same : x.own ≡ held.own = eqb-true x.own held.own is in
        let never : true ≡ false = sym (eqb-same own) ∙ (ap (λ n. eqb n own) (sym (at x refl) ∙ same) ∙ apart) in
        absurd cc

pub find-placed : (held : Held) (hs : List Held) (own : ℕ) → eqb held.own own ≡ false → find (has_own own) (map (in_place_of held) hs) ≡ find (has_own own) hs
find-placed held hs own apart =
    find-map own_of (in_place_of held) (in_place_keeps held) own hs
    ∙ map_others held own (find (has_own own) hs) (λ x is. found-has own_of own hs x is) apart

-- endpoints stay those of one channel each
pub placed-distinct : (held : Held) (hs : List Held) → Distinct own_of hs → Distinct own_of (map (in_place_of held) hs)
placed-distinct held hs distinct = distinct-map own_of (in_place_of held) (in_place_keeps held) hs distinct

pub placed-again : (held other : Held) (hs : List Held) → Distinct own_of (map (in_place_of held) hs) → Distinct own_of (map (in_place_of other) hs)
placed-again held other hs distinct = placed-distinct other hs (distinct-before own_of (in_place_of held) (in_place_keeps held) hs distinct)
