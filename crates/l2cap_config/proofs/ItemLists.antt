-- Lists of options: what is read is spelled so, what is spelled so is read, and how lists join.
use Rattle.std.proofs.Common.{◌≡◌, ℕ, zero, suc, ◌+◌, ◌<◌, ◌≤◌, Bool, true, false, cond, eqb, ltb, List, [], ◌∷◌, ◌++◌, length, take, drop, Option, Some, None, Result, Ok, Err, refl, sym, ap, subst, ◌∙◌, arith, inl, inr}
use Rattle.std.specs.Prelude.{IfSome, IfOk, IfErr, unwrap_or, option_map, slice_index, filter, map}
use Rattle.std.specs.Option.{option_or, option_and_then}
use Rattle.std.specs.List.{AllByRecursion}
use Rattle.std.proofs.lemmas.Bool.{cases_lt, eqb-true, eq-eqb, ltb-false, le-ltb}
use Rattle.std.proofs.lemmas.List.{take_at, drop_at, take-append-drop, length-take, length-take-le, length-drop, get_or-drop, get_or-take, get_or_past, length-append}
use Rattle.bt_base.specs.Octets.{IsOctets}
use Rattle.l2cap_config.specs.declared.options.Options.{Options}
use Rattle.l2cap_config.specs.declared.options.ModeOption.{ModeOption}
use Rattle.l2cap_config.specs.declared.options.ConfigRefusal.{ConfigRefusal}
use Rattle.l2cap_config.specs.declared.options.ConfigRefusal.TheVariants.{BadOptionLength}
use Rattle.l2cap_config.specs.Types.{kind_of, size_of_kind, is_unknown, joined_types}
use Rattle.l2cap_config.specs.Items.{Item, IsItem, spelling, spelled, last_of, word_at, mode_in, options_in, no_options, joined}
use Rattle.l2cap_config.specs.Reading.{fits, item_at, items_within, items_of, stated, options_read}
use Rattle.l2cap_config.proofs.TypeLists.{joined-append, joined_assoc}

-- ---- octets

octets_behind : (n : ℕ) (xs : List ℕ) → IsOctets xs → IsOctets (drop n xs)
octets_behind n xs fits i = rw get_or-drop (fits (n + i))

octets_front : (n : ℕ) (xs : List ℕ) → IsOctets xs → IsOctets (take n xs)
octets_front n xs fits i =
    elim (cases_lt i n) [
      | inl lt ↦ rw (get_or-take n xs i 0 lt) (fits i)
      | inr le ↦ rw (get_or_past (take n xs) i 0 (omega (arith, length-take n xs))) (omega arith)
    ]

-- ---- one option

-- what a reader took from the front
pub record Takes (octets : List ℕ) (item : Item) (rest : List ℕ) : Type 0 where
  pub fits : IsItem item
  pub parts : octets ≡ spelling item ++ rest
  pub behind : IsOctets rest

sized_by : (kind : Option ℕ) (size n : ℕ) → n ≡ size → eqb size (unwrap_or kind size) ≡ true → IfSome kind (λ wanted. n ≡ wanted)
sized_by None size n e t = tt
sized_by (Some wanted) size n e t = e ∙ eqb-true size wanted t

guards : {A : Type 0} (short long : Bool) (x y : A) → cond short None (cond long (Some x) None) ≡ Some y → (short ≡ false) × (long ≡ true) × (x ≡ y)
guards true long x y e = absurd cc
guards false true x y e = (refl, refl, cc)
guards false false x y e = absurd cc

pub item_takes : (octets : List ℕ) (found : Item × List ℕ) → IsOctets octets → item_at octets ≡ Some found → Takes octets found.0 found.1
item_takes [] found octet e = absurd cc
item_takes (o ∷ []) found octet e = absurd cc
item_takes (o ∷ size ∷ rest) found octet e =
    let item : Item = record { octet = o; value = take size rest } in
    let g = guards (ltb (length rest) size) (fits o size) (item, drop size rest) found e in
    let long : size ≤ length rest = ltb-false _ _ g.0 in
    let len : length (take size rest) ≡ size = length-take-le size rest long in
    let rest_octets : IsOctets rest = λ i. octet (suc (suc i)) in
    let parts : o ∷ size ∷ rest ≡ spelling item ++ drop size rest =
    ap (λ (x : List ℕ). o ∷ size ∷ x) (sym (take-append-drop size rest)) ∙ ap (λ (n : ℕ). o ∷ n ∷ (take size rest ++ drop size rest)) (sym len) in
    subst (λ (f : Item × List ℕ). Takes (o ∷ size ∷ rest) f.0 f.1) g.2 (record {
      fits = record { octet = octet 0; short = omega (arith, octet 1); value = octets_front size rest rest_octets; size = sized_by (size_of_kind (kind_of o)) size (length (take size rest)) len g.1 };
      parts = parts;
      behind = octets_behind size rest rest_octets;
    })

fits_by : (kind : Option ℕ) (n : ℕ) → IfSome kind (λ wanted. n ≡ wanted) → eqb n (unwrap_or kind n) ≡ true
fits_by None n e = eq-eqb n n refl
fits_by (Some wanted) n e = eq-eqb n wanted e

pub item_again : (item : Item) (rest : List ℕ) → IsItem item → item_at (spelling item ++ rest) ≡ Some (item, rest)
item_again item rest fit =
    let n = length item.value in
    let long : ltb (length (item.value ++ rest)) n ≡ false = le-ltb _ _ (omega (arith, length-append item.value rest)) in
    rw (long, fits_by (size_of_kind (kind_of item.octet)) n fit.size, take_at item.value rest n refl, drop_at item.value rest n refl) refl

-- ---- all options

abbrev with_first : Item → Option (List Item) → Option (List Item)
with_first item read = option_map (λ items. item ∷ items) read

shorter : (octets : List ℕ) (found : Item × List ℕ) → item_at octets ≡ Some found → length found.1 < length octets
shorter [] found e = absurd cc
shorter (o ∷ []) found e = absurd cc
shorter (o ∷ size ∷ rest) found e =
    let g = guards (ltb (length rest) size) (fits o size) (record { octet = o; value = take size rest }, drop size rest) found e in
    subst (λ (f : Item × List ℕ). length f.1 < length (o ∷ size ∷ rest)) g.2 (omega (arith, length-drop size rest))

mutual_step : (m n : ℕ) (octets : List ℕ) (read : Option (Item × List ℕ)) → item_at octets ≡ read
    → ((found : Item × List ℕ) → read ≡ Some found → items_within m found.1 ≡ items_within n found.1)
    → option_and_then (λ found. with_first found.0 (items_within m found.1)) read ≡ option_and_then (λ found. with_first found.0 (items_within n found.1)) read
mutual_step m n octets None e same = refl
mutual_step m n octets (Some found) e same = ap (with_first found.0) (same found refl)

within_same : (m n : ℕ) (octets : List ℕ) → length octets ≤ m → length octets ≤ n → items_within m octets ≡ items_within n octets
unfolding items_within
within_same zero zero octets p q = refl
within_same zero (suc n) [] p q = refl
within_same zero (suc n) (o ∷ octets) p q = absurd (omega arith)
within_same (suc m) zero [] p q = refl
within_same (suc m) zero (o ∷ octets) p q = absurd (omega arith)
within_same (suc m) (suc n) [] p q = refl
within_same (suc m) (suc n) (o ∷ octets) p q =
    mutual_step m n (o ∷ octets) (item_at (o ∷ octets)) refl
    (λ found e. let less = shorter (o ∷ octets) found e in within_same m n found.1 (omega arith) (omega arith))

pub items_nothing : items_of [] ≡ Some []
unfolding items_of items_within
items_nothing = refl

pub items_none : (octets : List ℕ) → 0 < length octets → item_at octets ≡ None → items_of octets ≡ None
unfolding items_of items_within
items_none [] some e = absurd (omega arith)
items_none (o ∷ octets) some e = rw e refl

pub items_step : (octets : List ℕ) (found : Item × List ℕ) → item_at octets ≡ Some found → items_of octets ≡ with_first found.0 (items_of found.1)
unfolding items_of items_within
items_step [] found e = absurd cc
items_step (o ∷ octets) found e =
    let less = shorter (o ∷ octets) found e in
    ap (option_and_then (λ f. with_first f.0 (items_within (length octets) f.1))) e
    ∙ ap (with_first found.0) (within_same (length octets) (length found.1) found.1 (omega arith) (omega arith))

-- ---- joining

or_assoc : {A : Type 0} (x y z : Option A) → option_or (option_or x y) z ≡ option_or x (option_or y z)
or_assoc None y z = refl
or_assoc (Some x) y z = refl

map_or : {A B : Type 0} (f : A → B) (x y : Option A) → option_map f (option_or x y) ≡ option_or (option_map f x) (option_map f y)
map_or f None y = refl
map_or f (Some x) y = refl

or_none : {A : Type 0} (x : Option A) → option_or x None ≡ x
or_none None = refl
or_none (Some x) = refl

last-append : (kind : ℕ) (xs ys : List Item) → last_of kind (xs ++ ys) ≡ option_or (last_of kind ys) (last_of kind xs)
last-append kind [] ys = sym (or_none (last_of kind ys))
last-append kind (x ∷ xs) ys =
    let here = cond (eqb (kind_of x.octet) kind) (Some x.value) None in
    ap (λ (o : Option (List ℕ)). option_or o here) (last-append kind xs ys) ∙ or_assoc (last_of kind ys) (last_of kind xs) here

stated_by : {B : Type 0} (f : List ℕ → B) (kind : ℕ) (xs ys : List Item) → option_map f (last_of kind (xs ++ ys)) ≡ option_or (option_map f (last_of kind ys)) (option_map f (last_of kind xs))
stated_by f kind xs ys = ap (option_map f) (last-append kind xs ys) ∙ map_or f (last_of kind ys) (last_of kind xs)

abbrev types : List Item → List ℕ
types items = filter is_unknown (map (λ item. item.octet) items)

kept_first : (b : Bool) (x : ℕ) (xs ys : List ℕ) → cond b (x ∷ (xs ++ ys)) (xs ++ ys) ≡ cond b (x ∷ xs) xs ++ ys
kept_first true x xs ys = refl
kept_first false x xs ys = refl

types-append : (xs ys : List Item) → types (xs ++ ys) ≡ types xs ++ types ys
types-append [] ys = refl
types-append (x ∷ xs) ys =
    ap (λ (more : List ℕ). cond (is_unknown x.octet) (x.octet ∷ more) more) (types-append xs ys) ∙ kept_first (is_unknown x.octet) x.octet (types xs) (types ys)

pub same_options : (x y : Options) → x.mtu ≡ y.mtu → x.mode ≡ y.mode → x.fcs ≡ y.fcs → x.unknown ≡ y.unknown → x ≡ y
same_options x y p q r s =
    let make : Option ℕ → Option ModeOption → Option ℕ → List ℕ → Options = λ mtu mode fcs unknown. record { mtu = mtu; mode = mode; fcs = fcs; unknown = unknown } in
    ap (λ (v : Option ℕ). make v x.mode x.fcs x.unknown) p
    ∙ ap (λ (v : Option ModeOption). make y.mtu v x.fcs x.unknown) q
    ∙ ap (λ (v : Option ℕ). make y.mtu y.mode v x.unknown) r
    ∙ ap (make y.mtu y.mode y.fcs) s

-- what two lists state is what they state one after the other
pub options-append : (xs ys : List Item) → options_in (xs ++ ys) ≡ joined (options_in xs) (options_in ys)
options-append xs ys =
    same_options (options_in (xs ++ ys)) (joined (options_in xs) (options_in ys))
    (stated_by (word_at 0) 1 xs ys)
    (stated_by mode_in 4 xs ys)
    (stated_by (λ value. slice_index value 0) 5 xs ys)
    (ap (joined_types []) (types-append xs ys) ∙ joined-append [] (types xs) (types ys) ∙ sym (joined_assoc (joined_types [] (types xs)) [] (types ys)))

pub joined_options_assoc : (x y z : Options) → joined (joined x y) z ≡ joined x (joined y z)
joined_options_assoc x y z =
    same_options (joined (joined x y) z) (joined x (joined y z))
    (sym (or_assoc z.mtu y.mtu x.mtu)) (sym (or_assoc z.mode y.mode x.mode)) (sym (or_assoc z.fcs y.fcs x.fcs))
    (sym (joined_assoc x.unknown y.unknown z.unknown))

pub joined_none : (items : List Item) → joined no_options (options_in items) ≡ options_in items
joined_none items =
    same_options (joined no_options (options_in items)) (options_in items)
    (or_none (options_in items).mtu) (or_none (options_in items).mode) (or_none (options_in items).fcs)
    (joined_assoc [] [] (types items))

-- ---- the loop

-- the options so far, with those that are still read
abbrev pub continued : Options → Option (List Item) → Result Options ConfigRefusal
continued so_far None = Err BadOptionLength
continued so_far (Some items) = Ok (joined so_far (options_in items))

pub begins : (read : Option (List Item)) → continued no_options read ≡ stated read
begins None = refl
begins (Some items) = ap (λ (o : Options). Ok o) (joined_none items)

continues : (so_far : Options) (item : Item) (read : Option (List Item)) → continued so_far (with_first item read) ≡ continued (joined so_far (options_in (item ∷ []))) read
continues so_far item None = refl
continues so_far item (Some items) =
    ap (λ (o : Options). Ok o) (ap (joined so_far) (options-append (item ∷ []) items) ∙ sym (joined_options_assoc so_far (options_in (item ∷ [])) (options_in items)))

pub loop_step : (so_far : Options) (octets : List ℕ) (item : Item) (rest : List ℕ) → Some (item, rest) ≡ item_at octets
    → continued so_far (items_of octets) ≡ continued (joined so_far (options_in (item ∷ []))) (items_of rest)
loop_step so_far octets item rest e = ap (continued so_far) (items_step octets (item, rest) (sym e)) ∙ continues so_far item (items_of rest)

-- ---- the two laws

some_was : {A : Type 0} (x y : A) → Some x ≡ Some y → x ≡ y
some_was x y e = cc

first_was : (item : Item) (read : Option (List Item)) (items : List Item) → with_first item read ≡ Some items → (more : List Item) × (read ≡ Some more) × (item ∷ more ≡ items)
first_was item None items e = absurd cc
first_was item (Some more) items e = (more, refl, cc)

takes_by : (octets : List ℕ) (items : List Item) (read : Option (Item × List ℕ)) → 0 < length octets → IsOctets octets → item_at octets ≡ read
    → ((found : Item × List ℕ) → item_at octets ≡ Some found → (more : List Item) → items_of found.1 ≡ Some more → AllByRecursion IsItem more × (found.1 ≡ spelled more))
    → items_of octets ≡ Some items → AllByRecursion IsItem items × (octets ≡ spelled items)
takes_by octets items None some octet e again all = let bad : None ≡ Some items = sym (items_none octets some e) ∙ all in absurd cc
takes_by octets items (Some found) some octet e again all =
    let f = first_was found.0 (items_of found.1) items (sym (items_step octets found e) ∙ all) in
    let taken = item_takes octets found octet e in
    let more = again found e f.0 f.1 in
    let whole : octets ≡ spelled (found.0 ∷ f.0) = taken.parts ∙ ap (λ (x : List ℕ). spelling found.0 ++ x) more.1 in
    subst (λ (is : List Item). AllByRecursion IsItem is × (octets ≡ spelled is)) f.2 ((taken.fits, more.0), whole)

within_takes : (n : ℕ) (octets : List ℕ) (items : List Item) → length octets ≤ n → IsOctets octets → items_of octets ≡ Some items → AllByRecursion IsItem items × (octets ≡ spelled items)
within_takes n [] items le octet e = subst (λ (is : List Item). AllByRecursion IsItem is × ([] ≡ spelled is)) (some_was [] items (sym items_nothing ∙ e)) (tt, refl)
within_takes zero (o ∷ octets) items le octet e = absurd (omega arith)
within_takes (suc n) (o ∷ octets) items le octet e =
    takes_by (o ∷ octets) items (item_at (o ∷ octets)) (omega arith) octet refl
    (λ found at more rest.
    let less = shorter (o ∷ octets) found at in
    let taken = item_takes (o ∷ octets) found octet at in
    within_takes n found.1 more (omega arith) taken.behind rest)
    e

pub items_take : (octets : List ℕ) (items : List Item) → IsOctets octets → items_of octets ≡ Some items → AllByRecursion IsItem items × (octets ≡ spelled items)
items_take octets items octet e = within_takes (length octets) octets items (omega arith) octet e

pub items_again : (items : List Item) → AllByRecursion IsItem items → items_of (spelled items) ≡ Some items
items_again [] fit = items_nothing
items_again (item ∷ items) fit =
    items_step (spelling item ++ spelled items) (item, spelled items) (item_again item (spelled items) fit.0)
    ∙ ap (with_first item) (items_again items fit.1)

pub first_fits : (octets : List ℕ) (item : Item) (rest : List ℕ) → IsOctets octets → Some (item, rest) ≡ item_at octets → IsItem item
first_fits octets item rest octet e = (item_takes octets (item, rest) octet (sym e)).fits

pub rest_octets : (octets : List ℕ) (item : Item) (rest : List ℕ) → IsOctets octets → Some (item, rest) ≡ item_at octets → IsOctets rest
rest_octets octets item rest octet e = (item_takes octets (item, rest) octet (sym e)).behind

pub first_shorter : (octets : List ℕ) (item : Item) (rest : List ℕ) → Some (item, rest) ≡ item_at octets → length rest < length octets
first_shorter octets item rest e = shorter octets (item, rest) (sym e)

-- ---- the ends of the loop

not_empty : (octets : List ℕ) → eqb (length octets) 0 ≡ false → 0 < length octets
not_empty [] e = absurd cc
not_empty (o ∷ octets) e = omega arith

empty : (octets : List ℕ) → eqb (length octets) 0 ≡ true → octets ≡ []
empty [] e = refl
empty (o ∷ octets) e = absurd (omega (arith, eqb-true _ _ e))

pub stopped : (so_far : Options) (rest : List ℕ) (total : Result Options ConfigRefusal) → eqb (length rest) 0 ≡ false → None ≡ item_at rest
    → continued so_far (items_of rest) ≡ total → Err BadOptionLength ≡ total
stopped so_far rest total some none invariant = sym (ap (continued so_far) (items_none rest (not_empty rest some) (sym none))) ∙ invariant

pub finished : (so_far : Options) (rest : List ℕ) (total : Result Options ConfigRefusal) → eqb (length rest) 0 ≡ true
    → continued so_far (items_of rest) ≡ total → Ok so_far ≡ total
finished so_far rest total none invariant = sym (ap (λ (o : List ℕ). continued so_far (items_of o)) (empty rest none) ∙ ap (continued so_far) items_nothing) ∙ invariant

-- ---- what the function answers

abbrev pub Found : List ℕ → Result Options ConfigRefusal → Type 0
Found octets result = IfOk result (λ options. (items : List Item) × AllByRecursion IsItem items × (octets ≡ spelled items) × (options ≡ options_in items))

found_by : (octets : List ℕ) (read : Option (List Item)) → IsOctets octets → items_of octets ≡ read → Found octets (stated read)
found_by octets None octet e = tt
found_by octets (Some items) octet e = let t = items_take octets items octet e in (items, t.0, t.1, refl)

pub is_found : (octets : List ℕ) (result : Result Options ConfigRefusal) → IsOctets octets → result ≡ options_read octets → Found octets result
is_found octets result octet e = subst (Found octets) (sym e) (found_by octets (items_of octets) octet refl)

pub is_refused : (octets : List ℕ) (result : Result Options ConfigRefusal) → result ≡ options_read octets → IfErr result (λ refusal. refusal ≡ BadOptionLength)
is_refused octets result e = subst (λ (r : Result Options ConfigRefusal). IfErr r (λ refusal. refusal ≡ BadOptionLength)) (sym e) (refused_by (items_of octets))
  where
    refused_by : (read : Option (List Item)) → IfErr (stated read) (λ refusal. refusal ≡ BadOptionLength)
    refused_by None = refl
    refused_by (Some items) = tt

pub is_only : (octets : List ℕ) (result : Result Options ConfigRefusal) (items : List Item) → result ≡ options_read octets → AllByRecursion IsItem items → octets ≡ spelled items → result ≡ Ok (options_in items)
is_only octets result items e fit spelled_so = e ∙ ap (λ (o : List ℕ). stated (items_of o)) spelled_so ∙ ap stated (items_again items fit)
