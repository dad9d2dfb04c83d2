-- One member more, and a history in two parts.
use Rattle.std.proofs.Common.{◌≡◌, ℕ, ◌+◌, ◌<◌, List, [], ◌∷◌, ◌++◌, length, map, take, get_or, inl, inr, Option, Some, None, refl, sym, ap, subst, ◌∙◌, length-append, arith}
use Rattle.std.specs.Option.{option_or}
use Rattle.std.proofs.lemmas.List.{map-append, take_more, append_assoc, append-nil, take_all, take-append-le}
use Rattle.std.proofs.lemmas.Bool.{cases_lt}
use Rattle.capture.specs.Histories.{each_after, given_by, led_by, EachAfter, AtEach, last_of}

-- what a history in two parts gives
pub each_after-append : {X Y : Type 0} (given : List X → X → List Y) (past xs ys : List X)
    → each_after given past (xs ++ ys) ≡ each_after given past xs ++ each_after given (past ++ xs) ys
each_after-append given past [] ys = ap (λ before. each_after given before ys) (sym (append-nil past))
each_after-append given past (x ∷ xs) ys =
    ap (λ more. given past x ++ more) (each_after-append given (past ++ x ∷ []) xs ys)
    ∙ (ap (λ before. given past x ++ (each_after given (past ++ x ∷ []) xs ++ each_after given before ys)) (append_assoc past (x ∷ []) xs)
    ∙ sym (append_assoc (given past x) (each_after given (past ++ x ∷ []) xs) (each_after given (past ++ (x ∷ xs)) ys)))

-- what one member more gives
pub given_by-more : {X Y : Type 0} (given : List X → X → List Y) (history : List X) (x : X)
    → given_by given (history ++ x ∷ []) ≡ given_by given history ++ given history x
given_by-more given history x =
    each_after-append given [] history (x ∷ [])
    ∙ ap (λ more. given_by given history ++ more) (append-nil (given history x))

-- what a history in two parts leads to
pub led_by-append : {S X : Type 0} (step : List X → S → X → S) (past : List X) (state : S) (xs ys : List X)
    → led_by step past state (xs ++ ys) ≡ led_by step (past ++ xs) (led_by step past state xs) ys
led_by-append step past state [] ys = ap (λ before. led_by step before state ys) (sym (append-nil past))
led_by-append step past state (x ∷ xs) ys =
    led_by-append step (past ++ x ∷ []) (step past state x) xs ys
    ∙ ap (λ before. led_by step before (led_by step (past ++ x ∷ []) (step past state x) xs) ys) (append_assoc past (x ∷ []) xs)

-- what holds of each member of a history in two parts
pub each_after-both : {X : Type 0} (P : List X → X → Type 0) (past xs ys : List X)
    → EachAfter P past xs → EachAfter P (past ++ xs) ys → EachAfter P past (xs ++ ys)
each_after-both P past [] ys first second = subst (λ before. EachAfter P before ys) (append-nil past) second
each_after-both P past (x ∷ xs) ys (now, first) second =
    (now, each_after-both P (past ++ x ∷ []) xs ys first (subst (λ before. EachAfter P before ys) (sym (append_assoc past (x ∷ []) xs)) second))

-- of one member more
pub each_after-more : {X : Type 0} (P : List X → X → Type 0) (history : List X) (x : X)
    → EachAfter P [] history → P history x → EachAfter P [] (history ++ x ∷ [])
each_after-more P history x before now = each_after-both P [] history (x ∷ []) before (now, tt)

-- a history with one member more: its fronts are those of the history, and the whole of it
pub at_each-more : {X : Type 0} (P : List X → Type 0) (history : List X) (x : X)
    → AtEach P history → P (history ++ x ∷ []) → AtEach P (history ++ x ∷ [])
at_each-more P history x before now n =
    elim (cases_lt (length history) n) [
      | inl beyond ↦ subst P (sym (take_all n (history ++ x ∷ []) (omega (arith, beyond, length-append history (x ∷ []))))) now
      | inr within ↦ subst P (sym (take-append-le n history (x ∷ []) within)) (before n)
    ]

-- what holds at each moment holds at the end
pub at_each-whole : {X : Type 0} (P : List X → Type 0) (history : List X) → AtEach P history → P history
at_each-whole P history each = subst P (take_all (length history) history (omega arith)) (each (length history))

-- nothing has happened at first
pub at_each-none : {X : Type 0} (P : List X → Type 0) → P [] → AtEach P []
at_each-none P now n = subst P (sym (take_all n [] (omega arith))) now

-- ---- a loop over a history

pub front-more : {L X : Type 0} (view : L → X) (raw : List L) (i : ℕ) (d : L) → i < length raw
    → map view (take (i + 1) raw) ≡ map view (take i raw) ++ view (get_or raw i d) ∷ []
front-more view raw i d below = ap (map view) (take_more raw i d below) ∙ map-append view (take i raw) (get_or raw i d ∷ [])

pub given_by-front : {L X Y : Type 0} (given : List X → X → List Y) (view : L → X) (raw : List L) (i : ℕ) (d : L) → i < length raw
    → given_by given (map view (take (i + 1) raw)) ≡ given_by given (map view (take i raw)) ++ given (map view (take i raw)) (view (get_or raw i d))
given_by-front given view raw i d below = ap (given_by given) (front-more view raw i d below) ∙ given_by-more given (map view (take i raw)) (view (get_or raw i d))

-- one turn of such a loop
pub given_by-turn : {L X Y : Type 0} (given : List X → X → List Y) (view : L → X) (raw : List L) (i : ℕ) (d : L) (before after now : List Y) → i < length raw
    → before ≡ given_by given (map view (take i raw)) → after ≡ before ++ now → now ≡ given (map view (take i raw)) (view (get_or raw i d))
    → after ≡ given_by given (map view (take (i + 1) raw))
given_by-turn given view raw i d before after now below so_far grown gives =
    grown ∙ (ap (λ xs. xs ++ now) so_far ∙ (ap (λ xs. given_by given (map view (take i raw)) ++ xs) gives ∙ sym (given_by-front given view raw i d below)))

-- ---- the last of a list

either_or : {X : Type 0} (x y z : Option X) → option_or (option_or x y) z ≡ option_or x (option_or y z)
either_or None y z = refl
either_or (Some x) y z = refl

none_or : {X : Type 0} (x : Option X) → option_or x None ≡ x
none_or None = refl
none_or (Some x) = refl

-- the last of two lists, one behind the other
pub last_of-append : {X : Type 0} (xs ys : List X) → last_of (xs ++ ys) ≡ option_or (last_of ys) (last_of xs)
last_of-append [] ys = sym (none_or (last_of ys))
last_of-append (x ∷ xs) ys = ap (λ found. option_or found (Some x)) (last_of-append xs ys) ∙ either_or (last_of ys) (last_of xs) (Some x)
