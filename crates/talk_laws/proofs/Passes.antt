-- Lists from their end, and what stands there.
use Rattle.std.proofs.Common.{◌≡◌, List, [], ◌∷◌, ◌++◌, length, drop, Bool, true, false, cond, ◌||◌, Option, Some, None, refl, ap, subst, ◌∙◌, append_assoc, append-nil, sym}
use Rattle.std.specs.List.{filter_map, list_any, cons_option}
use Rattle.std.specs.Option.{option_or}
use Rattle.std.proofs.lemmas.List.Elements.{filter_map-append}
use Rattle.std.proofs.lemmas.List.Folds.{list_any-append}
use Rattle.link_talk.specs.capture.specs.Histories.{last_of}
use Rattle.talk_laws.specs.Lists.{behind_last}

from_end_by : {X : Type 0} (P : List X → Type 0) → ((xs : List X) (x : X) → P xs → P (xs ++ x ∷ [])) → (past xs : List X) → P past → P (past ++ xs)
from_end_by P more past [] holds = subst P (sym (append-nil past)) holds
from_end_by P more past (x ∷ xs) holds = subst P (append_assoc past (x ∷ []) xs) (from_end_by P more (past ++ x ∷ []) xs (more past x holds))

-- what holds of no members, and with one member more, holds of all lists
pub from_end : {X : Type 0} (P : List X → Type 0) → P [] → ((xs : List X) (x : X) → P xs → P (xs ++ x ∷ [])) → (xs : List X) → P xs
from_end P none more xs = from_end_by P more [] xs none

-- what stands behind a front
pub drop_front : {X : Type 0} (xs ys : List X) → drop (length xs) (xs ++ ys) ≡ ys
drop_front [] ys = refl
drop_front (x ∷ xs) ys = drop_front xs ys

-- ---- the last of a list

pub last-more : {X : Type 0} (xs : List X) (x : X) → last_of (xs ++ x ∷ []) ≡ Some x
last-more [] x = refl
last-more (y ∷ xs) x = ap (λ o. option_or o (Some y)) (last-more xs x)

last_by : {Y : Type 0} (ys : List Y) (found : Option Y) → last_of (ys ++ cons_option found []) ≡ option_or found (last_of ys)
last_by ys None = ap last_of (append-nil ys)
last_by ys (Some y) = last-more ys y

pub last_picked : {X Y : Type 0} (pick : X → Option Y) (xs : List X) (x : X) → last_of (filter_map pick (xs ++ x ∷ [])) ≡ option_or (pick x) (last_of (filter_map pick xs))
last_picked pick xs x = ap last_of (filter_map-append pick xs (x ∷ [])) ∙ last_by (filter_map pick xs) (pick x)

-- ---- what stands behind the last that passes

behind_none : {X : Type 0} (passes : X → Bool) (x : X) (fits : Bool) → cond (fits || false) [] (x ∷ []) ≡ cond fits [] (x ∷ [])
behind_none passes x true = refl
behind_none passes x false = refl

behind_by : {X : Type 0} (passes : X → Bool) (first x : X) (xs : List X) (before fits : Bool) → behind_last passes (xs ++ x ∷ []) ≡ cond fits [] (behind_last passes xs ++ x ∷ [])
    → cond (before || (fits || false)) (behind_last passes (xs ++ x ∷ [])) (first ∷ (xs ++ x ∷ [])) ≡ cond fits [] (cond before (behind_last passes xs) (first ∷ xs) ++ x ∷ [])
behind_by passes first x xs true true rest = rest
behind_by passes first x xs true false rest = rest
behind_by passes first x xs false true rest = rest
behind_by passes first x xs false false rest = refl

pub behind_last-more : {X : Type 0} (passes : X → Bool) (xs : List X) (x : X) → behind_last passes (xs ++ x ∷ []) ≡ cond (passes x) [] (behind_last passes xs ++ x ∷ [])
behind_last-more passes [] x = behind_none passes x (passes x)
behind_last-more passes (first ∷ xs) x =
    ap (λ b. cond b (behind_last passes (xs ++ x ∷ [])) (first ∷ (xs ++ x ∷ []))) (list_any-append passes (first ∷ xs) (x ∷ []))
    ∙ behind_by passes first x xs (list_any passes (first ∷ xs)) (passes x) (behind_last-more passes xs x)
