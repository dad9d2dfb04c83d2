-- Objects that are of some names, and names that are some of others.
use Rattle.std.proofs.Common.{ℕ, List, [], ◌∷◌, ◌++◌, refl, sym, ap, subst, ◌∙◌, inl, inr, append_assoc, append-nil}
use Rattle.std.specs.List.{AllByRecursion}
use Rattle.link_talk.specs.bt_base.specs.Objects.{Object}
use Rattle.push_model.specs.Laws.{Deed}
use Rattle.push_laws.specs.Spelled.{IsOnce, ArePushed, AreAmong, name_by}

-- ---- objects

module _ (shelf : List Object) where
  pub none_pushed : (names : List (List ℕ)) → ArePushed shelf names []
  none_pushed [] = refl
  none_pushed (name ∷ names) = ([], [], refl, inl refl, none_pushed names)

  pub one_pushed : (name : List ℕ) (here : List Object) → IsOnce shelf name here → ArePushed shelf (name ∷ []) here
  one_pushed name here once = (here, [], sym (append-nil here), once, refl)

  pub both_pushed : (names more : List (List ℕ)) (here rest : List Object) → ArePushed shelf names here → ArePushed shelf more rest → ArePushed shelf (names ++ more) (here ++ rest)
  both_pushed [] more here rest one two = subst (λ (os : List Object). ArePushed shelf more (os ++ rest)) (sym one) two
  both_pushed (name ∷ names) more here rest (first, others, is, once, one) two =
      (first, others ++ rest, ap (λ (os : List Object). os ++ rest) is ∙ append_assoc first others rest, once, both_pushed names more others rest one two)

  -- of more names they are so as well
  pub among_pushed : (some names : List (List ℕ)) (spelled : List Object) → AreAmong some names → ArePushed shelf some spelled → ArePushed shelf names spelled
  among_pushed some [] spelled none pushed = subst (λ (ns : List (List ℕ)). ArePushed shelf ns spelled) none pushed
  among_pushed some (name ∷ names) spelled (inl later) pushed = ([], spelled, refl, inl refl, among_pushed some names spelled later pushed)
  among_pushed some (name ∷ names) spelled (inr (rest, is, later)) pushed = by (λ others more. among_pushed rest names others later more) (subst (λ (ns : List (List ℕ)). ArePushed shelf ns spelled) is pushed)
    where
      by : ((others : List Object) → ArePushed shelf rest others → ArePushed shelf names others) → ArePushed shelf (name ∷ rest) spelled → ArePushed shelf (name ∷ names) spelled
      by goes (here, others, same, once, more) = (here, others, same, once, goes others more)

-- ---- names

pub none_among : (names : List (List ℕ)) → AreAmong [] names
none_among [] = refl
none_among (name ∷ names) = inl (none_among names)

pub all_among : (names : List (List ℕ)) → AreAmong names names
all_among [] = refl
all_among (name ∷ names) = inr (names, refl, all_among names)

pub both_among : (some names more others : List (List ℕ)) → AreAmong some names → AreAmong more others → AreAmong (some ++ more) (names ++ others)
both_among some [] more others none two = subst (λ (ns : List (List ℕ)). AreAmong (ns ++ more) others) (sym none) two
both_among some (name ∷ names) more others (inl later) two = inl (both_among some names more others later two)
both_among some (name ∷ names) more others (inr (rest, is, later)) two = inr (rest ++ more, ap (λ (ns : List (List ℕ)). ns ++ more) is, both_among rest names more others later two)

pub ahead_among : (some names others : List (List ℕ)) → AreAmong some names → AreAmong some (names ++ others)
ahead_among some names others one = subst (λ (ns : List (List ℕ)). AreAmong ns (names ++ others)) (append-nil some) (both_among some names [] others one (none_among others))

pub behind_among : (some names others : List (List ℕ)) → AreAmong some others → AreAmong some (names ++ others)
behind_among some names others two = both_among [] names some others (none_among names) two

pub among_trans : (some others names : List (List ℕ)) → AreAmong some others → AreAmong others names → AreAmong some names
among_trans some others [] one none = subst (AreAmong some) none one
among_trans some others (name ∷ names) one (inl later) = inl (among_trans some others names one later)
among_trans some others (name ∷ names) one (inr (rest, is, later)) = by (λ ones here. among_trans ones rest names here later) (subst (AreAmong some) is one)
  where
    by : ((ones : List (List ℕ)) → AreAmong ones rest → AreAmong ones names) → AreAmong some (name ∷ rest) → AreAmong some (name ∷ names)
    by goes (inl here) = inl (goes some here)
    by goes (inr (more, same, here)) = inr (more, same, goes more here)

-- what is so of all of them is so of these
pub among_all : (Is : List ℕ → Type 0) (some names : List (List ℕ)) → AreAmong some names → AllByRecursion Is names → AllByRecursion Is some
among_all Is some [] none all = subst (AllByRecursion Is) (sym none) tt
among_all Is some (name ∷ names) (inl later) all = among_all Is some names later all.1
among_all Is some (name ∷ names) (inr (rest, is, later)) all = subst (AllByRecursion Is) (sym is) (all.0, among_all Is rest names later all.1)

-- ---- the name of a push

pub name_among : (deeds : List Deed) (name : List ℕ) (names : List (List ℕ)) → AreAmong (name ∷ []) names → AreAmong (name_by deeds name) names
name_among [] name names one = none_among names
name_among (deed ∷ deeds) name names one = one
