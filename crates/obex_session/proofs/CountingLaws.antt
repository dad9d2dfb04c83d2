-- Answers of an inbox and its counts.
use Rattle.std.proofs.Common.{◌≡◌, ℕ, ◌+◌, ◌≤◌, List, [], ◌∷◌, ◌++◌, Ok, Err, refl, subst, sym, arith, inl, inr}
use Rattle.std.specs.List.{AllByRecursion}
use Rattle.bt_base.specs.Counts.{HasCause, HasRisen, last_count}
use Rattle.bt_base.specs.declared.ports.PortFault.TheVariants.{Failed, NoMemory}
use Rattle.obex_session.specs.InboxCalls.{InboxCall, Answer, come_of, left_by}
use Rattle.obex_session.specs.Counting.{Counts, faults_of, HasRisenBy, AreCounted}

-- ---- counts that rise

rises_first : (a b c : ℕ) → b ≤ c → HasRisen a b → HasRisen a c
rises_first a b c bc (inl less) = inl (omega (arith, bc, less))
rises_first a b c bc (inr most) = inr most

pub rises_last : (a b c : ℕ) → a ≤ b → b ≤ c → HasRisen b c → HasRisen a c
rises_last a b c ab bc (inl less) = inl (omega (arith, ab, less))
rises_last a b c ab bc (inr most) = grind (arith, ab, bc, most)

-- by none
pub rises_none : (a b : ℕ) → a ≤ b → HasRisenBy 0 a b
rises_none a b stays = inl (omega (arith, stays))

pub rises_once : (a b : ℕ) → a ≤ b → HasRisen a b → HasRisenBy 1 a b
rises_once a b stays (inl less) = inl (omega (arith, less))
rises_once a b stays (inr most) = inr (omega (arith, stays, most))

pub rises_both : (m n a b c : ℕ) → b ≤ c → HasRisenBy m a b → HasRisenBy n b c → HasRisenBy (m + n) a c
rises_both m n a b c stays (inl one) (inl two) = inl (omega (arith, one, two))
rises_both m n a b c stays (inr most) two = inr (omega (arith, stays, most))
rises_both m n a b c stays (inl one) (inr most) = inr most

-- ---- lists of answers

all_join : {A : Type 0} (Q : A → Type 0) (xs ys : List A) → AllByRecursion Q xs → AllByRecursion Q ys → AllByRecursion Q (xs ++ ys)
all_join Q [] ys none all = all
all_join Q (x ∷ xs) ys (one, rest) all = (one, all_join Q xs ys rest all)

faults_join : (xs ys : List Answer) → faults_of (xs ++ ys) ≡ faults_of xs + faults_of ys
faults_join [] ys = omega arith
faults_join (Ok done ∷ xs) ys = faults_join xs ys
faults_join (Err fault ∷ xs) ys = let rest = faults_join xs ys in omega (arith, rest)

pub counted_none : (counts : Counts) → AreCounted [] counts counts
counted_none counts = record { faults_stay = omega arith; shortages_stay = omega arith; granted = λ no_fault no_lack. tt; none_short = λ no_lack. tt; few = λ no_lack. rises_none counts.faults counts.faults (omega arith) }

pub counted_then : (xs ys : List Answer) (first mid last : Counts) → AreCounted xs first mid → AreCounted ys mid last → AreCounted (xs ++ ys) first last
counted_then xs ys first mid last one two = record {
  faults_stay = omega (arith, one.faults_stay, two.faults_stay);
  shortages_stay = omega (arith, one.shortages_stay, two.shortages_stay);
  granted = λ no_fault no_lack. all_join _ xs ys
      (one.granted (λ h. no_fault (rises_first first.faults mid.faults last.faults two.faults_stay h)) (λ h. no_lack (rises_first first.shortages mid.shortages last.shortages two.shortages_stay h)))
      (two.granted (λ h. no_fault (rises_last first.faults mid.faults last.faults one.faults_stay two.faults_stay h)) (λ h. no_lack (rises_last first.shortages mid.shortages last.shortages one.shortages_stay two.shortages_stay h)));
  none_short = λ no_lack. all_join _ xs ys
      (one.none_short (λ h. no_lack (rises_first first.shortages mid.shortages last.shortages two.shortages_stay h)))
      (two.none_short (λ h. no_lack (rises_last first.shortages mid.shortages last.shortages one.shortages_stay two.shortages_stay h)));
  few = λ no_lack. subst (λ (n : ℕ). HasRisenBy n first.faults last.faults) (sym (faults_join xs ys)) (rises_both (faults_of xs) (faults_of ys) first.faults mid.faults last.faults two.faults_stay
      (one.few (λ h. no_lack (rises_first first.shortages mid.shortages last.shortages two.shortages_stay h)))
      (two.few (λ h. no_lack (rises_last first.shortages mid.shortages last.shortages one.shortages_stay two.shortages_stay h))));
}

-- ---- calls that use up their answers

-- each answer is a success where all calls come to one
granted_by : (calls : List InboxCall) (used : List Answer) → ((rest : List Answer) → left_by calls (used ++ rest) ≡ rest) → come_of calls used ≡ Ok tt → AllByRecursion (λ answer. answer ≡ Ok tt) used
granted_by [] [] leaves ok = tt
granted_by [] (answer ∷ used) leaves ok = absurd (let e : answer ∷ (used ++ []) ≡ [] = leaves [] in cc)
granted_by (call ∷ calls) [] leaves ok = tt
granted_by (call ∷ calls) (Ok tt ∷ used) leaves ok = (refl, granted_by calls used leaves ok)
granted_by (call ∷ calls) (Err fault ∷ used) leaves ok = absurd (let e : come_of (call ∷ calls) (Err fault ∷ used) ≡ Ok tt = ok in cc)

-- none is want of memory, unless that is what they come to
unshort_by : (calls : List InboxCall) (used : List Answer) → ((rest : List Answer) → left_by calls (used ++ rest) ≡ rest) → (come_of calls used ≡ Err NoMemory → ⊥) → AllByRecursion (λ answer. answer ≡ Err NoMemory → ⊥) used
unshort_by [] [] leaves unlike = tt
unshort_by [] (answer ∷ used) leaves unlike = absurd (let e : answer ∷ (used ++ []) ≡ [] = leaves [] in cc)
unshort_by (call ∷ calls) [] leaves unlike = tt
unshort_by (call ∷ calls) (Ok tt ∷ used) leaves unlike = ((λ e. absurd cc), unshort_by calls used leaves unlike)
unshort_by (call ∷ calls) (Err fault ∷ []) leaves unlike = (unlike, tt)
unshort_by (call ∷ calls) (Err fault ∷ answer ∷ used) leaves unlike = absurd (let e : answer ∷ (used ++ []) ≡ [] = leaves [] in cc)

come_is : (f f' s s' : ℕ) (come : Answer) → HasCause f f' s s' come → (HasRisen f f' → ⊥) → (HasRisen s s' → ⊥) → come ≡ Ok tt
come_is f f' s s' (Ok tt) cause no_fault no_lack = refl
come_is f f' s s' (Err Failed) cause no_fault no_lack = absurd (no_fault (cause.failed refl))
come_is f f' s s' (Err NoMemory) cause no_fault no_lack = absurd (no_lack (cause.short refl))

-- one fails at most, and that is what they come to
few_by : (calls : List InboxCall) (used : List Answer) (old new : Counts) → ((rest : List Answer) → left_by calls (used ++ rest) ≡ rest) → HasCause old.faults new.faults old.shortages new.shortages (come_of calls used) → (HasRisen old.shortages new.shortages → ⊥)
    → HasRisenBy (faults_of used) old.faults new.faults
few_by [] [] old new leaves cause no_lack = rises_none old.faults new.faults cause.faults_stay
few_by [] (answer ∷ used) old new leaves cause no_lack = absurd (let e : answer ∷ (used ++ []) ≡ [] = leaves [] in cc)
few_by (call ∷ calls) [] old new leaves cause no_lack = rises_none old.faults new.faults cause.faults_stay
few_by (call ∷ calls) (Ok tt ∷ used) old new leaves cause no_lack = few_by calls used old new leaves cause no_lack
few_by (call ∷ calls) (Err Failed ∷ []) old new leaves cause no_lack = rises_once old.faults new.faults cause.faults_stay (cause.failed refl)
few_by (call ∷ calls) (Err NoMemory ∷ []) old new leaves cause no_lack = absurd (no_lack (cause.short refl))
few_by (call ∷ calls) (Err fault ∷ answer ∷ used) old new leaves cause no_lack = absurd (let e : answer ∷ (used ++ []) ≡ [] = leaves [] in cc)

pub counted_by : (calls : List InboxCall) (used : List Answer) (old new : Counts) → ((rest : List Answer) → left_by calls (used ++ rest) ≡ rest) → HasCause old.faults new.faults old.shortages new.shortages (come_of calls used) → AreCounted used old new
counted_by calls used old new leaves cause = record {
  faults_stay = cause.faults_stay;
  shortages_stay = cause.shortages_stay;
  granted = λ no_fault no_lack. granted_by calls used leaves (come_is old.faults new.faults old.shortages new.shortages (come_of calls used) cause no_fault no_lack);
  none_short = λ no_lack. unshort_by calls used leaves (λ e. no_lack (cause.short e));
  few = few_by calls used old new leaves cause;
}
