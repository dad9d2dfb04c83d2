-- Counts of ports from one call to the next.
use Rattle.std.proofs.Common.{◌≡◌, ℕ, ◌≤◌, inl, inr, sym, ap, arith}
use Rattle.std.specs.Prelude.{Result, Ok, Err, IsErrOf}
use Rattle.std.proofs.lemmas.Bool.{cases_lt}
use Rattle.bt_base.proofs.PortLaws.{then_risen}
use Rattle.receiving.specs.declared.fault.ListenFault.{ListenFault}
use Rattle.receiving.specs.declared.fault.ListenFault.TheVariants.{Refused, ReadFault, WriteFault, NoMemory}
use Rattle.receiving.specs.Faring.{IsOfSource}
use Rattle.receiving.specs.Counts.{Counts, Lacked}

abbrev is_ok_of : {A : Type 0} → A → Result A ListenFault
is_ok_of x = Ok x

never_fault : {A : Type 0} (x : A) (fault : ListenFault) → IsErrOf (is_ok_of x) fault → ⊥
never_fault x fault h = absurd cc

-- behind an answer without fault no count moved
pub steady_faults : {A : Type 0} (faults faults' shortages shortages' : ℕ) (failed : ListenFault) (x : A) → Counts faults faults' shortages shortages' failed (is_ok_of x) → faults' ≡ faults
steady_faults faults faults' shortages shortages' failed x counts = elim (cases_lt faults faults') [
  | inl lt ↦ absurd (never_fault x failed (counts.only_failed lt))
  | inr ge ↦ omega (arith, counts.faults_stay)
]

pub steady_shortages : {A : Type 0} (faults faults' shortages shortages' : ℕ) (failed : ListenFault) (x : A) → Counts faults faults' shortages shortages' failed (is_ok_of x) → shortages' ≡ shortages
steady_shortages faults faults' shortages shortages' failed x counts = elim (cases_lt shortages shortages') [
  | inl lt ↦ absurd (never_fault x NoMemory (counts.only_short lt))
  | inr ge ↦ omega (arith, counts.shortages_stay)
]

-- counts that did not move before
pub counts_behind : {A : Type 0} (faults mid faults' shortages between shortages' : ℕ) (failed : ListenFault) (result : Result A ListenFault) → mid ≡ faults → between ≡ shortages → Counts mid faults' between shortages' failed result → Counts faults faults' shortages shortages' failed result
counts_behind faults mid faults' shortages between shortages' failed result same same' counts = rw (sym same, sym same') counts

pub lacked_behind : {A : Type 0} (source source-mid source' sink sink-mid sink' port port-mid port' : ℕ) (result : Result A ListenFault) → source ≤ source-mid → source-mid ≤ source' → sink ≤ sink-mid → sink-mid ≤ sink' → port ≤ port-mid → port-mid ≤ port'
    → Lacked source-mid source' sink-mid sink' port-mid port' result → Lacked source source' sink sink' port port' result
lacked_behind source source-mid source' sink sink-mid sink' port port-mid port' result a b c d e f lacked is = elim (lacked is) [
  | inl rose ↦ inl (then_risen source source-mid source' a b rose)
  | inr other ↦ elim other [
    | inl rose ↦ inr (inl (then_risen sink sink-mid sink' c d rose))
    | inr rose ↦ inr (inr (then_risen port port-mid port' e f rose))
  ]
]

-- a port that was not asked, or only well
pub unmoved : {A : Type 0} (faults faults' shortages shortages' : ℕ) (failed : ListenFault) (result : Result A ListenFault) → faults' ≡ faults → shortages' ≡ shortages → (IsErrOf result failed → ⊥) → Counts faults faults' shortages shortages' failed result
unmoved faults faults' shortages shortages' failed result same same' never = record {
  faults_stay = omega (arith, same);
  shortages_stay = omega (arith, same');
  only_failed = λ lt. absurd (omega (arith, same, lt));
  only_short = λ lt. absurd (omega (arith, same', lt));
  rose = λ is. absurd (never is);
}

abbrev err_of : (A : Type 0) → ListenFault → Result A ListenFault
err_of A why = Err why

pub not_write : {A : Type 0} (why : ListenFault) → IsOfSource why → IsErrOf (err_of A why) WriteFault → ⊥
not_write (Refused refusal place) of is = of
not_write ReadFault of is = absurd cc
not_write WriteFault of is = of
not_write NoMemory of is = absurd cc

-- the same fault beside another value
pub never_other : {A B : Type 0} (why other : ListenFault) → (IsErrOf (err_of A why) other → ⊥) → IsErrOf (err_of B why) other → ⊥
never_other {A} why other never is = let same : why ≡ other = cc in never (ap (err_of A) same)
