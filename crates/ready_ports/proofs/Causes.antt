-- The causes of a call's answer: one that is handed on, and one that a count tells.
use Rattle.std.proofs.Common.{Bool, true, false, cond, ◌≡◌, ℕ, ◌≤◌, Result, Ok, Err, refl, sym, ap, arith, inl, inr}
use Rattle.std.proofs.lemmas.Bool.{cases_lt, lt-ltb, le-ltb}
use Rattle.bt_base.specs.Counts.{HasCause, HasRisen, last_count, counted}
use Rattle.ready_ports.specs.Memory.{Calls, is_next_failing, called, failed, short}
use Rattle.bt_base.specs.declared.ports.PortFault.{PortFault}
use Rattle.bt_base.specs.declared.ports.PortFault.TheVariants.{Failed, NoMemory}

-- a count that is raised counts as risen
pub raised : (count : ℕ) → HasRisen count (counted count)
raised count = elim (cases_lt count last_count) [ inl below ↦ rw (lt-ltb count last_count below) (inl (omega arith)) | inr at ↦ inr at ]

abbrev mk_err : {A : Type 0} → PortFault → Result A PortFault
mk_err e = Err e

err_same : {A : Type 0} (x y : PortFault) → mk_err {A = A} x ≡ Err y → x ≡ y
err_same x y h = cc

-- a fault that is handed on has the same cause
pub handed_on : {A B : Type 0} (faults faults' shortages shortages' : ℕ) (fault same : PortFault) (result : Result B PortFault) → result ≡ Err same → same ≡ fault
    → HasCause {A = A} faults faults' shortages shortages' (Err fault) → HasCause {A = B} faults faults' shortages shortages' result
handed_on {A = A} {B = B} faults faults' shortages shortages' fault same result is eq cause =
    let there : (e : PortFault) → result ≡ Err e → fault ≡ e = λ e h. cc in
    let here : (e : PortFault) → fault ≡ e → result ≡ Err e = λ e h. cc in
    record {
      faults_stay = cause.faults_stay;
      shortages_stay = cause.shortages_stay;
      failed = λ h. cause.failed (ap Err (there _ h));
      short = λ h. cause.short (ap Err (there _ h));
      only_failed = λ h. let e : fault ≡ Failed = err_same {A = A} fault Failed (cause.only_failed h) in here _ e;
      only_short = λ h. let e : fault ≡ NoMemory = err_same {A = A} fault NoMemory (cause.only_short h) in here _ e;
    }

abbrev mk_ok : {A : Type 0} → A → Result A PortFault
mk_ok x = Ok x

-- a count that is raised does not fall
stays : (count : ℕ) → count ≤ counted count
stays count = elim (cases_lt count last_count) [ inl below ↦ rw (lt-ltb count last_count below) (omega arith) | inr at ↦ rw (le-ltb count last_count at) (omega arith) ]

other : {A : Type 0} → mk_err {A = A} NoMemory ≡ Err Failed → ⊥
other h = cc

-- a call that answered Ok was not one of those that are to fail
pub passes : (b : Bool) (x : Unit {0}) (fault : PortFault) → mk_ok {A = Unit {0}} x ≡ cond b (mk_err fault) (Ok tt) → b ≡ false
passes true x fault h = absurd cc
passes false x fault h = refl

-- the counts of a port over memory that answers want of memory
pub fell_short : {A : Type 0} (calls : Calls) → is_next_failing calls ≡ false
    → HasCause {A = A} calls.faults (short (called calls)).faults calls.shortages (short (called calls)).shortages (Err NoMemory)
fell_short calls passed = rw passed (record {
  faults_stay = omega arith;
  shortages_stay = stays calls.shortages;
  failed = λ h. absurd (other h);
  short = λ h. raised calls.shortages;
  only_failed = λ h. absurd (omega arith);
  only_short = λ h. refl;
})

-- the counts of a port over memory that answers a fault though the call was not to fail
pub failed_itself : {A : Type 0} (calls : Calls) → is_next_failing calls ≡ false
    → HasCause {A = A} calls.faults (failed (called calls)).faults calls.shortages (failed (called calls)).shortages (Err Failed)
failed_itself calls passed = rw passed (record {
  faults_stay = stays calls.faults;
  shortages_stay = omega arith;
  failed = λ h. raised calls.faults;
  short = λ h. absurd (other (sym h));
  only_failed = λ h. refl;
  only_short = λ h. absurd (omega arith);
})
