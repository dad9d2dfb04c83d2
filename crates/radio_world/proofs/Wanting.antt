-- Want of memory, handed on from call to call.
use Rattle.std.proofs.Common.{◌≡◌, ℕ, ◌≤◌, Result, Ok, Err, inl, inr, sym, ap, ◌∙◌, arith}
use Rattle.std.specs.Prelude.{IsErrOf}
use Rattle.std.specs.Result.{IsErrAnd, OnErr}
use Rattle.std.proofs.lemmas.Bool.{cases_lt}
use Rattle.bt_base.specs.Counts.{HasRisen}
use Rattle.radio_world.specs.declared.fault.WorldFault.{WorldFault}
use Rattle.radio_world.specs.declared.fault.WorldFault.TheVariants.{NoMemory}
use Rattle.radio_world.specs.Shortages.{LacksByTrace, Lacks}

-- where a loop over the trace ends
pub lacks_ok : {X : Type 0} (a b : ℕ) (Cause : Type 0) (x : X) → a ≤ b → Lacks a b Cause (Ok x)
lacks_ok a b Cause x stays = record { stays = stays; short = λ short. cc }

pub any_err : {X E Y : Type 0} (result : Result X E) → Y → OnErr result Y
any_err (Ok x) y = tt
any_err (Err e) y = y

-- for a cause of its own
pub lacks_for : {X : Type 0} (a b : ℕ) (Cause : Type 0) (result : Result X WorldFault) → a ≤ b → Cause → Lacks a b Cause result
lacks_for a b Cause result stays cause = record { stays = stays; short = λ short. inr cause }

risen_from : (a b c : ℕ) → a ≤ b → b ≤ c → HasRisen b c → HasRisen a c
risen_from a b c one two risen =
    elim risen [
      | inl less ↦ inl (omega arith)
      | inr last ↦ elim (cases_lt a b) [ inl less ↦ inl (omega arith) | inr same ↦ inr (omega arith) ]
    ]

same_fault : {X : Type 0} (result : Result X WorldFault) (fault : WorldFault) → IsErrAnd result (λ other. other ≡ fault) → IsErrOf result NoMemory → fault ≡ NoMemory
same_fault (Ok x) fault is short = absurd is
same_fault (Err other) fault is short = let here : other ≡ NoMemory = cc in sym is ∙ here

-- a fault is handed on, and what happened before is put in front of its cause
pub lacks_on :
    {X Y : Type 0} (a b c : ℕ) (Cause Cause' : Type 0) (before : Result X WorldFault) (result : Result Y WorldFault) (fault : WorldFault) → IsErrAnd result (λ other. other ≡ fault) → before ≡ Err fault
    → a ≤ b → (Cause → Cause') → Lacks b c Cause before → Lacks a c Cause' result
lacks_on a b c Cause Cause' before result fault is was stays more lacks =
    let later = lacks.stays in
    record {
      stays = omega arith;
      short = λ short.
          elim (lacks.short (was ∙ ap Err (same_fault result fault is short))) [ inl risen ↦ inl (risen_from a b c stays later risen) | inr cause ↦ inr (more cause) ];
    }

pub lacks_by_trace :
    {X Y : Type 0} (a b c : ℕ) (Cause : Type 0) (before : Result X WorldFault) (result : Result Y WorldFault) (fault : WorldFault) → IsErrAnd result (λ other. other ≡ fault) → before ≡ Err fault
    → a ≤ b → LacksByTrace b c before → Lacks a c Cause result
lacks_by_trace a b c Cause before result fault is was stays lacks =
    let later = lacks.stays in
    record { stays = omega arith; short = λ short. inl (risen_from a b c stays later (lacks.short (was ∙ ap Err (same_fault result fault is short)))) }
