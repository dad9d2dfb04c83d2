-- A fault of the trace, handed on from call to call.
use Rattle.std.proofs.Common.{◌≡◌, ℕ, ◌≤◌, Result, Ok, Err, inl, inr, sym, ap, ◌∙◌, arith}
use Rattle.std.specs.Prelude.{IsErrOf}
use Rattle.std.specs.Result.{IsErrAnd}
use Rattle.std.proofs.lemmas.Bool.{cases_lt}
use Rattle.bt_base.specs.Counts.{HasRisen}
use Rattle.radio_world.specs.declared.fault.WorldFault.{WorldFault}
use Rattle.radio_world.specs.declared.fault.WorldFault.TheVariants.{TraceFault}
use Rattle.radio_world.specs.Causes.{Blames}

-- where a call ends well
pub blames_none : {X : Type 0} (a b : ℕ) (x : X) → a ≤ b → Blames a b (Ok x)
blames_none a b x stays = record { stays = stays; failed = λ failed. cc }

risen_from : (a b c : ℕ) → a ≤ b → b ≤ c → HasRisen b c → HasRisen a c
risen_from a b c one two risen =
    elim risen [
      | inl less ↦ inl (omega arith)
      | inr last ↦ elim (cases_lt a b) [ inl less ↦ inl (omega arith) | inr same ↦ inr (omega arith) ]
    ]

same_fault : {X : Type 0} (result : Result X WorldFault) (fault : WorldFault) → IsErrAnd result (λ other. other ≡ fault) → IsErrOf result TraceFault → fault ≡ TraceFault
same_fault (Ok x) fault is failed = absurd is
same_fault (Err other) fault is failed = let here : other ≡ TraceFault = cc in sym is ∙ here

-- a fault is handed on
pub blames_on : {X Y : Type 0} (a b c : ℕ) (before : Result X WorldFault) (result : Result Y WorldFault) (fault : WorldFault) → IsErrAnd result (λ other. other ≡ fault) → before ≡ Err fault → a ≤ b → Blames b c before → Blames a c result
blames_on a b c before result fault is was stays blames =
    let later = blames.stays in
    record { stays = omega arith; failed = λ failed. risen_from a b c stays later (blames.failed (was ∙ ap Err (same_fault result fault is failed))) }
