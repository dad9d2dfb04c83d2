-- What ports that were watched say of a run.
use Rattle.std.proofs.Common.{◌≡◌, ℕ, ◌&&◌, ◌||◌, Bool, true, false, Result, Ok, Err, refl, ap, ◌∙◌}
use Rattle.std.specs.Prelude.{IsErrOf, is_ok, IfErr, IfOk, OnErr}
use Rattle.btpush_forms.specs.h4_view.specs.View.{IsAnswered}
use Rattle.watched_ports.specs.Counts.{IsNoted}
use Rattle.radio_world.specs.declared.fault.WorldFault.{WorldFault}
use Rattle.radio_world.specs.declared.fault.WorldFault.TheVariants.{TraceFault, NoMemory}
use Rattle.object_push.specs.declared.halting.Ended.{Ended}

-- ---- answers

pub either_way : {X E Y : Type 0} {P : X → Type 0} (result : Result X E) → IfOk result P → OnErr result Y → ((x : X) → P x → Y) → Y
either_way (Ok x) is breaks more = more x is
either_way (Err fault) is breaks more = breaks

pub at_err : {X E Y : Type 0} (result : Result X E) → Y → IfErr result (λ fault. Y)
at_err (Ok x) y = tt
at_err (Err fault) y = y

pub err_then : {X E : Type 0} {P Q : E → Type 0} (result : Result X E) → IfErr result P → ((fault : E) → P fault → Q fault) → IfErr result Q
err_then (Ok x) is more = tt
err_then (Err fault) is more = more fault is

pub ok_then : {X E : Type 0} {P Q : X → Type 0} (result : Result X E) → IfOk result P → ((x : X) → P x → Q x) → IfOk result Q
ok_then (Ok x) is more = more x is
ok_then (Err fault) is more = tt

-- ---- what was noted is answered

no_end : {X E : Type 0} (result : Result X E) (fault : E) → IsErrOf result fault → is_ok result ≡ false
no_end result fault is = ap (λ r. is_ok r) is

pub noted_fault : (past now : ℕ) (failed : Bool) (result : Result Ended WorldFault) → IsNoted past now failed → (failed ≡ true → IsErrOf result TraceFault) → IsAnswered past now (IsErrOf result TraceFault)
noted_fault past now failed result is told = record { stays = is.stays; only = λ lt. told (is.noted_is lt) }

not_both : (failed short : Bool) → (failed && short) ≡ false → short ≡ true → failed ≡ false
not_both true short once is = absurd cc
not_both false short once is = refl

third : (a b c : Bool) → c ≡ true → (a || b || c) ≡ true
third true b c is = refl
third false true c is = refl
third false false c is = is

second : (a b c : Bool) → b ≡ true → (a || b || c) ≡ true
second true b c is = refl
second false true c is = refl
second false false c is = absurd cc

first : (a b c : Bool) → a ≡ true → (a || b || c) ≡ true
first true b c is = refl
first false b c is = absurd cc

pub noted_want : (past now : ℕ) (shelf_short inbox_short failed trace_short short : Bool) (result : Result Ended WorldFault) → IsNoted past now trace_short → (failed && trace_short) ≡ false → short ≡ (shelf_short || inbox_short || trace_short)
    → (failed ≡ false → short ≡ true → IsErrOf result NoMemory) → IsAnswered past now (IsErrOf result NoMemory)
noted_want past now shelf_short inbox_short failed trace_short short result is once any told = record {
  stays = is.stays;
  only = λ lt. let here = is.noted_is lt in told (not_both failed trace_short once here) (any ∙ third shelf_short inbox_short trace_short here);
}

ends : (failed short : Bool) (result : Result Ended WorldFault) → (failed ≡ true → IsErrOf result TraceFault) → (failed ≡ false → short ≡ true → IsErrOf result NoMemory) → short ≡ true → is_ok result ≡ false
ends true short result told wants is = no_end result TraceFault (told refl)
ends false short result told wants is = no_end result NoMemory (wants refl is)

pub noted_shelf : (past now : ℕ) (shelf_short inbox_short failed trace_short short : Bool) (result : Result Ended WorldFault) → IsNoted past now shelf_short → short ≡ (shelf_short || inbox_short || trace_short)
    → (failed ≡ true → IsErrOf result TraceFault) → (failed ≡ false → short ≡ true → IsErrOf result NoMemory) → IsAnswered past now (is_ok result ≡ false)
noted_shelf past now shelf_short inbox_short failed trace_short short result is any told wants =
    record { stays = is.stays; only = λ lt. ends failed short result told wants (any ∙ first shelf_short inbox_short trace_short (is.noted_is lt)) }

pub noted_inbox : (past now : ℕ) (shelf_short inbox_short failed trace_short short : Bool) (result : Result Ended WorldFault) → IsNoted past now inbox_short → short ≡ (shelf_short || inbox_short || trace_short)
    → (failed ≡ true → IsErrOf result TraceFault) → (failed ≡ false → short ≡ true → IsErrOf result NoMemory) → IsAnswered past now (is_ok result ≡ false)
noted_inbox past now shelf_short inbox_short failed trace_short short result is any told wants =
    record { stays = is.stays; only = λ lt. ends failed short result told wants (any ∙ second shelf_short inbox_short trace_short (is.noted_is lt)) }
