-- Causes of an answer that one port of several had, as causes among all of them.
use Rattle.std.proofs.Common.{◌≡◌, ℕ, ◌⊎◌, arith, inl, inr, refl}
use Rattle.std.proofs.lemmas.Bool.{cases_lt}
use Rattle.bt_base.specs.Counts.{HasRisen}
use Rattle.btpush_forms.specs.h4_view.specs.View.{IsAnswered}
use Rattle.btpush_forms.specs.declared.status.Status.{Status}
use Rattle.btpush_forms.specs.declared.status.Status.TheVariants as status
use Rattle.btpush_forms.specs.Run.{HasCauses}
use Rattle.object_push.specs.Pushing.{IsShort}

-- where nothing is answered for a port, its count stands still
pub still : (count count' : ℕ) (answer : Type 0) → IsAnswered count count' answer → (answer → ⊥) → count' ≡ count
still count count' answer is not = elim (cases_lt count count') [ inl lt ↦ absurd (not (is.only lt)) | inr ge ↦ omega (arith, is.stays) ]

-- and so it is answered whatever comes
pub unanswered : (count count' : ℕ) (answer other : Type 0) → IsAnswered count count' answer → (answer → ⊥) → IsAnswered count count' other
unanswered count count' answer other is not = record { stays = is.stays; only = λ lt. absurd (not (is.only lt)) }

-- the first value of a count is not the last one
never_risen : HasRisen 0 0 → ⊥
never_risen (inl lt) = omega (arith, lt)
never_risen (inr last) = omega (arith, last)

of_sink : {P Q : Type 0} → P ⊎ HasRisen 0 0 → P ⊎ Q
of_sink (inl rose) = inl rose
of_sink (inr rose) = absurd (never_risen rose)

-- a trace that stood still beside a call that has to do with the sink alone
pub beside_trace : {k k' t t' : ℕ} {r : Status} → t' ≡ t → HasCauses 0 0 k k' 0 0 r → HasCauses 0 0 k k' t t' r
beside_trace {t} {t'} same c = record {
  source_stays = c.source_stays;
  sink_stays = c.sink_stays;
  trace_stays = omega (arith, same);
  read = c.read;
  write = λ is. of_sink (c.write is);
  only_read = c.only_read;
  only_write = c.only_write;
  only_trace = λ lt. absurd (omega (arith, same, lt));
}

-- a source that stood still beside a call that has nothing to do with it
pub beside_source : {s s' k k' t t' : ℕ} {r : Status} → s' ≡ s → HasCauses 0 0 k k' t t' r → HasCauses s s' k k' t t' r
beside_source {s} {s'} same c = record {
  source_stays = omega (arith, same);
  sink_stays = c.sink_stays;
  trace_stays = c.trace_stays;
  read = λ is. absurd (never_risen (c.read is));
  write = c.write;
  only_read = λ lt. absurd (omega (arith, same, lt));
  only_write = c.only_write;
  only_trace = c.only_trace;
}

-- a port lacked memory, and the trace failed
pub short_failed : (count count' faults faults' : ℕ) (answer : Type 0) → IsAnswered count count' answer → HasRisen faults faults' → IsAnswered count count' (IsShort faults faults' status.WriteFault)
short_failed count count' faults faults' answer is rose = record { stays = is.stays; only = λ lt. inr (refl, rose) }

-- or it did not
pub short_alone : (count count' faults faults' : ℕ) (answer : Type 0) → IsAnswered count count' answer → faults' ≡ faults → IsAnswered count count' (IsShort faults faults' status.NoMemory)
short_alone count count' faults faults' answer is same = record { stays = is.stays; only = λ lt. inl (refl, same) }
