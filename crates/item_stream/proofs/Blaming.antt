-- Who is to blame for a fault of two calls.
use Rattle.std.proofs.Common.{◌≡◌, ℕ, ◌<◌, ◌≤◌, Result, Ok, Err, IsErrOf, ap, subst, inl, inr, arith}
use Rattle.std.proofs.lemmas.Bool.{cases_lt}
use Rattle.item_stream.specs.declared.end.Ending.{Ending}
use Rattle.item_stream.specs.declared.end.StreamFault.{StreamFault}
use Rattle.item_stream.specs.declared.end.StreamFault.TheVariants.{ReadFault, WriteFault, NoMemory}
use Rattle.item_stream.specs.Running.{Blames, IsAnswered, IsOfSink}

not_read : (fault : StreamFault) → IsOfSink fault → fault ≡ ReadFault → ⊥
not_read ReadFault sink is = absurd sink
not_read WriteFault sink is = absurd cc
not_read NoMemory sink is = absurd cc

-- the same fault in another result
pub same_fault : {A B : Type 0} (fault other : StreamFault) → IsErrOf {T = A} (Err fault) other → IsErrOf {T = B} (Err fault) other
same_fault fault other is = let e : fault ≡ other = cc in ap Err e

no_fault : {A : Type 0} (done : A) (other : StreamFault) → IsErrOf (Ok done) other → ⊥
no_fault done other is = absurd cc

-- a fault of the sink ends both
pub blames_first : (source sink sink' : ℕ) (fault : StreamFault) → Blames {A = Unit {0}} 0 0 sink sink' (Err fault) → IsOfSink fault → Blames {A = Ending} source source sink sink' (Err fault)
blames_first source sink sink' fault first of = record {
  source_stays = omega arith;
  sink_stays = first.sink_stays;
  read = λ is. absurd (not_read fault of cc);
  write = λ is. first.write (same_fault fault WriteFault is);
  only_read = λ lt. absurd (omega arith);
  only_write = λ lt. same_fault fault WriteFault (first.only_write lt);
}

pub answered_first : (sink sink' : ℕ) (fault : StreamFault) → IsAnswered sink sink' (IsErrOf {T = Unit {0}} (Err fault) NoMemory) → IsAnswered sink sink' (IsErrOf {T = Ending} (Err fault) NoMemory)
answered_first sink sink' fault first = record { stays = first.stays; only = λ lt. same_fault fault NoMemory (first.only lt) }

-- the sink's count stays where all went well
stays : (count count' : ℕ) → count ≤ count' → (count < count' → ⊥) → count' ≡ count
stays count count' le none = elim (cases_lt count count') [
  | inl lt ↦ absurd (none lt)
  | inr ge ↦ omega arith
]

pub blames_second : {A : Type 0} (source source' sink mid sink' : ℕ) (result : Result A StreamFault) (done : Unit {0}) → Blames {A = Unit {0}} 0 0 sink mid (Ok done) → Blames source source' mid sink' result → Blames source source' sink sink' result
blames_second source source' sink mid sink' result done first second =
    subst (λ (k : ℕ). Blames source source' k sink' result) (stays sink mid first.sink_stays (λ lt. no_fault done WriteFault (first.only_write lt))) second

pub answered_second : (sink mid sink' : ℕ) (answer : Type 0) (done : Unit {0}) → IsAnswered sink mid (IsErrOf (Ok done) NoMemory) → IsAnswered mid sink' answer → IsAnswered sink sink' answer
answered_second sink mid sink' answer done first second = subst (λ (k : ℕ). IsAnswered k sink' answer) (stays sink mid first.stays (λ lt. no_fault done NoMemory (first.only lt))) second
