use Rattle.std.proofs.Common.{Err, Ok, None, Option, inl, inr, subst, arith}
use Rattle.three_wire.specs.declared.fault.CarryEnd.{CarryEnd}
use Rattle.three_wire.specs.Carrying.{EndsHere}
use Rattle.three_wire.proofs.Carrying.{carries_since, carries_whole, ends_here, finishes, cause_of, rose_since, read_since, short_since, no_write, no_read, written_since, shorts_since, same_fault}
use Rattle.three_wire.proofs.rounds.run.Goals as goal

pub take_units-requires : goal.take_units-requires
take_units-requires g c = let r = c.requires.going in record { going = (r.0, _, _, c.rounds.invariant.goes r.0 r.1) }

pub returns-in-Err-clause-carries : goal.returns-in-Err-clause-carries
returns-in-Err-clause-carries g c = λ given k.
    carries_since given (g.K.Sink.content c.rounds.sink) (g.T.Sink.content c.rounds.trace) ⊥ _ (Err c.in-Err.fault) (λ none. absurd none) (c.in-Err.ensures.goes given _ _ (c.rounds.invariant.goes given k))

pub returns-in-Err-clause-read_fault : goal.returns-in-Err-clause-read_fault
returns-in-Err-clause-read_fault g c = λ is. read_since c.in-Err.fault _ _ _ _ _ c.rounds.invariant.faults c.in-Err.ensures.blame (same_fault _ _ is)

pub returns-in-Err-clause-write_fault : goal.returns-in-Err-clause-write_fault
returns-in-Err-clause-write_fault g c = λ is. absurd (no_write c.in-Err.fault _ _ _ _ c.in-Err.ensures.blame (same_fault _ _ is))

pub returns-in-Err-clause-no_memory : goal.returns-in-Err-clause-no_memory
returns-in-Err-clause-no_memory g c = λ is. inl (short_since c.in-Err.fault _ _ _ _ _ c.rounds.invariant.shortages c.in-Err.ensures.blame (same_fault _ _ is))

pub ending-requires : goal.ending-requires
ending-requires g c = let r = c.requires.going in let k = c.in-Ok.ensures.goes r.0 _ _ (c.rounds.invariant.goes r.0 r.1) in record { few = omega (arith, k.units_count, k.few) }

pub returns-in-Some-clause-carries : goal.returns-in-Some-clause-carries
returns-in-Some-clause-carries g c = λ given k.
    let k' = c.in-Ok.ensures.goes given _ _ (c.rounds.invariant.goes given k) in
    let e = subst (EndsHere c.take_units.new.self) c.in-Some.is c.ending.ensures in
    carries_whole given _ _ _ c.take_units.new.self _ (Ok c.in-Some.end) k' (ends_here given _ _ _ c.take_units.new.self c.in-Some.end k' e)

pub returns-in-Some-clause-finish : goal.returns-in-Some-clause-finish
returns-in-Some-clause-finish g c = λ is.
    let r = c.requires.going in
    let k = c.in-Ok.ensures.goes r.0 _ _ (c.rounds.invariant.goes r.0 r.1) in
    finishes r.0 _ _ _ c.take_units.new.self c.in-Some.end k (subst (EndsHere c.take_units.new.self) c.in-Some.is c.ending.ensures) is

pub pass-requires-clause-going : goal.pass-requires-clause-going
pass-requires-clause-going g c = let r = c.requires.going in let k = c.in-Ok.ensures.goes r.0 _ _ (c.rounds.invariant.goes r.0 r.1) in (_, (r.0, _, _, k))

pub pass-requires-clause-cause : goal.pass-requires-clause-cause
pass-requires-clause-cause g c =
    let r = c.requires.going in
    let k = c.in-Ok.ensures.goes r.0 _ _ (c.rounds.invariant.goes r.0 r.1) in
    let e : EndsHere c.take_units.new.self (let none : Option CarryEnd = None in none) = subst (EndsHere c.take_units.new.self) c.in-None.is c.ending.ensures in
    cause_of r.0 _ _ _ c.take_units.new.self k c.in-Ok.ensures.stops e

pub rounds-smaller : goal.rounds-smaller
rounds-smaller g c =
    let r = c.requires.going in
    let k = c.in-Ok.ensures.goes r.0 _ _ (c.rounds.invariant.goes r.0 r.1) in
    let e : EndsHere c.take_units.new.self (let none : Option CarryEnd = None in none) = subst (EndsHere c.take_units.new.self) c.in-None.is c.ending.ensures in
    omega (arith, e.0, k.units_count, k.few, c.in-Ok.ensures.rounds, c.in-Ok-pass.ensures.rounds)

pub returns-in-Err-pass-clause-carries : goal.returns-in-Err-pass-clause-carries
returns-in-Err-pass-clause-carries g c = λ given k.
    let k' = c.in-Ok.ensures.goes given _ _ (c.rounds.invariant.goes given k) in
    carries_since given _ _ (Unit {0}) _ (Err c.in-Err-pass.fault) (λ u. rose_since c.in-Err-pass.fault _ _ _ _ _ _ _ _ _ _ _ _ c.rounds.invariant.steady c.in-Err-pass.ensures.blame) (c.in-Err-pass.ensures.goes given _ k')

pub returns-in-Err-pass-clause-read_fault : goal.returns-in-Err-pass-clause-read_fault
returns-in-Err-pass-clause-read_fault g c = λ is. absurd (no_read c.in-Err-pass.fault _ _ _ _ _ _ _ _ c.in-Err-pass.ensures.blame (same_fault _ _ is))

pub returns-in-Err-pass-clause-write_fault : goal.returns-in-Err-pass-clause-write_fault
returns-in-Err-pass-clause-write_fault g c = λ is. written_since c.in-Err-pass.fault _ _ _ _ _ _ _ _ _ _ _ _ c.rounds.invariant.steady c.in-Err-pass.ensures.blame (same_fault _ _ is)

pub returns-in-Err-pass-clause-no_memory : goal.returns-in-Err-pass-clause-no_memory
returns-in-Err-pass-clause-no_memory g c = λ is. inr (shorts_since c.in-Err-pass.fault _ _ _ _ _ _ _ _ _ _ _ _ c.rounds.invariant.steady c.in-Err-pass.ensures.blame (same_fault _ _ is))
