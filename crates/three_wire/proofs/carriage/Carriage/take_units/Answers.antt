use Rattle.three_wire.proofs.carriage.Carriage.take_units.Goals as goal

pub take_unit-requires-clause-going : goal.take_unit-requires-clause-going
take_unit-requires-clause-going g c = let r = c.requires.going in (r.0, r.1, r.2, c.taking.invariant.goes r.0 r.1 r.2 r.3)

pub returns-in-Err-clause-goes : goal.returns-in-Err-clause-goes
returns-in-Err-clause-goes g c = λ given sink trace k. c.in-Err.ensures.goes given sink trace (c.taking.invariant.goes given sink trace k)
