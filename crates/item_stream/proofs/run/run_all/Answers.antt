use Rattle.item_stream.proofs.run.run_all.Goals as goal

pub returns-in-Ok-Some-clause-runs : goal.returns-in-Ok-Some-clause-runs
returns-in-Ok-Some-clause-runs g c first input old s = let steps = rw c.in-Ok-Some.field-0-is at c.in-Ok-Some.ensures.steps in steps first input old (c.loop-ending.invariant.0 first input old s)

pub returns-in-Err-clause-runs : goal.returns-in-Err-clause-runs
returns-in-Err-clause-runs g c first input old s = c.in-Err.ensures.steps first input old (c.loop-ending.invariant.0 first input old s)
