use Rattle.std.proofs.Common.{rules, ℕ, suc, ◌≤◌, length, arith}
use Rattle.push_terms.specs.Outcomes.{outcome_text, IsOutcome}
use Rattle.script_words.proofs.Lengths.{outcome_short}
use Rattle.radio_world.proofs.scene.Scene.end.Goals as goal

-- an outcome's text is short beside a packet
fits : (n : ℕ) → n ≤ 24 → suc (suc (suc (suc (suc n)))) ≤ 1029
fits n short = omega (arith, short)

pub record-requires-clause-short : goal.record-requires-clause-short
record-requires-clause-short g c =
    let is : IsOutcome c.args.outcome = search rules in
    fits (length (outcome_text c.args.outcome)) (outcome_short c.args.outcome is)
