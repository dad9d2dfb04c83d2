use Rattle.std.proofs.Common.{◌≡◌, ◌≤◌, ◌-◌, ◌++◌, false, length, replicate, vec_capacity}
use Rattle.push_terms.specs.declared.outcome.Outcome.TheVariants.{ScriptEnded}
use Rattle.radio_world.proofs.ordering.Pushes.close.Given as goal

abbrev pub invariant-loop-self : goal.invariant-loop-self
invariant-loop-self l =
    (l.self-inside.names.items ≡ l.fn.self.names)
    × (l.self-inside.going ≡ false)
    × (l.self-inside.begun ≡ length l.self-inside.outcomes.items)
    × (length l.self-inside.outcomes.items ≤ length l.self-inside.names.items)
    × (length l.self-inside.names.items ≤ 64)
    × (length l.self-inside.names.items ≤ vec_capacity l.self-inside.outcomes)
    × (length l.fn.self.outcomes ≤ length l.self-inside.outcomes.items)
    × (l.self-inside.outcomes.items ≡ l.fn.self.outcomes ++ replicate (length l.self-inside.outcomes.items - length l.fn.self.outcomes) ScriptEnded)

abbrev pub decreases-loop-self : goal.decreases-loop-self
decreases-loop-self l = length l.self-inside.names.items - length l.self-inside.outcomes.items
