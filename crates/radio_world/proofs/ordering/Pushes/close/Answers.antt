use Rattle.std.proofs.Common.{rules, ◌≡◌, ◌≤◌, ◌<◌, ◌+◌, ◌-◌, ◌++◌, List, [], ◌∷◌, ℕ, length, replicate, sym, ap, ◌∙◌, append_assoc, arith}
use Rattle.std.proofs.lemmas.List.{replicate-append-replicate, length-append}
use Rattle.push_terms.specs.declared.outcome.Outcome.{Outcome}
use Rattle.push_terms.specs.declared.outcome.Outcome.TheVariants.{ScriptEnded}
use Rattle.radio_world.proofs.ordering.Pushes.close.Goals as goal

one_more : (n : ℕ) → replicate n ScriptEnded ++ ScriptEnded ∷ [] ≡ replicate (n + 1) ScriptEnded
one_more n = replicate-append-replicate n 1 ScriptEnded

-- one more of those that were not begun
behind : (old now then : List Outcome) → length old ≤ length now → now ≡ old ++ replicate (length now - length old) ScriptEnded → then ≡ now ++ ScriptEnded ∷ [] → length then ≡ length now + 1
    → then ≡ old ++ replicate (length then - length old) ScriptEnded
behind old now then le is more len =
    let k : ℕ = length now - length old in
    let counted : length then - length old ≡ k + 1 = omega (arith, le, len) in
    more ∙ ap (λ xs. xs ++ ScriptEnded ∷ []) is ∙ append_assoc old (replicate k ScriptEnded) (ScriptEnded ∷ []) ∙ ap (λ xs. old ++ xs) (one_more k) ∙ ap (λ n. old ++ replicate n ScriptEnded) (sym counted)

pub loop-self-preserved : goal.loop-self-preserved
loop-self-preserved c =
    let old : List Outcome = c.args.self.now.outcomes in
    let now : List Outcome = c.loop-self.self-inside.outcomes.items in
    let then : List Outcome = c.keep.new.outcomes.items in
    let more : then ≡ now ++ ScriptEnded ∷ [] = c.keep.ensures.items in
    let len : length then ≡ length now + 1 = ap length more ∙ length-append now (ScriptEnded ∷ []) in
    let test : length now < length c.loop-self.self-inside.names.items = search rules in
    let le : length old ≤ length now = c.loop-self.invariant.6 in
    (c.loop-self.invariant.0, c.loop-self.invariant.1, ap (λ n. n + 1) c.loop-self.invariant.2 ∙ sym len, omega (arith, len, test), c.loop-self.invariant.4, omega (arith, c.loop-self.invariant.5, c.keep.ensures.room), omega (arith, le, len), behind old now then le c.loop-self.invariant.7 more len)
