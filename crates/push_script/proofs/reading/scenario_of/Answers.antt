use Rattle.std.proofs.Common.{ℕ, ◌+◌, take, ap, refl, ◌∙◌, arith}
use Rattle.push_script.proofs.FirstLines.{reads_lines, reads_bad}
use Rattle.push_script.proofs.reading.scenario_of.Goals as goal

pub returns-in-Ok : goal.returns-in-Ok
returns-in-Ok c = reads_lines c.args.text.now c.in-Ok.text.now _ (omega (arith, c.if-text-gt-TEXT_LIMIT.false)) c.in-Ok.ensures.cases.0 c.in-Ok.ensures.cases.1 c.read_lines.ensures

pub returns-in-Err : goal.returns-in-Err
returns-in-Err c = reads_bad c.args.text.now (take c.valid_up_to.result c.args.text.now) c.valid_up_to.result _ (omega (arith, c.if-text-gt-TEXT_LIMIT.false)) c.in-Err.ensures.cases.0 (c.valid_up_to.ensures ∙ c.in-Err.ensures.valid_len) refl (ap (λ (n : ℕ). n + 1) c.count_feeds-line.ensures.count)
