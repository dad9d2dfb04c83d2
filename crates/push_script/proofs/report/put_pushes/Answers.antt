use Rattle.std.proofs.Common.{refl, ◌∙◌, arith}
use Rattle.push_script.proofs.Telling.{told_next, told_stop}
use Rattle.push_script.proofs.report.put_pushes.Goals as goal

pub returns-in-Err : goal.returns-in-Err
returns-in-Err g c = told_stop _ _ _ _ _ _ _ _ _ _ _ _ _ _ c.index-names-i.result _ c.in-Err.fault (omega (arith, c.requires.each, c.loop-i-test.true)) c.loop-i-test.true refl (c.text.ensures.text ∙ c.index-names-i.is) c.loop-i.invariant c.in-Err.ensures

pub loop-i-preserved : goal.loop-i-preserved
loop-i-preserved g c = told_next _ _ _ _ _ _ _ _ _ _ _ _ _ _ c.index-names-i.result _ c.in_default.field-0 (omega (arith, c.requires.each, c.loop-i-test.true)) c.loop-i-test.true refl (c.text.ensures.text ∙ c.index-names-i.is) c.loop-i.invariant c.in_default.ensures
