use Rattle.std.proofs.Common.{◌∙◌}
use Rattle.push_script.specs.Refusals.{refusal_line}
use Rattle.push_script.proofs.Telling.{tells_as}
use Rattle.push_script.proofs.report.put_refusal.Goals as goal

pub returns : goal.returns
returns g c = tells_as _ _ _ _ _ _ _ (refusal_line c.args.line c.args.refusal) c.put_piece.result (c.as_bytes.ensures.value ∙ c.as_str.ensures.value ∙ c.refusal_of-text.ensures) c.put_piece.ensures
