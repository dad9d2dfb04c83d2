use Rattle.std.proofs.Common.{[], ◌∷◌}
use Rattle.push_script.proofs.Telling.{tells_then, tells_stop}
use Rattle.push_script.proofs.report.put_ended.Goals as goal

pub returns-in-Err : goal.returns-in-Err
returns-in-Err g c = tells_stop _ _ _ _ _ _ c.args.text.now (10 ∷ []) c.in-Err.fault c.in-Err.ensures

pub returns : goal.returns
returns g c = tells_then _ _ _ _ _ _ _ _ _ c.args.text.now (10 ∷ []) c.in_default.field-0 _ c.in_default.ensures c.put_piece-2.ensures
