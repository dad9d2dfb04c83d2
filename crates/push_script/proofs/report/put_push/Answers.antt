use Rattle.std.proofs.Common.{◌∙◌}
use Rattle.push_script.proofs.Telling.{line_then, line_stop}
use Rattle.push_script.proofs.report.put_push.Goals as goal

pub returns-in-Err : goal.returns-in-Err
returns-in-Err g c = line_stop _ _ _ _ _ _ _ c.args.number c.args.outcome c.args.name.now c.in-Err.fault (c.as_bytes.ensures.value ∙ c.as_str.ensures.value ∙ c.head_of-head.ensures) c.in-Err.ensures

pub returns : goal.returns
returns g c = line_then _ _ _ _ _ _ _ _ _ _ c.args.number c.args.outcome c.args.name.now _ c.in_default.field-0 _ (c.as_bytes.ensures.value ∙ c.as_str.ensures.value ∙ c.head_of-head.ensures) c.as_bytes-2.ensures.value c.in_default.ensures c.put_ended.ensures
