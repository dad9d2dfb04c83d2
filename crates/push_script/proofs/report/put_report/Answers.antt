use Rattle.std.proofs.Common.{◌∙◌}
use Rattle.push_script.proofs.Telling.{report_then, report_stop}
use Rattle.push_script.proofs.report.put_report.Goals as goal

pub returns-in-Err : goal.returns-in-Err
returns-in-Err g c = report_stop _ _ _ _ _ _ c.args.scenario.now.names _ c.args.outcomes.now c.args.kept c.args.peaks.now c.in-Err.fault c.as_slice.ensures c.in-Err.ensures

pub returns : goal.returns
returns g c = report_then _ _ _ _ _ _ _ _ _ c.args.scenario.now.names _ c.args.outcomes.now c.args.kept c.args.peaks.now _ c.in_default.field-0 _ c.as_slice.ensures (c.as_bytes.ensures.value ∙ c.as_str.ensures.value ∙ c.peaks_of-text.ensures) c.in_default.ensures c.put_piece.ensures
