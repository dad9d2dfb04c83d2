use Rattle.forgoing_laws.proofs.Lasting.{few-turns_end_none}
use Rattle.forgoing_laws.proofs.few_turns_end_none.Goals as goal

pub returns : goal.returns
returns c =
    few-turns_end_none c.met_is_heeded.ensures c.few_disturbances_forgo_none.ensures c.ends_are_met.ensures c.options_are_met.ensures c.staying_remains.ensures c.few_upsets_end_none.ensures c.calm_is_quiet.ensures
