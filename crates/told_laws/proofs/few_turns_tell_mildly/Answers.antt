use Rattle.told_laws.proofs.Turning.{few-turns_tell_mildly}
use Rattle.told_laws.proofs.few_turns_tell_mildly.Goals as goal

pub returns : goal.returns
returns c =
    few-turns_tell_mildly c.features_are_heeded.ensures c.met_is_heeded.ensures c.ends_are_asked_for.ensures c.options_are_met.ensures c.calm_is_quiet.ensures c.machines_are_paid.ensures
    c.few_turns_close_none.ensures c.few_turns_end_none_of_both.ensures
