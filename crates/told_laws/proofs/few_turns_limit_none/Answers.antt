use Rattle.told_laws.proofs.Limits.{few-turns_limit_none}
use Rattle.told_laws.proofs.few_turns_limit_none.Goals as goal

pub returns : goal.returns
returns c = few-turns_limit_none c.met_is_heeded.ensures c.calm_is_quiet.ensures c.few_turns_end_none_of_both.ensures c.few_turns_tell_mildly.ensures
