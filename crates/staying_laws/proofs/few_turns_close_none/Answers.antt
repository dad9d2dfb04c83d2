use Rattle.staying_laws.proofs.Peers.{few-turns_close_none}
use Rattle.staying_laws.proofs.few_turns_close_none.Goals as goal

pub returns : goal.returns
returns c =
    few-turns_close_none c.met_is_heeded.ensures c.few_disturbances_forgo_none.ensures c.ends_are_met.ensures c.options_are_met.ensures c.staying_remains.ensures c.few_upsets_end_none.ensures c.calm_is_quiet.ensures
    c.ends_are_asked_for.ensures c.answered_ends_are_ended.ensures c.machines_are_paid.ensures c.few_turns_end_none.ensures
