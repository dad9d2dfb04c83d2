use Rattle.timely_laws.proofs.InTime.{few-turns_answer_well}
use Rattle.timely_laws.proofs.few_turns_answer_well.Goals as goal

pub returns : goal.returns
returns c =
    few-turns_answer_well c.all_in_time_succeed.ensures c.ends_are_asked_for.ensures c.staying_remains.ensures c.answered_ends_are_ended.ensures c.heard_options_are_last.ensures c.no_options_come_late.ensures c.no_part_waits.ensures
    c.one_channel_asks_once.ensures c.peers_are_apart.ensures c.options_are_asked_once.ensures c.remaining_asks_once.ensures c.options_of_left_are_counted.ensures c.calm_is_quiet.ensures c.few_turns_close_none.ensures c.few_turns_end_none_of_both.ensures
