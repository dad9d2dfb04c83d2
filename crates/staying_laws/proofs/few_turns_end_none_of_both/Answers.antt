use Rattle.staying_laws.proofs.Peers.{few-turns_end_none_of_both}
use Rattle.staying_laws.proofs.few_turns_end_none_of_both.Goals as goal

pub returns : goal.returns
returns c = few-turns_end_none_of_both c.few_turns_keep_peers.ensures c.few_turns_end_none.ensures
