use Rattle.link_talk.proofs.Growing.{calls-are_answered, queries-are_answered}
use Rattle.link_talk.proofs.laws.first_of_a_run_is_answered.Goals as goal

pub returns : goal.returns
returns c = record { calls = calls-are_answered; queries = queries-are_answered }
