use Rattle.link_talk.proofs.Worked.{are_exchanged, are_silent, are_answered, do_wait}
use Rattle.link_talk.proofs.laws.small_talks_are_read.Goals as goal

pub returns : goal.returns
returns c = record { exchanges = are_exchanged; silences = are_silent; answers = are_answered; waits = do_wait }
