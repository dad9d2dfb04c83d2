use Rattle.link_talk.proofs.OnePass.{entries-are_read, reading-is_right}
use Rattle.link_talk.proofs.laws.reading_is_right.Goals as goal

pub returns : goal.returns
returns c = record { entries = entries-are_read; reading = reading-is_right }
