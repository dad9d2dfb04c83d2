use Rattle.channel_laws.proofs.Responding.{copies-have_responses}
use Rattle.channel_laws.proofs.laws.copies_have_responses.Goals as goal

pub returns : goal.returns
returns c = copies-have_responses
