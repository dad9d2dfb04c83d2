use Rattle.channel_laws.proofs.OneByOne.{calls-are_one_by_one}
use Rattle.channel_laws.proofs.laws.pipes.calls_are_one_by_one.Goals as goal

pub returns : goal.returns
returns c = calls-are_one_by_one
