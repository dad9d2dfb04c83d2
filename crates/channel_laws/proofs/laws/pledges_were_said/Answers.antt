use Rattle.channel_laws.proofs.Belonging.{pledges-were_said}
use Rattle.channel_laws.proofs.laws.pledges_were_said.Goals as goal

pub returns : goal.returns
returns c = pledges-were_said
