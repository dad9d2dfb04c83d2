use Rattle.own_channel_laws.proofs.Agreements.{agreements-are_on_heard}
use Rattle.channel_laws.proofs.laws.agreements_are_on_heard.Goals as goal

pub returns : goal.returns
returns c = agreements-are_on_heard
