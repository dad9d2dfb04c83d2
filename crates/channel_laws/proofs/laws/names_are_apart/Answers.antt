use Rattle.channel_laws.proofs.NamedApart.{names-are_apart}
use Rattle.channel_laws.proofs.laws.names_are_apart.Goals as goal

pub returns : goal.returns
returns c = names-are_apart
