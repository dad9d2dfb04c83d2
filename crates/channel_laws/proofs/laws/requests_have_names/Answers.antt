use Rattle.channel_laws.proofs.NamedApart.{requests-have_names}
use Rattle.channel_laws.proofs.laws.requests_have_names.Goals as goal

pub returns : goal.returns
returns c = requests-have_names
