use Rattle.push_laws.proofs.Spelling.{spells-what_is_pushed}
use Rattle.push_laws.proofs.client_laws.spells_what_is_pushed.Goals as goal

pub returns : goal.returns
returns c = spells-what_is_pushed
