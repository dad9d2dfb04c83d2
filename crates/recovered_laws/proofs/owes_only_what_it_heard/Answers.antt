use Rattle.recovered_laws.proofs.Owing.{owes-only_what_it_heard}
use Rattle.recovered_laws.proofs.owes_only_what_it_heard.Goals as goal

pub returns : goal.returns
returns c = owes-only_what_it_heard
