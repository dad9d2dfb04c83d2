use Rattle.host_laws.proofs.SearchSent.{searches_are_sent}
use Rattle.host_laws.proofs.laws.searches_are_sent.Goals as goal

pub returns : goal.returns
returns c = searches_are_sent
