use Rattle.search_laws.proofs.Strands.{requests-are_taken}
use Rattle.search_laws.proofs.searches_are_taken.Goals as goal

pub returns : goal.returns
returns c = requests-are_taken
