use Rattle.h4_framing.proofs.SpellingLemmas.{one_spelling}
use Rattle.h4_framing.proofs.laws.no_spelling_begins_another.Goals as goal

pub returns : goal.returns
returns c = one_spelling
