use Rattle.session_laws.proofs.Once.{pairs_spell_once}
use Rattle.session_laws.proofs.pairs_spell_once.Goals as goal

pub returns : goal.returns
returns c = pairs_spell_once
