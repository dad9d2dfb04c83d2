use Rattle.unmarked_laws.proofs.Pushes.{withheld_spell_none}
use Rattle.unmarked_laws.proofs.withheld_spell_none.Goals as goal

pub returns : goal.returns
returns c = withheld_spell_none
