use Rattle.request_laws.proofs.ShelfPushes.{runs_spell_pushed}
use Rattle.request_laws.proofs.runs_spell_pushed.Goals as goal

pub returns : goal.returns
returns c = runs_spell_pushed
