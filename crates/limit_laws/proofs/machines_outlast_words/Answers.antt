use Rattle.limit_laws.proofs.Upsetting.{machines-outlast_words}
use Rattle.limit_laws.proofs.machines_outlast_words.Goals as goal

pub returns : goal.returns
returns c = machines-outlast_words c.upsets_cost_words.ensures c.pairs_are_carried.ensures c.machines_are_paid.ensures c.agreements_are_on_heard.ensures
