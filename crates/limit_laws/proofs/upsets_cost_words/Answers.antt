use Rattle.limit_laws.proofs.Upsetting.{upsets-cost_words}
use Rattle.limit_laws.proofs.upsets_cost_words.Goals as goal

pub returns : goal.returns
returns c = upsets-cost_words c.settled_upset_no_more.ensures
