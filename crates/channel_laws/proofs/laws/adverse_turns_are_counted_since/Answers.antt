use Rattle.channel_laws.proofs.Costing.{adverse-turns_are_counted_since}
use Rattle.channel_laws.proofs.laws.adverse_turns_are_counted_since.Goals as goal

pub returns : goal.returns
returns c = adverse-turns_are_counted_since
