use Rattle.pair_laws.proofs.Seeing.{all-damage_is_seen}
use Rattle.pair_laws.proofs.all_damage_is_seen.Goals as goal

pub returns : goal.returns
returns c = all-damage_is_seen
