use Rattle.rfcomm_laws.proofs.Covering.{credits-cover}
use Rattle.rfcomm_laws.proofs.credits_cover.Goals as goal

pub returns : goal.returns
returns c = credits-cover
