use Rattle.drop_laws.proofs.Runs.{runs_lose_by_drops}
use Rattle.drop_laws.proofs.runs_lose_by_drops.Goals as goal

pub returns : goal.returns
returns c = runs_lose_by_drops
