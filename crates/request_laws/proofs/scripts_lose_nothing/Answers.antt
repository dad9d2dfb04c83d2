use Rattle.request_laws.proofs.Scripts.{scripts_lose_nothing}
use Rattle.request_laws.proofs.scripts_lose_nothing.Goals as goal

pub returns : goal.returns
returns c = scripts_lose_nothing
