use Rattle.request_laws.proofs.Behind.{nothing_comes_behind}
use Rattle.request_laws.proofs.nothing_comes_behind.Goals as goal

pub returns : goal.returns
returns c = nothing_comes_behind
