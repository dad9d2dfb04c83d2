use Rattle.retry_laws.proofs.Counting.{sdus-are_counted}
use Rattle.retry_laws.proofs.sdus_are_counted.Goals as goal

pub returns : goal.returns
returns c = sdus-are_counted
