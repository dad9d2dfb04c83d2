use Rattle.recovery_laws.proofs.Turning.{new-recovers, words-go_on, less-may_be_planned}
use Rattle.recovery_laws.proofs.passes_are_counted.Goals as goal

pub returns : goal.returns
returns c = record { new = new-recovers; kept = words-go_on; less = less-may_be_planned }
