use Rattle.window_laws.proofs.Machines.{machines-are_numbered}
use Rattle.window_laws.proofs.machines_are_numbered.Goals as goal

pub returns : goal.returns
returns c = machines-are_numbered
