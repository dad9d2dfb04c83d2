use Rattle.radio_world.proofs.Runs.{scripts_are_counted}
use Rattle.radio_world.proofs.laws.scripts_are_counted.Goals as goal

pub returns : goal.returns
returns c = scripts_are_counted
