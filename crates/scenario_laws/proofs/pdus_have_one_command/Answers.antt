use Rattle.scenario_laws.proofs.Gentle.{pdus_have_one_command}
use Rattle.scenario_laws.proofs.pdus_have_one_command.Goals as goal

pub returns : goal.returns
returns c = pdus_have_one_command
