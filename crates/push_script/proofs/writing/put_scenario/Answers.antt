use Rattle.std.proofs.Common.{◌≡◌, rules}
use Rattle.push_script.specs.Scenarios.{scenario_text}
use Rattle.push_script.proofs.Again.{written_again}
use Rattle.push_script.proofs.writing.put_scenario.Goals as goal

pub returns-clause-again : goal.returns-clause-again
returns-clause-again c =
    let written : c.push_runs.new.text.items ≡ scenario_text c.args.scenario.now = search rules in
    written_again c.args.scenario.now c.push_runs.new.text.items written
