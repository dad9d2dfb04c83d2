use Rattle.std.proofs.Common.{ap, ◌∙◌}
use Rattle.push_script.specs.Made.{lengths_from}
use Rattle.push_script.proofs.Making.{made_from}
use Rattle.push_script.proofs.made.make_scenario.Goals as goal

pub returns-clause-scenario : goal.returns-clause-scenario
returns-clause-scenario c = made_from c.args.number c.turns_of.result _ _ _ _ c.lengths-lengths.result c.with_rest.ensures c.made_transport.ensures c.in_ok-names.ensures.names c.in_ok-runs.ensures.runs c.turns_of.ensures.turns (c.lengths-lengths.ensures.lengths ∙ ap lengths_from c.new-draws.ensures)
