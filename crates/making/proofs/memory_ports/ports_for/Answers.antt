use Rattle.std.proofs.Common.{◌∙◌, ap}
use Rattle.ready_ports.specs.Memory.{MemoryShelved}
use Rattle.push_script.specs.Made.{made_objects, shelved}
use Rattle.making.proofs.MadeTexts.{made_again}
use Rattle.making.proofs.memory_ports.ports_for.Goals as goal

pub returns : goal.returns
returns c = record {
  text = made_again c.args.number c.in_ok-scenario.scenario c.new-3.result c.in_ok-scenario.ensures.scenario (c.new-3.ensures ∙ c.in_ok-text.ensures.text);
  report = c.new-4.ensures.text;
  report_short = c.new-4.ensures.shortages;
  shelf = c.in_ok-scenario.ensures.shelf ∙ ap (λ (shelf : MemoryShelved). shelved (made_objects c.args.number) shelf) c.in_ok-shelf.ensures;
  inbox = c.in_ok-inbox.ensures;
}
