use Rattle.std.proofs.Common.{sym, ◌∙◌}
use Rattle.push_script.proofs.Making.{no_octets, no_steps, octets_next}
use Rattle.push_script.proofs.made.Draws.octets.Goals as goal

pub loop-init : goal.loop-init
loop-init c = record { octets = c.new-octets.ensures.items ∙ sym (no_octets c.args.self.now.state); state = sym (no_steps c.args.self.now.state) }

pub loop-preserved : goal.loop-preserved
loop-preserved c =
    let next = octets_next c.loop.counter c.args.self.now.state c.loop.self.state c.draw.new.self.state c.draw.result c.loop.octets.items c.push.new.self.items c.loop.invariant.octets c.loop.invariant.state c.draw.ensures.draw c.draw.ensures.state c.in_ok-push.ensures.items in
    record { octets = next.0; state = next.1 }
