use Rattle.std.proofs.Common.{◌≡◌, sym, ap, ◌∙◌, subst}
use Rattle.host_link.specs.Lines.{Line}
use Rattle.tiny_hosts.specs.Hosting.{GoesOn, IsStuck}
use Rattle.tiny_hosts.proofs.Lines.{stuck_after, stuck_taking}
use Rattle.tiny_hosts.proofs.Going.{goes_then, puts_pieces, takes_pdu}
use Rattle.tiny_hosts.proofs.tiny_host.say_all.Goals as goal

pub loop-mind-init : goal.loop-mind-init
loop-mind-init g c = (
  λ is.
      subst (λ (l : Line). GoesOn g.M.Mind.machine g.M.Mind.side c.args.mind.now c.args.mind.now c.args.line.now l) (sym c.put_pieces.ensures.line)
      (puts_pieces g.M.Mind.machine g.M.Mind.side c.args.mind.now c.args.line.now g.met.M.Mind.octets is),
  subst IsStuck (sym c.put_pieces.ensures.line) (stuck_after c.args.line.now),
)

pub loop-mind-preserved : goal.loop-mind-preserved
loop-mind-preserved g c = (
  λ is.
      let so_far = c.loop-mind.invariant.0 is in
      goes_then g.M.Mind.machine g.M.Mind.side c.args.mind.now c.loop-mind.mind c.say-pdu.new.self c.args.line.now c.loop-mind.line c.take_pdu.new.self so_far
      (subst (λ (l : Line). GoesOn g.M.Mind.machine g.M.Mind.side c.loop-mind.mind c.say-pdu.new.self c.loop-mind.line l) (sym c.take_pdu.ensures.line)
      (takes_pdu g.M.Mind.machine g.M.Mind.side c.loop-mind.mind c.say-pdu.new.self c.say-pdu.result c.loop-mind.line g.met.M.Mind.octets so_far.is_seen (sym c.can_take_pdu.ensures ∙ c.loop-mind-test.true) c.say-pdu.ensures)),
  subst IsStuck (sym c.take_pdu.ensures.line) (stuck_taking c.say-pdu.result c.loop-mind.line),
)
