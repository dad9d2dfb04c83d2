use Rattle.std.proofs.Common.{◌≡◌, sym, ap, ◌∙◌, subst}
use Rattle.host_link.specs.Lines.{Line}
use Rattle.tiny_hosts.specs.Hosting.{GoesOn}
use Rattle.tiny_hosts.proofs.Lines.{none_some, none_waits}
use Rattle.tiny_hosts.proofs.Going.{ends}
use Rattle.tiny_hosts.proofs.tiny_host.leave.Goals as goal

pub returns-clause-goes : goal.returns-clause-goes
returns-clause-goes g c = λ is.
    subst (λ (l : Line). GoesOn g.M.Mind.machine g.M.Mind.side c.args.mind.now c.args.mind.now c.args.line.now l) (sym c.disconnect.ensures.line)
    (ends g.M.Mind.machine g.M.Mind.side c.args.mind.now c.args.line.now g.met.M.Mind.octets is (none_waits c.args.line.now.pieces (sym c.waits.ensures ∙ c.if-waits.false))
    (none_some (g.M.Mind.machine.next c.args.mind.now) (sym c.has_pdu.ensures ∙ c.if-has_pdu.false)) (sym c.leaves_link.ensures ∙ c.if-not-leaves_link.false) (sym c.may_end.ensures ∙ c.if-not-may_end.false))
